-- What a loop keeps of a list are its members that are not in the other set.
use Rattle.sk_ids.proofs.Names.{◌≡◌, ◌≤◌, ℕ, zero, suc, eqb, Bool, true, false, not, cond, ◌&&◌, ◌||◌, List, [], ◌∷◌}
use Rattle.sk_ids.proofs.Names.{length, take, arith, refl, sym, ◌∙◌, ap, subst, nat_cmp, filter, IsStrictlySortedBy}
use Rattle.sk_ids.proofs.Names.{eqb-true, IsStrictlySortedBy-filter, has}
use Rattle.sk_ids.proofs.tags.TagSet.beyond.Goals as goal

take_all : (n : ℕ) (xs : List ℕ) → length xs ≤ n → take n xs ≡ xs
take_all zero [] h = refl
take_all zero (x ∷ xs) h = absurd (omega arith)
take_all (suc n) [] h = refl
take_all (suc n) (x ∷ xs) h = ap (λ ys. x ∷ ys) (take_all n xs (omega arith))

and_false : (b : Bool) → (b && false) ≡ false
and_false true = refl
and_false false = refl

-- the member that is looked for stays if it is to be kept
kept_here : (c h : Bool) (x g : ℕ) (f : List ℕ) → has g f ≡ (h && c) → eqb x g ≡ true → has g (cond c (x ∷ f) f) ≡ c
kept_here true h x g f rest same = ap (λ b. b || has g f) same
kept_here false h x g f rest same = rest ∙ and_false h

-- and another makes no difference
kept_other : (c : Bool) (x g : ℕ) (f : List ℕ) → eqb x g ≡ false → has g (cond c (x ∷ f) f) ≡ has g f
kept_other true x g f other = ap (λ b. b || has g f) other
kept_other false x g f other = refl

has_filter : (g : ℕ) (p : ℕ → Bool) (xs : List ℕ) → has g (filter p xs) ≡ (has g xs && p g)
has_filter g p [] = refl
has_filter g p (x ∷ xs) =
    let f = filter p xs in
    let rest = has_filter g p xs in
    elim (eqb x g) as (λ b. eqb x g ≡ b → has g (cond (p x) (x ∷ f) f) ≡ ((b || has g xs) && p g)) [
      | true ↦ λ same. subst (λ y. has g (cond (p y) (x ∷ f) f) ≡ p g) (sym (eqb-true x g same)) (kept_here (p g) (has g xs) x g f rest same)
      | false ↦ λ other. kept_other (p x) x g f other ∙ rest
    ] refl

pub invariant_of-result : goal.invariant_of-result
invariant_of-result c =
    let p : ℕ → Bool = λ g. not (has g c.args.other.now) in
    let whole = c.of-ids.ensures ∙ c.loop-id.invariant ∙ ap (filter p) (take_all c.loop-id.id-index c.as_slice-id-items.result.now c.loop-id-test.false ∙ c.as_slice-id-items.ensures) in
    subst (IsStrictlySortedBy nat_cmp) (sym whole) (IsStrictlySortedBy-filter nat_cmp p c.self.inside.ids c.self.invariant)

pub returns : goal.returns
returns c =
    let p : ℕ → Bool = λ g. not (has g c.args.other.now) in
    let whole = c.of-ids.ensures ∙ c.loop-id.invariant ∙ ap (filter p) (take_all c.loop-id.id-index c.as_slice-id-items.result.now c.loop-id-test.false ∙ c.as_slice-id-items.ensures ∙ c.self.view_is) in
    record { members = λ id. ap (has id) whole ∙ has_filter id p c.args.self.now }
