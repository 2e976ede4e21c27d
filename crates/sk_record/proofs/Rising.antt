-- Lists of guesses that rise and have the same members are the same. So what a step's footprint depends on, put together as a set, is the step's tags.
use Rattle.sk_record.proofs.Names.{◌≡◌, ℕ, ◌<◌, true, false, ◌&&◌, eqb, ltb, List, [], ◌∷◌, ◌++◌, Option, Some, None}
use Rattle.sk_record.proofs.Names.{inl, inr, refl, sym, ◌∙◌, subst, arith, ◌==◌, nat_cmp, Less, Equal, Greater}
use Rattle.sk_record.proofs.Names.{both_ways, nat_cmp_is, AllByRecursion, list_any, or_cases, or_left, or_right}
use Rattle.sk_record.proofs.Names.{true≢false, eq-eqb, eqb-true, eqb-false, ltb-true, ltb-false, list_any-append}
use Rattle.sk_record.proofs.Names.{IsStrictlySortedBy-filter, MarkedEffect, is_marked, touches, has, marks, UndoState}
use Rattle.sk_record.proofs.Names.{numbers, tags_at, is_tag, step_tags, IsTidy}
use Rattle.std.specs.List.Sorted.{IsStrictlySortedBy}
use Rattle.sk_record.proofs.Machine.{has_filter}

less_of : (x y : ℕ) → nat_cmp x y ≡ Less → x < y
less_of x y less =
    elim (ltb x y) as (λ b. ltb x y ≡ b → x < y) [
      | true ↦ λ is. ltb-true x y is
      | false ↦ λ not_less.
          let least = ltb-false x y not_less in
          elim (eqb x y) as (λ b. eqb x y ≡ b → x < y) [
            | true ↦ λ same. let tie : Equal ≡ Less = nat_cmp_is x y Equal (eqb-true x y same) ∙ less in absurd cc
            | false ↦ λ apart. let differ = eqb-false x y apart in let more : Greater ≡ Less = nat_cmp_is x y Greater (omega arith) ∙ less in absurd cc
          ] refl
    ] refl

itself : (g : ℕ) (gs : List ℕ) → has g (g ∷ gs) ≡ true
itself g gs = or_left _ _ (eq-eqb g g refl)

pub above : (x : ℕ) (xs : List ℕ) (g : ℕ) → AllByRecursion (λ y. nat_cmp x y ≡ Less) xs → has g xs ≡ true → x < g
above x [] g all here = absurd (true≢false (sym here))
above x (y ∷ ys) g all here =
    elim (or_cases _ _ here) [
      | inl is ↦ subst (λ z. x < z) (eqb-true y g is) (less_of x y all.0)
      | inr later ↦ above x ys g all.1 later
    ]

-- the first of two rising lists with the same members is the same
first_same : (x y : ℕ) (xs ys : List ℕ) → AllByRecursion (λ z. nat_cmp x z ≡ Less) xs → AllByRecursion (λ z. nat_cmp y z ≡ Less) ys
    → has x (y ∷ ys) ≡ true → has y (x ∷ xs) ≡ true → x ≡ y
first_same x y xs ys all_x all_y x_there y_there =
    elim (or_cases _ _ x_there) [
      | inl is ↦ sym (eqb-true y x is)
      | inr later ↦ elim (or_cases _ _ y_there) [
        | inl is ↦ eqb-true x y is
        | inr earlier ↦ let one = above y ys x all_y later in let two = above x xs y all_x earlier in absurd (omega arith)
      ]
    ]

-- a member of the rest is a member of the other's rest
rest_within : (x y : ℕ) (xs ys : List ℕ) → x ≡ y → AllByRecursion (λ z. nat_cmp x z ≡ Less) xs
    → ((g : ℕ) → has g (x ∷ xs) ≡ has g (y ∷ ys)) → (g : ℕ) → has g xs ≡ true → has g ys ≡ true
rest_within x y xs ys same all h g here =
    elim (or_cases _ _ (sym (h g) ∙ or_right _ _ here)) [
      | inl is ↦ let at = eqb-true y g is in let more = above x xs g all here in absurd (omega arith)
      | inr later ↦ later
    ]

pub same_rising : (xs ys : List ℕ) → IsStrictlySortedBy nat_cmp xs → IsStrictlySortedBy nat_cmp ys → ((g : ℕ) → has g xs ≡ has g ys) → xs ≡ ys
unfolding IsStrictlySortedBy
same_rising [] [] s t h = refl
same_rising [] (y ∷ ys) s t h = absurd (true≢false (sym (itself y ys) ∙ sym (h y)))
same_rising (x ∷ xs) [] s t h = absurd (true≢false (sym (itself x xs) ∙ h x))
same_rising (x ∷ xs) (y ∷ ys) s t h =
    let same = first_same x y xs ys s.0 t.0 (sym (h x) ∙ itself x xs) (h y ∙ itself y ys) in
    let rest = same_rising xs ys s.1 t.1 (λ g. both_ways _ _
    (rest_within x y xs ys same s.0 h g)
    (rest_within y x ys xs (sym same) t.0 (λ k. sym (h k)) g)) in
    (λ i. same i ∷ rest i)

own_marked : (mark : Option ℕ) (g : ℕ) → is_marked mark g ≡ true → has g (marks mark) ≡ true
own_marked None g is = absurd (true≢false (sym is))
own_marked (Some h) g is = or_left _ _ is

open_touched : {E V : Type 0} (a : UndoState E V) → IsTidy a → (g : ℕ) (es : List E) → list_any (λ e. has g (tags_at a e)) es ≡ true → has g (numbers a.opens) ≡ true
open_touched a tidy g [] touched = absurd (true≢false (sym touched))
open_touched a tidy g (e ∷ es) touched =
    elim (or_cases _ _ touched) [
      | inl here ↦ tidy.known e g here
      | inr later ↦ open_touched a tidy g es later
    ]

module _ {E V W : Type 0} (a : UndoState E V) (f : MarkedEffect E V W) (tidy : IsTidy a) where
  -- what is a tag of a step is open, or is its own guess
  known_tag : (g : ℕ) → is_tag a f g ≡ true → has g (numbers a.opens ++ marks f.mark) ≡ true
  known_tag g is =
      list_any-append (λ t. t == g) (numbers a.opens) (marks f.mark)
      ∙ elim (or_cases _ _ is) [
        | inl own ↦ or_right _ _ (own_marked f.mark g own)
        | inr touched ↦ or_left _ _ (open_touched a tidy g (touches f) touched)
      ]

  with_known : (g : ℕ) → (is_tag a f g && has g (numbers a.opens ++ marks f.mark)) ≡ is_tag a f g
  with_known g = elim (is_tag a f g) as (λ b. is_tag a f g ≡ b → (b && has g (numbers a.opens ++ marks f.mark)) ≡ b) [ true ↦ λ is. known_tag g is | false ↦ λ _. refl ] refl

  -- a rising list of the guesses that the step's footprint depends on, with its own, is the step's tags
  pub union_is_tags : (tags : List ℕ) → IsStrictlySortedBy nat_cmp (numbers a.opens ++ marks f.mark) → IsStrictlySortedBy nat_cmp tags
      → ((g : ℕ) → has g tags ≡ is_tag a f g) → tags ≡ step_tags a f
  union_is_tags tags opens_rise rises members =
      same_rising tags (step_tags a f) rises (IsStrictlySortedBy-filter nat_cmp (is_tag a f) (numbers a.opens ++ marks f.mark) opens_rise)
      (λ g. members g ∙ sym (has_filter (is_tag a f) g (numbers a.opens ++ marks f.mark) ∙ with_known g))
