-- No note is held exactly where nothing depends on an undecided guess.
use Rattle.sk_kernel.proofs.Names.{◌≡◌, ℕ, ◌≤◌, length, true, false, not, List, [], ◌∷◌, inl, inr, refl, sym, ◌∙◌}
use Rattle.sk_kernel.proofs.Names.{ap, subst, arith, ◌↔◌, min, list_all, sum_by, true≢false, or_left, eq-eqb}
use Rattle.sk_kernel.proofs.Names.{entity_cmp, Entity, is_in, Merges, log_of, entries_are, plain, Note, has, last_tags}
use Rattle.sk_kernel.proofs.Names.{EntityState, is_empty, log_at, AreUnnoted, notes_in, Parts, KernelView, events_of}
use Rattle.sk_kernel.proofs.Names.{undecided_at, record_at, tags_at, Stands, CanHold, AreApart, rests_at}
use Rattle.sk_kernel.proofs.Names.{false_from_ne_true}
use Rattle.std.specs.Prelude.{◌-◌, ◌^◌}
use Rattle.sk_kernel.proofs.Bounds.{ones, slots_least, slots_most}
use Rattle.sk_kernel.proofs.Whole.{tags_computed, tidy, opens_are}

no_tags : (tags : List ℕ) → ((g : ℕ) → has g tags ≡ false) → tags ≡ []
no_tags [] none = refl
no_tags (t ∷ tags) none = absurd (true≢false (sym (or_left _ _ (eq-eqb t t refl)) ∙ none t))

not_empty : {A : Type 0} (xs : List A) → (xs ≡ [] → ⊥) → not (is_empty xs) ≡ true
not_empty [] some = absurd (some refl)
not_empty (x ∷ xs) some = refl

long_some : {A : Type 0} (xs : List A) → (xs ≡ [] → ⊥) → 1 ≤ length xs
long_some [] some = absurd (some refl)
long_some (x ∷ xs) some = omega arith

-- notes left out make no log longer
merged_within : (t : List ℕ) (ns ms : List (Note EntityState)) → Merges t ns ms → length ms ≤ length ns
merged_within t [] [] h = omega arith
merged_within t [] (m ∷ ms) h = absurd h
merged_within t (n ∷ ns) [] h = omega arith
merged_within t (n ∷ ns) (m ∷ ms) (inl h) = let rest = merged_within t ns (m ∷ ms) h.1 in omega (arith, rest)
merged_within t (n ∷ ns) (m ∷ ms) (inr h) = let rest = merged_within n.tags ns ms h.1 in omega (arith, rest)

module _ (k : KernelView) (m : Parts) (stands : Stands k m) where
  unnoted_rest : AreUnnoted m.slots → (e : Entity) → tags_at k e ≡ []
  unnoted_rest none e = sym (tags_computed k m stands e) ∙ ap (last_tags []) (none e)

  resting_none : ((e : Entity) → tags_at k e ≡ []) → AreUnnoted m.slots
  resting_none none e = (tidy k m stands).clean e (tags_computed k m stands e ∙ none e)

  -- an entity has notes exactly where it depends on a guess
  some_noted : (e : Entity) → rests_at k e ≡ true → 1 ≤ length (log_at m.slots e)
  some_noted e rests = long_some (log_at m.slots e) (λ none. true≢false (sym rests ∙ ap (λ ts. not (is_empty ts)) (sym (tags_computed k m stands e) ∙ ap (last_tags []) none)))

  noted_rests : (e : Entity) → is_empty (log_at m.slots e) ≡ false → rests_at k e ≡ true
  noted_rests e some = not_empty (tags_at k e) (λ none. true≢false (sym (ap is_empty ((tidy k m stands).clean e (tags_computed k m stands e ∙ none))) ∙ some))

  -- and no more than by the record
  abbrev recorded : Entity → List (Note EntityState)
  recorded e = log_of (plain k.scripts) k.start (record_at k) (undecided_at k) e

  noted_within : (e : Entity) → length (log_at m.slots e) ≤ length (recorded e)
  noted_within e =
      subst (λ (ns : List (Note EntityState)). length (log_at m.slots e) ≤ length ns)
      (stands.trace.stands.state.logs e ∙ ap (λ ns. log_of (plain k.scripts) k.start ns (undecided_at k) e) (entries_are (plain k.scripts) k.start (events_of k)))
      (merged_within [] (stands.trace.full.state.logs e) (log_at m.slots e) (stands.trace.merged.logs e))

  notes_least : (n : ℕ) → n ≡ min (notes_in m.slots) (2 ^ 64 - 1) → (es : List Entity) → AreApart es → list_all (rests_at k) es ≡ true → min (length es) (2 ^ 64 - 1) ≤ n
  notes_least n count es apart rest =
      let many = ones (λ e. length (log_at m.slots e)) (rests_at k) some_noted es rest in
      let sum = slots_least m.slots es apart in
      omega (arith, count, many, sum)

  notes_most : (n : ℕ) → n ≡ min (notes_in m.slots) (2 ^ 64 - 1) → (es : List Entity) → ((e : Entity) → rests_at k e ≡ true → is_in entity_cmp es e ≡ true) → n ≤ sum_by (λ e. length (recorded e)) es
  notes_most n count es covered =
      let sum = slots_most m.slots (λ e. length (recorded e)) es noted_within (λ e some. covered e (noted_rests e some)) in
      omega (arith, count, sum)

  pub notes_are : (n : ℕ) → n ≡ min (notes_in m.slots) (2 ^ 64 - 1) → (n ≡ 0) ↔ AreUnnoted m.slots → CanHold k n
  notes_are n count is = record {
    none = ((λ zero. unnoted_rest (is.0 zero)), λ none. is.1 (resting_none none));
    least = notes_least n count;
    most = notes_most n count;
  }

  pub none_undecided : undecided_at k ≡ [] → (e : Entity) → tags_at k e ≡ []
  none_undecided none e =
      no_tags (tags_at k e) (λ g. false_from_ne_true _ (λ here.
      true≢false (sym ((tidy k m stands).known e g (ap (has g) (tags_computed k m stands e) ∙ here)) ∙ ap (has g) (opens_are k m stands ∙ none))))
