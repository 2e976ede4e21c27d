-- What a failure leaves as it was: the tags of the positions that are left. From the later-failure law, and from this: a guess whose own entry is struck takes nothing else with it.
use Rattle.sk_record.proofs.Names.{◌≡◌, ℕ, zero, suc, Bool, true, false, List, [], ◌∷◌, ◌++◌, Some, inl, inr, refl, sym}
use Rattle.sk_record.proofs.Names.{◌∙◌, ap, subst, ◌↔◌, slice_get, Ordering, IsTotalOrder, FinMap, IsAntisymmetric}
use Rattle.sk_record.proofs.Names.{or_parts, or_left, or_right, true≢false, Contains-push_cases, Contains-append_left}
use Rattle.sk_record.proofs.Names.{MarkedEffect, IsMarked, Dep, itself, fed, hit, hits, dirtied, keep, place, System}
use Rattle.sk_record.proofs.Names.{effects, struck, Event, Commit, Fail, Undecided, StatusIs, IsTagAt, IsSound}
use Rattle.sk_record.proofs.Names.{record_of, effects_of, still_marked}
use Rattle.sk_record.proofs.Chains.{slice_get-keep, flags_are_Dep}
use Rattle.sk_record.proofs.Struck.{struck_runs, later_dep}
use Rattle.sk_record.proofs.Machine.{nil_right}
use Rattle.sk_record.proofs.Sound.{record_more, has_entry, is_mark}

module _ {E V W : Type 0} where
  -- a guess whose own positions all depend on g takes with it only what depends on g
  pub struck_within : (ts : List (MarkedEffect E V W)) (g h : ℕ) → ((j : ℕ) → IsMarked ts h j → Dep ts g j) → (i : ℕ) → Dep ts h i → Dep ts g i
  struck_within ts g h own i (itself m) = own i m
  struck_within ts g h own i (fed j d f) = fed j (struck_within ts g h own j d) f

  -- a position that depends on a guess is one of the effects
  dep_foot : (ts : List (MarkedEffect E V W)) (g i : ℕ) → Dep ts g i → (f : MarkedEffect E V W) × (slice_get ts i ≡ Some f)
  dep_foot ts g i (itself m) = (m.marked_effect, m.at_i)
  dep_foot ts g i (fed j d f) = (f.to, f.at_i)

  no_foot : (j : ℕ) (f : MarkedEffect E V W) → slice_get [] j ≡ Some f → ⊥
  no_foot j f at = cc

  -- a flag of the first position, or of a later one
  at_next : (R : E → E → Ordering) (g h : ℕ) (dirty : List E) (t : MarkedEffect E V W) (ts : List (MarkedEffect E V W)) (b : Bool) (j : ℕ) → IsMarked (t ∷ ts) h j
      → (t.mark ≡ Some h → b ≡ true) → ((j : ℕ) → IsMarked ts h j → slice_get (hits R g dirty ts) j ≡ Some true) → slice_get (b ∷ hits R g dirty ts) j ≡ Some true
  at_next R g h dirty t ts b zero m first later = let is : m.marked_effect ≡ t = cc in ap Some (first (ap (λ (f : MarkedEffect E V W). f.mark) (sym is) ∙ m.mark))
  at_next R g h dirty t ts b (suc j) m first later = later j (record { marked_effect = m.marked_effect; at_i = m.at_i; mark = m.mark })

  -- where no position that is left is marked h, each position marked h is struck
  unkept : (R : E → E → Ordering) (g h : ℕ) (dirty : List E) (ts : List (MarkedEffect E V W)) → still_marked (keep (hits R g dirty ts) ts) h ≡ false
      → (j : ℕ) → IsMarked ts h j → slice_get (hits R g dirty ts) j ≡ Some true
  unkept R g h dirty [] none j m = absurd (no_foot j m.marked_effect m.at_i)
  unkept R g h dirty (t ∷ ts) none j m =
      elim (hit R g dirty t) as (λ b. still_marked (keep (b ∷ hits R g (dirtied b t dirty) ts) (t ∷ ts)) h ≡ false → slice_get (b ∷ hits R g (dirtied b t dirty) ts) j ≡ Some true) [
        | true ↦ λ none. at_next R g h (dirtied true t dirty) t ts true j m (λ _. refl) (λ j m. unkept R g h (dirtied true t dirty) ts none j m)
        | false ↦ λ none.
            at_next R g h dirty t ts false j m
            (λ is. absurd (true≢false (sym (is_mark t.mark h is) ∙ (or_parts _ _ none).0)))
            (λ j m. unkept R g h dirty ts (or_parts _ _ none).1 j m)
      ] none

module _ {E V W : Type 0} where
  marked_at : (ts : List (MarkedEffect E V W)) (g i : ℕ) → IsMarked ts g i → still_marked ts g ≡ true
  marked_at [] g i m = absurd (no_foot i m.marked_effect m.at_i)
  marked_at (t ∷ ts) g zero m = let is : m.marked_effect ≡ t = cc in or_left _ _ (is_mark t.mark g (ap (λ (f : MarkedEffect E V W). f.mark) (sym is) ∙ m.mark))
  marked_at (t ∷ ts) g (suc i) m = or_right _ _ (marked_at ts g i (record { marked_effect = m.marked_effect; at_i = m.at_i; mark = m.mark }))

  -- where a position depends on a guess, some position is marked with it
  marked_of : (ts : List (MarkedEffect E V W)) (g i : ℕ) → Dep ts g i → still_marked ts g ≡ true
  marked_of ts g i (itself m) = marked_at ts g i m
  marked_of ts g i (fed j d f) = marked_of ts g j d

-- none of the flags that are left is one that was cut
cut_gone : (bs : List Bool) (k : ℕ) → slice_get (keep bs bs) k ≡ Some true → ⊥
cut_gone [] k is = cc
cut_gone (true ∷ bs) k is = cut_gone bs k is
cut_gone (false ∷ bs) zero is = cc
cut_gone (false ∷ bs) (suc k) is = cut_gone bs k is

module _ {E V W F N : Type 0} (K : System E V W F N) (total : IsTotalOrder K.order) (exact : IsAntisymmetric K.order) (start : FinMap K.order V) where
  -- the effects after a failure
  pub trail_left : (es : List (Event N)) (c : ℕ) → IsSound K start es
      → effects_of K start (es ++ Fail c ∷ []) ≡ keep (struck K start (record_of K start es) c) (effects_of K start es)
  trail_left es c sound =
      ap (effects K start) (record_more K start es (Fail c))
      ∙ (struck_runs K total exact start (record_of K start es) c (sound.legal es [] (sym (nil_right es)))).steps

  -- a position that is left depends on the same guesses
  dep_left : (es : List (Event N)) (c : ℕ) → IsSound K start es → (k g : ℕ) → Dep (effects_of K start (es ++ Fail c ∷ [])) g k ↔ Dep (effects_of K start es) g (place (struck K start (record_of K start es) c) k)
  dep_left es c sound k g =
      subst (λ ns. Dep (effects K start ns) g k ↔ Dep (effects_of K start es) g (place (struck K start (record_of K start es) c) k)) (sym (record_more K start es (Fail c)))
      (later_dep K total exact start (record_of K start es) c g k (sound.legal es [] (sym (nil_right es))))

  -- a guess on which a position that is left depends is undecided as before
  undecided_left : (es : List (Event N)) (c : ℕ) → IsSound K start es → (k g : ℕ) → Dep (effects_of K start es) g (place (struck K start (record_of K start es) c) k)
      → StatusIs K start es g Undecided → StatusIs K start (es ++ Fail c ∷ []) g Undecided
  undecided_left es c sound k g d is_open =
      let flags = struck K start (record_of K start es) c in
      let ts = effects_of K start es in
      let free : Dep ts c (place flags k) → ⊥ =
      λ hit. cut_gone flags k (slice_get-keep flags flags k ∙ (flags_are_Dep total c exact ts (place flags k)).1 hit) in (
        λ there. elim (Contains-push_cases es (Fail c) (Commit g) there) [ inl before ↦ is_open.0 before | inr is ↦ cc ],
        λ there. elim (Contains-push_cases es (Fail c) (Fail g) there) [
          | inl before ↦ is_open.1 before
          | inr is ↦ let same : c ≡ g = cc in free (subst (λ x. Dep ts x (place flags k)) (sym same) d)
        ],
        (has_entry K start (record_of K start (es ++ Fail c ∷ [])) g).0
            (elim (still_marked (effects_of K start (es ++ Fail c ∷ [])) g) as (λ b. still_marked (effects_of K start (es ++ Fail c ∷ [])) g ≡ b → b ≡ true) [
              | true ↦ λ _. refl
              | false ↦ λ gone.
                  let none : still_marked (keep flags ts) g ≡ false = ap (λ us. still_marked us g) (sym (trail_left es c sound)) ∙ gone in
                  absurd (free (struck_within ts c g (λ j m. (flags_are_Dep total c exact ts j).0 (unkept K.order c g [] ts none j m)) (place flags k) d))
            ] refl),
      )

  -- and what is undecided after the failure was so before
  undecided_was : (es : List (Event N)) (c : ℕ) → IsSound K start es → (k g : ℕ) → Dep (effects_of K start es) g k → StatusIs K start (es ++ Fail c ∷ []) g Undecided → StatusIs K start es g Undecided
  undecided_was es c sound k g d is_open = (
    (λ there. is_open.0 (Contains-append_left es (Fail c ∷ []) (Commit g) there)),
    (λ there. is_open.1 (Contains-append_left es (Fail c ∷ []) (Fail g) there)),
    (has_entry K start (record_of K start es) g).0 (marked_of (effects_of K start es) g k d),
  )

  -- the tags of a position that is left
  pub tags_left : (es : List (Event N)) (c : ℕ) → IsSound K start es → (k g : ℕ) → IsTagAt K start (es ++ Fail c ∷ []) k g ↔ IsTagAt K start es (place (struck K start (record_of K start es) c) k) g
  tags_left es c sound k g =
      let same = dep_left es c sound k g in (
        λ t. let d = same.0 t.1 in (undecided_was es c sound _ g d t.0, d),
        λ t. (undecided_left es c sound k g t.1 t.0, same.1 t.1),
      )
