-- The undecided guesses that are computed along a trace stand there once each, by rising number.
use Rattle.sk_record.proofs.Names.{◌≡◌, ℕ, zero, suc, ◌+◌, ◌<◌, not, List, [], ◌∷◌, ◌++◌, length, Option, Some, None}
use Rattle.sk_record.proofs.Names.{refl, sym, subst, arith, ◌==◌, get_or, AllPairs, Contains, IsStrictlyIncreasing}
use Rattle.sk_record.proofs.Names.{FinMap, eq-eqb, AllPairs-filter, all_pairs_push, System, effects, strike, Event}
use Rattle.sk_record.proofs.Names.{Taken, Commit, Fail, Undecided, IsSound, all_recorded, no_record, undecided_of}
use Rattle.sk_record.proofs.Names.{marks, still_marked}
use Rattle.sk_record.proofs.UndoStates.{any_at}
use Rattle.sk_record.proofs.Machine.{nil_right}
use Rattle.sk_record.proofs.Tidy.{recorded_more}
use Rattle.sk_record.proofs.Sound.{each_event, sound_before, undecided_is}
use Rattle.sk_record.proofs.Statuses.{one_status}

-- each number is below all later ones
abbrev Rises : List ℕ → Type 0
Rises gs = AllPairs (λ a b. a < b) gs

at_place : (gs : List ℕ) (k d : ℕ) → k < length gs → Contains gs (get_or gs k d)
at_place [] k d lt = absurd (omega arith)
at_place (g ∷ gs) zero d lt = (0, omega arith, refl)
at_place (g ∷ gs) (suc k) d lt = let there = at_place gs k d (omega arith) in (suc there.0, omega arith, there.2)

module _ {E V W F N : Type 0} (K : System E V W F N) (start : FinMap K.order V) where
  one_more : (es : List (Event N)) (n : N) → IsSound K start (es ++ Taken n ∷ []) → Rises (undecided_of K start es)
      → (m : Option ℕ) → K.mark n ≡ m → Rises (undecided_of K start es ++ marks m)
  one_more es n sound rises None is = subst Rises (sym (nil_right (undecided_of K start es))) rises
  one_more es n sound rises (Some g) is =
      let before = sound_before K start es (Taken n ∷ []) sound in
      let gs = undecided_of K start es in
      all_pairs_push (λ a b. a < b) gs g rises (λ k d lt.
      let h = get_or gs k d in
      let is_open = (undecided_is K start es before h).0 (any_at (λ t. t == h) gs h (at_place gs k d lt) (eq-eqb h h refl)) in
      sound.allowed es [] (Taken n) refl g h is ((one_status K start es before h).0.1 (Undecided, is_open)))

  moves : (es : List (Event N)) (e : Event N) → IsSound K start (es ++ e ∷ []) → Rises (undecided_of K start es) → Rises (undecided_of K start (es ++ e ∷ []))
  moves es (Taken n) sound rises =
      subst (λ r. Rises r.undecided) (sym (recorded_more K start no_record es (Taken n))) (one_more es n sound rises (K.mark n) refl)
  moves es (Commit c) sound rises =
      subst (λ r. Rises r.undecided) (sym (recorded_more K start no_record es (Commit c)))
      (AllPairs-filter (λ a b. a < b) (λ t. not (t == c)) (undecided_of K start es) rises)
  moves es (Fail c) sound rises =
      subst (λ r. Rises r.undecided) (sym (recorded_more K start no_record es (Fail c)))
      (AllPairs-filter (λ a b. a < b) (still_marked (effects K start (strike K start (all_recorded K start no_record es).entries c))) (undecided_of K start es) rises)

  pub undecided_rises : (es : List (Event N)) → IsSound K start es → IsStrictlyIncreasing (undecided_of K start es)
  undecided_rises es sound k within =
      each_event K start (λ es. Rises (undecided_of K start es)) (λ i j d lt within. absurd (omega arith)) moves es sound k (k + 1) 0 (omega arith) within
