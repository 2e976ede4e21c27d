-- The number of the last guess is the greatest that was drawn.
use Rattle.sk_kernel.proofs.Names.{◌≡◌, ℕ, ◌≤◌, List, [], ◌∷◌, ◌++◌, Option, Some, None, inl, inr, refl, sym, ◌∙◌, ap}
use Rattle.sk_kernel.proofs.Names.{subst, arith, FinMap, fold, fold-append, System, Taken, Commit, Fail, IsDrawn}
use Rattle.sk_kernel.proofs.Names.{IsAllowed, IsSound, each_event, drawn_more}
use Rattle.sk_record.specs.Trace.{Event}

abbrev pub number_or : ℕ → Option ℕ → ℕ
number_or last None = last
number_or last (Some g) = g

module _ {E V W F N : Type 0} (K : System E V W F N) where
  -- the number of the last guess after one more event
  abbrev pub last_after : ℕ → Event N → ℕ
  last_after last (Taken n) = number_or last (K.mark n)
  last_after last (Commit g) = last
  last_after last (Fail g) = last

module _ {E V W F N : Type 0} (K : System E V W F N) (start : FinMap K.order V) (first : ℕ) where
  abbrev IsLast : List (Event N) → Type 0
  IsLast es = (g : ℕ) → IsDrawn K es g → g ≤ fold (last_after K) first es

  earlier : (es : List (Event N)) (e : Event N) → IsAllowed K start es e → (last g : ℕ) → IsDrawn K es g → g ≤ last → g ≤ last_after K last e
  earlier es (Taken n) allowed last g drawn least =
      elim (K.mark n) as (λ m. K.mark n ≡ m → g ≤ number_or last m) [
        | None ↦ λ _. least
        | Some h ↦ λ is. let less = allowed h g is drawn in omega (arith, less)
      ] refl
  earlier es (Commit h) allowed last g drawn least = least
  earlier es (Fail h) allowed last g drawn least = least

  own : (e : Event N) (n : N) (last g : ℕ) → e ≡ Taken n → K.mark n ≡ Some g → g ≤ last_after K last e
  own e n last g is mark =
      let same : last_after K last e ≡ g = ap (last_after K last) is ∙ ap (number_or last) mark in
      omega (arith, same)

  one_more : (es : List (Event N)) (e : Event N) → IsSound K start (es ++ e ∷ []) → IsLast es → IsLast (es ++ e ∷ [])
  one_more es e sound all g drawn =
      let last = fold (last_after K) first es in
      subst (λ n. g ≤ n) (sym (fold-append (last_after K) first es (e ∷ [])))
      (elim (drawn_more K start es e g drawn) [
        | inl before ↦ earlier es e (sound.allowed es [] e refl) last g before (all g before)
        | inr new ↦ own e new.0 last g new.1 new.2
      ])

  none_yet : IsLast []
  none_yet g drawn = let below = drawn.1.1 in absurd (omega arith)

  pub last_is_greatest : (es : List (Event N)) → IsSound K start es → (g : ℕ) → IsDrawn K es g → g ≤ fold (last_after K) first es
  last_is_greatest es sound = each_event K start IsLast none_yet one_more es sound
