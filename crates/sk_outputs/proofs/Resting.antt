-- What no output depends on, a decision leaves as it is.
use Rattle.sk_outputs.proofs.Names.{◌≡◌, ℕ, zero, suc, ◌<◌, ◌||◌, ◌++◌, Bool, true, false, not, cond, [], ◌∷◌, refl}
use Rattle.sk_outputs.proofs.Names.{◌∙◌, ap, ◌==◌, remove, true≢false, without_none, lightened, not_dropped, without}
use Rattle.sk_outputs.proofs.Names.{has, Said, some_rest, NoneAbove, Tagged, List, has_filter, ◌&&◌}

none_first : (a b : Bool) → (a || b) ≡ false → (a ≡ false) × (b ≡ false)
none_first true b is = absurd (true≢false is)
none_first false b is = (refl, is)

neither : (a b : Bool) → a ≡ false → b ≡ false → (a || b) ≡ false
neither a b x y = ap (λ c. c || b) x ∙ y

none_less : (g h : ℕ) (tags : List ℕ) → has g tags ≡ false → has g (without h tags) ≡ false
none_less g h tags none = has_filter (λ n. not (n == h)) g tags ∙ ap (λ b. not (g == h) && b) none ∙ no (not (g == h)) where
  no : (b : Bool) → (b && false) ≡ false
  no true = refl
  no false = refl

module _ {O : Type 0} where
  pub commit_leaves : (g : ℕ) (xs : Said O) → some_rest xs g ≡ false → lightened g xs ≡ xs
  commit_leaves g [] none = refl
  commit_leaves g (x ∷ xs) none =
      let both = none_first (has g x.1) (some_rest xs g) none in
      λ i. (x.0, without_none g x.1 both.0 i) ∷ commit_leaves g xs both.1 i

  pub failure_leaves : (g : ℕ) (xs : Said O) → some_rest xs g ≡ false → not_dropped g xs ≡ xs
  failure_leaves g [] none = refl
  failure_leaves g (x ∷ xs) none =
      let both = none_first (has g x.1) (some_rest xs g) none in
      ap (λ b. cond (not b) (x ∷ not_dropped g xs) (not_dropped g xs)) both.0 ∙ ap (λ ys. x ∷ ys) (failure_leaves g xs both.1)

  none_lightened : (g h : ℕ) (xs : Said O) → some_rest xs g ≡ false → some_rest (lightened h xs) g ≡ false
  none_lightened g h [] none = refl
  none_lightened g h (x ∷ xs) none =
      let both = none_first (has g x.1) (some_rest xs g) none in
      neither (has g (without h x.1)) (some_rest (lightened h xs) g) (none_less g h x.1 both.0) (none_lightened g h xs both.1)

  none_left : (g h : ℕ) (xs : Said O) → some_rest xs g ≡ false → some_rest (not_dropped h xs) g ≡ false
  none_left g h [] none = refl
  none_left g h (x ∷ xs) none =
      let both = none_first (has g x.1) (some_rest xs g) none in
      let later = none_left g h xs both.1 in
      elim (has h x.1) as (λ b. some_rest (cond (not b) (x ∷ not_dropped h xs) (not_dropped h xs)) g ≡ false) [
        | true ↦ later
        | false ↦ neither (has g x.1) (some_rest (not_dropped h xs) g) both.0 later
      ]

  none_removed : (g i : ℕ) (xs : Said O) → some_rest xs g ≡ false → some_rest (remove xs i) g ≡ false
  none_removed g zero [] none = refl
  none_removed g (suc i) [] none = refl
  none_removed g zero (x ∷ xs) none = (none_first (has g x.1) (some_rest xs g) none).1
  none_removed g (suc i) (x ∷ xs) none =
      let both = none_first (has g x.1) (some_rest xs g) none in
      neither (has g x.1) (some_rest (remove xs i) g) both.0 (none_removed g i xs both.1)

  none_more : (g : ℕ) (xs : Said O) (x : Tagged (ℕ × O)) → some_rest xs g ≡ false → has g x.1 ≡ false → some_rest (xs ++ x ∷ []) g ≡ false
  none_more g [] x none bare = neither (has g x.1) false bare refl
  none_more g (y ∷ xs) x none bare =
      let both = none_first (has g y.1) (some_rest xs g) none in
      neither (has g y.1) (some_rest (xs ++ x ∷ []) g) both.0 (none_more g xs x both.1 bare)

  -- ---- none depends on a guess above the newest

  pub above_lightened : (h newest : ℕ) (xs ys : Said O) → ys ≡ lightened h xs → NoneAbove xs newest → NoneAbove ys newest
  above_lightened h newest xs ys is none g above = ap (λ zs. some_rest zs g) is ∙ none_lightened g h xs (none g above)

  pub above_left : (h newest : ℕ) (xs ys : Said O) → ys ≡ not_dropped h xs → NoneAbove xs newest → NoneAbove ys newest
  above_left h newest xs ys is none g above = ap (λ zs. some_rest zs g) is ∙ none_left g h xs (none g above)

  pub above_removed : (i newest : ℕ) (xs ys : Said O) → ys ≡ remove xs i → NoneAbove xs newest → NoneAbove ys newest
  above_removed i newest xs ys is none g above = ap (λ zs. some_rest zs g) is ∙ none_removed g i xs (none g above)

  pub above_more : (x : Tagged (ℕ × O)) (old new own : ℕ) (xs ys : Said O) → ys ≡ xs ++ x ∷ [] → NoneAbove xs old
      → ((g : ℕ) → own < g → has g x.1 ≡ false) → ((g : ℕ) → new < g → old < g) → ((g : ℕ) → new < g → own < g) → NoneAbove ys new
  above_more x old new own xs ys is none bare far near g above =
      ap (λ zs. some_rest zs g) is ∙ none_more g xs x (none g (far g above)) (bare g (near g above))
