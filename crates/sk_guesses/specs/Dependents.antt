-- Lists of what depends on each undecided guess.
use Rattle.std.specs.Prelude.{◌≡◌, ◌||◌, ℕ, true, false, List, [], map, if◌then◌else◌}
use Rattle.sk_guesses.specs.Base.{AllByRecursion, Ordering, is_in, Note, has, last_tags}
use Rattle.sk_guesses.specs.Opens.{OpenGuess, depending}

-- the guesses that each key depends on, by its notes
abbrev pub tags_by : {K V : Type 0} → (K → List (Note V)) → K → List ℕ
tags_by logs k = last_tags [] (logs k)

module _ {K : Type 0} (R : K → K → Ordering) where
  -- the guesses that each key depends on, where these keys depend on these guesses, and the others on what they did
  abbrev pub with_tags : List ℕ → List K → (K → List ℕ) → K → List ℕ
  with_tags tags ks before k = if is_in R ks k then tags else before k

  -- each list has just the keys that depend on its guess
  abbrev pub AllExact : (K → List ℕ) → List (OpenGuess K) → Type 0
  AllExact tags os = AllByRecursion (λ o. (k : K) → is_in R o.dependents k ≡ has o.id (tags k)) os

  -- a list has the keys that depend on its guess, and no others but some of these
  pub record IsAlmostExact (tags : K → List ℕ) (ks : List K) (o : OpenGuess K) : Type 0 where
    pub kept : (k : K) → has o.id (tags k) ≡ true → is_in R o.dependents k ≡ true
    pub others : (k : K) → is_in R ks k ≡ false → is_in R o.dependents k ≡ has o.id (tags k)

  abbrev pub AllAlmostExact : (K → List ℕ) → List K → List (OpenGuess K) → Type 0
  AllAlmostExact tags ks os = AllByRecursion (IsAlmostExact tags ks) os

  -- these keys depend on none but these guesses
  abbrev pub Covers : List ℕ → List K → (K → List ℕ) → Type 0
  Covers tags ks before = (k : K) (g : ℕ) → is_in R ks k ≡ true → has g (before k) ≡ true → has g tags ≡ true

  -- a key is added to the lists of some of these guesses, among them those that it does not depend on already
  pub record Depends (own tags : List ℕ) (k : K) (old new : List (OpenGuess K)) : Type 0 where
    pub added : List ℕ
    pub all : (g : ℕ) → has g tags ≡ true → (has g own || has g added) ≡ true
    pub none : (g : ℕ) → has g added ≡ true → has g tags ≡ true
    pub opens : new ≡ map (depending R added k) old
