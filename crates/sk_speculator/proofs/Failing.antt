-- What a failure leaves on the lists of the other guesses.
use Rattle.sk_speculator.proofs.Names.{◌≡◌, ℕ, Bool, true, false, cond, List, [], ◌∷◌, length, map, sym, ◌∙◌, arith}
use Rattle.sk_speculator.proofs.Names.{is_in, has, OpenGuess, AllExact, AllAlmostExact, left_to, Ordering}
use Rattle.sk_speculator.proofs.Names.{IsTotalOrder, IsAntisymmetric}
use Rattle.sk_guesses.specs.Base.{AllByRecursion}
use Rattle.sk_guesses.specs.Dependents.{IsAlmostExact}
use Rattle.sk_guesses.specs.EntitySet.{without_entity}
use Rattle.sk_guesses.specs.Opens.{relieved_beyond}
use Rattle.sk_guesses.proofs.Places.{without_in}
use Rattle.std.proofs.lemmas.Bool.Decides.{nat_tests}

module _ {K : Type 0} (R : K → K → Ordering) where
  -- a list has none but keys that depend on its guess
  abbrev pub IsWithin : (K → List ℕ) → OpenGuess K → Type 0
  IsWithin tags o = (k : K) → is_in R o.dependents k ≡ true → has o.id (tags k) ≡ true

  abbrev pub AllWithin : (K → List ℕ) → List (OpenGuess K) → Type 0
  AllWithin tags os = AllByRecursion (IsWithin tags) os

  pub exact_within : (tags : K → List ℕ) (os : List (OpenGuess K)) → AllExact R tags os → AllWithin tags os
  exact_within tags [] all = tt
  exact_within tags (o ∷ os) all = ((λ k here. sym (all.0 k) ∙ here), exact_within tags os all.1)

  -- where no guess is undecided there is no list
  pub none_exact : (tags : K → List ℕ) (os : List (OpenGuess K)) → length os ≡ 0 → AllExact R tags os
  none_exact tags [] none = tt
  none_exact tags (o ∷ os) none = absurd (omega (arith, none))

  module _ (old new : K → List ℕ) (x : K) (ks : List K) where
    right_one : (o : OpenGuess K) → IsWithin old o → IsAlmostExact R new ks o → has o.id (old x) ≡ false → is_in R o.dependents x ≡ has o.id (new x)
    right_one o within almost none = grind (arith, nat_tests, within x, almost.kept x)

    -- the lists of the guesses that a key did not depend on are right
    pub right_beyond : (os : List (OpenGuess K)) → AllWithin old os → AllAlmostExact R new ks os
        → AllByRecursion (λ o. has o.id (old x) ≡ false → is_in R o.dependents x ≡ has o.id (new x)) os
    right_beyond [] within almost = tt
    right_beyond (o ∷ os) within almost = (right_one o within.0 almost.0, right_beyond os within.1 almost.1)

  -- what is taken out of lists leaves none but keys that depend on their guesses
  module _ (total : IsTotalOrder R) (exact : IsAntisymmetric R) (tags own : List ℕ) (x : K) (old : K → List ℕ) where
    left_within : (o : OpenGuess K) (b : Bool) → IsWithin old o → IsWithin old (cond b o (record o { dependents = without_entity R o.dependents x }))
    left_within o true within = within
    left_within o false within = λ k here. grind (arith, nat_tests, without_in total exact o.dependents x k, within k)

    one_within : (o : OpenGuess K) (b : Bool) → IsWithin old o → IsWithin old (cond b (left_to R own x o) o)
    one_within o true within = left_within o (has o.id own) within
    one_within o false within = within

    pub within_beyond : (os : List (OpenGuess K)) → AllWithin old os → AllWithin old (map (relieved_beyond R tags own x) os)
    within_beyond [] within = tt
    within_beyond (o ∷ os) within = (one_within o (has o.id tags) within.0, within_beyond os within.1)
