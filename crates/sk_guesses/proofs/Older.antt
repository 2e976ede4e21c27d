-- Where all were drawn before a guess, and no tag is above its own guess, no step depends on it.
use Rattle.sk_guesses.proofs.Names.{◌≡◌, ℕ, suc, ◌-◌, ◌<◌, false, List, [], ◌∷◌, length, map, refl, arith}
use Rattle.sk_guesses.proofs.Names.{slice_index_or, list_any, IsStrictlySortedBy, nat_cmp, has, AreBelow, opens_of}
use Rattle.sk_guesses.proofs.Names.{Listing}
use Rattle.std.proofs.lemmas.List.{get_or_default}
use Rattle.sk_guesses.proofs.Opens.{guess_of, named}
use Rattle.sk_guesses.proofs.Passes.{earlier}
use Rattle.std.proofs.lemmas.Bool.Decides.{nat_tests}

-- all of a list that rises are at most its last
all_older : {E : Type 0} → (ls : List (Listing E)) (newest : Listing E) (g : ℕ) → IsStrictlySortedBy nat_cmp (named (map guess_of ls)) → 0 < length ls
    → newest ≡ slice_index_or ls (length ls - 1) newest → newest.guess.id < g → (k : ℕ) (d : Listing E) → k < length ls → (slice_index_or ls k d).guess.id < g
all_older ls newest g rises some last less k d lt =
    grind (arith, nat_tests, earlier ls k (length ls - 1) d newest rises, get_or_default ls k d newest lt)

none_later : {E : Type 0} → (g : ℕ) (ls : List (Listing E)) → AreBelow (opens_of (map guess_of ls)) → ((k : ℕ) (d : Listing E) → k < length ls → (slice_index_or ls k d).guess.id < g)
    → list_any (λ (x : Listing E). has g x.guess.tags) ls ≡ false
none_later g [] below older = refl
none_later g (x ∷ ls) below older =
    let rest = none_later g ls below.1 (λ k d lt. older (suc k) d (omega (arith, lt))) in
    grind (arith, nat_tests, below.0 g, older 0 x, rest)

pub rests_none : {E : Type 0} → (g : ℕ) (ls : List (Listing E)) (newest : Listing E) → IsStrictlySortedBy nat_cmp (named (map guess_of ls)) → AreBelow (opens_of (map guess_of ls)) → 0 < length ls
    → newest ≡ slice_index_or ls (length ls - 1) newest → newest.guess.id < g → list_any (λ (x : Listing E). has g x.guess.tags) ls ≡ false
rests_none g ls newest rises below some last less = none_later g ls below (all_older ls newest g rises some last less)
