-- What holds of the guesses between their calls, after a change of the undecided ones.
use Rattle.sk_guesses.proofs.Names.{◌≡◌, ℕ, ◌-◌, ◌≤◌, Bool, true, false, List, Some, length, length-set, map, sym, ap}
use Rattle.sk_guesses.proofs.Names.{◌∙◌, subst, arith, slice_set, Status, Undecided, Committed, GuessesView, AreBelow}
use Rattle.sk_guesses.proofs.Names.{but, OpenGuess, AreOpen, opens_of, after_commit, is_undecided, status_since}
use Rattle.sk_guesses.proofs.Names.{decided, Listing}
use Rattle.sk_guesses.specs.GuessesInvariant.{AreTidy}
use Rattle.sk_guesses.proofs.Opens.{guess_of, as_long, open_but, open_committed, open_same, same_opens}
use Rattle.sk_guesses.proofs.Passes.{below_but, below_committed}

module _ {E : Type 0} {v : GuessesView} {ls : List (Listing E)} {next : List E} {low : Bool} (tidy : AreTidy v ls next × (low ≡ true → AreBelow (opens_of (map guess_of ls)))) (ms : List (Listing E)) where
  -- numbers and tags stay
  pub tidy_same : opens_of (map guess_of ms) ≡ opens_of (map guess_of ls) → length ms ≤ length ls → AreTidy v ms next × (low ≡ true → AreBelow (opens_of (map guess_of ms)))
  tidy_same is fewer = (
    record {
      opens = open_same v (map guess_of ms) (map guess_of ls) is tidy.0.opens;
      few = let few = tidy.0.few in omega (arith, few, fewer);
      numbered = tidy.0.numbered;
      empty = tidy.0.empty;
    },
    λ so. subst AreBelow (sym is) (tidy.1 so),
  )

  pub tidy_mapped : (f : OpenGuess E → OpenGuess E) → ((o : OpenGuess E) → (f o).id ≡ o.id × (f o).tags ≡ o.tags) → map guess_of ms ≡ map f (map guess_of ls) → AreTidy v ms next × (low ≡ true → AreBelow (opens_of (map guess_of ms)))
  tidy_mapped f keeps is = tidy_same (ap opens_of is ∙ same_opens f keeps (map guess_of ls)) (let many = as_long f ms ls is in omega (arith, many))

  -- one is decided
  module _ (id n : ℕ) (at : n ≡ id - length v.earlier - 1) (was : status_since v id ≡ Some Undecided) (fewer : length ms ≤ length ls) where
    tidy_decided : (s : Status) → AreOpen (decided v id s) (map guess_of ms) → AreTidy (record v { statuses = slice_set v.statuses n s }) ms next
    tidy_decided s stand = record {
      opens = subst (λ k. AreOpen (record v { statuses = slice_set v.statuses k s }) (map guess_of ms)) (sym at) stand;
      few = let few = tidy.0.few in omega (arith, few, fewer);
      numbered = rw length-set tidy.0.numbered;
      empty = tidy.0.empty;
    }

    pub tidy_closed : (s : Status) → is_undecided s ≡ false → map guess_of ms ≡ but id (map guess_of ls)
        → AreTidy (record v { statuses = slice_set v.statuses n s }) ms next × (low ≡ true → AreBelow (opens_of (map guess_of ms)))
    tidy_closed s becomes is = (
      tidy_decided s (subst (AreOpen (decided v id s)) (sym is) (open_but v (map guess_of ls) id s tidy.0.opens was becomes)),
      λ so. subst (λ xs. AreBelow (opens_of xs)) (sym is) (below_but id (map guess_of ls) (tidy.1 so)),
    )

    pub tidy_committed : map guess_of ms ≡ after_commit id (map guess_of ls)
        → AreTidy (record v { statuses = slice_set v.statuses n Committed }) ms next × (low ≡ true → AreBelow (opens_of (map guess_of ms)))
    tidy_committed is = (
      tidy_decided Committed (subst (AreOpen (decided v id Committed)) (sym is) (open_committed v (map guess_of ls) id tidy.0.opens was)),
      λ so. subst (λ xs. AreBelow (opens_of xs)) (sym is) (below_committed id (map guess_of ls) (tidy.1 so)),
    )
