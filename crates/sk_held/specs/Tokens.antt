-- What holds of held tokens.
use Rattle.std.specs.Prelude.{◌≡◌, ◌||◌, ℕ, Bool, List, map, Option}
use Rattle.std.specs.List.{AllByRecursion}
use Rattle.std.specs.List.Sorted.{IsStrictlySortedBy}
use Rattle.std.specs.Ordering.{nat_cmp}
use Rattle.sk_record.specs.Notes.{has}
use Rattle.sk_record.specs.UndoState.{Open, numbers}
use Rattle.sk_record.specs.declared.status.Status.{Status}
use Rattle.sk_guesses.specs.Kept.{KeptView, AreStatuses}
use Rattle.sk_guesses.specs.Token.{Token}
use Rattle.sk_speculator.specs.Parts.{Parts}

-- the guesses that they decide
abbrev pub ids : List Token → List ℕ
ids ts = map (λ t. t.id) ts

-- whether a guess is undecided, or struck and its token has not come back
abbrev pub is_out : KeptView → List Open → ℕ → Bool
is_out v os g = has g (numbers os) || has g v.struck

-- just the tokens of these guesses of the kernel are held, each once, by rising number
pub record AreHeld {K V O : Type 0} (m : Parts K V O) (tokens : List Token) : Type 0 where
  pub own : AllByRecursion (λ t. t.kernel ≡ m.guesses.kernel) tokens
  pub rising : IsStrictlySortedBy nat_cmp (ids tokens)
  pub just : (g : ℕ) → has g (ids tokens) ≡ is_out m.guesses m.opens g
  -- some statuses of all guesses agree with what is kept of them
  pub status : ℕ → Option Status
  pub agrees : AreStatuses m.guesses m.opens status
