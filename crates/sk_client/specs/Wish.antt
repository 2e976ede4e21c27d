-- What a turn is to do, in a few words, and the rule that it stands for.
use Rattle.std.specs.Prelude.{ℕ, Bool, true, false, List, Option, Some, None, Result, Ok, Err}
use Rattle.sk_client.specs.Base.{Input, Refusal, Ask, Wish, Wanted}
use Rattle.sk_client.specs.Desk.{DeskView, Rule, kept_for, buffer}

-- a store is of the buffer of the process
abbrev pub wanted : List ℕ → Wanted → Ask
wanted bytes (Wanted.Get name) = Ask.Get name.now
wanted bytes (Wanted.Check name version) = Ask.Check name.now version
wanted bytes (Wanted.Store name version) = Ask.Store name.now version bytes

-- the input of a step with the kept answer, or without it
abbrev pub brought : Bool → Option Input → Input
brought true (Some input) = input
brought takes_kept kept = Input.None

abbrev pub wished : Option Input → List ℕ → Wish → Rule
wished kept bytes Wish.Steps = Rule.Steps (brought false kept)
wished kept bytes Wish.TakesKept = Rule.Steps (brought true kept)
wished kept bytes (Wish.Guesses want) = Rule.Guesses (wanted bytes want)
wished kept bytes (Wish.Asks want) = Rule.Asks (wanted bytes want)

abbrev pub wished_at : DeskView → ℕ → Result Wish Refusal → Result Rule Refusal
wished_at d pid (Ok wish) = Ok (wished (kept_for pid d.kept) (buffer d.kernel pid) wish)
wished_at d pid (Err why) = Err why
