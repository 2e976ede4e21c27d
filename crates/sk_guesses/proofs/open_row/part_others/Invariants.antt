-- Those that were passed agree.
use Rattle.sk_guesses.proofs.Names.{true}
use Rattle.sk_guesses.specs.Shared.{is_named, Agrees}
use Rattle.sk_guesses.proofs.Named.{IsVisited}
use Rattle.sk_guesses.proofs.open_row.part_others.Given as goal

abbrev pub invariant-loop-place : goal.invariant-loop-place
invariant-loop-place g l = IsVisited (Agrees l.shared (is_named l.within l.tags) true) l.fn.row.items l.row.items l.place
