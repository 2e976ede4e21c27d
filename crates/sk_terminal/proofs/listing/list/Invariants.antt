-- The guesses gone over have the terminal listed.
use Rattle.sk_terminal.proofs.Names.{◌≡◌, ◌||◌, ◌&&◌, ℕ, take, ◌==◌, has, is_listed, AreTidy}
use Rattle.sk_terminal.proofs.listing.list.Given as goal

abbrev pub invariant-loop-guess : goal.invariant-loop-guess
invariant-loop-guess l = AreTidy l.lists.items × ((g t : ℕ) → is_listed g t l.lists.items ≡ (is_listed g t l.fn.lists.items || (has g (take l.guess-index l.guess-items) && (l.number == t))))
