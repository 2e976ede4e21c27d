-- The terminals gone over are taken off.
use Rattle.sk_terminal.proofs.Names.{◌≡◌, ◌||◌, ◌&&◌, not, ℕ, take, has, is_listed, rests_at, AreTidy}
use Rattle.sk_terminal.proofs.listing.take_off_all.Given as goal

abbrev pub invariant-loop-number : goal.invariant-loop-number
invariant-loop-number l = AreTidy l.lists.items × ((g t : ℕ) → is_listed g t l.lists.items ≡ (is_listed g t l.fn.lists.items && (not (has t (take l.number-index l.numbers)) || rests_at g l.numbered t)))
