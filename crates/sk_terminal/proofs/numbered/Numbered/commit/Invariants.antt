-- The terminals gone over are changed.
use Rattle.sk_terminal.proofs.Names.{◌≡◌, ℕ, take, cond, option_map, lightened, has}
use Rattle.std.specs.FinMap as map
use Rattle.sk_terminal.proofs.numbered.Numbered.commit.Given as goal

abbrev pub invariant-loop-number : goal.invariant-loop-number
invariant-loop-number l = (t : ℕ) → map.get l.self t ≡ cond (has t (take l.number-index l.numbers)) (option_map (lightened l.id) (map.get l.fn.self t)) (map.get l.fn.self t)
