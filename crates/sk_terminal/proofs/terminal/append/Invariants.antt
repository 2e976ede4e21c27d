-- The texts gone over are appended.
use Rattle.sk_terminal.proofs.Names.{◌≡◌, ◌+◌, ◌++◌, length, map, take, vec_capacity, Held}
use Rattle.sk_terminal.proofs.terminal.append.Given as goal

abbrev pub invariant-loop-held : goal.invariant-loop-held
invariant-loop-held l = (l.out.items ≡ l.fn.out.items ++ map (λ (h : Held). h.said.0) (take l.held-index l.texts)) × (length l.out.items ≡ length l.fn.out.items + l.held-index) × (vec_capacity l.out ≡ vec_capacity l.fn.out)
