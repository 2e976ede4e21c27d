-- None of the first writes makes its key absent.
use Rattle.sk_bytes.proofs.Names.{◌≡◌, false, take, is_none, list_any}
use Rattle.sk_bytes.proofs.numbers.makes_absent.Given as goal

abbrev pub invariant-loop-write : goal.invariant-loop-write
invariant-loop-write g l = list_any (λ (w : _ × _). is_none w.1) (take l.write-index l.written) ≡ false
