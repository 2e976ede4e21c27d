-- What stands before the loop's place is written.
use Rattle.sk_report.proofs.Names.{take, ◌∷◌, flat_map, decimal, HasWritten, IsPlainFormatter}
use Rattle.sk_report.proofs.printed.MoreSignalsDisplay.fmt.Given as goal

abbrev pub invariant-loop-signal : goal.invariant-loop-signal
invariant-loop-signal g l = IsPlainFormatter l.fn.f → HasWritten g.W.Write.write_str_gives l.fn.f (flat_map (λ signal. 44 ∷ decimal signal) (take l.signal-index l.signal-items)) l.f
