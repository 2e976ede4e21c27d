-- The quote and the blocks before the loop's place are written.
use Rattle.sk_report.proofs.Names.{take, ◌∷◌, ◌*◌, flat_map, HasWritten, IsPlainFormatter, spelled_byte}
use Rattle.sk_report.proofs.printed.PrintedFileDisplay.fmt.Given as goal

abbrev pub invariant-loop-index : goal.invariant-loop-index
invariant-loop-index g l = IsPlainFormatter l.fn.f → HasWritten g.W.Write.write_str_gives l.fn.f (34 ∷ flat_map spelled_byte (take (512 * l.index) l.self.0.now)) l.f
