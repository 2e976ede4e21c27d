-- What stands before the loop's place is written.
use Rattle.sk_report.proofs.Names.{take, ◌∷◌, flat_map, decimal, HasWritten, IsPlainFormatter}
use Rattle.sk_report.proofs.printed.MoreTagsDisplay.fmt.Given as goal

abbrev pub invariant-loop-id : goal.invariant-loop-id
invariant-loop-id g l = IsPlainFormatter l.fn.f → HasWritten g.W.Write.write_str_gives l.fn.f (flat_map (λ id. 44 ∷ decimal id) (take l.id-index l.id-items)) l.f
