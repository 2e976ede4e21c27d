-- What stands before the loop's place is written.
use Rattle.sk_report.proofs.Names.{take, ◌∷◌, flat_map, HasWritten, IsPlainFormatter, entity_text}
use Rattle.sk_report.proofs.footprints.MoreEntitiesDisplay.fmt.Given as goal

abbrev pub invariant-loop-entity : goal.invariant-loop-entity
invariant-loop-entity g l = IsPlainFormatter l.fn.f → HasWritten g.W.Write.write_str_gives l.fn.f (flat_map (λ e. 32 ∷ entity_text e) (take l.entity-index l.entity-items)) l.f
