-- The labels that are left to look at say the place as all labels do.
use Rattle.sk_script.proofs.Names.{◌≡◌, drop, place_of}
use Rattle.sk_script.proofs.Marks.{seen}
use Rattle.sk_script.proofs.parse.labels.Labels.place_of.Given as goal

abbrev pub invariant-loop-mark : goal.invariant-loop-mark
invariant-loop-mark l = place_of (seen l.mark-items) l.name ≡ place_of (seen (drop l.mark-index l.mark-items)) l.name
