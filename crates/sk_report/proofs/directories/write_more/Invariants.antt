-- The names before the loop's place are written.
use Rattle.sk_report.proofs.Names.{take, ◌∷◌, flat_map, Appends}
use Rattle.sk_report.specs.Listed.{link_said}
use Rattle.sk_report.proofs.directories.write_more.Given as goal

abbrev pub invariant-loop-link : goal.invariant-loop-link
invariant-loop-link g l =
    Appends (g.W.Write.contents l.fn.out) (g.W.Write.contents l.out) (flat_map (λ link. 32 ∷ link_said link.entity link.state.now) (take l.link-index l.links))
