-- All of the segment was read.
use Rattle.sk_recovered.proofs.Names.{ap, arith, ◌∙◌, if◌then◌else◌}
use Rattle.sk_recovered.proofs.Counted.{closed}
use Rattle.sk_recovered.proofs.segment.Segment.close.Goals as goal

pub returns : goal.returns
returns c = λ start first heads bytes left came within.
    let s = c.run.new.self in
    let w = c.in_ok-run.ensures.ok start first heads bytes left came within in
    closed start first heads bytes left came s c.end-end.result _ c.saturating_add.result c.choose.result c.choose-2.result w
    (c.end-end.ensures.log s.head.segment s.head.first w.payloads came w.log c.in_ok-run.ensures.all)
    (omega (arith, c.saturating_add.ensures, c.dropped-dropped.ensures))
    (c.choose.ensures ∙ ap (λ b. if b then s.head.segment else s.recovered.segment) c.ends-ends.ensures)
    (c.choose-2.ensures ∙ ap (λ b. if b then c.end-end.result.place else s.recovered.offset) c.ends-ends.ensures)
