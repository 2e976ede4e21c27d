-- What stands in a segment without a head counts for nothing.
use Rattle.sk_handles.proofs.Names.{sym, ap, subst, ◌∙◌, ◌+◌, is_some, left_by, next_number, zeros_by, HasRecovered}
use Rattle.sk_handles.proofs.Read.{lets_left, lets_closed}
use Rattle.sk_handles.proofs.reading.Reading.without.Goals as goal

pub returns-then-is_some : goal.returns-then-is_some
returns-then-is_some c =
    let read = c.args.read in
    lets_closed (next_number read.heads read.opened) c.args.segment c.args.piece.now read c.args.self.now
    (ap is_some (sym c.next_segment.ensures) ∙ sym c.is_some.ensures ∙ c.if-is_some.true)

pub returns : goal.returns
returns c =
    let read = c.args.read in
    let piece = c.args.piece.now in
    let more = c.dropped_with-dropped.ensures.0 ∙ ap (λ z. left_by z piece) c.zeros_of.ensures in
    let zeros = c.dropped_with-dropped.ensures.1 ∙ ap (λ z. zeros_by z piece) c.zeros_of.ensures in
    lets_left (next_number read.heads read.opened) c.args.segment piece read c.leave.new.self c.args.self.now _
    (ap is_some (sym c.next_segment.ensures) ∙ sym c.is_some.ensures ∙ c.if-is_some.false)
    (λ start first heads bytes left has. subst (λ n. HasRecovered start first heads bytes (left + n) c.leave.new.self) more
    (c.leave.ensures.left start first heads bytes left has))
    (λ i. record c.args.self.now { left = c.args.segment; zeros = zeros i })
