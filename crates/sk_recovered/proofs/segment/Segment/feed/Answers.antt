-- A piece more came, and the frames that are whole with it are carried out.
use Rattle.std.proofs.Common.{◌++◌}
use Rattle.sk_recovered.proofs.Counted.{fed}
use Rattle.sk_recovered.proofs.segment.Segment.feed.Goals as goal

pub returns : goal.returns
returns c = λ start first heads bytes left came w.
    let s = c.args.self in
    c.in_ok-run.ensures.ok start first heads bytes left (came ++ c.args.piece.now)
    (fed start first heads bytes left came c.args.piece.now s c.feed.new.self w (c.in_ok-feed.ensures.ok s.head.segment s.head.first w.payloads came w.log))
