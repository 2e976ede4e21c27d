-- The piece is joined to what came.
use Rattle.sk_handles.proofs.Names.{rules, [], refl, inl, snapshot_heads}
use Rattle.sk_handles.proofs.reading.Reading.feed_to.Goals as goal

pub returns-in-Ok : goal.returns-in-Ok
returns-in-Ok c = inl (search rules, (c.in-Ok.now, refl, λ bytes come. c.in-Ok.ensures [] 1 snapshot_heads [] 0 bytes come))
