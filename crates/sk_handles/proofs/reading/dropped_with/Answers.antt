-- A piece of zeros, or one with a byte that is not 0.
use Rattle.sk_handles.proofs.Names.{rules, arith}
use Rattle.sk_handles.proofs.Read.{left_none, left_some}
use Rattle.sk_handles.proofs.reading.dropped_with.Goals as goal

pub returns-then-used-eq0 : goal.returns-then-used-eq0
returns-then-used-eq0 c =
    left_none c.args.zeros c.used_len-used.result c.args.piece.now c.used_len-used.ensures.used (search rules) _ (omega (arith, c.saturating_add.ensures))

pub returns : goal.returns
returns c =
    left_some c.args.zeros c.used_len-used.result c.args.piece.now c.used_len-used.ensures.used (search rules) _ _
    (omega (arith, c.saturating_add-2.ensures)) (omega arith)
