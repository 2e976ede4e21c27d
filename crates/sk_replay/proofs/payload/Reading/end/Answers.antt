-- What stands at the end of a payload.
use Rattle.sk_replay.proofs.Names.{map, Some, log_limits}
use Rattle.sk_replay.proofs.Come.{all_read, all_said, cut, left_open}
use Rattle.sk_replay.proofs.payload.Reading.end.Goals as goal

pub returns-then-is_inside : goal.returns-then-is_inside
returns-then-is_inside c =
    let come = c.requires.come in
    cut c.args.payload.now c.args.self c.is_inside.result come
    (c.is_inside.ensures log_limits (map Some come.requests) c.args.payload.now (all_read c.args.payload.now c.args.self come c.requires.all)) c.if-is_inside.true

pub returns-then-is_open : goal.returns-then-is_open
returns-then-is_open c =
    let come = c.requires.come in
    left_open c.args.payload.now c.args.self c.is_inside.result c.is_open.result come
    (c.is_inside.ensures log_limits (map Some come.requests) c.args.payload.now (all_read c.args.payload.now c.args.self come c.requires.all)) c.if-is_inside.false
    c.is_open.ensures c.if-is_open.true

pub returns : goal.returns
returns c =
    let come = c.requires.come in
    all_said c.args.payload.now c.args.self c.is_inside.result c.is_open.result c.into_works.result come
    (c.is_inside.ensures log_limits (map Some come.requests) c.args.payload.now (all_read c.args.payload.now c.args.self come c.requires.all)) c.if-is_inside.false
    c.is_open.ensures c.if-is_open.false c.into_works.ensures
