-- The step is that of DBSIZE of all keys.
use Rattle.sk_durable.proofs.Causes.{told_so}
use Rattle.sk_durable.specs.Sizes.{size}
use Rattle.sk_durable.proofs.Sizes.{size_not_taken, size_taken}
use Rattle.sk_durable.proofs.size.take_size.Goals as goal

pub returns-in_err-take-clause-post : goal.returns-in_err-take-clause-post
returns-in_err-take-clause-post c =
    let step = c.hand_in_size.new.step in
    let told = c.from_residual-in_err-take in
    let why = c.in_err-take.field-0.0 in
    told_so c.args.batched.now c.take.new.self c.args.asker size why c.args.looks told.result told.ensures.0 told.ensures.1
    (size_not_taken c.args.batched.now c.args.asker step c.in_ok-hand_in_size.ensures c.take.new.self c.take.new.step why
    c.in_err-take.ensures)

pub returns-clause-post : goal.returns-clause-post
returns-clause-post c =
    size_taken c.args.batched.now c.args.asker c.hand_in_size.new.step c.in_ok-hand_in_size.ensures c.take.new.self
    c.take.new.step c.args.looks c.in_ok-ahead.ahead c.in_ok-take.ensures c.in_ok-ahead.ensures
