-- What is against the step is against the work.
use Rattle.sk_durable.proofs.Names.{sym, ◌∙◌, subst, IsHanded, Kernel}
use Rattle.sk_durable.proofs.Causes.{logged, not_logged, not_taken, taken, told_so}
use Rattle.sk_durable.proofs.works.take_in.Goals as goal

pub returns-in_err-log-clause-post : goal.returns-in_err-log-clause-post
returns-in_err-log-clause-post c =
    let step = c.hand_in.new.step in
    let handed = subst (λ (k : Kernel). IsHanded k c.args.asker c.args.work step) c.kernel.ensures
    c.in_ok-hand_in.ensures in
    let told = c.from_residual-in_err-log in
    let why = c.in_err-log.field-0.0 in
    told_so c.args.batched.now c.log.new.self c.args.asker c.args.work why c.args.looks told.result told.ensures.0 told.ensures.1
    (not_logged c.args.batched.now c.args.asker c.args.work step handed (sym c.may_write.ensures ∙ c.if-may_write.true)
    c.as_slice.result.now (c.as_slice.ensures.value ∙ c.in_ok-bytes.ensures) c.log.new.self c.log.new.step why
    c.in_err-log.ensures)

pub returns-in_err-take-clause-post : goal.returns-in_err-take-clause-post
returns-in_err-take-clause-post c =
    let step = c.hand_in-else-may_write.new.step in
    let handed = subst (λ (k : Kernel). IsHanded k c.args.asker c.args.work step) c.kernel-else-may_write.ensures
    c.in_ok-hand_in-2.ensures in
    let told = c.from_residual-in_err-take in
    let why = c.in_err-take.field-0.0 in
    told_so c.args.batched.now c.take.new.self c.args.asker c.args.work why c.args.looks told.result told.ensures.0 told.ensures.1
    (not_taken c.args.batched.now c.args.asker c.args.work step handed (sym c.may_write.ensures ∙ c.if-may_write.false)
    c.take.new.self c.take.new.step why c.in_err-take.ensures)

pub returns-in_ok-log-clause-post : goal.returns-in_ok-log-clause-post
returns-in_ok-log-clause-post c =
    let step = c.hand_in.new.step in
    let handed = subst (λ (k : Kernel). IsHanded k c.args.asker c.args.work step) c.kernel.ensures
    c.in_ok-hand_in.ensures in
    logged c.args.batched.now c.args.asker c.args.work step handed (sym c.may_write.ensures ∙ c.if-may_write.true)
    c.as_slice.result.now (c.as_slice.ensures.value ∙ c.in_ok-bytes.ensures) c.log.new.self c.log.new.step
    c.in_ok-log.field-0 c.args.looks c.in_ok-ahead.ahead c.in_ok-log.ensures c.in_ok-ahead.ensures

pub returns-in_ok-take-clause-post : goal.returns-in_ok-take-clause-post
returns-in_ok-take-clause-post c =
    let step = c.hand_in-else-may_write.new.step in
    let handed = subst (λ (k : Kernel). IsHanded k c.args.asker c.args.work step) c.kernel-else-may_write.ensures
    c.in_ok-hand_in-2.ensures in
    taken c.args.batched.now c.args.asker c.args.work step handed (sym c.may_write.ensures ∙ c.if-may_write.false)
    c.take.new.self c.take.new.step c.args.looks c.in_ok-ahead-2.ahead c.in_ok-take.ensures c.in_ok-ahead-2.ensures
