-- The lease that was fresh has run some, and no more than so many.
use Rattle.sk_crew.proofs.Names.{arith, subst, IfSome, IsLent}
use Rattle.sk_crew.proofs.Ahead.{has_run}
use Rattle.sk_crew.proofs.working.run_ahead.Goals as goal

pub returns-else-count-eq0 : goal.returns-else-count-eq0
returns-else-count-eq0 c = λ pid lent.
    has_run c.args.ahead pid c.in-Some.lease c.run.new.self (subst (λ o. IfSome o (IsLent pid)) c.in-Some.is lent) c.run.ensures
    (omega (c.count.ensures, c.if-count-eq0.false, arith))
