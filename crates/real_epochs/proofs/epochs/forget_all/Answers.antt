-- The newest token is let go of.
use Rattle.real_epochs.proofs.Names.{Ok, Err, subst, nat_cmp, FailPost}
use Rattle.real_epochs.proofs.Reply.{forgot_more, forgot_none, never_stranger, still_out}
use Rattle.real_epochs.proofs.epochs.forget_all.Goals as goal

pub loop-begun-init : goal.loop-begun-init
loop-begun-init c = (c.requires, forgot_none _)

pub loop-begun-preserved : goal.loop-begun-preserved
loop-begun-preserved c =
    let both = still_out c.loop-begun.kernel c.loop-begun.line.items c.pop.new.self.items c.in-Some.begun c.loop-begun.invariant.0 c.in-Some.ensures.items
    c.in-Ok._gone c.fail.new.self (subst (λ r. FailPost nat_cmp c.loop-begun.kernel c.in-Some.begun.token r c.fail.new.self) c.in-Ok.is c.fail.ensures) in
    (both.0, forgot_more _ _ _ c.loop-begun.invariant.1 both.1)

pub unreachable-requires : goal.unreachable-requires
unreachable-requires c =
    never_stranger c.loop-begun.kernel c.loop-begun.line.items c.pop.new.self.items c.in-Some.begun c.loop-begun.invariant.0 c.in-Some.ensures.items
    c.in-Err._stranger c.fail.new.self (subst (λ r. FailPost nat_cmp c.loop-begun.kernel c.in-Some.begun.token r c.fail.new.self) c.in-Err.is c.fail.ensures)
