use Rattle.sk_log.proofs.Names.{ℕ, ◌+◌, List, length, refl, sym, ap, subst, arith, length-drop, Ends, Reading}
use Rattle.sk_log.proofs.Names.{KeptBegin, Settles, HasRead, IsNext, the_view}
use Rattle.sk_log.proofs.Reading.{kept_ends, kept_few, passed}
use Rattle.sk_log.proofs.recovery.Recovery.pass.Goals as goal

pub returns-in-Whole-clause-passed : goal.returns-in-Whole-clause-passed
returns-in-Whole-clause-passed c = λ segment first payloads bytes payload read next.
    let inside = c.self.inside in
    let begins = subst (KeptBegin inside.segment inside.number inside.unread) c.in-Whole.is c.self.invariant.kept in
    let settles = subst (λ (old : List ℕ). Settles inside.segment (inside.number + 1) old c.settle-front.new.unread c.settle-front.result.0 c.settle-front.result.1) c.pass.ensures c.settle-front.ensures in
    passed segment first payloads bytes payload (the_view inside) c.in-Whole.len c.settle-front.new.unread c.settle-front.result.0 c.settle-front.result.1
    (subst (HasRead segment first payloads bytes) (sym c.self.view_is) read) (subst (λ (r : Reading). IsNext r payload) (sym c.self.view_is) next) c.in-Whole.is begins settles

pub returns-in_default : goal.returns-in_default
returns-in_default c =
    let inside = c.self.inside in
    let ends = subst (λ (r : Reading). Ends r.segment r.number r.unread) c.self.view_is (kept_ends inside.segment inside.number inside.unread inside.front c.in_default.not-Whole c.self.invariant.kept) in
    record {
      passed = λ segment first payloads bytes payload read next. absurd (ends payload next.more next.made next.begins);
      shorter = λ payload next. absurd (ends payload next.more next.made next.begins);
      none = λ _. refl;
    }

pub returns-in-Whole-clause-shorter : goal.returns-in-Whole-clause-shorter
returns-in-Whole-clause-shorter c = λ payload next.
    let inside = c.self.inside in
    let begins = subst (KeptBegin inside.segment inside.number inside.unread) c.in-Whole.is c.self.invariant.kept in
    let few = kept_few inside.segment (inside.number + 1) c.pass.new.self c.settle-front.new.unread c.settle-front.result.0 c.settle-front.result.1 c.settle-front.ensures in
    omega (arith, few, begins.within, ap length c.pass.ensures, length-drop (24 + c.in-Whole.len) inside.unread, ap (λ (r : Reading). length r.unread) c.self.view_is)
