-- The turn is of the process at the worker's place.
use Rattle.sk_crew.proofs.Names.{refl, ap, ◌∙◌, sym, subst, arith, WorkerView, Rounds, KeepsTo}
use Rattle.sk_crew.proofs.Ahead.{is_due, lent_first}
use Rattle.sk_crew.proofs.Turns.{Goes, begins_as, goes_on, new_begun, begun_one, over_begun}
use Rattle.sk_crew.proofs.Duties.{turn_number, round_keeps}
use Rattle.sk_crew.proofs.working.work.Goals as goal

pub loop-turn-preserved : goal.loop-turn-preserved
loop-turn-preserved g c =
    let plan = c.args.plan in
    let ps = c.args.processes.now in
    let number = c.args.worker.number in
    let before = c.loop-turn.invariant in
    let pid = c.in-Some.pid in
    let r = c.loop-turn.rounds in
    let w = c.loop-turn.worker in
    let carried = before.number in
    let goes = before.goes in
    let turn = c.go_on-back in
    let due = is_due ps r pid (sym c.due.ensures ∙ c.in-Some.is) in
    let same = turn_number plan.ahead turn.result.1 w pid turn.result.0 turn.ensures.told in
    record {
      number = same ∙ carried;
      keeps = λ keeps. round_keeps plan ps number pid r turn.result.1 w turn.result.0 goes due.1 turn.ensures.told (before.keeps keeps);
      begun = λ new. begun_one plan.ahead pid c.loop-turn.turn turn.result.1 w turn.result.0 (omega arith) turn.ensures.told (before.begun new);
      goes = subst (λ (x : Rounds). Goes plan.workers ps number x turn.result.0) (sym turn.ensures.rounds)
          (goes_on plan.workers number plan.ahead pid ps r turn.result.1 w turn.result.0 goes due.0 due.1 turn.ensures.told same);
      lent = turn.ensures.lent;
    }

pub loop-turn-init : goal.loop-turn-init
loop-turn-init g c =
    let same = c.lease-worker.ensures.same in record {
      number = ap (λ (w : WorkerView). w.number) same;
      keeps = λ keeps. subst (KeepsTo c.args.plan c.args.processes.now) (sym same) keeps;
      begun = λ new. new_begun c.args.worker c.lease-worker.result.0 same new;
      goes = begins_as c.args.plan.workers c.args.worker.number _ c.number.result c.args.processes.now c.new-rounds.result c.lease-worker.result.0
          c.new-rounds.ensures c.number.ensures (ap (λ (w : WorkerView). w.number) same) refl;
      lent = lent_first c.args.processes.now c.new-rounds.result c.due-first.result c.lease-worker.result.1 c.due-first.ensures c.lease-worker.ensures.fresh;
    }

pub returns-in_default : goal.returns-in_default
returns-in_default g c =
    let before = c.loop-turn.invariant in (
      before.number,
      before.keeps,
      λ new.
          over_begun c.args.plan.workers c.args.worker.number c.loop-turn.turn c.args.plan.turns c.args.processes.now c.loop-turn.rounds c.loop-turn.worker (omega (arith, c.loop-turn-test.true))
          (before.begun new) before.goes (sym c.due.ensures ∙ c.in_default.is),
    )
