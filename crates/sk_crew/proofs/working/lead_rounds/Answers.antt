-- The turn is of the process at the worker's place, and what it carries are replies.
use Rattle.sk_crew.proofs.Names.{refl, ◌∙◌, sym, subst, arith, Rounds}
use Rattle.sk_crew.proofs.Ahead.{is_due}
use Rattle.sk_crew.proofs.Turns.{Goes, begins_as, goes_on, new_begun, begun_one, over_begun}
use Rattle.sk_crew.proofs.Duties.{turn_number, replies_keep, replies_go, replies_begun, round_keeps}
use Rattle.sk_crew.proofs.working.lead_rounds.Goals as goal

pub loop-turn-preserved : goal.loop-turn-preserved
loop-turn-preserved g c =
    let plan = c.args.plan in
    let ps = c.args.processes.now in
    let number = c.args.lead.worker.number in
    let before = c.loop-turn.invariant in
    let pid = c.in-Some.pid in
    let r = c.loop-turn.rounds in
    let carries = c.carry-worker.ensures.replies in
    let w = c.carry-worker.result.worker in
    let carried = c.carry-worker.ensures.number ∙ before.number in
    let goes = replies_go plan.workers number ps r c.loop-turn.lead.worker w carries before.goes in
    let turn = c.go_at_once-worker in
    let due = is_due ps r pid (sym c.due.ensures ∙ c.in-Some.is) in
    let same = turn_number plan.ahead turn.result.1 w pid turn.result.0 turn.ensures.told in
    record {
      number = same ∙ carried;
      keeps = λ first keeps.
          round_keeps plan ps number pid r turn.result.1 w turn.result.0 goes due.1 turn.ensures.told
          (replies_keep plan ps c.loop-turn.lead.worker w (before.number ∙ first) carries (before.keeps first keeps));
      begun = λ new.
          begun_one plan.ahead pid c.loop-turn.turn turn.result.1 w turn.result.0 (omega arith) turn.ensures.told
          (replies_begun c.loop-turn.turn c.loop-turn.lead.worker w carries (before.begun new));
      goes = subst (λ (x : Rounds). Goes plan.workers ps number x turn.result.0) (sym turn.ensures.rounds)
          (goes_on plan.workers number plan.ahead pid ps r turn.result.1 w turn.result.0 goes due.0 due.1 turn.ensures.told same);
    }

pub loop-turn-init : goal.loop-turn-init
loop-turn-init g c = record {
  number = refl;
  keeps = λ first keeps. keeps;
  begun = λ new. new_begun c.args.lead.worker c.args.lead.worker refl new;
  goes = begins_as c.args.plan.workers c.args.lead.worker.number _ c.number.result c.args.processes.now c.new-rounds.result c.args.lead.worker
      c.new-rounds.ensures c.number.ensures refl refl;
}

pub returns-in_default : goal.returns-in_default
returns-in_default g c =
    let before = c.loop-turn.invariant in (
      before.number,
      before.keeps,
      λ new.
          over_begun c.args.plan.workers c.args.lead.worker.number c.loop-turn.turn c.args.plan.turns c.args.processes.now c.loop-turn.rounds c.loop-turn.lead.worker (omega (arith, c.loop-turn-test.true))
          (before.begun new) before.goes (sym c.due.ensures ∙ c.in_default.is),
    )
