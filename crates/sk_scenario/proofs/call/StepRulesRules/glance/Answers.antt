-- A line of a step, a guess or a decision, from its bytes.
use Rattle.sk_script.specs.declared.instruction.Input.TheVariants as inputs
use Rattle.sk_scenario.proofs.Glances.{begins_step, begins_guess, begins_commit, begins_fail, ends_none, ends_good}
use Rattle.sk_scenario.proofs.call.StepRulesRules.glance.Goals as goal

pub returns-in-Some : goal.returns-in-Some
returns-in-Some c =
    let tail = c.in-Some.tail.now in
    let rest = c.in_ok-rest.rest.now in
    let d = c.in_ok-pid.ensures in
    let ends = ends_none tail d.1 rest d.0 c.in_ok-rest.ensures.0 c.in_ok-pid.pid d.2 d.3 c.in_ok-rest.ensures.1 d.4 in
    rw c.none.ensures (begins_step c.args.text.now tail rest c.in_ok-pid.pid inputs.None c.in-Some.ensures ends, tt)

pub returns-in-Some-behind_guess : goal.returns-in-Some-behind_guess
returns-in-Some-behind_guess c =
    let tail = c.in-Some-behind_guess.tail.now in
    let rest = c.in_ok-rest-2.rest.now in
    let d = c.in_ok-pid-2.ensures in
    let ends = ends_good tail d.1 rest d.0 c.in_ok-rest-2.ensures.0 c.in_ok-pid-2.pid d.2 d.3 c.in_ok-rest-2.ensures.1 d.4 in
    rw c.good.ensures (begins_guess c.args.text.now tail rest c.in_ok-pid-2.pid inputs.Good c.in-Some-behind_guess.ensures ends, tt)

pub returns-in-Some-number_line : goal.returns-in-Some-number_line
returns-in-Some-number_line c =
    let line = c.in-Some-number_line.line in
    (begins_commit c.args.text.now c.in-Some-behind_commit.tail.now line.1.now line.0 c.in-Some-behind_commit.ensures c.in-Some-number_line.ensures, tt)

pub returns-in-Some-number_line-2 : goal.returns-in-Some-number_line-2
returns-in-Some-number_line-2 c =
    let line = c.in-Some-number_line-2.line in
    (begins_fail c.args.text.now c.in_ok-tail.tail.now line.1.now line.0 c.in_ok-tail.ensures c.in-Some-number_line-2.ensures, tt)
