-- A text that is said depends on no guess.
use Rattle.sk_plain.proofs.Cites.{subst, sym, input_in, said_by, AllClear, seen_with}
use Rattle.std.specs.FinMap as map
use Rattle.sk_plain.proofs.Clear.{said_clear}
use Rattle.sk_plain.proofs.plain.Plain.step.Goals as goal

pub invariant_of-self-2 : goal.invariant_of-self-2
invariant_of-self-2 c =
    let plan = seen_with (map.get c.self.inside.store) c.self.inside.scripts c.args.pid (input_in c.of-input.result) c.in-Ok.plan in
    subst AllClear (sym c.in_ok-perform_plan.ensures.says) (said_clear c.self.inside.texts (said_by plan) c.self.invariant)
