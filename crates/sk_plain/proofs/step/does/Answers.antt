-- A private instruction is done, and another one is a row.
use Rattle.sk_plain.proofs.Cites.{◌≡◌, Ok, Some, [], sym, ap, subst, option_copied, does, PlansAfter}
use Rattle.std.specs.Option.{is_some}
use Rattle.sk_script.specs.declared.instruction.Input.TheVariants as inputs
use Rattle.sk_plain.proofs.Plans.{private_done, row_done}
use Rattle.sk_plain.proofs.step.does.Goals as goal

pub returns-then-is_private-clause-row : goal.returns-then-is_private-clause-row
returns-then-is_private-clause-row g c =
    let look = g.S.Look.look c.args.store.now in
    let p = c.args.process.now in
    let i = c.in-Some.next.now in
    let found : option_copied c.args.instruction ≡ Some i = ap option_copied c.in-Some.is in
    subst (λ o. PlansAfter look o inputs.None p [] c.args.pid (does c.args.pid p o) (Ok c.set_private.new.self)) (sym found)
    (subst (λ plan. PlansAfter look (Some i) inputs.None p [] c.args.pid (does c.args.pid p (Some i)) (Ok plan)) (sym c.set_private.ensures)
    (private_done look c.args.pid p i (sym c.if-is_private.ensures) (c.requires (ap is_some c.in-Some.is))))

pub returns-clause-row : goal.returns-clause-row
returns-clause-row g c =
    let look = g.S.Look.look c.args.store.now in
    let p = c.args.process.now in
    let i = c.in-Some.next.now in
    let found : option_copied c.args.instruction ≡ Some i = ap option_copied c.in-Some.is in
    subst (λ o. PlansAfter look o inputs.None p [] c.args.pid (does c.args.pid p o) (Ok c.acted.new.plan)) (sym found)
    (row_done look c.args.pid p i (Ok c.acted.new.plan) (sym c.if-is_private.ensures) c.in_ok-acted.ensures)
