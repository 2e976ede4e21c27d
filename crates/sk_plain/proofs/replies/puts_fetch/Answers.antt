-- The bytes of the copy that is there are read whole, and nothing is said.
use Rattle.sk_plain.proofs.Cites.{◌≡◌, ◌<◌, ◌^◌, Ok, Some, sym, ◌∙◌, ap, subst, arith, rules, Ask, Copy, from_copy}
use Rattle.sk_plain.proofs.Cites.{PlansRow, Row, ProcessChange, Fills, changed_by, ContentView}
use Rattle.sk_objects.specs.declared.value.Value.TheVariants as values
use Rattle.sk_script.specs.declared.instruction.Input.TheVariants as inputs
use Rattle.sk_store.specs.declared.entity_state.EntityState.TheVariants as stored
use Rattle.sk_plain.specs.declared.plan.Looks.TheVariants as looks
use Rattle.sk_plain.specs.declared.plan.Beside.TheVariants as beside
use Rattle.sk_plain.proofs.Plans.{row_after, row_quiet}
use Rattle.sk_plain.proofs.Reading.{fetch_plans}
use Rattle.sk_plain.proofs.replies.puts_fetch.Goals as goal

pub returns-in-Some-Value-Copy-clause-row : goal.returns-in-Some-Value-Copy-clause-row
returns-in-Some-Value-Copy-clause-row g c = λ is i.
    let look = g.S.Look.look c.args.store.now in
    let p = c.args.process.now in
    let name = c.args.name.now in
    let content = c.content-content.result.now in
    let below : content.version < 2 ^ 63 = omega (arith, c.version.ensures.value, c.version.ensures.limit) in
    let held : look (Copy name) ≡ Some (stored.Value (values.Copy c.in-Some-Value-Copy.held)) = search rules in
    let here = held ∙ ap (λ (h : ContentView). Some (stored.Value (values.Copy h))) (sym c.content-content.ensures) in
    let row = c.looked.ensures ∙ ap (λ (ch : ProcessChange). let r : Row = record { change = ch; looks = looks.At (Copy name); beside = beside.Nothing } in r) (c.fetched.ensures ∙ ap (λ v. Fills 0 512 (Some v)) c.version.ensures.value) in
    row_after look i inputs.Good p c.args.pid (Ask (Copy name) (from_copy c.args.pid p)) c.looked.result
    (subst (λ r. PlansRow look p c.args.pid (Ask (Copy name) (from_copy c.args.pid p)) (Ok r)) (sym row)
    (fetch_plans look p c.args.pid name content here c.known.ensures.1 below c.requires))

pub returns-in-Some-Value-Copy-clause-quiet : goal.returns-in-Some-Value-Copy-clause-quiet
returns-in-Some-Value-Copy-clause-quiet g c = λ is i.
    let look = g.S.Look.look c.args.store.now in
    let p = c.args.process.now in
    row_quiet (changed_by look c.looked.result.looks p c.looked.result.change) p c.looked.result.beside
