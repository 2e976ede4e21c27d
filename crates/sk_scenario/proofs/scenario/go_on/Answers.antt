-- What is told of a script is told of the line that began it.
use Rattle.sk_scenario.proofs.Names.{arith, ◌+◌, refl, err_from_is_err_and, last_line, IsEdge, IsEdgeOf}
use Rattle.sk_scenario.specs.declared.declarations.Said.TheVariants as says
use Rattle.sk_scenario.proofs.Told.{edges_on}
use Rattle.sk_scenario.proofs.scenario.go_on.Goals as goal

pub returns-in_err-script-in-Script-clause-said : goal.returns-in_err-script-in-Script-clause-said
returns-in_err-script-in-Script-clause-said c =
    let p = err_from_is_err_and c.from_residual.result c.from_residual.ensures.1 in
    let first = c.args.cursor.now.line + 1 in
    let last = last_line c.args.cursor.now in
    let ls = c.args.cursor.now.lines in
    rw (p.1, p.2, c.in-Script.is) (edges_on (IsEdge first last ls) (IsEdgeOf (says.Script c.in-Script.name) first last ls) first first last c.in_err-script-in-Script.field-0.0 _ (omega arith)
    (λ n e. (c.in-Script.name, refl, e)) c.in_err-script-in-Script.ensures.goes)
