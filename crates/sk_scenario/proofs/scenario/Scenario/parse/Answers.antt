-- The fault of the line that was taken last, or of what belongs to it, is told of the whole text.
use Rattle.sk_scenario.proofs.Names.{rules, arith, ◌≡◌, ◌≤◌, ◌+◌, [], ◌∷◌, ◌++◌, length, refl, sym, lines}
use Rattle.sk_scenario.proofs.Names.{length-append, err_from_is_err_and, last_line, IsEdgeOf, IsScriptEdge}
use Rattle.sk_scenario.proofs.Told.{edge_of_text, edges_on, left_on, line_told}
use Rattle.sk_scenario.proofs.scenario.Scenario.parse.Goals as goal

pub loop-line-init : goal.loop-line-init
loop-line-init c = record { same = search rules; last = search rules; left = ([], search rules) }

pub loop-line-preserved : goal.loop-line-preserved
loop-line-preserved c = record {
  same = search rules;
  last = search rules;
  left = left_on (lines c.args.text.now) c.loop-line.cursor.lines c.next.new.self.lines c.go_on.new.cursor.lines c.in-Some.line.now c.loop-line.invariant.left c.in-Some.ensures.lines c.go_on.ensures.rest;
}

pub returns-in-Err : goal.returns-in-Err
returns-in-Err c =
    let text = lines c.args.text.now in
    let some : length c.loop-line.cursor.lines ≡ length (c.in-Some.line.now ∷ c.next.new.self.lines) = rw c.in-Some.ensures.lines refl in
    let within : c.loop-line.cursor.line + 1 ≤ length text = omega (arith, some, c.loop-line.invariant.last) in
    let told = line_told (IsScriptEdge text) c.loop-line.declarations (c.loop-line.cursor.line + 1) (length text) c.in-Some.line.now c.next.new.self.lines c.in-Err.kind (omega arith) within c.in-Err.ensures.0 in
    rw (c.fault.ensures, c.in-Some.ensures.line, c.loop-line.invariant.same, c.in-Some.ensures.lines) told

pub returns-in_err-section : goal.returns-in_err-section
returns-in_err-section c =
    let text = lines c.args.text.now in
    let rest = c.next.new.self.lines in
    let left = c.loop-line.invariant.left in
    let p = err_from_is_err_and c.from_residual.result c.from_residual.ensures.1 in
    let some : length c.loop-line.cursor.lines ≡ length (c.in-Some.line.now ∷ rest) = rw c.in-Some.ensures.lines refl in
    let last : last_line c.next.new.self ≡ length text = omega (arith, some, c.in-Some.ensures.line, c.loop-line.invariant.last) in
    let whole : length text ≡ length (left.0 ++ c.loop-line.cursor.lines) = rw left.1 refl in
    let first : length left.0 + 2 ≡ c.next.new.self.line + 1 = omega (arith, whole, length-append left.0 c.loop-line.cursor.lines, c.in-Some.ensures.line, c.loop-line.invariant.last) in
    let edge = edge_of_text text c.loop-line.cursor.lines rest c.in-Some.line.now c.loop-line.declarations (c.in-Ok.said, c.line.new.self) (c.next.new.self.line + 1) (last_line c.next.new.self) in
    let told =
    edges_on (IsEdgeOf c.in-Ok.said (c.next.new.self.line + 1) (last_line c.next.new.self) rest) (IsScriptEdge text) (c.next.new.self.line + 1) 1 (last_line c.next.new.self) c.in_err-section.field-0.0 _ (omega arith)
    (λ n e. edge n left c.in-Some.ensures.lines first (sym last) c.in-Ok.ensures e) c.in_err-section.ensures.said in
    rw (p.1, p.2, c.loop-line.invariant.same, c.in-Some.ensures.lines, c.in-Ok.ensures) (rw c.in-Some.ensures.line at (rw last at told))
