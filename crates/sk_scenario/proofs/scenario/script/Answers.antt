-- The script's lines are read, and then the line that ends it, or none does.
use Rattle.sk_scenario.proofs.Names.{arith, ◌≡◌, ◌≤◌, ◌+◌, ◌-◌, ◌∷◌, ◌++◌, length, refl, inl, ◌∙◌, length-append}
use Rattle.sk_scenario.proofs.Names.{err_from_is_err_and, last_line, IsEdge}
use Rattle.sk_scenario.proofs.Scripts.{cut_none, cut_end}
use Rattle.sk_scenario.proofs.Told.{behind_script, script_told, end_told}
use Rattle.sk_scenario.proofs.scenario.script.Goals as goal

pub returns-in_err-script-clause-goes : goal.returns-in_err-script-clause-goes
returns-in_err-script-clause-goes c =
    let taken = c.take_script-taken in
    let n = c.args.cursor.now.line + 1 in
    let ls = taken.result.lines.lines in
    let p = err_from_is_err_and c.from_residual.result c.from_residual.ensures.1 in
    let last : last_line taken.result.lines ≡ c.args.cursor.now.line + 1 + length taken.result.lines.lines - 1 = omega (arith, taken.ensures.first) in
    let count : last_line c.args.cursor.now + 1 ≡ n + length c.args.cursor.now.lines = omega arith in
    let told = rw taken.ensures.first at (rw last at c.in_err-script.ensures) in
    rw (p.1, p.2) (script_told taken.result.end (λ line. line.now) c.args.declarations.now c.args.name n (last_line c.args.cursor.now) ls taken.new.cursor.lines c.args.cursor.now.lines c.in_err-script.field-0.0 (omega arith) taken.ensures.none taken.ensures.end count told)

pub returns-in_err-script-clause-rest : goal.returns-in_err-script-clause-rest
returns-in_err-script-clause-rest c =
    let taken = c.take_script-taken in
    behind_script taken.result.end (λ line. line.now) taken.result.lines.lines taken.new.cursor.lines c.args.cursor.now.lines taken.ensures.end

pub returns-in-None-clause-goes : goal.returns-in-None-clause-goes
returns-in-None-clause-goes c =
    let taken = c.take_script-taken in
    let n = c.args.cursor.now.line + 1 in
    let ls = taken.result.lines.lines in
    let cut = rw c.in-None.is at taken.ensures.end in
    let line = rw c.in-None.is at taken.ensures.line in
    let said = rw taken.ensures.first at c.in_ok-script.ensures in
    let last : c.args.cursor.now.line + 1 + length taken.result.lines.lines - 1 ≡ taken.new.cursor.line = omega (arith, line) in
    rw (cut_none c.args.declarations.now c.args.name n ls c.args.cursor.now.lines taken.ensures.none cut.0, said, c.fault.ensures, last) (inl refl)

pub returns-in-Ok-clause-goes : goal.returns-in-Ok-clause-goes
returns-in-Ok-clause-goes c =
    let taken = c.take_script-taken in
    let n = c.args.cursor.now.line + 1 in
    let ls = taken.result.lines.lines in
    let cut = rw c.in-Some.is at taken.ensures.end in
    let line = rw c.in-Some.is at taken.ensures.line in
    let said = rw taken.ensures.first at c.in_ok-script.ensures in
    let place : c.args.cursor.now.line + 1 + length taken.result.lines.lines ≡ taken.new.cursor.line = omega (arith, line) in
    cut_end c.args.declarations.now c.args.name n ls c.in-Some.end.now taken.new.cursor.lines c.args.cursor.now.lines taken.ensures.none cut.0 cut.1
    ∙ rw (place, said, c.in-Ok.ensures) refl

pub returns-in-Err-clause-goes : goal.returns-in-Err-clause-goes
returns-in-Err-clause-goes c =
    let taken = c.take_script-taken in
    let n = c.args.cursor.now.line + 1 in
    let ls = taken.result.lines.lines in
    let cut = rw c.in-Some.is at taken.ensures.end in
    let line = rw c.in-Some.is at taken.ensures.line in
    let said = rw taken.ensures.first at c.in_ok-script.ensures in
    let place : c.args.cursor.now.line + 1 + length taken.result.lines.lines ≡ taken.new.cursor.line = omega (arith, line) in
    let some : length c.args.cursor.now.lines ≡ length (taken.result.lines.lines ++ c.in-Some.end.now ∷ taken.new.cursor.lines) = rw cut.0 refl in
    let within : c.args.cursor.now.line + 1 + length taken.result.lines.lines ≤ last_line c.args.cursor.now = omega (arith, some, length-append taken.result.lines.lines (c.in-Some.end.now ∷ taken.new.cursor.lines)) in
    let told = end_told (IsEdge n (last_line c.args.cursor.now) c.args.cursor.now.lines) c.args.declarations.now c.args.name n (last_line c.args.cursor.now) ls c.in-Some.end.now taken.new.cursor.lines c.args.cursor.now.lines _ c.in-Err.kind taken.ensures.none cut.0 cut.1 said within c.in-Err.ensures.0 in
    rw (c.fault-in-Err.ensures, ← place) told

pub returns-in-None-clause-rest : goal.returns-in-None-clause-rest
returns-in-None-clause-rest c =
    let taken = c.take_script-taken in
    behind_script taken.result.end (λ line. line.now) taken.result.lines.lines taken.new.cursor.lines c.args.cursor.now.lines taken.ensures.end

pub returns-in-Ok-clause-rest : goal.returns-in-Ok-clause-rest
returns-in-Ok-clause-rest c =
    let taken = c.take_script-taken in
    behind_script taken.result.end (λ line. line.now) taken.result.lines.lines taken.new.cursor.lines c.args.cursor.now.lines taken.ensures.end

pub returns-in-Err-clause-rest : goal.returns-in-Err-clause-rest
returns-in-Err-clause-rest c =
    let taken = c.take_script-taken in
    behind_script taken.result.end (λ line. line.now) taken.result.lines.lines taken.new.cursor.lines c.args.cursor.now.lines taken.ensures.end
