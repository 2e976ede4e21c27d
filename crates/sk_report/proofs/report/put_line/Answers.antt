-- Behind what the entity has stands the end of its line, which was put before.
use Rattle.sk_report.proofs.Names.{◌≡◌, ◌≤◌, ◌∙◌, ◌++◌, ◌∷◌, ℕ, List, [], drop, length, ap, sym, arith, drop_all}
use Rattle.sk_report.proofs.Ended.{put_before, known_alone}
use Rattle.sk_report.proofs.Listed.{value_alone}
use Rattle.sk_report.specs.Listed.{held_said}
use Rattle.sk_report.specs.Printed.{process_text, value_text}
use Rattle.sk_report.specs.declared.line.TheConstants.{ROOM}
use Rattle.sk_report.proofs.report.put_line.Goals as goal

pub returns-in-Process-clause-line : goal.returns-in-Process-clause-line
returns-in-Process-clause-line g c =
    let p = c.args.one.now in
    let end = g.S.Subject.end_with in
    let full : length c.args.room.now ≤ ROOM = omega arith in
    let rest : drop c.in_ok-end.end c.put_end.new.line ≡ end p.tags.now ++ 10 ∷ [] =
    c.in_ok-end.ensures.line ∙ ap (λ (l : List ℕ). end p.tags.now ++ 10 ∷ l) (drop_all ROOM c.args.room.now full) in
    put_before {K = Unit {0}} end p c.put_with_process.result c.put_with_process.new.line (process_text c.process.result.now) _
    (λ _ all. ap process_text c.process.ensures ∙ ap (held_said all p.entity) (sym c.in-Process.is)) rest
    (known_alone c.put_with_process.result) c.put_with_process.ensures.line

pub returns-in-Value-clause-line : goal.returns-in-Value-clause-line
returns-in-Value-clause-line g c =
    let p = c.args.one.now in
    let end = g.S.Subject.end_with in
    let full : length c.args.room.now ≤ ROOM = omega arith in
    let rest : drop c.in_ok-end.end c.put_end.new.line ≡ end p.tags.now ++ 10 ∷ [] =
    c.in_ok-end.ensures.line ∙ ap (λ (l : List ℕ). end p.tags.now ++ 10 ∷ l) (drop_all ROOM c.args.room.now full) in
    let v = c.in-Value.value in
    put_before end p c.put_with_value.result c.put_with_value.new.line (value_text v) _
    (λ other all. value_alone all p.entity v other ∙ ap (held_said all p.entity) (sym c.in-Value.is)) rest
    c.put_with_value.ensures.kind c.put_with_value.ensures.line
