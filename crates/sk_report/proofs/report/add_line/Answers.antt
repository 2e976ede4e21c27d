-- What was put is the line among all that are listed; nothing stands behind it.
use Rattle.sk_report.proofs.Names.{◌≡◌, ◌≤◌, ◌∙◌, ◌-◌, ◌++◌, ℕ, List, OnOk, drop, take, length, ap, subst, sym, arith}
use Rattle.sk_report.proofs.Names.{length-drop, take_all}
use Rattle.std.specs.Prelude.{Result, Ok, Err, if◌then◌else◌}
use Rattle.std.specs.Result.{is_ok}
use Rattle.sk_report.specs.Listed.{line_said}
use Rattle.sk_report.specs.declared.line.TheConstants.{ROOM}
use Rattle.sk_report.proofs.report.add_line.Goals as goal

added : {A E : Type 0} (r : Result A E) (new old other line : List ℕ) → new ≡ (if is_ok r then old ++ other else old) → other ≡ line → OnOk r (new ≡ old ++ line)
added (Ok x) new old other line is same = is ∙ ap (λ (l : List ℕ). old ++ l) same
added (Err e) new old other line is same = tt

pub returns-in-Some : goal.returns-in-Some
returns-in-Some g c =
    let room = c.put_line.new.room in
    let start = c.in-Some.start in
    let line : drop start room ≡ line_said g.S.Subject.end_with c.args.all.now c.args.one.now = c.in-Some.ensures.line c.args.all.now in
    let full : length room ≤ ROOM = omega arith in
    let left : length (drop start room) ≤ ROOM - start =
    subst (λ (n : ℕ). n ≤ ROOM - start) (sym (length-drop start room)) (omega (arith, full)) in
    let whole : take (ROOM - start) (drop start room) ≡ drop start room = take_all (ROOM - start) (drop start room) left in
    added c.extend_from_slice.result c.extend_from_slice.new.self.items c.args.lines.now.items _ _ c.extend_from_slice.ensures.items (whole ∙ line)
