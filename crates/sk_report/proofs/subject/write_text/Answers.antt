-- The room is as long as the longest text, so that nothing stands behind the literal.
use Rattle.sk_report.proofs.Names.{◌≡◌, ◌≤◌, ◌∙◌, ◌++◌, ◌∷◌, ℕ, List, [], OnOk, drop, length, subst, sym, arith}
use Rattle.sk_report.proofs.Names.{◌-◌, take, append-nil, drop_all, length-drop, take_all, ap₂}
use Rattle.std.specs.Io.KnownBytes.{Appends}
use Rattle.sk_report.specs.declared.subject.TheConstants.{TEXT_ROOM}
use Rattle.sk_words.specs.Spelling.{spelled}
use Rattle.sk_report.proofs.subject.write_text.Goals as goal

pub returns-in-Some : goal.returns-in-Some
returns-in-Some g c =
    let full : length c.args.room.now ≤ TEXT_ROOM = omega arith in
    let behind : drop TEXT_ROOM c.args.room.now ≡ [] = drop_all TEXT_ROOM c.args.room.now full in
    let put : drop c.in-Some.start c.put_literal.new.line ≡ spelled c.args.text.now ++ 10 ∷ [] =
    c.in-Some.ensures.line ∙ ap₂ (λ (b l : List ℕ). spelled b ++ 10 ∷ [] ++ l) c.as_slice-bytes.ensures.value behind ∙ append-nil _ in
    let line = c.put_literal.new.line in
    let start = c.in-Some.start in
    let left : length (drop start line) ≤ TEXT_ROOM - start =
    subst (λ (n : ℕ). n ≤ TEXT_ROOM - start) (sym (length-drop start line)) (omega (arith, full, c.put_literal.ensures.length)) in
    let whole : take (TEXT_ROOM - start) (drop start line) ≡ drop start line = take_all (TEXT_ROOM - start) (drop start line) left in
    subst (λ (l : List ℕ). OnOk c.write_all.result (Appends (g.W.Write.contents c.args.out.now) (g.W.Write.contents c.write_all.new.self) l)) (whole ∙ put) c.write_all.ensures.bytes
