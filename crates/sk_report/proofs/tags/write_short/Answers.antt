-- Nothing stands behind the guesses.
use Rattle.sk_report.proofs.Names.{◌≡◌, ◌≤◌, ◌∙◌, ◌++◌, ℕ, List, [], OnOk, drop, length, subst, sym, arith, ap, codes}
use Rattle.sk_report.proofs.Names.{◌-◌, take, append-nil, drop_all, length-drop, take_all}
use Rattle.std.specs.Io.KnownBytes.{Appends}
use Rattle.sk_report.specs.declared.tags.TheConstants.{ROOM}
use Rattle.sk_report.specs.Printed.{tags_text}
use Rattle.sk_report.proofs.tags.write_short.Goals as goal

pub returns : goal.returns
returns g c =
    let full : length c.args.room.now ≤ ROOM = omega arith in
    let behind : drop ROOM c.args.room.now ≡ [] = drop_all ROOM c.args.room.now full in
    let tags : drop c.put_tags-start.result c.put_tags-start.new.line ≡ tags_text c.args.ids.now =
    c.put_tags-start.ensures.line ∙ ap (λ (l : List ℕ). tags_text c.args.ids.now ++ l) behind ∙ append-nil _ in
    let line = c.put_words-start.new.line in
    let start = c.put_words-start.result in
    let put : drop start line ≡ codes " tags " ++ tags_text c.args.ids.now = c.put_words-start.ensures.line ∙ ap (λ (l : List ℕ). codes " tags " ++ l) tags in
    let left : length (drop start line) ≤ ROOM - start =
    subst (λ (n : ℕ). n ≤ ROOM - start) (sym (length-drop start line)) (omega (arith, full, c.put_words-start.ensures.length, c.put_tags-start.ensures.length)) in
    let whole : take (ROOM - start) (drop start line) ≡ drop start line = take_all (ROOM - start) (drop start line) left in
    subst (λ (l : List ℕ). OnOk c.write_all.result (Appends (g.W.Write.contents c.args.out.now) (g.W.Write.contents c.write_all.new.self) l)) (whole ∙ put) c.write_all.ensures.bytes
