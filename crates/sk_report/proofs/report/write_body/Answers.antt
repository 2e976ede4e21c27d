-- The terminals that were gathered are written, and behind them the lines.
use Rattle.sk_report.proofs.Names.{rules, ◌≡◌, ◌++◌, ◌∙◌, ℕ, List, [], ap, subst, flat_map, IfOk, Appends, Appends-trans}
use Rattle.sk_report.proofs.Names.{line_of, with_terminals, entities_of}
use Rattle.sk_report.specs.Listed.{terminals_said, lines_said}
use Rattle.sk_report.proofs.Listed.{terminals_listed, lines_listed}
use Rattle.sk_report.proofs.report.write_body.Goals as goal

pub returns : goal.returns
returns g c =
    let look = g.S.Subject.look c.args.subject.now in
    let tags = g.S.Subject.tags c.args.subject.now in
    let end = g.S.Subject.end_with in
    let all = c.args.all.now in
    let es = entities_of all in
    let told : List ℕ → List ℕ = flat_map (g.S.Subject.terminal_lines c.args.subject.now) in
    let out = g.W.Write.contents c.args.out.now in
    let mid = g.W.Write.contents c.write_terminals.new.out in
    let new = g.W.Write.contents c.write_all.new.self in
    let no_number : c.new-numbers.result.keys ≡ [] = search rules in
    let no_line : c.new-lines.result.items ≡ [] = search rules in
    let numbers : c.gather.new.numbers.keys ≡ with_terminals look [] es =
    c.in_ok-gather.ensures.terminals ∙ ap (λ (ks : List ℕ). terminals_said ks all) no_number
    ∙ terminals_listed look tags all c.requires.present [] in
    let lines : c.gather.new.lines.items ≡ flat_map (line_of look (λ e. end (tags e)) es) es =
    c.in_ok-gather.ensures.lines ∙ ap (λ (l : List ℕ). l ++ lines_said end all) no_line
    ∙ lines_listed look tags all c.requires.present end in
    let all_found : IfOk c.collect.result (λ found. found.items ≡ c.gather.new.numbers.keys) = search rules in
    let found : c.in_ok-terminals.terminals.items ≡ c.gather.new.numbers.keys =
    subst (λ r. IfOk r (λ found. found.items ≡ c.gather.new.numbers.keys)) c.in_ok-terminals.was all_found in
    let shown : c.deref.result.now ≡ with_terminals look [] es = cc (c.deref.ensures.value, found, numbers) in
    let put : c.deref-2.result.now ≡ flat_map (line_of look (λ e. end (tags e)) es) es = cc (c.deref-2.ensures.value, lines) in
    Appends-trans out mid new _ _
    (subst (λ (ts : List ℕ). Appends out mid (told ts)) shown c.in_ok-write_terminals.ensures)
    (subst (Appends mid new) put c.in_ok-write_all.ensures.bytes)
