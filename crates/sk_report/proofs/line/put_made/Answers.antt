-- Each part stands before those that were put earlier.
use Rattle.sk_report.proofs.Names.{rules, ◌≡◌, ℕ, List, ◌++◌, ap, ap₂, ◌∙◌, drop, codes, decimal}
use Rattle.sk_report.proofs.Regrouped.{regrouped}
use Rattle.sk_report.specs.Printed.{option_text, yes_or_no, made_text}
use Rattle.sk_report.proofs.line.put_made.Goals as goal

pub returns-clause-line : goal.returns-clause-line
unfolding made_text
returns-clause-line c =
    let p = c.args.process.now in
    let w = c.args.words.now in
    let rest = drop c.args.end c.args.line.now in
    let objects : c.from.result ≡ p.objects = search rules in
    let children : c.from-2.result ≡ p.children = search rules in
    let filled : drop c.put_words.result c.put_words.new.line ≡ codes "kids " ++ (decimal c.from-2.result ++ codes " objs " ++ (decimal c.from.result ++ codes " handler " ++ (option_text p.handler ++ codes " saved " ++ (option_text p.saved ++ codes " ended " ++ (yes_or_no p.ended ++ w ++ rest))))) =
    c.put_words.ensures.line
    ∙ ap (λ (l : List ℕ). codes "kids " ++ l) (c.put_number-start-2.ensures.line
    ∙ ap (λ (l : List ℕ). decimal c.from-2.result ++ codes " objs " ++ l) (c.put_number-start.ensures.line
    ∙ ap (λ (l : List ℕ). decimal c.from.result ++ codes " handler " ++ l) (c.put_option-start-2.ensures.line
    ∙ ap (λ (l : List ℕ). option_text p.handler ++ codes " saved " ++ l) (c.put_option-start.ensures.line
    ∙ ap (λ (l : List ℕ). option_text p.saved ++ codes " ended " ++ l) c.put_yes_or_no-start.ensures.line)))) in
    filled
    ∙ ap₂ (λ (k o : ℕ). codes "kids " ++ (decimal k ++ codes " objs " ++ (decimal o ++ codes " handler " ++ (option_text p.handler ++ codes " saved " ++ (option_text p.saved ++ codes " ended " ++ (yes_or_no p.ended ++ w ++ rest)))))) children objects
    ∙ regrouped (codes "kids ") (decimal p.children) (codes " objs ") (decimal p.objects) (codes " handler ") (option_text p.handler) (codes " saved ") (option_text p.saved) (codes " ended ") (yes_or_no p.ended) w rest
