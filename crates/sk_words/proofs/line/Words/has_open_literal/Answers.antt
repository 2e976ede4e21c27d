-- Without a quote there is no literal.
use Rattle.sk_words.proofs.Names.{rules, ◌≡◌, sym, ◌∙◌, ap, false, list_any, is_open, has_quote}
use Rattle.sk_words.proofs.Quoteless.{none_open}
use Rattle.sk_words.proofs.line.Words.has_open_literal.Goals as goal

pub returns-then-not-has_quote : goal.returns-then-not-has_quote
returns-then-not-has_quote c =
    let none : has_quote c.self.inside.rest.now ≡ false = search rules in
    sym (ap (list_any is_open) (sym c.self.view_is) ∙ none_open c.self.inside.rest.now none)
