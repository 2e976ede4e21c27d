-- Its channel has no output yet.
use Rattle.sk_outputs.proofs.Names.{not-false, ◌≡◌, ◌&&◌, true, get_or, sym, ◌∙◌, ap, ◌==◌, is_empty}
use Rattle.sk_outputs.proofs.outputs.is_next.Goals as goal

pub returns-then-not-rests : goal.returns-then-not-rests
returns-then-not-rests g c =
    let ns = c.args.counts.now in
    let x = c.args.output.now in
    let bare : is_empty x.1 ≡ true = not-false (is_empty x.1) (sym c.rests.ensures ∙ c.if-not-rests.true) in
    ap (λ n. n == 0) (c.count_of.ensures ∙ ap (λ t. get_or ns t 0) c.to.ensures) ∙ ap (λ b. b && (get_or ns x.0.0 0 == 0)) (sym bare)
