-- What is known of a guess is its status, whatever statuses agree with what is kept.
use Rattle.sk_speculator.proofs.Names.{◌≡◌, Some, sym, ◌∙◌, ap, subst, IfSome, known, Parts}
use Rattle.sk_speculator.proofs.Afterwards.{known_agrees}
use Rattle.sk_speculator.proofs.speculator.Speculator.status.Goals as goal

pub returns-clause-agrees : goal.returns-clause-agrees
returns-clause-agrees g c = λ status are.
    let m = c.args.self.now in
    subst (λ o. IfSome o (λ s. status c.args.id ≡ Some s)) (sym (c.status.ensures ∙ ap (λ (p : Parts _ _ _). known p.guesses p.opens c.args.id) c.self.view_is)) (known_agrees m.guesses m.opens status c.args.id are)
