-- What is kept are just those.
use Rattle.sk_outputs.proofs.Names.{sym, ◌∙◌, ap, released, has, SaidView, said_at}
use Rattle.sk_outputs.proofs.Ready.{if_some, none_released, some_released}
use Rattle.sk_outputs.proofs.outputs.Outputs.next_channel.Goals as goal

pub returns-in_default-clause-some : goal.returns-in_default-clause-some
returns-in_default-clause-some g c =
    if_some c.first.result _ _ (λ to here none. some_released c.self.inside.said.items to (sym (c.self.invariant.0 to) ∙ here) (ap (λ (v : SaidView _). released (said_at v.said to)) c.self.view_is ∙ none)) c.first.ensures.some

pub returns-in_default-clause-none : goal.returns-in_default-clause-none
returns-in_default-clause-none g c = λ is to.
    ap (λ (v : SaidView _). released (said_at v.said to)) (sym c.self.view_is)
    ∙ none_released c.self.inside.said.items to (sym (c.self.invariant.0 to) ∙ ap (has to) (c.first.ensures.none is))
