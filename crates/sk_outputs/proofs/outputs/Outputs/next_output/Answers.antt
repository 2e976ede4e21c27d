-- A channel that has an output to take has its first one to take.
use Rattle.sk_outputs.proofs.Names.{sym, ◌∙◌, ap, slice_get, option_map, released, SaidView, first_of, said_at}
use Rattle.sk_outputs.proofs.Ready.{next_is, none_released}
use Rattle.sk_outputs.proofs.outputs.Outputs.next_output.Goals as goal

pub returns-then-not-contains : goal.returns-then-not-contains
returns-then-not-contains g c =
    let none = none_released c.self.inside.said.items c.args.to (sym (c.self.invariant.0 c.args.to) ∙ sym c.contains.ensures ∙ c.if-not-contains.true) in
    ap (λ ws. option_map (λ w. w.1) (slice_get ws 0)) (sym none)
    ∙ ap (λ (v : SaidView _). option_map (λ w. w.1) (slice_get (released (said_at v.said c.args.to)) 0)) c.self.view_is

pub returns : goal.returns
returns g c =
    let ready = sym (c.self.invariant.0 c.args.to) ∙ sym c.contains.ensures ∙ c.if-not-contains.false in
    c.first.ensures
    ∙ ap (λ (v : SaidView _). first_of (said_at v.said c.args.to)) (sym c.self.view_is)
    ∙ next_is c.self.inside.said.items c.args.to ready
    ∙ ap (λ (v : SaidView _). option_map (λ w. w.1) (slice_get (released (said_at v.said c.args.to)) 0)) c.self.view_is
