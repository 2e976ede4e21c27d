-- It stands where those before it are of other channels.
use Rattle.sk_outputs.proofs.Names.{◌<◌, length, refl, sym, ◌∙◌, ap, arith, true≢false, SaidView, first_of, said_at}
use Rattle.std.proofs.Common.{Some}
use Rattle.sk_outputs.proofs.Firsts.{first_none, first_there}
use Rattle.sk_outputs.proofs.outputs.Outputs.first.Goals as goal

pub returns-in-Some : goal.returns-in-Some
returns-in-Some g c =
    let xs = c.self.inside.said.items in
    let near : c.others_before.result < length xs = omega (arith, c.in-Some.ensures.variant.0 refl, c.self.inside.said.ok.0) in
    ap Some c.text.ensures
    ∙ first_there c.args.to c.others_before.result xs c.in-Some.output.now c.others_before.ensures near c.in-Some.ensures.lookup
    ∙ ap (λ (v : SaidView _). first_of (said_at v.said c.args.to)) c.self.view_is

pub returns-in-None : goal.returns-in-None
returns-in-None g c =
    let xs = c.self.inside.said.items in
    first_none c.args.to c.others_before.result xs c.others_before.ensures
    (λ near. true≢false (sym (c.in-None.ensures.variant.1 (omega (arith, near, c.self.inside.said.ok.0)))))
    ∙ ap (λ (v : SaidView _). first_of (said_at v.said c.args.to)) c.self.view_is
