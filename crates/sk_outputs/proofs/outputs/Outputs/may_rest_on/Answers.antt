-- None depends on a guess above the newest.
use Rattle.sk_outputs.proofs.Names.{◌<◌, sym, ◌∙◌, ap, arith, SaidView, some_rest}
use Rattle.std.proofs.lemmas.Bool.{leb-false}
use Rattle.sk_outputs.proofs.outputs.Outputs.may_rest_on.Goals as goal

pub returns : goal.returns
returns g c = λ no.
    let above : c.self.inside.newest < c.args.id = omega (arith, leb-false c.number.result c.self.inside.newest no, c.number.ensures.value) in
    ap (λ (v : SaidView _). some_rest v.said c.args.id) (sym c.self.view_is) ∙ c.self.invariant.3 c.args.id above
