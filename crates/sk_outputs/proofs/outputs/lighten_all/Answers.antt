-- What the pass takes out of each.
use Rattle.sk_outputs.proofs.Names.{rules, without}
use Rattle.sk_outputs.proofs.Passes.{all_changed}
use Rattle.sk_outputs.proofs.outputs.lighten_all.Goals as goal

pub returns : goal.returns
returns g c = all_changed _ (λ x. (x.0, without c.args.id x.1)) _ (λ x b t y step. search rules) _ _ c.retain_mut.ensures.filtered
