-- The values are those of one map after another.
use Rattle.sk_undo.proofs.Cites.{ap, sym, ◌∙◌}
use Rattle.std.specs.FinMap as map
use Rattle.sk_undo.proofs.Cites.{◌++◌}
use Rattle.sk_undo.proofs.ByKind.{kinds_of, joined_values}
use Rattle.sk_undo.proofs.entity_map.EntityMap.values.Goals as goal

pub returns : goal.returns
returns g c =
    (λ i. c.values.ensures.rest i ++ (c.values-2.ensures.rest i ++ (c.values-3.ensures.rest i ++ (c.values-4.ensures.rest i ++ (c.values-5.ensures.rest i ++ c.values-6.ensures.rest i)))))
    ∙ sym (joined_values (kinds_of c.self.inside))
    ∙ ap map.values c.self.view_is
