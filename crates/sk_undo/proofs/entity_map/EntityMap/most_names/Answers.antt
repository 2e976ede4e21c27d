-- A directory has at most as many names as there are names.
use Rattle.sk_undo.proofs.Cites.{refl, ap, sym, subst, ◌∙◌, Link}
use Rattle.std.specs.FinMap as map
use Rattle.sk_map.specs.Seen.{seen}
use Rattle.sk_undo.specs.Kinds.{link_cmp}
use Rattle.sk_undo.proofs.Cites.{◌≤◌, is_some}
use Rattle.std.specs.FinSet.{len}
use Rattle.sk_undo.proofs.ByKind.{kinds_of, joined_get}
use Rattle.sk_undo.proofs.FewNames.{within}
use Rattle.sk_undo.proofs.entity_map.EntityMap.most_names.Goals as goal

pub returns-clause-most : goal.returns-clause-most
returns-clause-most g c = λ d names inside.
    subst (λ n. len names ≤ n) (sym c.len.ensures.len)
    (within d (len names) names (seen link_cmp c.self.inside.links) refl (λ q there.
    ap is_some (sym (joined_get (kinds_of c.self.inside) (Link d q)) ∙ (λ i. map.get (c.self.view_is i) (Link d q))) ∙ inside q there))
