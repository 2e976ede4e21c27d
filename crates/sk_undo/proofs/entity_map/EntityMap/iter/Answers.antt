-- The entries are those of one map after another.
use Rattle.sk_undo.proofs.Cites.{◌++◌, ap, sym, ◌∙◌, Proc, Sig, Exit, Obj, Copy}
use Rattle.std.specs.FinMap as map
use Rattle.sk_undo.specs.Kinds.{link_of, lifted}
use Rattle.sk_undo.proofs.ByKind.{kinds_of, joined_entries}
use Rattle.sk_undo.proofs.entity_map.EntityMap.iter.Goals as goal

pub returns : goal.returns
returns g c =
    (λ i. lifted Proc (c.iter.ensures.rest i) ++ (lifted Sig (c.iter-2.ensures.rest i) ++ (lifted Exit (c.iter-3.ensures.rest i) ++ (lifted Obj (c.iter-4.ensures.rest i) ++ (lifted link_of (c.iter-5.ensures.rest i) ++ lifted Copy (c.iter-6.ensures.rest i))))))
    ∙ sym (joined_entries (kinds_of c.self.inside))
    ∙ ap map.entries c.self.view_is
