-- No key stands twice.
use Rattle.sk_slots.proofs.Names.{ap, sym, subst, ◌∙◌, eq_by_cmp}
use Rattle.std.specs.List.{IsDistinct}
use Rattle.std.specs.Map.{keys_of}
use Rattle.sk_slots.proofs.Tables.{tests_in}
use Rattle.sk_slots.proofs.table.Table.keys.Goals as goal

pub returns-clause-rest : goal.returns-clause-rest
returns-clause-rest g c = c.keys.ensures.rest ∙ ap keys_of c.self.view_is

pub returns-clause-once : goal.returns-clause-once
returns-clause-once g c =
    subst (IsDistinct (eq_by_cmp g.K.Key.order)) (sym c.keys.ensures.rest)
    (subst (λ (T : g.row.K.Denot → g.row.K.Denot → _). IsDistinct T (keys_of c.self.inside.entries.entries)) (tests_in g.met.K.Ord.matches_eq g.met.K.Key.same) c.keys.ensures.unique)
