-- The place where the test holds is that of the key.
use Rattle.sk_slots.proofs.Names.{ap, ◌∙◌, eq_by_cmp}
use Rattle.std.specs.Map.{keys_of}
use Rattle.std.specs.Prelude.{position}
use Rattle.sk_slots.proofs.Tables.{tests_in}
use Rattle.sk_slots.proofs.table.Table.find.Goals as goal

pub returns : goal.returns
returns g c =
    let k = c.args.key.now in
    c.get_index_of.ensures.index
    ∙ ap (λ (T : g.row.K.Denot → g.row.K.Denot → _). position (T k) (keys_of c.self.inside.entries.entries)) (tests_in g.met.K.Ord.matches_eq g.met.K.Key.same)
    ∙ ap (λ es. position (eq_by_cmp g.K.Key.order k) (keys_of es)) c.self.view_is
