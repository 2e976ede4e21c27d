-- What is listed are the entries of the map.
use Rattle.std.proofs.Common.{ap, ◌∙◌}
use Rattle.std.specs.Prelude.{◌++◌, map as each}
use Rattle.std.specs.FinMap as fin
use Rattle.sk_store.specs.Present.{shown, shown_alone}
use Rattle.sk_store.proofs.Listed.{keys_listed, each_listed}
use Rattle.sk_store.proofs.store.Store.entries.Goals as goal

pub returns-clause-keys : goal.returns-clause-keys
returns-clause-keys c =
    keys_listed c.args.self.now c.add_all.new.all.items (c.in_ok-add_all.ensures
    ∙ ap (λ ps. each shown ps ++ each shown_alone c.iter.result) c.in_ok-all.ensures.items
    ∙ ap (each shown_alone) (c.iter.ensures.rest ∙ ap fin.entries c.self.view_is))

pub returns-clause-each : goal.returns-clause-each
returns-clause-each c =
    each_listed c.args.self.now c.add_all.new.all.items (c.in_ok-add_all.ensures
    ∙ ap (λ ps. each shown ps ++ each shown_alone c.iter.result) c.in_ok-all.ensures.items
    ∙ ap (each shown_alone) (c.iter.ensures.rest ∙ ap fin.entries c.self.view_is))
