-- It has a list of its own, which is moved out.
use Rattle.sk_guesses.proofs.Names.{◌<◌, ◌∙◌, [], length, length-map, ap, arith, slice_set, slice_index_or, InOrder}
use Rattle.sk_guesses.specs.Shared.{seen}
use Rattle.sk_guesses.proofs.Shared.{seen_taken}
use Rattle.sk_guesses.proofs.open_row.Opens.take_dependents.Goals as goal

pub returns-clause-items : goal.returns-clause-items
returns-clause-items g c = λ d.
    let os = c.self.inside.row.items in
    let es = c.self.inside.shared.entities in
    let items = ap (λ (r : InOrder _). r.items) c.self.view_is in
    let near : c.args.place < length os = omega (arith, c.requires, ap length items, length-map os (seen es)) in
    seen_taken es os c.args.place c.at_mut.result.now c.take_seen.new.open d near c.at_mut.ensures.value c.take_seen.ensures.guess c.take_seen.ensures.shares
    ∙ ap (λ xs. slice_set xs c.args.place (record { guess = record (slice_index_or xs c.args.place d).guess { dependents = [] } })) items
