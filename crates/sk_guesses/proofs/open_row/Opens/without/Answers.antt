-- What is seen of it loses a tag.
use Rattle.sk_guesses.proofs.Names.{◌<◌, ◌∙◌, length, length-map, ap, arith, slice_set, slice_index_or, InOrder}
use Rattle.sk_guesses.proofs.Names.{without_tag}
use Rattle.sk_guesses.specs.Shared.{seen}
use Rattle.sk_guesses.proofs.Shared.{seen_retagged}
use Rattle.sk_guesses.proofs.open_row.Opens.without.Goals as goal

pub returns : goal.returns
returns g c = λ d.
    let os = c.self.inside.row.items in
    let es = c.self.inside.shared.entities in
    let items = ap (λ (r : InOrder _). r.items) c.self.view_is in
    let near : c.args.place < length os = omega (arith, c.requires, ap length items, length-map os (seen es)) in
    seen_retagged es os c.args.place c.at_mut.result.now c.without.new.self d near c.at_mut.ensures.value c.args.id c.without.ensures
    ∙ ap (λ xs. slice_set xs c.args.place (record { guess = without_tag c.args.id (slice_index_or xs c.args.place d).guess })) items
