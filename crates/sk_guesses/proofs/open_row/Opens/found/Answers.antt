-- The first to share has the list that it had, and the others share none.
use Rattle.sk_guesses.proofs.Names.{◌≡◌, ◌<◌, ◌-◌, ◌∙◌, length, map, ap, sym, arith, slice_set, slice_index_or, InOrder}
use Rattle.sk_guesses.proofs.Named.{seen_rising, one_shares}
use Rattle.sk_guesses.specs.Shared.{seen, IsReady, Sharing}
use Rattle.std.proofs.lemmas.List.{get_or_default}
use Rattle.sk_guesses.proofs.Shared.{founded}
use Rattle.sk_guesses.proofs.open_row.Opens.found.Goals as goal

pub returns : goal.returns
returns g c =
    let os = c.self.inside.row.items in
    let i = c.len-last.result - 1 in
    let l = c.at_mut.result.now in
    let near : i < length os = omega (arith, c.len.ensures, c.len-last.ensures, c.if-len-eq0.false) in
    let these : l.guess.dependents ≡ c.args.entities.now =
    ap (λ (o : Sharing _). o.guess.dependents) (c.at_mut.ensures.value ∙ get_or_default os i l c.at.result.now near ∙ sym c.at.ensures) ∙ c.has_just.ensures c.if-not-has_just.false in
    let same : map (seen c.fill.new.self.entities) (slice_set os i c.share.new.self) ≡ map (seen c.self.inside.shared.entities) os =
    ap (λ xs. map (seen xs) (slice_set os i c.share.new.self)) c.fill.ensures
    ∙ founded c.self.inside.shared.entities c.args.entities.now os i l c.share.new.self (c.any_shares.ensures c.if-any_shares.false) near c.at_mut.ensures.value these (ap (λ (o : Sharing _). o.guess) c.share.ensures) (ap (λ (o : Sharing _). o.shares) c.share.ensures) in
    (λ j. record { items = same j; places = c.self.inside.row.places }) ∙ c.self.view_is

pub any_shares-requires-clause-ids : goal.any_shares-requires-clause-ids
any_shares-requires-clause-ids g c =
    seen_rising c.self.inside.shared.entities c.self.inside.row.items c.args.self.now.items (ap (λ (r : InOrder _). r.items) c.self.view_is) c.requires.ids

pub invariant_of-self : goal.invariant_of-self
invariant_of-self g c =
    let os = c.self.inside.row.items in
    let i = c.len-last.result - 1 in
    let l = c.at_mut.result.now in
    let new = c.share.new.self in
    let n = length c.fill.new.self.entities in
    let near : i < length os = omega (arith, c.len.ensures, c.len-last.ensures, c.if-len-eq0.false) in
    let here = λ (o : Sharing _) (at : o ≡ slice_index_or os i o). at ∙ get_or_default os i o l near ∙ sym c.at_mut.ensures.value in
    let these : l.guess.dependents ≡ c.fill.new.self.entities =
    ap (λ (o : Sharing _). o.guess.dependents) (sym (here c.at.result.now c.at.ensures)) ∙ c.has_just.ensures c.if-not-has_just.false ∙ sym c.fill.ensures in
    let id : c.id-id.result ≡ new.guess.id =
    c.id-id.ensures ∙ ap (λ (o : Sharing _). o.guess.id) (here c.at-2.result.now c.at-2.ensures) ∙ sym (ap (λ (o : Sharing _). o.guess.id) c.share.ensures) in
    let room = ap (λ (o : Sharing _). o.room) c.share.ensures in
    let ready : IsReady n new = λ _. (ap (λ (o : Sharing _). o.guess.dependents) c.share.ensures, (let many = ap length these in omega (arith, room, many))) in
    let all = one_shares n c.id-id.result os i new (c.any_shares.ensures c.if-any_shares.false) ready (λ _. (omega (arith, id), omega (arith, id))) in
    (all.0, c.self.invariant.1, all.1)
