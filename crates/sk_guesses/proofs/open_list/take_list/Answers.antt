-- The list at the place is the guess's, or there is none.
use Rattle.std.proofs.Common.{◌<◌, ◌≤◌, [], length, map, refl, ap, ◌∙◌, arith}
use Rattle.sk_guesses.proofs.Names.{slice_index_or, length-set}
use Rattle.sk_guesses.proofs.Opens.{guess_of, found, missing, none_taken, taken}
use Rattle.sk_guesses.proofs.Shared.{nothing}
use Rattle.std.proofs.lemmas.List.{get_or_default}
use Rattle.sk_guesses.proofs.open_list.take_list.Goals as goal

pub returns-then-place-len-clause-list : goal.returns-then-place-len-clause-list
returns-then-place-len-clause-list g c =
    let far : length c.args.opens.now.items ≤ c.place_of-place.result = omega (arith, c.if-place-len.true, c.len.ensures) in
    c.new.ensures ∙ missing c.args.id c.place_of-place.result c.args.opens.now.items c.place_of-place.ensures far

pub returns-then-place-len-clause-opens : goal.returns-then-place-len-clause-opens
returns-then-place-len-clause-opens g c =
    let far : length c.args.opens.now.items ≤ c.place_of-place.result = omega (arith, c.if-place-len.true, c.len.ensures) in
    none_taken c.args.id c.place_of-place.result c.args.opens.now.items c.place_of-place.ensures far

pub returns-clause-list : goal.returns-clause-list
returns-clause-list g c =
    let near : c.place_of-place.result < length c.args.opens.now.items = omega (arith, c.if-place-len.false, c.len.ensures) in
    let ls = c.args.opens.now.items in
    let k = c.place_of-place.result in
    let l = slice_index_or ls k nothing in
    c.take_dependents.ensures.list nothing ∙ found c.args.id k ls l c.place_of-place.ensures near (get_or_default ls k nothing l near)

pub returns-clause-opens : goal.returns-clause-opens
returns-clause-opens g c =
    let near : c.place_of-place.result < length c.args.opens.now.items = omega (arith, c.if-place-len.false, c.len.ensures) in
    let ls = c.args.opens.now.items in
    let k = c.place_of-place.result in
    let l = slice_index_or ls k nothing in
    ap (map guess_of) (c.take_dependents.ensures.items nothing)
    ∙ taken c.args.id k ls l (record { guess = record l.guess { dependents = [] } }) c.place_of-place.ensures near (get_or_default ls k nothing l near) refl

pub returns-clause-as_many : goal.returns-clause-as_many
returns-clause-as_many g c = ap length (c.take_dependents.ensures.items nothing) ∙ rw length-set refl
