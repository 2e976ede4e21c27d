-- A string comes into the next place, and its hash with it.
use Rattle.sk_index.proofs.Names.{◌<◌, ◌^◌, sym, ap, ◌∙◌, subst, arith, finish, write, Slab, number_of, Adds, is_under}
use Rattle.sk_index.proofs.Names.{numbered}
use Rattle.sk_index.proofs.Kept as kept
use Rattle.sk_index.proofs.index.Index.add.Goals as goal

pub invariant_of-self-2 : goal.invariant_of-self-2
invariant_of-self-2 c =
    let items = c.in_ok-string.ensures.items in
    let place = c.vacant_key-place.ensures.value ∙ sym c.insert_reserved.ensures.key in
    let fits : c.insert_reserved.result < 2 ^ 64 = omega (arith, place) in
    kept.added (λ s. finish (write c.self.inside.seed s)) c.self.inside.strings
    (is_under c.self.inside.places.firsts c.self.inside.places.others) c.self.invariant
    c.reserve.new.self c.insert_reserved.new.self (is_under c.insert.new.self.firsts c.insert.new.self.others)
    c.insert_reserved.result c.in_ok-string.string
    (ap (λ (s : Slab _). s.slots) c.reserve.ensures.rest_kept) c.insert_reserved.ensures.was_vacant
    c.insert_reserved.ensures.updates (c.hash_of-hash.result, c.vacant_key-place.result)
    (λ i. ((c.hash_of-hash.ensures ∙ ap (λ s. finish (write c.self.inside.seed s)) (sym items)) i, place i))
    c.in_ok-insert.ensures.there c.insert.ensures.kept fits
    (ap (number_of (numbered 0 c.self.inside.strings.slots)) items
    ∙ ap (λ es. number_of es c.args.bytes.now) c.self.view_is ∙ c.requires)

pub returns-clause-ok : goal.returns-clause-ok
returns-clause-ok c =
    let items = c.in_ok-string.ensures.items in
    let place = c.vacant_key-place.ensures.value ∙ sym c.insert_reserved.ensures.key in
    let fits : c.insert_reserved.result < 2 ^ 64 = omega (arith, place) in
    subst (λ es. Adds es c.args.bytes.now c.new-number.result (numbered 0 c.insert_reserved.new.self.slots)) c.self.view_is
    (subst (λ b. Adds (numbered 0 c.self.inside.strings.slots) b c.new-number.result
    (numbered 0 c.insert_reserved.new.self.slots)) items
    (subst (λ n. Adds (numbered 0 c.self.inside.strings.slots) c.in_ok-string.string.items n
    (numbered 0 c.insert_reserved.new.self.slots)) (sym c.new-number.ensures)
    (kept.adds (λ s. finish (write c.self.inside.seed s)) c.self.inside.strings
    (is_under c.self.inside.places.firsts c.self.inside.places.others) c.self.invariant
    c.reserve.new.self c.insert_reserved.new.self (is_under c.insert.new.self.firsts c.insert.new.self.others)
    c.insert_reserved.result c.in_ok-string.string
    (ap (λ (s : Slab _). s.slots) c.reserve.ensures.rest_kept) c.insert_reserved.ensures.was_vacant
    c.insert_reserved.ensures.updates (c.hash_of-hash.result, c.vacant_key-place.result)
    (λ i. ((c.hash_of-hash.ensures ∙ ap (λ s. finish (write c.self.inside.seed s)) (sym items)) i, place i))
    c.in_ok-insert.ensures.there c.insert.ensures.kept fits
    (ap (number_of (numbered 0 c.self.inside.strings.slots)) items
    ∙ ap (λ es. number_of es c.args.bytes.now) c.self.view_is ∙ c.requires))))
