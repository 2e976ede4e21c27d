-- A string that is here is in a place that is gone through.
use Rattle.sk_index.proofs.Names.{◌≡◌, ◌≤◌, true, Some, refl, sym, ap, ◌∙◌, subst, arith, list_any, is_at, contains}
use Rattle.sk_index.proofs.Names.{keys_between, finish, write, Included, number_of, string_of, first_under, is_under}
use Rattle.sk_index.proofs.Names.{place_cmp}
use Rattle.sk_index.proofs.Strings.{number_at, slot_of, true_false, unnumbered}
use Rattle.sk_index.proofs.Kept.{looked}
use Rattle.sk_index.proofs.Under.{among_others}
use Rattle.sk_index.proofs.index.Index.search.Goals as goal

pub loop-place-init : goal.loop-place-init
loop-place-init c = (
  tt,
  tt,
  λ n at.
      let inside = c.self.inside in
      let slot = slot_of inside.strings.slots n c.args.bytes.now (ap (λ es. string_of es n) c.self.view_is ∙ at) in
      let small = c.self.invariant.small n slot.0 slot.1 in
      let below : n ≤ 18446744073709551615 = omega (arith, small) in
      let found =
      subst (λ k. is_under inside.places.firsts inside.places.others (k, n) ≡ true)
      (ap (λ s. finish (write inside.seed s)) slot.2 ∙ sym c.hash_of-hash.ensures)
      (c.self.invariant.found n slot.0 slot.1) in
      let any =
      among_others (first_under inside.places.firsts c.hash_of-hash.result) n
      (contains place_cmp inside.places.others (c.hash_of-hash.result, n))
      (λ first. c.number_at.ensures.none c.in_default.is n (c.first.ensures ∙ first) at) found in
      subst (λ xs. list_any (is_at (place_cmp (c.hash_of-hash.result, n))) xs ≡ true)
      (sym
      (c.into_iter-place-iterator.ensures.into_iter_gives ∙ c.range-place-items.ensures.between c.new.ensures.exhausted
      ∙ ap (λ s. keys_between place_cmp (Included s) (Included c.new.result.end) inside.places.others) c.new.ensures.start
      ∙ ap (λ s. keys_between place_cmp (Included (c.hash_of-hash.result, 0)) (Included s) inside.places.others)
      c.new.ensures.end))
      (looked c.hash_of-hash.result n 18446744073709551615 inside.places.others.keys below any),
)

pub returns-in-Some : goal.returns-in-Some
returns-in-Some c =
    let vs = c.self.inside.strings.slots in
    let n = c.in-Some.number in
    let slot = slot_of vs n c.args.bytes.now (ap (λ es. string_of es n) c.self.view_is ∙ c.in-Some.ensures.some) in
    sym (number_at vs c.self.invariant.apart n slot.0 c.args.bytes.now slot.1 (sym slot.2))
    ∙ ap (λ es. number_of es c.args.bytes.now) c.self.view_is

pub returns-then-is_at : goal.returns-then-is_at
returns-then-is_at c =
    let vs = c.self.inside.strings.slots in
    let n = c.in-Some-place.place.now.1 in
    let slot = slot_of vs n c.args.bytes.now (ap (λ es. string_of es n) c.self.view_is ∙ c.if-is_at.ensures.yes refl) in
    ap Some c.new-then-is_at.ensures
    ∙ sym (number_at vs c.self.invariant.apart n slot.0 c.args.bytes.now slot.1 (sym slot.2))
    ∙ ap (λ es. number_of es c.args.bytes.now) c.self.view_is

pub returns : goal.returns
returns c =
    let vs = c.self.inside.strings.slots in
    unnumbered vs c.args.bytes.now
    (λ n at.
    let left = c.loop-place.invariant.2 n (ap (λ es. string_of es n) (sym c.self.view_is) ∙ at) in
    true_false (sym left ∙ ap (list_any (is_at (place_cmp (c.hash_of-hash.result, n)))) c.in-None.ensures.steps.0))
    ∙ ap (λ es. number_of es c.args.bytes.now) c.self.view_is
