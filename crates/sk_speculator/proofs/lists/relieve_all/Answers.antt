-- One key more is in the lists alone of the guesses on which it depends once this one has failed.
use Rattle.sk_speculator.proofs.Names.{take_all, ◌≡◌, ◌<◌, ◌≤◌, ◌+◌, zero, length, take, ◌∷◌, refl, sym, ◌∙◌, ap, subst, arith}
use Rattle.sk_speculator.proofs.Names.{IsTotalOrder, IsAntisymmetric, AllAlmostExact, tags_by, opens_of, cut, has, is_in}
use Rattle.sk_speculator.proofs.Names.{false, none_left, same_opens, log_at}
use Rattle.sk_guesses.specs.Base.{AllByRecursion}
use Rattle.sk_guesses.specs.Opens.{relieved_beyond}
use Rattle.sk_guesses.proofs.Listed.{left_beyond}
use Rattle.sk_guesses.proofs.Opens.{relieved_beyond_keeps}
use Rattle.std.proofs.Common.{◌-◌}
use Rattle.sk_speculator.proofs.Failing.{AllWithin, exact_within, right_beyond, within_beyond}
use Rattle.sk_speculator.proofs.Writing.{almost_last}
use Rattle.sk_speculator.proofs.lists.relieve_all.Goals as goal

pub loop-place-init : goal.loop-place-init
loop-place-init g c =
    let R = g.K.Key.order in
    let ks = c.args.keys.now in
    let os = c.args.guesses.now.opens in
    let new = tags_by (λ k. cut c.args.id (log_at R c.args.slots.now k)) in
    let all : take (length ks) ks ≡ ks = take_all (length ks) ks (omega arith) in (
      refl,
      refl,
      omega arith,
      subst (λ ls. AllAlmostExact R new ls os) (sym all) c.requires.almost,
      exact_within R (tags_by (log_at R c.args.slots.now)) os c.requires.exact,
    )

pub loop-place-preserved : goal.loop-place-preserved
loop-place-preserved g c =
    let R = g.K.Key.order in
    let total = subst IsTotalOrder g.met.K.Key.same g.met.K.Ord.total in
    let exact = subst IsAntisymmetric g.met.K.Key.same g.met.K.Key.exact in
    let old = tags_by (log_at R c.args.slots.now) in
    let new = tags_by (λ q. cut c.args.id (log_at R c.args.slots.now q)) in
    let ks = c.args.keys.now in
    let l = c.loop-place in
    let p = l.place - 1 in
    let k = c.index-keys-place.result in
    let os = l.guesses.opens in
    let tags = c.tags_of-tags.result.now in
    let left = c.tags_without-left.result.now in
    let one : p + 1 ≡ l.place = omega (arith, c.loop-place-test.true) in
    let near : p < length ks = omega (arith, c.loop-place-test.true, l.invariant.2) in
    let almost = almost_last R new ks p k near c.index-keys-place.is os
    (subst (λ n. AllAlmostExact R new (take n ks) os) (sym one) l.invariant.3) in
    let right = subst (λ ts. AllByRecursion (λ o. has o.id ts ≡ false → is_in R o.dependents k ≡ has o.id (new k)) os) (sym c.tags_of-tags.ensures)
    (right_beyond R old new k (k ∷ take p ks) os l.invariant.4 almost) in (
      c.relieve_beyond.ensures.view ∙ l.invariant.0,
      ap opens_of c.relieve_beyond.ensures.opens
          ∙ same_opens (relieved_beyond R tags left k) (relieved_beyond_keeps R tags left k) os ∙ l.invariant.1,
      omega (arith, near),
      subst (AllAlmostExact R new (take p ks)) (sym c.relieve_beyond.ensures.opens)
          (left_beyond total exact new k (take p ks) tags left c.tags_without-left.ensures os right almost),
      subst (AllWithin R old) (sym c.relieve_beyond.ensures.opens) (within_beyond R total exact tags left k old os l.invariant.4),
    )

pub returns-clause-exact : goal.returns-clause-exact
returns-clause-exact g c =
    let R = g.K.Key.order in
    let total = subst IsTotalOrder g.met.K.Key.same g.met.K.Ord.total in
    let exact = subst IsAntisymmetric g.met.K.Key.same g.met.K.Key.exact in
    let new = tags_by (λ q. cut c.args.id (log_at R c.args.slots.now q)) in
    let os = c.loop-place.guesses.opens in
    let none : c.loop-place.place ≡ zero = omega (arith, c.loop-place-test.false) in
    none_left total exact new os
    (subst (λ n. AllAlmostExact R new (take n c.args.keys.now) os) none c.loop-place.invariant.3)
