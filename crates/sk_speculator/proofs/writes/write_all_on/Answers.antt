-- One write more.
use Rattle.sk_speculator.proofs.Names.{drop_all, drop_more_same, ◌≡◌, ◌<◌, ◌+◌, ◌∷◌, true, length, drop, arith, sym}
use Rattle.sk_speculator.proofs.Names.{◌∙◌, ap, subst, IsTotalOrder, eq_by_cmp_equiv, IsAntisymmetric, and_parts}
use Rattle.sk_speculator.proofs.Names.{or_left, keys_of, is_in, is_some, found, SettledBut}
use Rattle.sk_speculator.proofs.Writing.{WritingOn, drop_next, drop_set, in_place, keys_set, set_length, writing_on_more}
use Rattle.sk_speculator.proofs.writes.write_all_on.Goals as goal

pub write_on-done-requires : goal.write_on-done-requires
write_on-done-requires g c =
    let R = g.K.Key.order in
    let total = subst IsTotalOrder g.met.K.Key.same g.met.K.Ord.total in
    let l = c.loop-place in
    let w = c.index-written-place.result in
    let lt : l.place < length l.written = omega (arith, c.loop-place-test.true, l.invariant.3) in
    let from : drop l.place c.args.written.now ≡ w ∷ drop (l.place + 1) l.written = sym l.invariant.1 ∙ drop_next l.written l.place w lt c.index-written-place.is in
    subst (λ q. is_some (found R l.slots q) ≡ true) (ap (λ (p : _ × _). p.0) c.index-written-place.is ∙ sym c.take_write-key.ensures.key)
    (l.invariant.0.slots w.0 (ap (λ xs. is_in R (keys_of xs) w.0) from ∙ or_left _ _ ((eq_by_cmp_equiv total).refl w.0)))

pub loop-place-preserved : goal.loop-place-preserved
loop-place-preserved g c =
    let R = g.K.Key.order in
    let total = subst IsTotalOrder g.met.K.Key.same g.met.K.Ord.total in
    let exact = subst IsAntisymmetric g.met.K.Key.same g.met.K.Key.exact in
    let l = c.loop-place in
    let w = c.index-written-place.result in
    let all = c.args.written.now in
    let lt : l.place < length l.written = omega (arith, c.loop-place-test.true, l.invariant.3) in
    let behind : drop (l.place + 1) l.written ≡ drop (l.place + 1) all = drop_more_same l.written all l.place l.invariant.1 in
    let own : w.0 ≡ c.take_write-key.result.0 = ap (λ (p : _ × _). p.0) c.index-written-place.is ∙ sym c.take_write-key.ensures.key in
    let value : w.1 ≡ c.take_write-key.result.1 = ap (λ (p : _ × _). p.1) c.index-written-place.is ∙ sym c.take_write-key.ensures.value in
    let one : w ≡ c.take_write-key.result = λ i. (own i, value i) in
    let from : drop l.place all ≡ c.take_write-key.result ∷ drop (l.place + 1) all = sym l.invariant.1 ∙ drop_next l.written l.place w lt c.index-written-place.is ∙ (λ i. one i ∷ behind i) in
    let left = c.take_write-key.new.write in (
      writing_on_more R g.I.Inversion.written c.args.slots.now all exact l.slots c.write_on-done.new.self c.take_write-key.result.0 c.take_write-key.result.1 (drop (l.place + 1) all)
          (subst (WritingOn R g.I.Inversion.written c.args.slots.now all l.slots) from l.invariant.0) c.write_on-done.ensures.look c.write_on-done.ensures.log c.write_on-done.ensures.slots,
      drop_set l.written l.place left ∙ behind,
      keys_set l.written l.place w left lt c.index-written-place.is (c.take_write-key.ensures.left ∙ sym (ap (λ (p : _ × _). p.0) c.index-written-place.is)) ∙ l.invariant.2,
      set_length l.written l.place left ∙ l.invariant.3,
      λ before.
          c.write_on-done.ensures.settled (keys_of all)
          (subst (λ k. is_in R (keys_of all) k ≡ true) own (ap (λ ks. is_in R ks w.0) (sym l.invariant.2) ∙ in_place {R = R} total l.written l.place w lt c.index-written-place.is))
          (l.invariant.4 before),
      λ done before.
          let both = and_parts l.done c.write_on-done.result done in
          c.write_on-done.ensures.done both.1 (keys_of (drop (l.place + 1) all))
          (subst (λ xs. SettledBut R (keys_of xs) l.slots) from (l.invariant.5 both.0 before)),
    )

pub returns-clause-look : goal.returns-clause-look
returns-clause-look g c =
    let R = g.K.Key.order in
    let l = c.loop-place in
    let all = c.args.written.now in
    (subst (WritingOn R g.I.Inversion.written c.args.slots.now all l.slots) (drop_all l.place all c.loop-place-test.false) l.invariant.0).look

pub returns-clause-log : goal.returns-clause-log
returns-clause-log g c = c.loop-place.invariant.0.log

pub returns-clause-done : goal.returns-clause-done
returns-clause-done g c = λ done before.
    let R = g.K.Key.order in
    let l = c.loop-place in
    let all = c.args.written.now in
    subst (λ xs. SettledBut R (keys_of xs) l.slots) (drop_all l.place all c.loop-place-test.false) (l.invariant.5 done before)
