-- One key more.
use Rattle.sk_speculator.proofs.Names.{take_all, ◌≡◌, true, ◌+◌, and_parts, goes_unnoted, log_at, ◌||◌, ◌∷◌, [], sym, ◌∙◌, ap, subst, take, IsTotalOrder}
use Rattle.sk_speculator.proofs.Names.{IsAntisymmetric, eq_by_cmp, list_any-append, keys_of, is_in, IsReady}
use Rattle.sk_speculator.proofs.Writing.{either_key, in_place, keys_more, none_more, take_next}
use Rattle.sk_speculator.proofs.writes.prepare_all.Goals as goal

pub loop-write-preserved : goal.loop-write-preserved
loop-write-preserved g c =
    let R = g.K.Key.order in
    let total = subst IsTotalOrder g.met.K.Key.same g.met.K.Ord.total in
    let exact = subst IsAntisymmetric g.met.K.Key.same g.met.K.Key.exact in
    let l = c.loop-write in
    let i = l.write-index in
    let w = c.write-item.result in
    let ws = c.args.written.now in
    let first = take i ws in
    let place = in_place {R = R} total ws i w c.loop-write-test.true c.write-item.is in
    let among : (q : _) → is_in R (keys_of (take (i + 1) ws)) q ≡ true → (is_in R (keys_of first) q || eq_by_cmp R q w.0) ≡ true =
    λ q here.
    ap (λ b. is_in R (keys_of first) q || b) (none_more (eq_by_cmp R q w.0))
    ∙ sym (list_any-append (eq_by_cmp R q) (keys_of first) (w.0 ∷ []))
    ∙ ap (λ ks. is_in R ks q) (sym (ap keys_of (take_next ws i w c.loop-write-test.true c.write-item.is) ∙ keys_more first (w ∷ [])))
    ∙ here in (
      λ q. c.prepare.ensures.look q ∙ l.invariant.0 q,
      λ q. c.prepare.ensures.log q ∙ l.invariant.1 q,
      λ before. c.prepare.ensures.settled (keys_of ws) place (l.invariant.2 before),
      λ q here.
          either_key exact (IsReady R c.args.tags.now c.prepare.new.self) (is_in R (keys_of first) q) q w.0 (among q here)
          (λ before. c.prepare.ensures.kept q (l.invariant.3 q before)) c.in_ok-same.ensures.ok,
      λ same q here.
          let both = and_parts l.same c.in_ok-same.field-0 same in
          either_key exact (λ x. goes_unnoted c.args.tags.now (log_at R c.args.slots.now x) ≡ true) (is_in R (keys_of first) q) q w.0
          (among q here) (λ before. l.invariant.4 both.0 q before)
          (ap (goes_unnoted c.args.tags.now) (sym (l.invariant.1 w.0)) ∙ sym c.in_ok-same.ensures.same ∙ both.1),
    )

pub returns-clause-ready : goal.returns-clause-ready
returns-clause-ready g c = λ q here.
    c.loop-write.invariant.3 q (ap (λ xs. is_in g.K.Key.order (keys_of xs) q) (take_all c.loop-write.write-index c.args.written.now c.loop-write-test.false) ∙ here)

pub returns-clause-same : goal.returns-clause-same
returns-clause-same g c = λ same q here.
    c.loop-write.invariant.4 same q (ap (λ xs. is_in g.K.Key.order (keys_of xs) q) (take_all c.loop-write.write-index c.args.written.now c.loop-write-test.false) ∙ here)

pub returns-in_err-same-clause-settled : goal.returns-in_err-same-clause-settled
returns-in_err-same-clause-settled g c = λ before.
    let R = g.K.Key.order in
    let total = subst IsTotalOrder g.met.K.Key.same g.met.K.Ord.total in
    let ws = c.args.written.now in
    c.prepare.ensures.settled (keys_of ws) (in_place {R = R} total ws c.loop-write.write-index c.write-item.result c.loop-write-test.true c.write-item.is) (c.loop-write.invariant.2 before)
