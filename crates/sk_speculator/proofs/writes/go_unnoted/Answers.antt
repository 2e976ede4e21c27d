-- One key more.
use Rattle.sk_speculator.proofs.Names.{take_all, ◌≡◌, true, ◌&&◌, and_parts, is_some, found, goes_unnoted, log_at, ◌||◌, ◌∷◌, []}
use Rattle.sk_speculator.proofs.Names.{sym, ◌∙◌, ap, subst, take, IsAntisymmetric, eq_by_cmp}
use Rattle.sk_speculator.proofs.Names.{list_any-append, keys_of, is_in}
use Rattle.sk_speculator.proofs.Writing.{either_key, keys_more, none_more, take_next}
use Rattle.sk_speculator.proofs.writes.go_unnoted.Goals as goal

pub loop-write-preserved : goal.loop-write-preserved
loop-write-preserved g c = λ q here.
    let R = g.K.Key.order in
    let exact = subst IsAntisymmetric g.met.K.Key.same g.met.K.Key.exact in
    let l = c.loop-write in
    let i = l.write-index in
    let w = c.write-item.result in
    let ws = c.args.written.now in
    let first = take i ws in
    let among : (is_in R (keys_of first) q || eq_by_cmp R q w.0) ≡ true =
    ap (λ b. is_in R (keys_of first) q || b) (none_more (eq_by_cmp R q w.0))
    ∙ sym (list_any-append (eq_by_cmp R q) (keys_of first) (w.0 ∷ []))
    ∙ ap (λ ks. is_in R ks q) (sym (ap keys_of (take_next ws i w c.loop-write-test.true c.write-item.is) ∙ keys_more first (w ∷ [])))
    ∙ here in
    either_key exact (λ x. (is_some (found R c.args.slots.now x) && goes_unnoted c.args.tags.now (log_at R c.args.slots.now x)) ≡ true)
    (is_in R (keys_of first) q) q w.0 among (l.invariant q) (sym c.goes_unnoted.ensures ∙ c.if-not-goes_unnoted.false)

pub returns-clause-slots : goal.returns-clause-slots
returns-clause-slots g c = λ _ q here.
    (and_parts _ _ (c.loop-write.invariant q (ap (λ xs. is_in g.K.Key.order (keys_of xs) q) (take_all c.loop-write.write-index c.args.written.now c.loop-write-test.false) ∙ here))).0

pub returns-clause-unnoted : goal.returns-clause-unnoted
returns-clause-unnoted g c = λ _ q here.
    (and_parts _ _ (c.loop-write.invariant q (ap (λ xs. is_in g.K.Key.order (keys_of xs) q) (take_all c.loop-write.write-index c.args.written.now c.loop-write-test.false) ∙ here))).1
