-- The keys of all writes, which are sorted where they stand.
use Rattle.sk_speculator.proofs.Names.{◌++◌, ◌∷◌, [], take, take_all, sym, ◌∙◌, ap, eq_by_cmp, keys_of}
use Rattle.sk_speculator.proofs.Names.{list_any-IsPermutation, list_any}
use Rattle.sk_speculator.proofs.Writing.{keys_more, take_next}
use Rattle.sk_speculator.proofs.lists.rising_keys.Goals as goal

pub loop-write-preserved : goal.loop-write-preserved
loop-write-preserved g c =
    let ws = c.args.written.now in
    let i = c.loop-write.write-index in
    let w = c.write-item.result in
    c.in_ok-push.ensures.items ∙ ap (λ ks. ks ++ w.0 ∷ []) c.loop-write.invariant
    ∙ sym (ap keys_of (take_next ws i w c.loop-write-test.true c.write-item.is) ∙ keys_more (take i ws) (w ∷ []))

pub returns-clause-keys : goal.returns-clause-keys
returns-clause-keys g c = λ k.
    let test = eq_by_cmp g.K.Key.order k in
    let before = c.loop-write.keys.items in
    sym (list_any-IsPermutation test before c.sort_unstable.new.self.items c.sort_unstable.ensures.permutation)
    ∙ ap (list_any test) (c.loop-write.invariant ∙ ap keys_of (take_all c.loop-write.write-index c.args.written.now c.loop-write-test.false))
