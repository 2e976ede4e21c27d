-- One number more.
use Rattle.sk_bytes.proofs.Names.{take, sym, ap, ◌∙◌, subst, nat_cmp, is_in, take_all, take_next}
use Rattle.sk_bytes.proofs.Moves.{AbsentIn, one_more_absent}
use Rattle.sk_bytes.proofs.numbers.absent_dependents.Goals as goal

pub loop-number-init : goal.loop-number-init
loop-number-init g c = λ n here absent. absurd (cc)

pub loop-number-preserved : goal.loop-number-preserved
loop-number-preserved g c =
    let slots = c.args.kernel.now.slots in
    let l = c.loop-number in
    let n = c.number-item.result in
    let i = l.number-index in
    let new = c.push_absent.new.absent.items in
    subst (λ ks. AbsentIn slots ks new) (sym (take_next c.dependents-number-items.result.now i n c.loop-number-test.true c.number-item.is))
    (one_more_absent slots (take i c.dependents-number-items.result.now) l.absent.items new n l.invariant c.in_ok-push_absent.ensures.kept c.in_ok-push_absent.ensures.added)

pub returns : goal.returns
returns g c = λ n rests absent.
    c.loop-number.invariant n (ap (λ ks. is_in nat_cmp ks n) (take_all c.loop-number.number-index c.dependents-number-items.result.now c.loop-number-test.false) ∙ c.dependents-number-items.ensures.exact n ∙ rests) absent
