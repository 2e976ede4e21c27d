-- One number more.
use Rattle.sk_bytes.proofs.Names.{take, sym, subst, nat_cmp, is_in, take_all, take_next, LetsGo}
use Rattle.sk_bytes.proofs.Moves.{none_goes, one_more_goes}
use Rattle.sk_bytes.proofs.numbers.give_back_all.Goals as goal

pub loop-number-init : goal.loop-number-init
loop-number-init g c = none_goes c.args.kernel.now.slots c.args.index.now c.requires.two_way

pub give_back-requires-clause-two_way : goal.give_back-requires-clause-two_way
give_back-requires-clause-two_way g c = c.loop-number.invariant.two_way

pub give_back-requires-clause-rests : goal.give_back-requires-clause-rests
give_back-requires-clause-rests g c = c.requires.rests c.number-item.result

pub loop-number-preserved : goal.loop-number-preserved
loop-number-preserved g c =
    let slots = c.args.kernel.now.slots in
    let ns = c.args.numbers.now in
    let i = c.loop-number.number-index in
    let n = c.number-item.result in
    subst (λ xs. LetsGo c.args.index.now (is_in nat_cmp xs) slots c.give_back.new.index) (sym (take_next ns i n c.loop-number-test.true c.number-item.is))
    (one_more_goes slots c.args.index.now c.loop-number.index c.give_back.new.index (take i ns) n c.loop-number.invariant c.give_back.ensures)

pub returns : goal.returns
returns g c =
    subst (λ xs. LetsGo c.args.index.now (is_in nat_cmp xs) c.args.kernel.now.slots c.loop-number.index) (take_all c.loop-number.number-index c.args.numbers.now c.loop-number-test.false) c.loop-number.invariant
