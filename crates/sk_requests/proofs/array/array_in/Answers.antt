use Rattle.sk_requests.proofs.Names.{◌-◌, ◌∙◌, ap, subst, arith, words_of, IsNextWord}
use Rattle.std.specs.Prelude.{IfSome}
use Rattle.sk_requests.proofs.Whole.{came_none, came_next}
use Rattle.sk_requests.proofs.array.array_in.Goals as goal

pub head_in-requires : goal.head_in-requires
head_in-requires c = omega (arith, c.min.ensures)

pub loop-word-init : goal.loop-word-init
loop-word-init c =
    let said = c.in-Some.ensures in
    came_none c.args.limits c.args.bytes.now c.in-Some.count c.in-Some.front (words_of c.reserve.new.self.items)
    (ap words_of (c.in_ok-reserve.ensures.items ∙ c.new-words.ensures.items)) said.0 said.1 said.3

pub loop-word-preserved : goal.loop-word-preserved
loop-word-preserved c =
    let words = words_of c.loop-word.words.items in
    let new = words_of c.push_word.new.words.items in
    let room = c.loop-word.room in
    let said = subst (λ v. IfSome v (λ n. IsNextWord words new c.behind.result.now room n.0 n.1)) c.in-Some-2.is c.in_ok-len.ensures in
    let next = subst (λ xs. IsNextWord words new xs room c.in-Some-2.len c.in-Some-2.size) c.behind.ensures said in
    came_next c.args.limits c.args.bytes.now c.in-Some.count c.loop-word._word c.loop-word.at room c.in-Some-2.len c.in-Some-2.size
    (room - c.in-Some-2.size) words new c.loop-word.invariant next (omega (arith, next.3))
