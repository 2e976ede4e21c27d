-- The walk stands at the word of the index once no word is left to pass, and passes one in each round.
use Rattle.std.proofs.Common.{◌≡◌, ◌<◌, drop, ap, ◌∙◌, arith, List, ℕ}
use Rattle.sk_faults.proofs.Places.{drop_more}
use Rattle.sk_faults.proofs.place.place_of.Goals as goal

pub returns-then-left-eq0 : goal.returns-then-left-eq0
returns-then-left-eq0 c =
    let none : c.loop-word.left ≡ 0 = omega (arith, c.if-left-eq0.true) in
    (c.next.new.self, (rw none at c.loop-word.invariant) ∙ c.in-Some.ensures)

pub loop-word-preserved : goal.loop-word-preserved
loop-word-preserved c =
    let some : 0 < c.loop-word.left = omega (arith, c.if-left-eq0.false) in
    c.loop-word.invariant ∙ ap (λ (us : List (List ℕ)). drop c.loop-word.left us) c.in-Some.ensures ∙ drop_more c.loop-word.left c.in-Some.word.now c.next.new.self some
