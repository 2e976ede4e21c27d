-- It is the next of its channel, or another is, or it waits.
use Rattle.sk_outputs.proofs.Names.{◌||◌, ◌&&◌, sym, ◌∙◌, ap, has, is_empty}
use Rattle.std.proofs.Common.{◌==◌}
use Rattle.sk_outputs.proofs.Counted.{none_counted}
use Rattle.sk_outputs.proofs.Ready.{said_next, said_behind}
use Rattle.sk_outputs.proofs.outputs.put_next.Goals as goal

pub returns-then-is_next-clause-ready : goal.returns-then-is_next-clause-ready
returns-then-is_next-clause-ready g c = λ said ready counted.
    let x = c.args.output.now in
    let old = c.args.ready.now.channels in
    let none = ap (λ b. is_empty x.1 && b) (sym (none_counted said c.args.counts.now counted x.0.0)) in
    said_next said x old c.put.new.self.channels ready (none ∙ sym c.is_next.ensures ∙ c.if-is_next.true)
    (λ t. c.put.ensures.has t ∙ ap (λ n. (n == t) || has t old) c.to.ensures)

pub returns-else-is_next-clause-ready : goal.returns-else-is_next-clause-ready
returns-else-is_next-clause-ready g c = λ said ready counted.
    let x = c.args.output.now in
    let none = ap (λ b. is_empty x.1 && b) (sym (none_counted said c.args.counts.now counted x.0.0)) in
    said_behind said x c.args.ready.now.channels ready (none ∙ sym c.is_next.ensures ∙ c.if-is_next.false)
