-- The trace has no guess of an earlier epoch, and the status of another is that of the trace.
use Rattle.sk_counts.proofs.Names.{◌≡◌, ◌+◌, ◌∙◌, length, ap, arith, OpeningView}
use Rattle.sk_counts.proofs.Struck.{none_earlier, status_test}
use Rattle.sk_counts.proofs.kinds.is_struck_here.Goals as goal

pub returns-then-number-guess : goal.returns-then-number-guess
returns-then-number-guess c =
    let first : c.guess.result ≡ length c.args.kernel.now.earlier + 1 = c.guess.ensures ∙ ap (λ (o : OpeningView). o.guess) c.opening.ensures in
    none_earlier c.args.kernel.now c.args.id c.trace-sound.ensures.sound (omega (arith, first, c.if-number-guess.true, c.number.ensures.value))

pub returns : goal.returns
returns c =
    let first : c.guess.result ≡ length c.args.kernel.now.earlier + 1 = c.guess.ensures ∙ ap (λ (o : OpeningView). o.guess) c.opening.ensures in
    c.is_struck.ensures
    ∙ status_test c.args.kernel.now c.args.id (omega (arith, first, c.if-number-guess.false, c.number.ensures.value)) c.status.result c.status.ensures
