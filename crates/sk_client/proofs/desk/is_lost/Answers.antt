-- By the status, which is that of the trace where no earlier epoch made the guess.
use Rattle.sk_client.proofs.Names.{◌≡◌, ◌+◌, ◌∙◌, length, ap, arith, OpeningView}
use Rattle.sk_client.proofs.Desks.{earlier_lost, lost_is}
use Rattle.sk_client.proofs.desk.is_lost.Goals as goal

pub returns-then-number-guess : goal.returns-then-number-guess
returns-then-number-guess c =
    let first : c.guess.result ≡ length c.args.kernel.now.earlier + 1 = c.guess.ensures ∙ ap (λ (o : OpeningView). o.guess) c.opening.ensures in
    earlier_lost c.args.kernel.now c.trace-sound.ensures.sound c.args.id (omega (arith, first, c.if-number-guess.true, c.number.ensures.value))

pub returns : goal.returns
returns c =
    let first : c.guess.result ≡ length c.args.kernel.now.earlier + 1 = c.guess.ensures ∙ ap (λ (o : OpeningView). o.guess) c.opening.ensures in
    c.lost_by.ensures
    ∙ lost_is c.args.kernel.now c.trace-sound.ensures.sound c.args.id (omega (arith, first, c.if-number-guess.false, c.number.ensures.value)) c.status.result c.status.ensures
