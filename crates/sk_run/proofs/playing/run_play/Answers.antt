-- Writing out what is left changes no byte.
use Rattle.sk_run.proofs.Names.{ap, lines, Err, Stop}
use Rattle.sk_run.proofs.Ended.{play_done, play_stopped, done_flushed}
use Rattle.sk_run.proofs.playing.run_play.Goals as goal

pub returns-in-Ok-clause-end : goal.returns-in-Ok-clause-end
returns-in-Ok-clause-end g c =
    let p = g.P.Player in
    rw c.with_refusal.ensures
    (play_done p.kernel_of p.process_of p.takes p.has_refusal p.report c.args.shows (lines c.args.text.now) c.args.items.now (p.declared c.args.declarations.now)
    c.in-Ok.is_refused c.flushed.result _ _ _ _ c.in-Ok.ensures.played c.flushed.ensures.end c.flushed.ensures.kept)

pub returns-in-Ok-clause-flushed : goal.returns-in-Ok-clause-flushed
returns-in-Ok-clause-flushed g c = rw c.with_refusal.ensures (done_flushed c.in-Ok.is_refused c.flushed.result _ c.flushed.ensures.end)

pub returns-in-Err-clause-end : goal.returns-in-Err-clause-end
returns-in-Err-clause-end g c =
    let p = g.P.Player in
    play_stopped p.kernel_of p.process_of p.takes p.has_refusal p.report c.args.shows (lines c.args.text.now) c.args.items.now (p.declared c.args.declarations.now)
    c.in-Err.stop c.ended.result _ _ _ _ (λ is. c.in-Err.ensures.memory (ap (λ (stop : Stop). Err stop) is)) c.ended.ensures.end
