-- The report, and then what is wanted behind it.
use Rattle.sk_run.proofs.Names.{◌++◌, refl, subst, Appends-trans, on_ok_weaker, KernelView, IsBehind}
use Rattle.sk_run.proofs.playing.write_played.Goals as goal

pub returns : goal.returns
returns g c =
    on_ok_weaker c.write_behind.result
    (λ written. (
      g.P.Player.report c.args.player.now ++ written.0,
      (written.0, subst (λ (k : KernelView). IsBehind c.args.shows k written.0) c.inner_kernel.ensures written.1, refl),
      Appends-trans _ _ _ _ _ c.in_ok-write_report.ensures written.2,
    ))
    c.write_behind.ensures
