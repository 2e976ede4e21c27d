-- What was counted is written.
use Rattle.std.proofs.lemmas.Result.{on_ok_weaker}
use Rattle.sk_run.proofs.playing.write_counts_of.Goals as goal

pub returns : goal.returns
returns g c =
    on_ok_weaker c.write_section.result
    (λ written. (c.in_ok-counts.counts, c.in_ok-counts.ensures, written))
    c.write_section.ensures
