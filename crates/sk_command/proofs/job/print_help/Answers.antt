-- The help is what was written, and to write it out keeps it.
use Rattle.std.proofs.Common.{rules}
use Rattle.sk_command.proofs.Written.{help_written, written_is_flushed}
use Rattle.sk_command.proofs.job.print_help.Goals as goal

pub returns-in-Ok-write_all-clause-end : goal.returns-in-Ok-write_all-clause-end
returns-in-Ok-write_all-clause-end g c =
    help_written (g.H.Display.output c.args.help.now) c.flushed.result _ c.as_bytes.result.now _ _ _ (search rules) c.flushed.ensures.end c.in-Ok-write_all.ensures.bytes c.flushed.ensures.kept

pub returns-in-Ok-write_all-clause-flushed : goal.returns-in-Ok-write_all-clause-flushed
returns-in-Ok-write_all-clause-flushed g c = written_is_flushed c.flushed.result _ c.flushed.ensures.end
