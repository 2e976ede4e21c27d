-- The process depends on just these, and the depend on none but these.
use Rattle.sk_machine.proofs.Names.{input_in, looked, looks_of, tags_in}
use Rattle.sk_machine.proofs.AsProcess.{covers_reads}
use Rattle.sk_machine.proofs.as_process.reads_within.Goals as goal

pub returns : goal.returns
returns c = λ is.
    covers_reads c.args.logs.now.tags c.args.pid (input_in c.args.input) (looked (looks_of c.args.plan.now)) (tags_in c.args.logs.now.slots) c.requires.own
    (c.signals_within.ensures c.if-not-signals_within.false) (c.plan_within.ensures is)
