use Rattle.sk_machine.proofs.AsProcess.{all_enough}
use Rattle.sk_machine.proofs.machine.Machine.least_tags.Goals as goal

pub returns-then-ids-all : goal.returns-then-ids-all
returns-then-ids-all c =
    all_enough c.args.self.now.slots c.args.self.now.opens c.args.pid c.open_count-all.result c.requires.tidy c.requires.rising c.open_count-all.ensures

pub returns-then-all-eq0 : goal.returns-then-all-eq0
returns-then-all-eq0 c =
    all_enough c.args.self.now.slots c.args.self.now.opens c.args.pid c.open_count-all.result c.requires.tidy c.requires.rising c.open_count-all.ensures
