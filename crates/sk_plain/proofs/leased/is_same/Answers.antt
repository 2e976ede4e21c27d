-- The test of processes is exact.
use Rattle.sk_plain.proofs.Cites.{Decides-at, exact_process}
use Rattle.sk_script.specs.contracts.process.ProcessPartialEq.TheImpl as process
use Rattle.sk_plain.proofs.leased.is_same.Goals as goal

pub returns : goal.returns
returns c = Decides-at c.eq.result ((process.ghosts).eq c.args.process.now c.args.other.now) c.eq.ensures (exact_process c.args.process.now c.args.other.now)
