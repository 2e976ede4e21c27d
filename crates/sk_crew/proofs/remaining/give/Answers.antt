use Rattle.sk_crew.proofs.Duties.{replied}
use Rattle.sk_crew.proofs.remaining.give.Goals as goal

pub returns-in_default-clause-replies : goal.returns-in_default-clause-replies
returns-in_default-clause-replies g c = replied c.args.worker c.reply.result.0 _ _ tt c.reply.ensures.receipt
