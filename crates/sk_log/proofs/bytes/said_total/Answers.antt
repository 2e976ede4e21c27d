use Rattle.sk_log.proofs.Read.{says_total}
use Rattle.sk_log.proofs.bytes.said_total.Goals as goal

pub returns-clause-said : goal.returns-clause-said
returns-clause-said c = λ segment number len total small is. says_total segment number len total c.args.head.now small is
