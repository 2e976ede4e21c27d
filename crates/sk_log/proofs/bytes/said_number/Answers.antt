use Rattle.sk_log.proofs.Read.{says_number}
use Rattle.sk_log.proofs.bytes.said_number.Goals as goal

pub returns-clause-said : goal.returns-clause-said
returns-clause-said c = λ segment number len total small is. says_number segment number len total c.args.head.now small is
