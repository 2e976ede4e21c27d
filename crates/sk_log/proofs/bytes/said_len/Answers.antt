use Rattle.sk_log.proofs.Read.{says_len}
use Rattle.sk_log.proofs.bytes.said_len.Goals as goal

pub returns-clause-said : goal.returns-clause-said
returns-clause-said c = λ segment number len total short is. says_len segment number len total c.args.head.now short is
