-- Its parts are read one by one.
use Rattle.sk_messages.proofs.Read.{again}
use Rattle.sk_messages.proofs.laws.replies_are_read.Goals as goal

pub returns : goal.returns
returns c = again
