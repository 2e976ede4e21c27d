use Rattle.sk_log.proofs.Reading.{begun}
use Rattle.sk_log.proofs.recovery.Recovery.new.Goals as goal

pub returns : goal.returns
returns c = begun c.args.segment c.args.number _ _ c.new.ensures c.front_of.ensures
