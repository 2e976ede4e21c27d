-- What was there stays beside one more of the others.
use Rattle.sk_index.proofs.Under.{others_more}
use Rattle.sk_index.proofs.places.Places.insert.Goals as goal

pub returns-then-is_some-clause-kept : goal.returns-then-is_some-clause-kept
returns-then-is_some-clause-kept c =
    others_more c.args.self.now.firsts c.args.self.now.others c.insert.new.self (c.args.hash, c.args.place)
    c.in_ok-insert.ensures.updates
