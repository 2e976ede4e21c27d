-- What else was there stays.
use Rattle.sk_index.proofs.Under.{others_less}
use Rattle.sk_index.proofs.places.Places.remove.Goals as goal

pub returns-else-is_first : goal.returns-else-is_first
returns-else-is_first c =
    others_less c.args.self.now.firsts c.args.self.now.others c.remove-else-is_first.new.self
    (c.args.hash, c.args.place) c.remove-else-is_first.ensures.updates
