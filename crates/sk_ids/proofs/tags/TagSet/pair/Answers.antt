use Rattle.sk_ids.proofs.GuessSets.{rising_two}
use Rattle.sk_ids.proofs.tags.TagSet.pair.Goals as goal

pub invariant_of-result : goal.invariant_of-result
invariant_of-result c =
    rw (c.of.ensures, c.push_reserved-2.ensures.items, c.push_reserved.ensures.items, c.new-ids.ensures.items) (rising_two c.args.oldest c.args.newest c.requires)
