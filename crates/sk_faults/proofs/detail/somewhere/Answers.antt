-- At the word of the index that was looked for.
use Rattle.sk_faults.proofs.detail.somewhere.Goals as goal

pub returns : goal.returns
returns c = (c.args.index, c.place_at.ensures)
