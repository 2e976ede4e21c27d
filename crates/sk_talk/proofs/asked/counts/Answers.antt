-- The counts that are told are those of the kernel.
use Rattle.sk_talk.proofs.asked.counts.Goals as goal

pub returns : goal.returns
returns c = (c.in_ok-counts.counts, c.in_ok-counts.ensures, c.in_ok-text.ensures)
