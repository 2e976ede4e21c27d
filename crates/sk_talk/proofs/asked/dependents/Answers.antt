-- The entities that are listed are those that depend on the guess.
use Rattle.sk_talk.proofs.asked.dependents.Goals as goal

pub returns : goal.returns
returns c = (c.dependents.result.now, record { rising = c.dependents.ensures.rising; exact = c.dependents.ensures.exact }, c.in_ok-text.ensures)
