use Rattle.sk_counts.proofs.kinds.makes_struck.Goals as goal

pub returns-in-Guess : goal.returns-in-Guess
returns-in-Guess c = rw c.in-Guess.is c.is_struck_here.ensures
