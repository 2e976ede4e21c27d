-- The lists are changed, and there are as many.
use Rattle.sk_guesses.proofs.Opens.{as_long}
use Rattle.sk_guesses.proofs.open_list.relieve.Goals as goal

pub returns-clause-opens : goal.returns-clause-opens
returns-clause-opens g c = c.leave.ensures

pub returns-clause-as_many : goal.returns-clause-as_many
returns-clause-as_many g c = as_long _ c.leave.new.self.items c.args.opens.now.items c.leave.ensures
