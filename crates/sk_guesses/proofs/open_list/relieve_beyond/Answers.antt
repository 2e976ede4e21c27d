-- The lists are changed, and there are as many.
use Rattle.sk_guesses.proofs.Names.{relieved_beyond}
use Rattle.sk_guesses.proofs.Opens.{as_long}
use Rattle.sk_guesses.proofs.open_list.relieve_beyond.Goals as goal

pub returns-clause-opens : goal.returns-clause-opens
returns-clause-opens g c = c.relieve_beyond.ensures

pub returns-clause-as_many : goal.returns-clause-as_many
returns-clause-as_many g c = as_long (relieved_beyond g.E.Key.order c.args.tags.now c.args.own.now c.args.entity.now) c.relieve_beyond.new.self.items c.args.opens.now.items c.relieve_beyond.ensures
