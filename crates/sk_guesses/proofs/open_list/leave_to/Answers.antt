-- The lists are changed, and there are as many.
use Rattle.sk_guesses.proofs.Names.{◌∙◌, map}
use Rattle.sk_guesses.proofs.Opens.{guess_of, as_long}
use Rattle.sk_guesses.proofs.Shared.{left_all}
use Rattle.sk_guesses.proofs.open_list.leave_to.Goals as goal

pub returns-clause-opens : goal.returns-clause-opens
returns-clause-opens g c = c.leave.ensures ∙ left_all g.E.Key.order c.args.tags.now c.args.entity.now (map guess_of c.args.opens.now.items)

pub returns-clause-as_many : goal.returns-clause-as_many
returns-clause-as_many g c = as_long _ c.leave.new.self.items c.args.opens.now.items c.leave.ensures
