-- In each list it is taken out or stays, and lists with nothing left go.
use Rattle.sk_terminal.proofs.Names.{◌||◌, not, rules, ◌==◌, rests_at}
use Rattle.sk_terminal.proofs.Listed.{left_in_turn, tidy_in_turn}
use Rattle.sk_terminal.proofs.listing.take_off.Goals as goal

pub returns-clause-left : goal.returns-clause-left
returns-clause-left c = left_in_turn _ _ (λ g t. not (c.args.number == t) || rests_at g c.args.numbered.now t) (λ x b t y step. search (rules, step)) _ _ c.retain_mut.ensures.filtered c.requires

pub returns-clause-tidy : goal.returns-clause-tidy
returns-clause-tidy c = tidy_in_turn _ _ (λ g t. not (c.args.number == t) || rests_at g c.args.numbered.now t) (λ x b t y step. search (rules, step)) _ _ c.retain_mut.ensures.filtered c.requires
