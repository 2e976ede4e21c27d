-- Where no guess is undecided there is no list.
use Rattle.sk_speculator.proofs.Names.{◌∙◌, sym, tags_by, cut, log_at}
use Rattle.sk_speculator.proofs.Failing.{none_exact}
use Rattle.sk_speculator.proofs.lists.relieve_rest.Goals as goal

pub returns-then-alone-clause-exact : goal.returns-then-alone-clause-exact
returns-then-alone-clause-exact g c =
    none_exact g.K.Key.order (tags_by (λ q. cut c.args.id (log_at g.K.Key.order c.args.slots.now q))) c.args.guesses.now.opens
    (sym c.before.undecided-alone.ensures.opens ∙ c.if-alone.true)
