-- There is no list, or what is in the lists depends on their guesses.
use Rattle.sk_machine.proofs.Names.{sym, subst, arith, AllExact, tags_in}
use Rattle.sk_machine.proofs.Listed.{no_length}
use Rattle.sk_machine.proofs.lists.relieve_freed.Goals as goal

pub returns-then-undecided-eq0-clause-exact : goal.returns-then-undecided-eq0-clause-exact
returns-then-undecided-eq0-clause-exact c =
    subst (AllExact (tags_in c.args.logs.now.slots)) (sym (no_length c.args.guesses.now.opens (omega (arith, c.undecided.ensures.opens, c.if-undecided-eq0.true)))) tt
