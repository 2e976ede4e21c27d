-- The terminal is listed for each guess that the text depends on.
use Rattle.sk_terminal.proofs.Names.{sym, subst, has, AreListed}
use Rattle.sk_terminal.proofs.Decided.{said_listed}
use Rattle.sk_terminal.proofs.Listed.{at_most, on_err_given}
use Rattle.sk_terminal.proofs.terminals.say_listed.Goals as goal

pub returns-in_err-say-clause-more : goal.returns-in_err-say-clause-more
returns-in_err-say-clause-more c =
    on_err_given _ (at_most c.args.lists.now.items c.list.new.lists.items c.args.number (λ g. has g c.args.tags) c.in_ok-list.ensures.ok)

pub returns-clause-listed : goal.returns-clause-listed
returns-clause-listed c =
    subst (λ m. AreListed m c.list.new.lists.items) (sym c.in_ok-say.ensures.ok)
    (said_listed c.args.numbered.now c.args.lists.now.items c.list.new.lists.items c.args.number (c.args.text.now, c.args.tags) c.requires.listed c.in_ok-list.ensures.ok)
