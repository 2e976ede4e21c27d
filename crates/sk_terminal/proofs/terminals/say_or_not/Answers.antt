-- Refused, it is listed just where a text of it depends on the guess.
use Rattle.sk_terminal.proofs.Names.{sym, subst, AreListed}
use Rattle.sk_terminal.proofs.Decided.{refused_listed}
use Rattle.sk_terminal.proofs.terminals.say_or_not.Goals as goal

pub returns-in-Err-clause-listed : goal.returns-in-Err-clause-listed
returns-in-Err-clause-listed c =
    refused_listed c.say_listed.new.numbered c.args.lists.now.items c.say_listed.new.lists.items c.take_off.new.lists.items c.args.number
    (subst (λ m. AreListed m c.args.lists.now.items) (sym c.in-Err.ensures.err) c.requires.listed) c.in-Err.ensures.more c.take_off.ensures.left
