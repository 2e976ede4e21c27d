-- The plan is performed with the guesses that are set.
use Rattle.sk_machine.proofs.Names.{sym, subst, LogsView, input_in, CanPerformWith, HasPerformed}
use Rattle.sk_machine.proofs.machine.perform_guess.Goals as goal

pub perform-requires : goal.perform-requires
perform-requires c =
    subst (λ (l : LogsView). CanPerformWith l.slots l.tags c.args.scripts.now c.args.pid (input_in c.args.input) c.args.plan.now)
    (sym c.set_tags.ensures) c.requires

pub returns-clause-did : goal.returns-clause-did
returns-clause-did c =
    subst (λ (l : LogsView). HasPerformed c.perform.result l.slots l.tags c.args.scripts.now c.args.pid (input_in c.args.input)
    c.args.plan.now c.perform.new.logs.slots c.args.terminals.now c.perform.new.terminals) c.set_tags.ensures c.perform.ensures
