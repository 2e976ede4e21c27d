-- The list of an undecided guess is exact, and another has none.
use Rattle.sk_machine.proofs.Names.{◌≡◌, true, ap, ◌∙◌, subst, is_in, has, numbers, tags_at, entity_cmp, dependents_of}
use Rattle.sk_machine.proofs.Names.{none_there, tags_in, Parts, undo_state_of}
use Rattle.sk_machine.proofs.Listed.{exact_at}
use Rattle.sk_machine.proofs.machine.Machine.dependents.Goals as goal

pub returns-clause-exact : goal.returns-clause-exact
returns-clause-exact c = λ here e.
    ap (λ es. is_in entity_cmp es e) c.dependents.ensures.value
    ∙ subst (λ (p : Parts). has c.args.id (numbers p.opens) ≡ true → is_in entity_cmp (dependents_of c.args.id c.self.inside.guesses.opens) e ≡ has c.args.id (tags_at (undo_state_of p) e)) c.self.view_is
    (λ among. exact_at (tags_in c.self.inside.logs.slots) c.args.id c.self.inside.guesses.opens c.self.invariant.0 among e) here

pub returns-clause-none : goal.returns-clause-none
returns-clause-none c = λ none.
    c.dependents.ensures.value ∙ none_there c.args.id c.self.inside.guesses.opens (ap (λ (p : Parts). has c.args.id (numbers p.opens)) c.self.view_is ∙ none)
