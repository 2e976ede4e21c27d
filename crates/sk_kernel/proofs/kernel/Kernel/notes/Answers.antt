-- The notes are those of the machine, whose logs are empty exactly where the trace says that nothing depends on a guess.
use Rattle.sk_kernel.proofs.Names.{◌∙◌, ap, subst, KernelView, undecided_at, CanHold, the_view}
use Rattle.sk_kernel.proofs.Noted.{notes_are, none_undecided}
use Rattle.sk_kernel.proofs.kernel.Kernel.notes.Goals as goal

pub returns-clause-held : goal.returns-clause-held
returns-clause-held c =
    subst (λ (k : KernelView). CanHold k c.notes.result) c.self.view_is
    (notes_are (the_view c.self.inside) c.self.inside.machine c.self.invariant.0.stands c.notes.result c.notes.ensures.count c.notes.ensures.none)

pub returns-clause-decided : goal.returns-clause-decided
returns-clause-decided c = λ none.
    (notes_are (the_view c.self.inside) c.self.inside.machine c.self.invariant.0.stands c.notes.result c.notes.ensures.count c.notes.ensures.none).none.1
    (none_undecided (the_view c.self.inside) c.self.inside.machine c.self.invariant.0.stands (ap undecided_at c.self.view_is ∙ none))
