-- With nothing undecided each text is released.
use Rattle.sk_kernel.proofs.Names.{sym, ◌∙◌, ap, subst, TerminalMap, released_at, KernelView, undecided_at, LeavesTexts}
use Rattle.sk_kernel.proofs.Names.{the_view}
use Rattle.sk_kernel.proofs.Whole.{texts_left}
use Rattle.sk_kernel.proofs.kernel.Kernel.shut.Goals as goal

pub returns-clause-texts : goal.returns-clause-texts
returns-clause-texts c = λ t.
    let m = c.self.inside.machine in
    subst (λ (texts : TerminalMap). LeavesTexts c.args.self t (released_at texts t)) (sym c.into_texts.ensures)
    (subst (λ (k : KernelView). LeavesTexts k t (released_at m.texts t)) c.self.view_is
    (texts_left (the_view c.self.inside) m c.self.invariant.0.stands (ap undecided_at c.self.view_is ∙ c.requires) t))
