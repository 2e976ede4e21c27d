-- What a terminal has are the texts of the trace.
use Rattle.sk_kernel.proofs.Names.{◌≡◌, [], subst, MatchOption, KernelView, ShowsTerminal, texts_at, said_by_record, the_view}
use Rattle.sk_kernel.proofs.Whole.{terminal_shown}
use Rattle.sk_kernel.proofs.kernel.Kernel.terminal.Goals as goal

pub returns : goal.returns
returns c =
    subst (λ (k : KernelView). MatchOption c.terminal.result ((texts_at k c.args.number ≡ []) × (said_by_record k c.args.number ≡ [])) (λ x. ShowsTerminal k c.args.number x.now)) c.self.view_is
    (terminal_shown (the_view c.self.inside) c.self.inside.machine c.self.invariant.0.stands c.args.number c.terminal.result c.terminal.ensures)
