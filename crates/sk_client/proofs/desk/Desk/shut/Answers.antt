-- The kernel's trace and texts are the desk's.
use Rattle.sk_client.proofs.Names.{◌∙◌, ap, subst, arith, released_at, KernelView, LeavesTexts, DeskView, pending}
use Rattle.sk_client.proofs.Names.{nil_from_length}
use Rattle.sk_client.proofs.desk.Desk.shut.Goals as goal

pub returns : goal.returns
returns c =
    let kernel = ap (λ (d : DeskView). d.kernel) c.self.view_is in
    let counted = c.pending-count.ensures in
    let none = c.if-count-gt0.false in (
      nil_from_length (pending c.args.self) (omega (arith, counted, none)),
      c.shut.ensures.trace ∙ ap (λ (k : KernelView). k.trace) kernel,
      λ t. subst (λ (k : KernelView). LeavesTexts k t (released_at c.shut.result.1 t)) kernel (c.shut.ensures.texts t),
    )
