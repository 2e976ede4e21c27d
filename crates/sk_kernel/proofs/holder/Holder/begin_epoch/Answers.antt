-- None is undecided, and so memory alone can want.
use Rattle.sk_kernel.proofs.Names.{◌≡◌, ap, length, arith, undecided_at, HolderView}
use Rattle.sk_kernel.proofs.LetGo.{begins}
use Rattle.sk_kernel.proofs.holder.Holder.begin_epoch.Goals as goal

pub returns : goal.returns
returns c =
    let inside = ap (λ (h : HolderView). length (undecided_at h.kernel)) c.self.view_is in
    let few : length (undecided_at c.args.self.now.kernel) ≡ 0 = omega (arith, c.if-undecided-gt0.false, c.undecided-undecided.ensures, inside) in
    begins c.new_epoch.result c.args.self.now c.spend.new.self c.new_epoch.new.self few c.spend.ensures.held c.spend.ensures.struck c.new_epoch.ensures.kernel c.new_epoch.ensures.memory c.new_epoch.ensures.held
