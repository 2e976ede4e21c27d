-- A failure more, or a struck guess's token.
use Rattle.std.proofs.Common.{refl}
use Rattle.sk_kernel.proofs.LetGo.{kernel_stays, none_failed, spent}
use Rattle.sk_kernel.proofs.holder.Holder.spend.Goals as goal

pub loop-token-init : goal.loop-token-init
loop-token-init c = record { fails = none_failed c.args.self.now.kernel; struck = λ none. refl }

pub loop-token-preserved : goal.loop-token-preserved
loop-token-preserved c = record {
  fails = spent c.args.self.now.kernel c.loop-token.self c.fail.new.self c.id-id.result c.fail.result c.loop-token.invariant.fails c.fail.ensures;
  struck = λ none. kernel_stays c.args.self.now.kernel c.loop-token.self c.fail.new.self c.id-id.result c.fail.result none (c.loop-token.invariant.struck none) c.fail.ensures;
}
