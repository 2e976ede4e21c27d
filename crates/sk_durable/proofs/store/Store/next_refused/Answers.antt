-- What was hung up is let go of.
use Rattle.sk_durable.proofs.Names.{◌≡◌, sym, ◌∙◌, subst, Sweeps}
use Rattle.sk_durable.proofs.Out.{let_go_sweeps, sweeps_on}
use Rattle.sk_durable.proofs.store.Store.next_refused.Goals as goal
use Rattle.sk_durable.proofs.store.Store.next_refused.Goals.{then-is_hung_up, else-is_hung_up}

pub loop-channel-preserved : goal.loop-channel-preserved
loop-channel-preserved c =
    let was : c.has_refusals.new.self ≡ c.loop-channel.self =
    c.has_refusals.ensures.same ∙ c.self-in-loop-channel.view_is in
    let start : Sweeps c.args.self.now c.has_refusals.new.self =
    subst (λ s. Sweeps c.args.self.now s) (sym was) c.loop-channel.invariant in
    elim c.if-is_hung_up.branch [
      | then-is_hung_up w ↦
          subst (λ s. Sweeps c.args.self.now s) (sym w.self-is)
          (sweeps_on c.args.self.now c.has_refusals.new.self w.let_go.new.self start
          (let_go_sweeps c.loop-channel.channel c.has_refusals.new.self w.let_go.new.self w.let_go.ensures))
      | else-is_hung_up w ↦ subst (λ s. Sweeps c.args.self.now s) (sym w.self-is) start
    ]
