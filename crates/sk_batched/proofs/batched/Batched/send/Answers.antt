-- The open batch is sent, and the next has no guess yet.
use Rattle.sk_batched.proofs.Names.{rules, ◌≡◌, true, is_err, sym, subst, IsInStep}
use Rattle.sk_batched.proofs.Answering.{sent}
use Rattle.sk_batched.proofs.batched.Batched.send.Goals as goal

pub invariant_of-self : goal.invariant_of-self
invariant_of-self g c =
    let begun : c.self.inside.begun ≡ true = search rules in
    let same : c.is_err-self-inside.result ≡ is_err c.take_frame-sealed.result = search rules in (
      subst (λ b. IsInStep c.self.inside.kernel.parts c.take_frame-sealed.new.queue b c.self.inside.tokens.items) (sym same)
          (sent c.take_frame-sealed.result c.self.inside.kernel.parts c.self.inside.queue c.take_frame-sealed.new.queue _ _ _ _ c.self.inside.tokens.items c.take_frame-sealed.ensures
          (subst (λ b. IsInStep c.self.inside.kernel.parts c.self.inside.queue b c.self.inside.tokens.items) begun c.self.invariant.0)),
      c.self.invariant.1,
    )
