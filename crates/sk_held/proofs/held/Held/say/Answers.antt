-- The copy is what the step says.
use Rattle.sk_held.proofs.Names.{Some, refl, subst, byte_deed, HeldView, Says}
use Rattle.sk_held.proofs.held.Held.say.Goals as goal

pub returns : goal.returns
returns c =
    subst (λ (h : HeldView). Says c.args.channel c.args.output.now h (record { kernel = c.self.inside.kernel; step = record (byte_deed c.self.inside.step) { said = Some (c.args.channel, c.in_ok-output.output) }; out = c.self.inside.out.items }))
    c.self.view_is (c.in_ok-output.output, c.in_ok-output.ensures.ok, refl)
