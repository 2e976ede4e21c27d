-- One object more keeps what holds of every boot.
use Rattle.sk_script.proofs.Names.{◌≡◌, ◌<◌, false, length, sym, ap, ◌∙◌, BootView, has_object}
use Rattle.sk_script.proofs.Boots.{object_declared, still_found}
use Rattle.sk_script.proofs.boot.Boot.object.Goals as goal

pub invariant_of-self-2 : goal.invariant_of-self-2
invariant_of-self-2 c =
    let boot : BootView = record { scripts = c.self.inside.scripts; objects = c.self.inside.objects.items; copies = c.self.inside.copies.items; processes = c.self.inside.processes.items } in
    let room : length boot.objects < 64 = rw (ap (λ (b : BootView). b.objects) c.self.view_is) c.requires.room in
    let new : has_object boot c.args.name ≡ false = ap (λ (b : BootView). has_object b c.args.name) c.self.view_is ∙ sym c.has_object.ensures ∙ c.if-has_object.false in
    rw c.in_ok-push.ensures.items (object_declared boot c.args.name c.args.kind c.in-Some.bytes c.self.invariant.0 room new, still_found _ _ boot boot.scripts _ c.self.invariant.1)
