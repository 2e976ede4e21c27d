-- One script more keeps what holds of every boot.
use Rattle.sk_script.specs.Boot.{BootView}
use Rattle.sk_script.proofs.Boots.{script_declared, still_found}
use Rattle.sk_script.proofs.boot.Boot.script.Goals as goal

pub invariant_of-self-2 : goal.invariant_of-self-2
invariant_of-self-2 c =
    let boot : BootView = record { scripts = c.self.inside.scripts; objects = c.self.inside.objects.items; copies = c.self.inside.copies.items; processes = c.self.inside.processes.items } in
    rw c.in_ok-insert.ensures.ok (script_declared boot c.args.name c.args.script c.self.invariant.0, still_found _ _ boot _ boot.objects c.self.invariant.1)
