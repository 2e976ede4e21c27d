-- A key is made absent in the map of its kind.
use Rattle.sk_undo.proofs.Cites.{None, refl}
use Rattle.sk_undo.proofs.ByKind.{set_process, set_signals, set_exit, set_object, set_link, set_copy}
use Rattle.sk_undo.proofs.entity_map.EntityMap.remove.Goals as goal

pub returns-in-Proc : goal.returns-in-Proc
returns-in-Proc g c = set_process c.self.inside c.self.view_is None c.process.ensures c.in-Proc.is c.remove.ensures

pub returns-in-Sig : goal.returns-in-Sig
returns-in-Sig g c = set_signals c.self.inside c.self.view_is None c.process-in-Sig.ensures c.in-Sig.is c.remove-in-Sig.ensures

pub returns-in-Exit : goal.returns-in-Exit
returns-in-Exit g c = set_exit c.self.inside c.self.view_is None c.process-in-Exit.ensures c.in-Exit.is c.remove-in-Exit.ensures

pub returns-in-Obj : goal.returns-in-Obj
returns-in-Obj g c = set_object c.self.inside c.self.view_is None c.object.ensures c.in-Obj.is c.remove-in-Obj.ensures

pub returns-in-Link : goal.returns-in-Link
returns-in-Link g c = set_link c.self.inside c.self.view_is None c.link.ensures c.in-Link.is c.remove-in-Link.ensures

pub returns-in-Copy : goal.returns-in-Copy
returns-in-Copy g c = set_copy c.self.inside c.self.view_is None refl c.in-Copy.is c.remove-in-Copy.ensures
