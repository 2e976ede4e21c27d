-- Each kind is looked up in its map.
use Rattle.sk_undo.proofs.Cites.{refl, Proc, Sig, Exit, Obj, Copy}
use Rattle.sk_undo.specs.Kinds.{link_of}
use Rattle.sk_undo.proofs.ByKind.{got}
use Rattle.sk_undo.proofs.entity_map.EntityMap.get_late.Goals as goal

pub returns-in-Proc : goal.returns-in-Proc
returns-in-Proc g c = got c.self.inside c.self.view_is Proc c.process.ensures c.in-Proc.is c.found_late.ensures

pub returns-in-Sig : goal.returns-in-Sig
returns-in-Sig g c = got c.self.inside c.self.view_is Sig c.process-in-Sig.ensures c.in-Sig.is c.found_late-in-Sig.ensures

pub returns-in-Exit : goal.returns-in-Exit
returns-in-Exit g c = got c.self.inside c.self.view_is Exit c.process-in-Exit.ensures c.in-Exit.is c.found_late-in-Exit.ensures

pub returns-in-Obj : goal.returns-in-Obj
returns-in-Obj g c = got c.self.inside c.self.view_is Obj c.object.ensures c.in-Obj.is c.found_late-in-Obj.ensures

pub returns-in-Link : goal.returns-in-Link
returns-in-Link g c = got c.self.inside c.self.view_is link_of c.link.ensures c.in-Link.is c.found.ensures

pub returns-in-Copy : goal.returns-in-Copy
returns-in-Copy g c = got c.self.inside c.self.view_is Copy refl c.in-Copy.is c.found-in-Copy.ensures
