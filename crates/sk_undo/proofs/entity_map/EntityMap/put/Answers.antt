-- A value is put at its key in the map of its kind.
use Rattle.sk_undo.proofs.Cites.{Some, refl}
use Rattle.sk_undo.proofs.ByKind.{on_ok, set_process, set_signals, set_exit, set_object, set_link, set_copy}
use Rattle.sk_undo.proofs.entity_map.EntityMap.put.Goals as goal

pub returns-in-Proc-clause-ok : goal.returns-in-Proc-clause-ok
returns-in-Proc-clause-ok g c =
    on_ok c.put.result (set_process c.self.inside c.self.view_is (Some c.args.value) c.process.ensures c.in-Proc.is) c.put.ensures.ok

pub returns-in-Sig-clause-ok : goal.returns-in-Sig-clause-ok
returns-in-Sig-clause-ok g c =
    on_ok c.put-in-Sig.result (set_signals c.self.inside c.self.view_is (Some c.args.value) c.process-in-Sig.ensures c.in-Sig.is) c.put-in-Sig.ensures.ok

pub returns-in-Exit-clause-ok : goal.returns-in-Exit-clause-ok
returns-in-Exit-clause-ok g c =
    on_ok c.put-in-Exit.result (set_exit c.self.inside c.self.view_is (Some c.args.value) c.process-in-Exit.ensures c.in-Exit.is) c.put-in-Exit.ensures.ok

pub returns-in-Obj-clause-ok : goal.returns-in-Obj-clause-ok
returns-in-Obj-clause-ok g c =
    on_ok c.put-in-Obj.result (set_object c.self.inside c.self.view_is (Some c.args.value) c.object.ensures c.in-Obj.is) c.put-in-Obj.ensures.ok

pub returns-in-Link-clause-ok : goal.returns-in-Link-clause-ok
returns-in-Link-clause-ok g c =
    on_ok c.put-in-Link.result (set_link c.self.inside c.self.view_is (Some c.args.value) c.link.ensures c.in-Link.is) c.put-in-Link.ensures.ok

pub returns-in-Copy-clause-ok : goal.returns-in-Copy-clause-ok
returns-in-Copy-clause-ok g c =
    on_ok c.put-in-Copy.result (set_copy c.self.inside c.self.view_is (Some c.args.value) refl c.in-Copy.is) c.put-in-Copy.ensures.ok
