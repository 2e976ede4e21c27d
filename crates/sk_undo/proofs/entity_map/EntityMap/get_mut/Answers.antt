-- A value changed through the loan is put at its key in the map of its kind.
use Rattle.sk_undo.proofs.Cites.{Some, refl, ap, ◌∙◌, object_cmp, name_order, nat_cmp, Proc, Sig, Exit, Obj, Copy}
use Rattle.sk_map.specs.Seen.{seen}
use Rattle.sk_undo.specs.Kinds.{link_cmp, link_of}
use Rattle.sk_undo.proofs.ByKind.{together, kinds_of, got, on_some, set_process, set_signals, set_exit, set_object, set_link, set_copy}
use Rattle.sk_undo.proofs.entity_map.EntityMap.get_mut.Goals as goal

pub returns-in-Proc : goal.returns-in-Proc
returns-in-Proc g c = (
  (
    refl,
    (λ w. on_some c.get_mut.result (set_process c.self.inside c.self.view_is (Some w) c.process.ensures c.in-Proc.is) (c.get_mut.follows.holds w)),
    ap (λ es. together (record (kinds_of c.self.inside) { processes = seen nat_cmp es })) c.get_mut.follows.holds-at-none ∙ c.self.view_is,
  ),
  record { writes_back = tt; value = got c.self.inside c.self.view_is Proc c.process.ensures c.in-Proc.is c.get_mut.ensures.value },
)

pub returns-in-Sig : goal.returns-in-Sig
returns-in-Sig g c = (
  (
    refl,
    (λ w. on_some c.get_mut-in-Sig.result (set_signals c.self.inside c.self.view_is (Some w) c.process-in-Sig.ensures c.in-Sig.is) (c.get_mut-in-Sig.follows.holds w)),
    ap (λ es. together (record (kinds_of c.self.inside) { signals = seen nat_cmp es })) c.get_mut-in-Sig.follows.holds-at-none ∙ c.self.view_is,
  ),
  record { writes_back = tt; value = got c.self.inside c.self.view_is Sig c.process-in-Sig.ensures c.in-Sig.is c.get_mut-in-Sig.ensures.value },
)

pub returns-in-Exit : goal.returns-in-Exit
returns-in-Exit g c = (
  (
    refl,
    (λ w. on_some c.get_mut-in-Exit.result (set_exit c.self.inside c.self.view_is (Some w) c.process-in-Exit.ensures c.in-Exit.is) (c.get_mut-in-Exit.follows.holds w)),
    ap (λ es. together (record (kinds_of c.self.inside) { exits = seen nat_cmp es })) c.get_mut-in-Exit.follows.holds-at-none ∙ c.self.view_is,
  ),
  record { writes_back = tt; value = got c.self.inside c.self.view_is Exit c.process-in-Exit.ensures c.in-Exit.is c.get_mut-in-Exit.ensures.value },
)

pub returns-in-Obj : goal.returns-in-Obj
returns-in-Obj g c = (
  (
    refl,
    (λ w. on_some c.get_mut-in-Obj.result (set_object c.self.inside c.self.view_is (Some w) c.object.ensures c.in-Obj.is) (c.get_mut-in-Obj.follows.holds w)),
    ap (λ es. together (record (kinds_of c.self.inside) { objects = seen object_cmp es })) c.get_mut-in-Obj.follows.holds-at-none ∙ c.self.view_is,
  ),
  record { writes_back = tt; value = got c.self.inside c.self.view_is Obj c.object.ensures c.in-Obj.is c.get_mut-in-Obj.ensures.value },
)

pub returns-in-Link : goal.returns-in-Link
returns-in-Link g c = (
  (
    refl,
    (λ w. on_some c.get_mut-in-Link.result (set_link c.self.inside c.self.view_is (Some w) c.link.ensures c.in-Link.is) (c.get_mut-in-Link.follows.holds w)),
    ap (λ es. together (record (kinds_of c.self.inside) { links = seen link_cmp es })) c.get_mut-in-Link.follows.holds-at-none ∙ c.self.view_is,
  ),
  record { writes_back = tt; value = got c.self.inside c.self.view_is link_of c.link.ensures c.in-Link.is c.get_mut-in-Link.ensures.value },
)

pub returns-in-Copy : goal.returns-in-Copy
returns-in-Copy g c = (
  (
    refl,
    (λ w. on_some c.get_mut-in-Copy.result (set_copy c.self.inside c.self.view_is (Some w) refl c.in-Copy.is) (c.get_mut-in-Copy.follows.holds w)),
    ap (λ es. together (record (kinds_of c.self.inside) { copies = seen name_order es })) c.get_mut-in-Copy.follows.holds-at-none ∙ c.self.view_is,
  ),
  record { writes_back = tt; value = got c.self.inside c.self.view_is Copy refl c.in-Copy.is c.get_mut-in-Copy.ensures.value },
)
