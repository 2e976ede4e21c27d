-- The entities are the keys of one map after another.
use Rattle.sk_undo.proofs.Cites.{◌≡◌, [], ◌++◌, ap, arith, sym, ◌∙◌, each, Proc, Sig, Exit, Obj, Copy}
use Rattle.std.proofs.lemmas.Grind.{common_steps}
use Rattle.std.specs.FinMap as map
use Rattle.sk_undo.specs.Kinds.{link_of}
use Rattle.sk_undo.proofs.ByKind.{kinds_of, joined_keys, all_added, one_by_one}
use Rattle.sk_undo.proofs.entity_map.EntityMap.list.Goals as goal

pub returns : goal.returns
returns g c =
    let p : c.loop-process.process-iterator ≡ [] = grind (arith, common_steps) in
    let s : c.loop-signals.signals-iterator ≡ [] = grind (arith, common_steps) in
    let x : c.loop-exit.exit-iterator ≡ [] = grind (arith, common_steps) in
    let o : c.loop-object.object-iterator ≡ [] = grind (arith, common_steps) in
    let l : c.loop-link.link-iterator ≡ [] = grind (arith, common_steps) in
    let n : c.loop-copy.copy-iterator ≡ [] = grind (arith, common_steps) in
    let processes = c.into_iter-process-iterator.ensures.into_iter_gives ∙ c.keys-process-items.ensures.rest in
    let signals = c.into_iter-signals-iterator.ensures.into_iter_gives ∙ c.keys-signals-items.ensures.rest in
    let exits = c.into_iter-exit-iterator.ensures.into_iter_gives ∙ c.keys-exit-items.ensures.rest in
    let objects = c.into_iter-object-iterator.ensures.into_iter_gives ∙ c.keys-object-items.ensures.rest in
    let links = c.into_iter-link-iterator.ensures.into_iter_gives ∙ c.keys-link-items.ensures.rest in
    let copies = c.into_iter-copy-iterator.ensures.into_iter_gives ∙ c.keys-copy-items.ensures.rest in
    one_by_one (each Proc c.into_iter-process-iterator.result) (each Sig c.into_iter-signals-iterator.result)
    (each Exit c.into_iter-exit-iterator.result) (each Obj c.into_iter-object-iterator.result)
    (each link_of c.into_iter-link-iterator.result) (each Copy c.into_iter-copy-iterator.result) c.requires
    (all_added _ _ _ (ap (each Proc) p) c.loop-process.invariant) (all_added _ _ _ (ap (each Sig) s) c.loop-signals.invariant)
    (all_added _ _ _ (ap (each Exit) x) c.loop-exit.invariant) (all_added _ _ _ (ap (each Obj) o) c.loop-object.invariant)
    (all_added _ _ _ (ap (each link_of) l) c.loop-link.invariant) (all_added _ _ _ (ap (each Copy) n) c.loop-copy.invariant)
    ∙ (λ i. each Proc (processes i) ++ (each Sig (signals i) ++ (each Exit (exits i) ++ (each Obj (objects i) ++ (each link_of (links i) ++ each Copy (copies i))))))
    ∙ sym (joined_keys (kinds_of c.self.inside))
    ∙ ap map.keys c.self.view_is
