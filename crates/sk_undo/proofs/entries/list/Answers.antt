-- What is listed is so of one kind after another.
use Rattle.sk_undo.proofs.Cites.{◌≡◌, [], ◌++◌, List, ap, arith, ◌∙◌, each, Entity, Proc, Sig, Exit, Obj, Copy, SlotView}
use Rattle.std.proofs.lemmas.Grind.{common_steps}
use Rattle.std.specs.List.{flat_map}
use Rattle.sk_undo.specs.Kinds.{link_of, lifted}
use Rattle.sk_store.specs.Present.{shown}
use Rattle.sk_undo.specs.Present.{shown_at}
use Rattle.sk_undo.proofs.ByKind.{all_added, one_by_one}
use Rattle.sk_undo.proofs.Listed.{one_kind}
use Rattle.sk_undo.proofs.entries.list.Goals as goal

-- of a kind of which nothing is left
none_left : {K : Type 0} (f : K → Entity) (left : List (K × SlotView)) → left ≡ [] → flat_map shown_at (lifted f left) ≡ []
none_left f left none = ap (λ es. flat_map shown_at (lifted f es)) none

pub returns : goal.returns
returns c =
    let p = c.into_iter-process-iterator in
    let s = c.into_iter-signals-iterator in
    let x = c.into_iter-exit-iterator in
    let o = c.into_iter-object-iterator in
    let l = c.into_iter-link-iterator in
    let n = c.into_iter-copy-iterator in
    one_by_one (flat_map shown_at (lifted Proc p.result)) (flat_map shown_at (lifted Sig s.result)) (flat_map shown_at (lifted Exit x.result))
    (flat_map shown_at (lifted Obj o.result)) (flat_map shown_at (lifted link_of l.result)) (flat_map shown_at (lifted Copy n.result))
    (ap (each shown) c.requires)
    (all_added _ _ _ (none_left Proc c.loop-process.process-iterator (grind (arith, common_steps))) c.loop-process.invariant)
    (all_added _ _ _ (none_left Sig c.loop-signals.signals-iterator (grind (arith, common_steps))) c.loop-signals.invariant)
    (all_added _ _ _ (none_left Exit c.loop-exit.exit-iterator (grind (arith, common_steps))) c.loop-exit.invariant)
    (all_added _ _ _ (none_left Obj c.loop-object.object-iterator (grind (arith, common_steps))) c.loop-object.invariant)
    (all_added _ _ _ (none_left link_of c.loop-link.link-iterator (grind (arith, common_steps))) c.loop-link.invariant)
    (all_added _ _ _ (none_left Copy c.loop-copy.copy-iterator (grind (arith, common_steps))) c.loop-copy.invariant)
    ∙ one_kind (lifted Proc p.result) (lifted Sig s.result) (lifted Exit x.result) (lifted Obj o.result) (lifted link_of l.result) (lifted Copy n.result)
    ∙ ap (flat_map shown_at) ((λ i. lifted Proc (p.ensures.into_iter_gives i) ++ (lifted Sig (s.ensures.into_iter_gives i)
    ++ (lifted Exit (x.ensures.into_iter_gives i) ++ (lifted Obj (o.ensures.into_iter_gives i) ++ (lifted link_of (l.ensures.into_iter_gives i)
    ++ lifted Copy (n.ensures.into_iter_gives i)))))) ∙ c.iter-by_kind.ensures)
