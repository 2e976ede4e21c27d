-- What is owned at the pointer is owned by the box that `from_raw` answers.
use Rattle.sk_cells.proofs.Names.{◌≡◌, List, [], ◌∷◌, refl, a_type, Val, inst_fn, full_share, id⊢, ftrue, flft, ‵}
use Rattle.sk_cells.proofs.Names.{raw, at_ret, ◌⊛◌, some, later, ◌$◌, ◌∵◌, !, qed, drop, keep, move, split, split3}
use Rattle.sk_cells.proofs.Names.{join, fsplit, fjoin, feq_i, pick, await, suffices, use1, use0, done, enter}
use Rattle.sk_cells.proofs.Names.{of_opd, stop, fld, first, blocks, exec, no_more, and_then, returns, alloc_all}
use Rattle.sk_cells.proofs.Names.{pass_all, free_all, look_at, get, get_in, sets, lands_last, env, sub, whole}
use Rattle.sk_cells.proofs.Names.{lft_new, ◌⊑◌, fact, fact_i, tables, yes, no, RattleType, param, layouts}
use Rattle.sk_cells.proofs.Names.{param_laws, glues, ptr_val, plain, Is, shows, nothing, heard, peeks}
use Rattle.sk_cells.proofs.Names.{calls_at_last, Lasts, lasts, triple_of, Stays, stay_dropped, Goes-dropped}
use Rattle.sk_cells.proofs.Names.{walk_of, says, ends_at, fm, after, proved, passed, global_laws, global_within}
use Rattle.sk_cells.proofs.Names.{global_lowers, met}
use Rattle.sk_cells.proofs.Destruct++none.drop.Code as nodrop
use Rattle.sk_cells.proofs.Pointer.{word, ptr_fits, word_fits}
use Rattle.sk_cells.proofs.Heap.{Global, Z, LZ, ghosts, dict, drops}
use Rattle.std_alloc.specs.contracts.boxed.Box as box
use Rattle.std_alloc.proofs.boxed.Box.TheLaws as box_laws
use Rattle.std_alloc.specs.contracts.boxed.Box.from_raw as g
use Rattle.sk_cells.specs.contracts.kept.Kept as kept
use Rattle.sk_cells.proofs.kept.Kept.TheLaws.{lowers}
use Rattle.sk_cells.specs.contracts.kept.Kept.into_box as f
use Rattle.sk_cells.proofs.kept.Kept.into_box.Statement.{statement}
use Rattle.sk_cells.proofs.kept.Kept.into_box.Code as code

pub into_box_spec : {M : Type 1} → statement M
unfolding nodrop.code
into_box_spec {M} 𝓤 𝓛 𝓜 𝓡 wired T L =
    let 𝓣 = tables 𝓤 𝓛.H 𝓜 𝓡 𝓡.env in
    let R : RattleType = param 0 T in let B : RattleType = box.the_row R Global ghosts in let Kept : RattleType = kept.the_row R in
    let LR = param_laws 0 T L in let LB = box_laws.the_row_laws R Global ghosts LR global_laws in let laws = global_laws in
    let args = layouts (a_type ∷ []) (T, tt) in let fn = inst_fn args code.function in
    let ended = f.ended T in let c = f.clauses T 𝓛 𝓜.mem 𝓡.returns in
    let stayed : Stays ended.signature.params ended.kept = (stay_dropped (plain (λ _. Kept)) no, (stay_dropped (plain (λ _. Global)) yes, tt)) in
    proved 𝓛 ended stayed c 𝓜 𝓡 (Goes-dropped 𝓛 1 (plain (λ _. Kept)) no (λ κs x w. refl), (Goes-dropped 𝓛 1 (plain (λ _. Global)) yes (λ κs x w. refl), tt))
    (f.Key.name args) fn (code.unfolded 𝓤 𝓛.H 𝓜 𝓡 wired (T, tt))
    (λ κs. ((λ k. word k.at ∷ []), ((λ a. global_lowers.lowered a ∷ []), tt))) (λ κs. ((lowers R LR).val_is, (global_lowers.val_is, tt))) (λ κs qs bounds a n are.
    let κ = κs.0 in let q = qs.0 in let k = a.0 in let p = k.at in let alloc = a.1.0 in let h = global_lowers.lowered alloc in
    let y : (walk_of 𝓛 ended stayed c).Ghost = ((κs, qs, bounds, a, (word p ∷ [], (h ∷ [], tt))), n) in
    let is_global = ((laws.lawful 𝓛).typed alloc (h ∷ []) are.1.0).0 in
    let Post = (walk_of 𝓛 ended stayed c).post y in
    let G = triple_of 𝓛 (g.signature T Z ghosts dict drops) (g.spec T Z ghosts dict drops 𝓛 𝓜.mem 𝓡.returns) in
    let known = met 𝓤 𝓛 𝓜 𝓡 (code.calls-std_alloc::boxed::Box::from_raw 𝓡.env wired) T Z L LZ ghosts dict drops
    (passed 𝓡.env (code.calls-std_heap::GlobalAllocator::allocate 𝓡.env wired) (code.calls-std_heap::GlobalAllocator::deallocate 𝓡.env wired)
    (code.calls-std_heap::GlobalAllocator::grow 𝓡.env wired) (code.calls-std_heap::GlobalAllocator::shrink 𝓡.env wired) M 𝓤 𝓛 𝓜 𝓡)
    (glues "sk_cells::Destruct++none::drop" 𝓡.env (code.calls-sk_cells::Destruct++none::drop 𝓡.env wired) Z LZ M 𝓤 𝓛 𝓜 𝓡) in
    qed 𝓛 (((‵ (flft κ q) ⊛ ‵ ftrue) ⊛ ‵ (Kept.own_val k (word p ∷ [])) ⊛ ‵ (Global.own_val alloc (h ∷ [])) ⊛ ‵ ftrue) ∷ (raw (fact 𝓤 (κ ⊑ T.lives)) ⊛ ‵ ftrue) ∷ []) ∵
    move ! (1 ∷ []) $ split ! $ heard ! _ (λ within. drop ! $ split ! $ split ! $ move ! (2 ∷ []) $ split ! $ fsplit ! $ move ! (2 ∷ []) $ split ! $
    keep ! (0 ∷ 3 ∷ 4 ∷ []) $
    -- [the allocator; what is owned there; the token]
    enter ! _ _ _ _ _ $ alloc_all ! (λ l. pass_all ! refl (word_fits p, (is_global, tt)) $
    sets ! (of_opd ! (get_in ! (fld ! refl (stop !)) (sub ! 0 refl (whole !)))) refl (ptr_fits p) $
    first ! $ blocks ! $ lft_new ! tt (λ α.
    let z : G.Ghost = (((κ, (α ∷ [], tt)), (q, (full_share, tt)), tt, (alloc, (p, tt)), (h ∷ [], (ptr_val p ∷ [], tt))), k.value) in
    nothing ! $ move ! (1 ∷ 0 ∷ []) $ join ! $ move ! (3 ∷ 0 ∷ []) $ join ! $
    nothing ! $ feq_i ! (List Val) (ptr_val p ∷ []) _ refl $ fjoin ! $ move ! (2 ∷ 0 ∷ []) $ fjoin ! $ move ! (1 ∷ 0 ∷ []) $ join ! $
    move ! (1 ∷ []) $ use0 𝓛 (raw (fact 𝓤 (α ∷ [] ⊑ Z.lives))) (fact_i 𝓤 (α ∷ [] ⊑ Z.lives) _ (global_within (α ∷ []))) $ join ! $
    use0 𝓛 (raw (fact 𝓤 (κ ⊑ T.lives))) (fact_i 𝓤 (κ ⊑ T.lives) _ within) $ join ! $ move ! (1 ∷ 0 ∷ []) $ join ! $
    use1 𝓛 (raw (G.pre z)) (id⊢ 𝓤 _) $
    calls_at_last ! (fm 𝓛 𝓜 𝓡) G known z (and_then ! (get ! refl) (and_then ! (get ! refl) (no_more !))) (λ v.
    use1 𝓛 (later (some (λ (r : B.Denot). ((‵ (flft κ q) ⊛ ‵ (flft (α ∷ []) full_share) ⊛ ‵ ftrue) ⊛ ‵ (B.own_val r (v ∷ []))) ⊛
    some (λ (ws : Lasts (g.ended T Z ghosts dict drops) z.0.0 z.0.3). ‵ (lasts (g.ended T Z ghosts dict drops) z.0.0 z.0.3 ws) ⊛ raw (fact 𝓤 (r.value ≡ k.value)) ⊛ raw (fact 𝓤 (r.alloc ≡ alloc)))))) (id⊢ 𝓤 _) $
    await ! tt $ pick ! (λ r. split ! $ split ! $ split ! $ move ! (3 ∷ []) $ pick ! (λ ws. split3 ! $ move ! (1 ∷ []) $ heard ! _ (λ same. move ! (4 ∷ []) $
    -- [the box; ..]
    peeks ! B (Is B) (shows 𝓛 B) r (v ∷ []) (λ shown. let good = ((LB.lawful 𝓛).typed r (v ∷ []) shown).0 in
    lands_last ! refl good $ exec ! 𝓣.C 𝓣.Λ (env fn.locals l) (after 2 fn.body) (at_ret (env fn.locals l) Post) $
    sets ! (of_opd ! (get ! refl)) refl good $
    returns ! (look_at ! 0 refl) $ free_all ! refl $ keep ! (0 ∷ 3 ∷ []) $
    suffices ! _ (ends_at 𝓛 ended stayed c y v r (tt, (tt, tt)) (tt, (tt, tt))) $ says ! same $
    nothing ! $ nothing ! $ join ! $ nothing ! $ join ! $ nothing ! $ move ! (3 ∷ 0 ∷ []) $ join ! $ done !)))))))))
