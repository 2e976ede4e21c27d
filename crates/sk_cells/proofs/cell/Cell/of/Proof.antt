-- What the box owned is owned at the pointer that `into_raw` answers.
use Rattle.sk_cells.proofs.Names.{Some, List, [], ◌∷◌, ◌++◌, refl, ap, a_type, dcons, dnil, Val, inst_fn, full_share, id⊢}
use Rattle.sk_cells.proofs.Names.{ftrue, flft, WpFn, ‵, raw, prop, ◌⊛◌, some, later, ◌$◌, ◌∵◌, !, qed, drop, keep}
use Rattle.sk_cells.proofs.Names.{move, split, join, fjoin, pick, await, rewrite, regoal, feq_l, suffices, use1}
use Rattle.sk_cells.proofs.Names.{use0, done, enter, of_opd, no_more, and_then, returns, alloc_all, pass_all}
use Rattle.sk_cells.proofs.Names.{free_all, look_at, get, sets, lands_as, agg, lft_new, ◌⊑◌, fact, fact_i, tables}
use Rattle.sk_cells.proofs.Names.{no, RattleType, param, layout, bounded, param_laws, glues, Ptr, RawPtr, plain}
use Rattle.sk_cells.proofs.Names.{nothing, heard, only, calls_at, Lasts, lasts, triple_of, Stays, stay_dropped}
use Rattle.sk_cells.proofs.Names.{Goes-dropped, walk_of, says, ends_at, fm, one, proved_at, passed, kept_at}
use Rattle.sk_cells.proofs.Names.{global_laws, global_within}
use Rattle.sk_cells.proofs.Destruct++none.drop.Code as nodrop
use Rattle.sk_cells.proofs.Pointer.{word, ptr_fits, word_fits, pointed}
use Rattle.sk_cells.proofs.Heap.{Global, Z, LZ, ghosts, dict, drops}
use Rattle.std_alloc.specs.contracts.boxed.Box as box
use Rattle.std_alloc.proofs.boxed.Box.TheLaws as box_laws
use Rattle.std_alloc.specs.contracts.boxed.Box.into_raw as g
use Rattle.std_alloc.proofs.boxed.Box.into_raw.Met.{met}
use Rattle.sk_cells.specs.contracts.cell.Cell.of as f
use Rattle.sk_cells.proofs.cell.Cell.of.Statement.{statement}
use Rattle.sk_cells.proofs.cell.Cell.of.Code as code

pub of_spec : {M : Type 1} → statement M
unfolding nodrop.code
of_spec {M} 𝓤 𝓛 𝓜 𝓡 wired T L dx glue =
    let 𝓣 = tables 𝓤 𝓛.H 𝓜 𝓡 𝓡.env in
    let R : RattleType = param 0 T in let B : RattleType = box.the_row R Global ghosts in
    let LB = box_laws.the_row_laws R Global ghosts (param_laws 0 T L) global_laws in
    let args = bounded (a_type ∷ []) (T, tt) (dcons dx dnil) in let fn = inst_fn args code.function in
    let ended = f.ended T dx in let c = f.clauses T dx 𝓛 𝓜.mem 𝓡.returns in
    let stayed : Stays ended.signature.params ended.kept = (stay_dropped (plain (λ _. B)) no, tt) in
    proved_at 𝓛 ended stayed c 𝓜 𝓡 (Goes-dropped 𝓛 1 (plain (λ _. B)) no (λ κs x w. refl), tt)
    (f.Key.name args) fn (code.unfolded 𝓤 𝓛.H 𝓜 𝓡 wired (T, tt) dx) (λ y are.
    let κ = y.0.0.0 in let q = y.0.1.0 in let b = y.0.3.0 in
    let seen = one (layout B) y.0.4.0 ((LB.lawful 𝓛).typed b y.0.4.0 are.0) in
    let w = seen.0 in let is = seen.1 in let good = seen.2 in
    let Post = (walk_of 𝓛 ended stayed c).post y in
    let G = triple_of 𝓛 (g.signature T Z ghosts dict drops dx) (g.spec T Z ghosts dict drops dx 𝓛 𝓜.mem 𝓡.returns) in
    let known = met 𝓤 𝓛 𝓜 𝓡 (code.calls-std_alloc::boxed::Box::into_raw 𝓡.env wired) T Z L LZ ghosts dict drops dx
    (passed 𝓡.env (code.calls-std_heap::GlobalAllocator::allocate 𝓡.env wired) (code.calls-std_heap::GlobalAllocator::deallocate 𝓡.env wired)
    (code.calls-std_heap::GlobalAllocator::grow 𝓡.env wired) (code.calls-std_heap::GlobalAllocator::shrink 𝓡.env wired) M 𝓤 𝓛 𝓜 𝓡)
    (glues "sk_cells::Destruct++none::drop" 𝓡.env (code.calls-sk_cells::Destruct++none::drop 𝓡.env wired) Z LZ M 𝓤 𝓛 𝓜 𝓡) glue in
    qed 𝓛 (((‵ (flft κ q) ⊛ ‵ ftrue) ⊛ ‵ (B.own_val b y.0.4.0) ⊛ ‵ ftrue) ∷ (raw (fact 𝓤 (κ ⊑ T.lives)) ⊛ ‵ ftrue) ∷ []) ∵
    move ! (1 ∷ []) $ split ! $ heard ! _ (λ within. drop ! $ split ! $ split ! $ move ! (2 ∷ []) $ split ! $
    keep ! (0 ∷ 2 ∷ []) $ rewrite ! 0 (λ (vs : List Val). ‵ (B.own_val b vs)) is refl $
    -- [the box; the token]
    regoal ! (λ (vs : List Val). prop (WpFn 𝓤 𝓛.H 𝓣.C 𝓣.Λ fn (vs ++ []) Post)) is refl $
    enter ! _ _ _ _ _ $ alloc_all ! (λ l. pass_all ! refl (good, tt) $
    sets ! (of_opd ! (get ! refl)) refl good $ lft_new ! tt (λ α.
    -- [the token of α; the box; the token of κ]
    let z : G.Ghost = (((κ, (α ∷ [], tt)), (q, (full_share, tt)), tt, (b, tt), (w ∷ [], tt)), tt) in
    nothing ! $ move ! (1 ∷ 0 ∷ []) $ join ! $ move ! (2 ∷ 0 ∷ []) $ join ! $
    nothing ! $ move ! (2 ∷ 0 ∷ []) $ fjoin ! $ move ! (1 ∷ 0 ∷ []) $ join ! $
    nothing ! $ use0 𝓛 (raw (fact 𝓤 (α ∷ [] ⊑ Z.lives))) (fact_i 𝓤 (α ∷ [] ⊑ Z.lives) _ (global_within (α ∷ []))) $ join ! $
    use0 𝓛 (raw (fact 𝓤 (κ ⊑ T.lives))) (fact_i 𝓤 (κ ⊑ T.lives) _ within) $ join ! $ move ! (1 ∷ 0 ∷ []) $ join ! $
    use1 𝓛 (raw (G.pre z)) (id⊢ 𝓤 _) $
    calls_at ! (fm 𝓛 𝓜 𝓡) G known z (and_then ! (get ! refl) (no_more !)) (λ v.
    use1 𝓛 (later (some (λ (r : Ptr). ((‵ (flft κ q) ⊛ ‵ (flft (α ∷ []) full_share) ⊛ ‵ ftrue) ⊛ ‵ (RawPtr.own_val r (v ∷ []))) ⊛
    some (λ (ws : Lasts (g.ended T Z ghosts dict drops dx) z.0.0 z.0.3). ‵ (lasts (g.ended T Z ghosts dict drops dx) z.0.0 z.0.3 ws) ⊛ ‵ (kept_at R r b.value))))) (id⊢ 𝓤 _) $
    await ! tt $ pick ! (λ r. split ! $ split ! $ split ! $ move ! (2 ∷ []) $ feq_l ! (λ at. move ! (2 ∷ []) $ pick ! (λ ws. split ! $ drop ! $
    -- [what is owned at r; the token of κ; ..]
    lands_as ! (ap only at) refl (ptr_fits r) $
    sets ! (agg ! (and_then ! (get ! refl) (no_more !))) refl (word_fits r) $
    pointed ! r $ fjoin ! $
    returns ! (look_at ! 0 refl) $ free_all ! refl $ keep ! (0 ∷ 1 ∷ []) $
    suffices ! _ (ends_at 𝓛 ended stayed c y (word r) (record { at = r; held = Some b.value }) (tt, tt) (tt, tt)) $ says ! refl $
    nothing ! $ nothing ! $ join ! $ nothing ! $ move ! (3 ∷ 0 ∷ []) $ join ! $ done !))))))))
