-- At null nothing is held; elsewhere the pointer is passed on, with what is owned there.
use Rattle.sk_cells.proofs.Names.{◌≡◌, ◌∙◌, ℕ, List, [], ◌∷◌, refl, ap, lit<, Option, Some, None, Ura, Val, vcons}
use Rattle.sk_cells.proofs.Names.{vnil, bare, ent, never, fst∗, snd∗, guard_i, via, ftrue, flft, WpFn, Logic, sem}
use Rattle.sk_cells.proofs.Names.{Item, Goal, Seq, ‵, raw, prop, at_ret, given, ◌⊛◌, ◌$◌, ◌∵◌, !, qed, drop, keep}
use Rattle.sk_cells.proofs.Names.{move, split, join, fsplit, fjoin, feq_l, learn, regoal, rewrite, suffices, use0}
use Rattle.sk_cells.proofs.Names.{use1, done, enter, of_opd, bin, lit, stop, fld, first, branches, exec, no_more}
use Rattle.sk_cells.proofs.Names.{and_then, returns, alloc_all, pass_all, free_all, look_at, get, get_in, sets}
use Rattle.sk_cells.proofs.Names.{sets_last, env, agg, sub, whole, live, fact, fact_use, ◌⊑◌, heard, tables, no}
use Rattle.sk_cells.proofs.Names.{lone, layout, RattleType, Ptr, param, param_laws, layouts, a_type, inst_fn}
use Rattle.sk_cells.proofs.Names.{block_ptr, null_ptr, in_a_block, tests_null, plain, nothing, Stays, stay_dropped}
use Rattle.sk_cells.proofs.Names.{Goes-dropped, walk_of, says, ends_at, after, Good, Some-of, none_of, points_to}
use Rattle.sk_cells.proofs.Names.{ghosts, dealloc_token_start, proved, heap, kept_at, cell_at}
use Rattle.core.specs.contracts.option.Option as option
use Rattle.sk_cells.proofs.Pointer.{word, ptr_fits, word_fits, pointed}
use Rattle.sk_cells.proofs.cell.Cell.TheLaws.{lowers}
use Rattle.sk_cells.specs.contracts.kept.Kept as kept
use Rattle.sk_cells.specs.contracts.cell.Cell as cell
use Rattle.sk_cells.specs.contracts.cell.Cell.into_kept as f
use Rattle.sk_cells.proofs.cell.Cell.into_kept.Statement.{statement}
use Rattle.sk_cells.proofs.cell.Cell.into_kept.Code as code

module _ {M : Type 1} {𝓤 : Ura M} {𝓛 : Logic 𝓤} {K : Type 0} {Γ : List (Item 𝓤)} {G : Goal 𝓤 𝓛.H} (R : RattleType) where
  -- a value that is kept lies at the start of a block
  starts : K → (p : Ptr) (x : R.Denot) → ((b : ℕ) → p ≡ block_ptr b 0 → Seq K 𝓛 (‵ (kept_at R (block_ptr b 0) x) ∷ Γ) G)
      → Seq K 𝓛 (‵ (kept_at R p x) ∷ Γ) G
  starts t p x next =
      in_a_block t p (λ q. kept_at R q x) (fst∗ 𝓤 (never 𝓤) (sem 𝓛 (ghosts.dealloc_token heap (bare (lone R.mir)) null_ptr))) (λ b o at.
      let Kept = kept_at R (block_ptr b o) x in let mark = ghosts.dealloc_token heap (bare (lone R.mir)) (block_ptr b o) in
      let starts : ent 𝓤 (sem 𝓛 Kept) (fact 𝓤 (o ≡ 0)) =
      via 𝓤 (sem 𝓛 mark) (snd∗ 𝓤 (sem 𝓛 (points_to R (block_ptr b o) x)) (sem 𝓛 mark))
      (dealloc_token_start 𝓛 heap (bare (lone R.mir)) (block_ptr b o)) in
      use1 𝓛 (given (o ≡ 0) (‵ Kept)) (fact_use 𝓤 (o ≡ 0) starts (λ e. guard_i 𝓤 (o ≡ 0) (sem 𝓛 Kept) e)) $ learn t (λ e.
      rewrite t 0 (λ (k : ℕ). ‵ (kept_at R (block_ptr b k) x)) e refl $ next b (at ∙ ap (λ (k : ℕ). block_ptr b k) e)))

  -- nothing is held at null, or a value at the start of a block
  either : K → (p : Ptr) (held : Option R.Denot) → (held ≡ None → p ≡ null_ptr → Seq K 𝓛 Γ G)
      → ((b : ℕ) (x : R.Denot) → held ≡ Some x → p ≡ block_ptr b 0 → Seq K 𝓛 (‵ (kept_at R (block_ptr b 0) x) ∷ Γ) G)
      → Seq K 𝓛 (‵ (cell_at R p held) ∷ Γ) G
  either t p None none some = feq_l t (λ at. none refl at)
  either t p (Some x) none some = starts t p x (λ b at. some b x refl at)

pub into_kept_spec : {M : Type 1} → statement M
into_kept_spec 𝓤 𝓛 𝓜 𝓡 wired T L =
    let 𝓣 = tables 𝓤 𝓛.H 𝓜 𝓡 𝓡.env in let R : RattleType = param 0 T in let Cell : RattleType = cell.the_row R in
    let Kept : RattleType = kept.the_row R in let Out = layout (option.the_row Kept) in
    let args = layouts (a_type ∷ []) (T, tt) in let fn = inst_fn args code.function in
    let ended = f.ended T in let c = f.clauses T 𝓛 𝓜.mem 𝓡.returns in
    let stayed : Stays ended.signature.params ended.kept = (stay_dropped (plain (λ _. Cell)) no, tt) in
    proved 𝓛 ended stayed c 𝓜 𝓡 (Goes-dropped 𝓛 1 (plain (λ _. Cell)) no (λ κs x w. refl), tt)
    (f.Key.name args) fn (code.unfolded 𝓤 𝓛.H 𝓜 𝓡 wired (T, tt))
    (λ κs. ((λ h. word h.at ∷ []), tt)) (λ κs. ((lowers R (param_laws 0 T L)).val_is, tt)) (λ κs qs bounds a n are.
    let κ = κs.0 in let q = qs.0 in let h = a.0 in let p = h.at in
    let y : (walk_of 𝓛 ended stayed c).Ghost = ((κs, qs, bounds, a, (word p ∷ [], tt)), n) in
    let Post = (walk_of 𝓛 ended stayed c).post y in
    let Runs = λ (q : Ptr). prop (WpFn 𝓤 𝓛.H 𝓣.C 𝓣.Λ fn (word q ∷ []) Post) in
    qed 𝓛 (((‵ (flft κ q) ⊛ ‵ ftrue) ⊛ ‵ (Cell.own_val h (word p ∷ [])) ⊛ ‵ ftrue) ∷ (raw (fact 𝓤 (κ ⊑ T.lives)) ⊛ ‵ ftrue) ∷ []) ∵
    move ! (1 ∷ []) $ split ! $ heard ! _ (λ within. drop ! $ split ! $ split ! $ move ! (2 ∷ []) $ split ! $ fsplit ! $
    keep ! (1 ∷ 3 ∷ []) $ either R ! p h.held
    (λ none at. let v : Val = live 0 vnil in
    regoal ! Runs at refl $ use0 𝓛 (‵ ((option.the_row Kept).own_val None (v ∷ []))) (none_of 𝓛 Kept) $
    -- [nothing, as an option; the token]
    enter ! _ _ _ _ _ $ alloc_all ! (λ l. pass_all ! refl (word_fits null_ptr, tt) $
    sets ! (of_opd ! (get_in ! (fld ! refl (stop !)) (sub ! 0 refl (whole !)))) refl (ptr_fits null_ptr) $
    sets ! (bin ! (get ! refl) (lit ! tt) tt) refl (tt, tt) $
    first ! $ branches ! (get ! refl)
    (λ _. let good : Good Out v = (tt, (record { fits = lit< tt }, tt)) in
    sets_last ! (agg ! (and_then ! (lit ! tt) (no_more !))) refl good $
    exec ! 𝓣.C 𝓣.Λ (env fn.locals l) (after 3 fn.body) (at_ret _ Post) $
    sets ! (of_opd ! (get ! refl)) refl good $ returns ! (look_at ! 0 refl) $ free_all ! refl $ keep ! (0 ∷ 1 ∷ []) $
    suffices ! _ (ends_at 𝓛 ended stayed c y v None (tt, tt) (tt, tt)) $ says ! none $
    nothing ! $ nothing ! $ join ! $ nothing ! $ move ! (3 ∷ 0 ∷ []) $ join ! $ done !)
    (λ wrong. absurd wrong)))
    (λ b x some at. let k : Kept.Denot = record { at = block_ptr b 0; value = x } in let v : Val = live 1 (vcons (word k.at) vnil) in
    regoal ! Runs at refl $ pointed ! k.at $ fjoin ! $
    use1 𝓛 (‵ ((option.the_row Kept).own_val (Some k) (v ∷ []))) (Some-of 𝓛 Kept k (word k.at)) $
    -- [the kept box; the token]
    enter ! _ _ _ _ _ $ alloc_all ! (λ l. pass_all ! refl (word_fits k.at, tt) $
    sets ! (of_opd ! (get_in ! (fld ! refl (stop !)) (sub ! 0 refl (whole !)))) refl (tt, tt) $
    sets ! (bin ! (get ! refl) (lit ! tt) (tests_null k.at (lit< tt))) refl (tt, tt) $
    first ! $ branches ! (get ! refl) (λ wrong. absurd wrong)
    (λ _. let good : Good Out v = (tt, (record { fits = lit< tt }, ((tt, tt), tt))) in
    sets ! (agg ! (and_then ! (get ! refl) (no_more !))) refl (tt, (tt, tt)) $
    sets_last ! (agg ! (and_then ! (lit ! tt) (and_then ! (get ! refl) (no_more !)))) refl good $
    exec ! 𝓣.C 𝓣.Λ (env fn.locals l) (after 3 fn.body) (at_ret _ Post) $
    sets ! (of_opd ! (get ! refl)) refl good $ returns ! (look_at ! 0 refl) $ free_all ! refl $ keep ! (0 ∷ 1 ∷ []) $
    suffices ! _ (ends_at 𝓛 ended stayed c y v (Some k) (tt, tt) (tt, tt)) $ says ! some $
    nothing ! $ nothing ! $ join ! $ nothing ! $ move ! (3 ∷ 0 ∷ []) $ join ! $ done !)))))
