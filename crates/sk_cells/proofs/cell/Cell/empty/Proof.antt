-- A cell at null owns nothing.
use Rattle.sk_cells.proofs.Names.{[], ◌∷◌, refl, lit<, None, ‵, ◌⊛◌, ◌$◌, ◌∵◌, !, qed, keep, join, fjoin, feq_i}
use Rattle.sk_cells.proofs.Names.{suffices, done, enter, lit, no_more, and_then, returns, alloc_all, pass_all}
use Rattle.sk_cells.proofs.Names.{free_all, look_at, sets, agg, ftrue, flft, Ptr, null_ptr, nothing, Stays, says, ends_at}
use Rattle.sk_cells.proofs.Names.{proved, a_type, inst_fn, layouts, raw, fact, ◌⊑◌, split, drop, move, heard}
use Rattle.sk_cells.proofs.Pointer.{word, pointed}
use Rattle.sk_cells.specs.contracts.cell.Cell.empty as f
use Rattle.sk_cells.proofs.cell.Cell.empty.Statement.{statement}
use Rattle.sk_cells.proofs.cell.Cell.empty.Code as code

pub empty_spec : {M : Type 1} → statement M
empty_spec 𝓤 𝓛 𝓜 𝓡 wired T L =
    let args = layouts (a_type ∷ []) (T, tt) in let fn = inst_fn args code.function in
    let ended = f.ended T in let c = f.clauses T 𝓛 𝓜.mem 𝓡.returns in
    let stayed : Stays ended.signature.params ended.kept = tt in
    proved 𝓛 ended stayed c 𝓜 𝓡 tt (f.Key.name args) fn (code.unfolded 𝓤 𝓛.H 𝓜 𝓡 wired (T, tt)) (λ κs. tt) (λ κs. tt) (λ κs qs bounds a n are.
    let κ = κs.0 in let q = qs.0 in
    qed 𝓛 (((‵ (flft κ q) ⊛ ‵ ftrue) ⊛ ‵ ftrue) ∷ (raw (fact 𝓤 (κ ⊑ T.lives)) ⊛ ‵ ftrue) ∷ []) ∵
    move ! (1 ∷ []) $ split ! $ heard ! _ (λ within. drop ! $ split ! $ split ! $ keep ! (0 ∷ []) $
    enter ! _ _ _ _ _ $ alloc_all ! (λ l. pass_all ! refl tt $
    sets ! (agg ! (and_then ! (lit ! tt) (no_more !))) refl (tt, (record { fits = lit< tt }, tt)) $
    returns ! (look_at ! 0 refl) $ free_all ! refl $ keep ! (0 ∷ []) $
    suffices ! _ (ends_at 𝓛 ended stayed c ((κs, qs, bounds, a, tt), n) (word null_ptr) (record { at = null_ptr; held = None }) tt tt) $ says ! refl $
    feq_i ! Ptr null_ptr null_ptr refl $ pointed ! null_ptr $ fjoin ! $
    nothing ! $ nothing ! $ move ! (3 ∷ 0 ∷ []) $ join ! $ done !)))
