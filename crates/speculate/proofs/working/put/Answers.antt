-- What a write takes goes from the rest to what is done.
use Rattle.speculate.proofs.Names.{◌≡◌, ℕ, ◌-◌, List, ◌++◌, length, take, drop, sym, ap, ◌∙◌, append_assoc}
use Rattle.speculate.proofs.Names.{take-append-drop, take_rest, Appends-kept, Appends-trans}
use Rattle.speculate.proofs.working.put.Goals as goal
use Rattle.speculate.proofs.working.put.Goals.{in-Ok, in-Err+else-ne}

moves_front : (all done rest : List ℕ) (n : ℕ) → all ≡ done ++ rest → all ≡ (done ++ take n rest) ++ take (length rest - n) (drop n rest)
moves_front all done rest n e =
    e ∙ ap (λ l. done ++ l) (sym (take-append-drop n rest)) ∙ sym (append_assoc done (take n rest) (drop n rest)) ∙ ap (λ l. (done ++ take n rest) ++ l) (sym (take_rest rest n))

pub loop-preserved : goal.loop-preserved
loop-preserved g c =
    let (done, split, appended) = c.loop.invariant in
    let rest = c.loop.rest.now in
    elim c.match-write.branch [ in-Ok w ↦ (done ++ take w.in-Ok.count rest, moves_front _ done rest w.in-Ok.count split ∙ ap (λ r. (done ++ take w.in-Ok.count rest) ++ r.now) (sym w.rest-is), Appends-trans _ _ _ _ _ appended w.in-Ok.ensures.bytes) | in-Err+else-ne w ↦ (done, split ∙ ap (λ r. done ++ r.now) (sym w.rest-is), Appends-kept _ _ _ done appended w.in-Err.ensures.bytes) ]
