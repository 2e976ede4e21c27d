-- A legal history stays legal where a call is entered, and where a request is taken.
use Rattle.sk_workers.proofs.Names.{◌≡◌, ℕ, zero, suc, List, [], ◌∷◌, ◌++◌, ◌+◌, length, length-append, arith, refl}
use Rattle.sk_workers.proofs.Names.{sym, ap, ◌∙◌, subst, DeskView, first_taken, requests_taken, HistoryEntry, Receipt}
use Rattle.sk_workers.proofs.Names.{as_opened, CallPost, Runs, IsLegal, AreOwn, IsTidyBook, IsTidyWorker}
use Rattle.sk_workers.proofs.Steps.{step_keeps, taken_keeps}

-- one call more at the end
runs_push : (s : DeskView) (es : List HistoryEntry) (d : DeskView) (e : HistoryEntry) (d' : DeskView) → Runs s es d → e.taken ≡ requests_taken d → CallPost d e.call e.answer d' → Runs s (es ++ e ∷ []) d'
runs_push s [] d e d' run taken step =
    let at = run.1 in (
      run.0,
      d',
      taken ∙ ap requests_taken at,
      subst (λ (x : DeskView). CallPost x e.call e.answer d') at step,
      (0, refl),
    )
runs_push s (x ∷ es) d e d' run taken step = (run.0, run.1, run.2, run.3, runs_push run.1 es d e d' run.4 taken step)

-- one request more at the end
runs_take : (s : DeskView) (es : List HistoryEntry) (d : DeskView) → Runs s es d → Runs s es (first_taken d d.waiting)
runs_take s [] d run = (suc run.0, ap (λ (x : DeskView). first_taken x x.waiting) run.1)
runs_take s (x ∷ es) d run = (run.0, run.1, run.2, run.3, runs_take run.1 es d run.4)

-- a history with a call more, and as long as the ledger counts
pub entered : (d d' : DeskView) (es es' : List HistoryEntry) (e : HistoryEntry) (total total' parts : ℕ)
    → IsTidyBook es d total parts → e.taken ≡ requests_taken d → CallPost d e.call e.answer d' → es' ≡ es ++ e ∷ [] → total' ≡ total + 1
    → IsTidyBook es' d' total' parts
entered d d' es es' e total total' parts before taken step is more =
    let run : Runs (as_opened d) (es ++ e ∷ []) d' = runs_push (as_opened d) es d e d' before.legal taken step in
    let legal : IsLegal (es ++ e ∷ []) d' = subst (λ (x : DeskView). Runs x (es ++ e ∷ []) d') (sym (step_keeps d d' e.call e.answer step)) run in
    record {
      legal = subst (λ (x : List HistoryEntry). IsLegal x d') (sym is) legal;
      count = omega (arith, more, before.count, ap length is, length-append es (e ∷ []));
      shared = before.shared;
    }

pub took : (d d' : DeskView) (es : List HistoryEntry) → IsLegal es d → d' ≡ first_taken d d.waiting → IsLegal es d'
took d d' es legal is =
    let e = first_taken d d.waiting in
    let run : Runs (as_opened d) es e = runs_take (as_opened d) es d legal in
    subst (λ (x : DeskView). IsLegal es x) (sym is) (subst (λ (x : DeskView). Runs x es e) (sym (taken_keeps d d.waiting)) run)

own_push : (n : ℕ) (rs : List Receipt) (r : Receipt) → AreOwn n rs → r.entry.worker ≡ n → AreOwn n (rs ++ r ∷ [])
own_push n [] r own is zero s at =
    let same : r ≡ s = cc in
    subst (λ (x : Receipt). x.entry.worker ≡ n) same is
own_push n [] r own is (suc k) s at = absurd (cc)
own_push n (x ∷ rs) r own is zero s at = own zero s at
own_push n (x ∷ rs) r own is (suc k) s at = own_push n rs r (λ j t has. own (suc j) t has) is k s at

-- a worker with a receipt more, as many as its share counts
pub received : (n parts parts' amount amount' : ℕ) (rs rs' : List Receipt) (r : Receipt)
    → IsTidyWorker n rs parts amount → parts' ≡ parts → amount' ≡ amount + 1 → rs' ≡ rs ++ r ∷ [] → r.entry.worker ≡ n → IsTidyWorker n rs' parts' amount'
received n parts parts' amount amount' rs rs' r before same more is mine =
    let grown : AreOwn n (rs ++ r ∷ []) = own_push n rs r before.own mine in
    record {
      part = same ∙ before.part;
      count = omega (arith, more, before.count, ap length is, length-append rs (r ∷ []));
      own = subst (λ (x : List Receipt). AreOwn n x) (sym is) grown;
    }
