-- What is read after a crash.
use Rattle.sk_log.proofs.Names.{append_assoc, ◌≡◌, ℕ, zero, suc, ◌+◌, ◌≤◌, List, [], ◌∷◌, ◌++◌, length, slice_index, take, drop, refl}
use Rattle.sk_log.proofs.Names.{sym, ◌∙◌, ap, subst, arith, length-append, add-zero, take-append-drop, length-take-le}
use Rattle.sk_log.proofs.Names.{ext_get_or, get_or-take, get_or_append_left, head, frame, Ends, log, AreFrames, IsFaded}
use Rattle.sk_log.proofs.Names.{Keeps, ReadsPrefix, CrashKeepsPrefix}
use Rattle.sk_log.proofs.Digits.{length-head, first-head}
use Rattle.sk_log.proofs.Fade.{faded_tail, kept_tail, torn_is_told}

-- Zeros begin no frame.
pub no_frame : (segment number : ℕ) (p more : List ℕ) → IsFaded [] (frame segment number p ++ more) → ⊥
no_frame segment number p more faded =
    let at : slice_index (frame segment number p ++ more) 0 ≡ slice_index (head segment number p) 0 =
    get_or_append_left (frame segment number p) more 0 0 (omega (arith, length-append (head segment number p) p, length-head segment number p))
    ∙ get_or_append_left (head segment number p) p 0 0 (omega (arith, length-head segment number p)) in
    omega (arith, at, first-head segment number p, faded 0)

-- A frame that is kept is there.
pub kept_frame : (front written left : List ℕ) (n : ℕ) → length front ≤ length left → length front ≤ n → Keeps n (front ++ written) left → left ≡ front ++ drop (length front) left
kept_frame front written left n room low keeps =
    let long = length-take-le (length front) left room in
    let same : take (length front) left ≡ front =
    ext_get_or 0 _ _ long (λ i lt. get_or-take (length front) left i 0 (omega (arith, long)) ∙ keeps i (omega (arith, long)) ∙ get_or_append_left front written 0 i (omega (arith, long))) in
    sym (take-append-drop (length front) left) ∙ ap (λ xs. xs ++ drop (length front) left) same

module _ (segment : ℕ) where
  reads : (number : ℕ) (frames ps : List (List ℕ)) (m : ℕ) (left rest : List ℕ) → AreFrames segment number frames → AreFrames segment number ps → m ≤ length frames
      → length (log segment number frames) ≤ length left → IsFaded (log segment number frames) left → Keeps (length (log segment number (take m frames))) (log segment number frames) left
      → left ≡ log segment number ps ++ rest → Ends segment (number + length ps) rest → ReadsPrefix frames m ps
  reads number [] [] m left rest fine fine' synced room faded kept is ends = (0, omega arith, omega arith, refl)
  reads number [] (p ∷ ps) m left rest fine fine' synced room faded kept is ends =
      absurd (no_frame segment number p (log segment (suc number) ps ++ rest) (subst (IsFaded []) (is ∙ append_assoc (frame segment number p) (log segment (suc number) ps) rest) faded))
  reads number (f ∷ fs) [] zero left rest fine fine' synced room faded kept is ends = (0, omega arith, omega arith, refl)
  reads number (f ∷ fs) [] (suc m) left rest fine fine' synced room faded kept is ends =
      let len = length-append (frame segment number f) (log segment (suc number) fs) in
      let len' = length-append (frame segment number f) (log segment (suc number) (take m fs)) in
      let whole = kept_frame (frame segment number f) (log segment (suc number) fs) left _ (omega (arith, len)) (omega (arith, len')) kept in
      absurd (subst (λ n. Ends segment n rest) (add-zero number) ends f (drop (length (frame segment number f)) left) fine.0 (sym is ∙ whole))
  reads number (f ∷ fs) (p ∷ ps) m left rest fine fine' synced room faded kept is ends =
      let more = log segment (suc number) ps ++ rest in
      let parted : left ≡ frame segment number p ++ more = is ∙ append_assoc (frame segment number p) (log segment (suc number) ps) rest in
      let same : p ≡ f = (torn_is_told segment number segment number f p (log segment (suc number) fs) more fine.0 fine'.0 (subst (IsFaded (log segment number (f ∷ fs))) parted faded)).2 in
      let here : left ≡ frame segment number f ++ more = parted ∙ ap (λ q. frame segment number q ++ more) same in
      let next : number + length (p ∷ ps) ≡ suc number + length ps = omega arith in
      let len = length-append (frame segment number f) (log segment (suc number) fs) in
      let len' = length-append (frame segment number f) more in
      let go = λ (k : ℕ) (few : k ≤ length fs) (keeps : Keeps (length (log segment (suc number) (take k fs))) (log segment (suc number) fs) more).
      reads (suc number) fs ps k more rest fine.1 fine'.1 few (omega (arith, len, len', ap length here))
      (faded_tail (frame segment number f) (log segment (suc number) fs) more (subst (IsFaded (log segment number (f ∷ fs))) here faded)) keeps refl (subst (λ n. Ends segment n rest) next ends) in
      let got : (n : ℕ) × (m ≤ suc n) × (n ≤ length fs) × (ps ≡ take n fs) =
      elim m as (λ k. k ≤ suc (length fs) → Keeps (length (log segment number (take k (f ∷ fs)))) (log segment number (f ∷ fs)) left → (n : ℕ) × (k ≤ suc n) × (n ≤ length fs) × (ps ≡ take n fs)) [
        | zero ↦ λ few keeps. let r = go 0 (omega arith) (λ i lt. absurd (omega arith)) in (r.0, omega arith, r.2, r.3)
        | suc k ↦ λ few keeps.
            let all = subst (λ l. Keeps l (log segment number (f ∷ fs)) left) (length-append (frame segment number f) (log segment (suc number) (take k fs))) keeps in
            let r = go k (omega arith) (kept_tail (frame segment number f) (log segment (suc number) fs) more (length (log segment (suc number) (take k fs))) (subst (Keeps _ (log segment number (f ∷ fs))) here all)) in
            (r.0, omega (arith, r.1), r.2, r.3)
      ] synced kept in
      (suc got.0, got.1, omega (arith, got.2), λ i. same i ∷ got.3 i)

pub crash_keeps_prefix : CrashKeepsPrefix
crash_keeps_prefix segment number synced payloads read left crashed is =
    reads segment number payloads read synced left is.rest crashed.frames is.frames crashed.within crashed.room crashed.faded crashed.kept is.begins is.ends
