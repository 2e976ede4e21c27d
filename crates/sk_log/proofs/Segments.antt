-- What counts of two segments.
use Rattle.sk_log.proofs.Names.{◌≡◌, ℕ, zero, suc, ◌≤◌, List, [], ◌∷◌, ◌++◌, length, take, refl, ap, subst, sym, arith}
use Rattle.sk_log.proofs.Names.{ReadsPrefix, joined, synced_of, SegmentsJoin}

first_more : (w : List ℕ) (ws : List (List ℕ)) (synced n : ℕ) (read : List (List ℕ)) → synced ≤ suc n → n ≤ length ws → read ≡ take n ws → ReadsPrefix (w ∷ ws) synced (w ∷ read)
first_more w ws synced n read enough few is = (suc n, enough, omega (arith, few), ap (λ xs. w ∷ xs) is)

pub segments_join : SegmentsJoin
segments_join zero synced synced' written written' read read' within first second = second
segments_join (suc c) synced synced' [] written' read read' within first second = absurd (omega (arith, within))
segments_join (suc c) synced synced' (w ∷ ws) written' read read' within first second =
    let goal : ℕ → List (List ℕ) → Type 0 = λ s r. ReadsPrefix (w ∷ (take c ws ++ written')) (synced_of (suc c) s synced') (joined (suc c) r read') in
    subst (goal synced) (sym first.3) (
    elim first.0 as (λ n. synced ≤ n → n ≤ suc (length ws) → goal synced (take n (w ∷ ws))) [
      | zero ↦ λ enough few.
          elim synced as (λ s. s ≤ 0 → goal s []) [
            | zero ↦ λ _. (0, omega arith, omega arith, refl)
            | suc s ↦ λ wrong. absurd (omega (arith, wrong))
          ] enough
      | suc n ↦ λ enough few.
          elim synced as (λ s. s ≤ suc n → goal s (w ∷ take n ws)) [
            | zero ↦ λ _.
                let rest = segments_join c 0 synced' ws written' (take n ws) read' (omega (arith, within)) (n, omega arith, omega (arith, few), refl) second in
                first_more w (take c ws ++ written') 0 rest.0 (joined c (take n ws) read') (omega arith) rest.2 rest.3
            | suc s ↦ λ much.
                let rest = segments_join c s synced' ws written' (take n ws) read' (omega (arith, within)) (n, omega (arith, much), omega (arith, few), refl) second in
                first_more w (take c ws ++ written') (suc (synced_of c s synced')) rest.0 (joined c (take n ws) read') (omega (arith, rest.1)) rest.2 rest.3
          ] enough
    ] first.1 first.2)
