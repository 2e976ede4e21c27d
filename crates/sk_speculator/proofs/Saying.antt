-- What is said to each channel, after a step and a decision.
use Rattle.sk_speculator.proofs.Names.{◌≡◌, ℕ, true, false, not, cond, List, [], ◌∷◌, ◌++◌, Option, Some, None, refl}
use Rattle.sk_speculator.proofs.Names.{sym, ◌∙◌, ap, ◌==◌, Ordering, append-nil, has, without, Tagged, lightened}
use Rattle.sk_speculator.proofs.Names.{not_dropped, said_by, again, Said, said_at, says}

said_more : {O : Type 0} (t : ℕ) (xs : Said O) (x : Tagged (ℕ × O)) → said_at (xs ++ x ∷ []) t ≡ said_at xs t ++ said_at (x ∷ []) t
said_more t [] x = refl
said_more t (y ∷ xs) x =
    elim (y.0.0 == t) as (λ b. cond b (y ∷ said_at (xs ++ x ∷ []) t) (said_at (xs ++ x ∷ []) t) ≡ cond b (y ∷ said_at xs t) (said_at xs t) ++ said_at (x ∷ []) t) [
      | true ↦ ap (λ ys. y ∷ ys) (said_more t xs x)
      | false ↦ said_more t xs x
    ]

pub says_at : (V : Type 0) {K O : Type 0} (R : K → K → Ordering) (t : ℕ) (w : Option (ℕ × O)) (tags : List ℕ) (xs : Said O) → said_at (says w tags xs) t ≡ said_at xs t ++ said_by (again {V = V} R) t w tags
says_at V R t None tags xs = sym (append-nil (said_at xs t))
says_at V R t (Some w) tags xs = said_more t xs (w, tags)

pub lightened_at : {O : Type 0} (g t : ℕ) (xs : Said O) → said_at (lightened g xs) t ≡ lightened g (said_at xs t)
lightened_at g t [] = refl
lightened_at g t (x ∷ xs) =
    elim (x.0.0 == t) as (λ b. cond b ((x.0, without g x.1) ∷ said_at (lightened g xs) t) (said_at (lightened g xs) t) ≡ lightened g (cond b (x ∷ said_at xs t) (said_at xs t))) [
      | true ↦ ap (λ ys. (x.0, without g x.1) ∷ ys) (lightened_at g t xs)
      | false ↦ lightened_at g t xs
    ]

pub dropped_at : {O : Type 0} (g t : ℕ) (xs : Said O) → said_at (not_dropped g xs) t ≡ not_dropped g (said_at xs t)
dropped_at g t [] = refl
dropped_at g t (x ∷ xs) =
    elim (has g x.1) as (λ d. has g x.1 ≡ d → said_at (cond (not d) (x ∷ not_dropped g xs) (not_dropped g xs)) t ≡ not_dropped g (cond (x.0.0 == t) (x ∷ said_at xs t) (said_at xs t))) [
      | true ↦ λ is. dropped_at g t xs ∙ elim (x.0.0 == t) as (λ b. not_dropped g (said_at xs t) ≡ not_dropped g (cond b (x ∷ said_at xs t) (said_at xs t))) [
        | true ↦ sym (ap (λ d. cond (not d) (x ∷ not_dropped g (said_at xs t)) (not_dropped g (said_at xs t))) is)
        | false ↦ refl
      ]
      | false ↦ λ is. elim (x.0.0 == t) as (λ b. cond b (x ∷ said_at (not_dropped g xs) t) (said_at (not_dropped g xs) t) ≡ not_dropped g (cond b (x ∷ said_at xs t) (said_at xs t))) [
        | true ↦ ap (λ ys. x ∷ ys) (dropped_at g t xs) ∙ sym (ap (λ d. cond (not d) (x ∷ not_dropped g (said_at xs t)) (not_dropped g (said_at xs t))) is)
        | false ↦ dropped_at g t xs
      ]
    ] refl
