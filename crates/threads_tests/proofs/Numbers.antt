-- Numbers of workers.
use Rattle.threads_tests.proofs.Names.{List, [], ◌∷◌, ◌++◌, ◌≡◌, refl, sym, ap, ◌∙◌, WorkerView, numbers}

numbers_of : (ws : List WorkerView) (x : WorkerView) → numbers (ws ++ x ∷ []) ≡ numbers ws ++ x.number ∷ []
numbers_of [] x = refl
numbers_of (w ∷ ws) x = ap (λ l. w.number ∷ l) (numbers_of ws x)

-- a worker that comes back in the place of one with its number
pub numbers_push : (ws us : List WorkerView) (x a : WorkerView) → numbers ws ≡ numbers us → x.number ≡ a.number → numbers (ws ++ x ∷ []) ≡ numbers (us ++ a ∷ [])
numbers_push ws us x a e n = numbers_of ws x ∙ (λ i. e i ++ n i ∷ []) ∙ sym (numbers_of us a)
