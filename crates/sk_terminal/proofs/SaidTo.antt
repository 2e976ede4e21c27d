-- The texts of each terminal after one more was said.
use Rattle.sk_terminal.proofs.Names.{arith, ◌≡◌, ℕ, false, cond, [], ◌∷◌, ◌++◌, ◌==◌, nat_cmp, eq_by_cmp, nat_cmp_total}
use Rattle.sk_terminal.proofs.Names.{eq_by_cmp_equiv, append-nil, TaggedText, TerminalMap, texts_at, said_to}
use Rattle.std.specs.FinMap as map
use Rattle.std.proofs.lemmas.Bool.Decides.{nat_tests}

pub others : (t k : ℕ) → (k == t) ≡ false → eq_by_cmp nat_cmp t k ≡ false
others t k apart = grind (arith, nat_tests)

-- the terminal that it was said to has it behind the others, and every other terminal what it had
pub texts_said : (m : TerminalMap) (k : ℕ) (x : TaggedText) (t : ℕ) → texts_at (said_to m k x) t ≡ texts_at m t ++ cond (k == t) (x ∷ []) []
texts_said m k x t =
    let own = (eq_by_cmp_equiv nat_cmp_total).refl t in
    let put = map.get-insert nat_cmp_total m k (texts_at m k ++ x ∷ []) t in
    grind (arith, nat_tests, others t k, append-nil (texts_at m t))
