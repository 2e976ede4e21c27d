-- What holds of held tokens.
use Rattle.std.specs.Prelude.{◌≡◌, ℕ, true, false, List, [], ◌∷◌}
use Rattle.sk_kernel.specs.Base.{Contains, has, Commit, Fail, Token}
use Rattle.sk_kernel.specs.Kernel.{KernelView, events_of, undecided_at}
use Rattle.sk_kernel.specs.Laws.{WasDrawn}
use Rattle.sk_kernel.specs.Holder.{ids}

-- a token is not spent: it is the kernel's own, and the trace has its guess and no decision of it
pub record IsUnspent (k : KernelView) (t : Token) : Type 0 where
  pub own : t.kernel ≡ k.number
  pub drawn : WasDrawn k t.id
  pub uncommitted : Contains (events_of k) (Commit t.id) → ⊥
  pub unfailed : Contains (events_of k) (Fail t.id) → ⊥

-- no token is spent, and no two are of one guess
abbrev pub AreUnspent : KernelView → List Token → Type 0
AreUnspent k [] = Unit {0}
AreUnspent k (t ∷ ts) = IsUnspent k t × (has t.id (ids ts) ≡ false) × AreUnspent k ts

-- no token is spent, and each undecided guess has one
pub record IsHeld (k : KernelView) (tokens : List Token) : Type 0 where
  pub unspent : AreUnspent k tokens
  pub each : (g : ℕ) → has g (undecided_at k) ≡ true → has g (ids tokens) ≡ true
