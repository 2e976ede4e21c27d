-- Steps that change nothing, which a log may leave out.
use Rattle.std.specs.Prelude.{◌≡◌, ℕ, Bool, false, not, List, [], ◌∷◌, map}
use Rattle.std.specs.List.{filter}
use Rattle.std.specs.Cmp.{IsTotalOrder}
use Rattle.std.specs.FinMap.{FinMap, get}
use Rattle.sk_record.specs.Effects.{keep}
use Rattle.sk_record.specs.Run.{System, outcome, after, run, IsLegal, effects}
use Rattle.sk_rests.specs.Logged.{Logged, kept}

module _ {E V W F N : Type 0} (K : System E V W F N) where
  -- along a run, each step that is not one of these leaves every value as it was
  abbrev pub OthersAreIdle : (N → Bool) → FinMap K.order V → List N → Type 0
  OthersAreIdle these s [] = Unit {0}
  OthersAreIdle these s (n ∷ ns) =
      (these n ≡ false → (e : E) → get (after K (outcome K s n) s) e ≡ get s e)
      × OthersAreIdle these (after K (outcome K s n) s) ns

  -- the run of these steps alone
  pub record IsRunWithout (these : N → Bool) (s : FinMap K.order V) (ns : List N) : Type 0 where
    -- no entry of it is refused
    pub legal : IsLegal K s (filter these ns)
    -- each step reads the same values, writes the same and says the same
    pub steps : effects K s (filter these ns) ≡ keep (map (λ n. not (these n)) ns) (effects K s ns)
    -- and each value is the same in the end
    pub values : (e : E) → get (run K s (filter these ns)) e ≡ get (run K s ns) e

  -- steps that change nothing may be left out
  abbrev pub IdleMayGo : Type 0
  IdleMayGo =
      IsTotalOrder K.order → (these : N → Bool) (s : FinMap K.order V) (ns : List N) → IsLegal K s ns
      → OthersAreIdle these s ns → IsRunWithout these s ns

-- of a part of a log of steps just those are left that are left of it in the whole log
abbrev pub PartIsKept : (N O : Type 0) → Type 0
PartIsKept N O =
    (these : N → Bool) (failed : List ℕ) (log : List (Logged N O))
    → map (λ r. r.entry) (kept failed (filter (λ r. these r.entry) log))
    ≡ filter these (map (λ r. r.entry) (kept failed log))
