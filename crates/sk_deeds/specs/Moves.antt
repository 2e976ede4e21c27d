-- The calls of a kernel over steps that are taken outside, as moves of the machine of records; and what they come to.
use Rattle.std.specs.Prelude.{◌≡◌, ◌≤◌, ℕ, List, [], ◌∷◌, Option, Some, None, Ok}
use Rattle.std.specs.FinMap.{FinMap, get}
use Rattle.std.specs.Cmp.{IsTotalOrder}
use Rattle.std.specs.FinMap.{IsAntisymmetric}
use Rattle.sk_record.specs.Step.{perform}
use Rattle.sk_record.specs.Run.{System}
use Rattle.sk_record.specs.Trace.{Event, Taken, Commit, Fail}
use Rattle.sk_record.specs.declared.status.Status.TheVariants.{Undecided}
use Rattle.sk_record.specs.Machine.{Machine, Fails, IsPlainRun}
use Rattle.sk_record.specs.Merged.{MergedTakes, MergedCommits}
use Rattle.sk_deeds.specs.Deed.{Deed, effect_of, again}

module _ {K V O : Type 0} where
  -- no guess from this number on was drawn
  abbrev pub IsNext : Machine K V (ℕ × O) → Option ℕ → Type 0
  IsNext a mark = (g h : ℕ) → mark ≡ Some g → g ≤ h → a.status h ≡ None

module _ {K V O F N : Type 0} (own : System K V (ℕ × O) F N) where
  -- what the step function does here is handed in, and the kernel takes it
  pub record Steps (a : Machine K V (ℕ × O)) (n : N) (b : Machine K V (ℕ × O)) : Type 0 where
    pub deed : Deed K V O
    pub honest : perform a.state.look (own.act n) ≡ Ok (effect_of a.state.look deed)
    pub takes : MergedTakes (again own.order) a (record { deed = deed; guess = own.mark n }) b
    pub fresh : IsNext a (own.mark n)

  -- one call
  abbrev pub Moves : Machine K V (ℕ × O) → Event N → Machine K V (ℕ × O) → Type 0
  Moves a (Taken n) b = Steps a n b
  Moves a (Commit g) b = (a.status g ≡ Some Undecided) × MergedCommits a g b
  Moves a (Fail g) b = (a.status g ≡ Some Undecided) × Fails a g b

  -- any calls, one after another
  abbrev pub Goes : Machine K V (ℕ × O) → List (Event N) → Machine K V (ℕ × O) → Type 0
  Goes a [] b = a ≡ b
  Goes a (e ∷ es) b = (m : Machine K V (ℕ × O)) × Moves a e m × Goes m es b

  -- keys have what they start with, and nothing else has happened
  pub record Starts (start : FinMap own.order V) (a : Machine K V (ℕ × O)) : Type 0 where
    pub look : (k : K) → a.state.look k ≡ get start k
    pub logs : (k : K) → a.state.logs k ≡ []
    pub opens : a.state.opens ≡ []
    pub status : (g : ℕ) → a.status g ≡ None
    pub texts : (t : ℕ) → a.texts t ≡ []

  -- after any calls all is as in a plain run of the steps that depend on no failed guess
  abbrev pub RunsAsPlain : Type 0
  RunsAsPlain =
      IsTotalOrder own.order → IsAntisymmetric own.order → ((w : ℕ × O) → own.goes_to w ≡ w.0)
      → (start : FinMap own.order V) (a b : Machine K V (ℕ × O)) (es : List (Event N)) → Starts start a → Goes a es b
      → IsPlainRun own start es b
