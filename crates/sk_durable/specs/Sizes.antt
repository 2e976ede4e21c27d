-- DBSIZE by the count that is kept, where the step names one key for each undecided batch and not all keys.
use Rattle.std.specs.Prelude.{◌≡◌, ℕ, true, false, List, []}
use Rattle.sk_durable.specs.Base.{Answer, Asker, Deed, DbSize, One, Work, byte_deed, has, is_touched, numbers}
use Rattle.sk_durable.specs.Works.{asked_by, deed_now, names_wrong, Kernel, LacksNone, WorkStep}

-- the work
abbrev pub size : Work
size = One DbSize

-- what it does now, where these are all keys
abbrev pub size_deed : Kernel → Asker → List (List ℕ) → Deed (List ℕ) (List ℕ) (ℕ × Answer)
size_deed kernel asker known = deed_now kernel (asked_by asker known size)

-- The step says what DBSIZE of all keys says, and depends on just the undecided batches that it depends on. It writes nothing, and names
-- no key that may not be named.
pub record IsSize (kernel : Kernel) (asker : Asker) (step : WorkStep) : Type 0 where
  pub known : List (List ℕ)
  pub knows : LacksNone kernel known
  pub right : names_wrong (size_deed kernel asker known) ≡ false
  pub named : names_wrong (byte_deed step) ≡ false
  pub written : (byte_deed step).written ≡ []
  pub said : step.said ≡ (size_deed kernel asker known).said
  pub rests : (g : ℕ) → has g (numbers kernel.parts.opens) ≡ true
      → is_touched kernel.parts (byte_deed step) g ≡ is_touched kernel.parts (size_deed kernel asker known) g
