-- Frames that are carried out, one after another.
use Rattle.std.specs.Prelude.{◌≡◌, ◌⊎◌, ◌+◌, ◌-◌, ◌^◌, ℕ, Bool, true, min, List, [], ◌∷◌, ◌++◌, length, Option, Some, None, IfSome, if◌then◌else◌}
use Rattle.sk_recovered.specs.Base.{Work, Entries, after_works, SayAll, log_limits, IsRefused, Memory, Damage, Frames, Place}

-- Behind so many frames nothing is left; or a frame that says no works is next, and its number is told.
abbrev pub IsLeft : ℕ → Option Damage → List (List ℕ) → Type 0
IsLeft number None left = left ≡ []
IsLeft number (Some damage) left = (payload : List ℕ) × (more : List (List ℕ)) × (left ≡ payload ∷ more)
    × IsRefused log_limits payload damage.why × (damage.why ≡ Memory → ⊥) × (damage.place.number ≡ number)

-- Of the payloads, the first of which has this number, the first say works that made this store from what it was at the start; and this is
-- why the others were left.
pub record IsMade (first : ℕ) (start : Entries) (payloads : List (List ℕ)) (store : Entries) (damage : Option Damage) : Type 0 where
  pub taken : List (List ℕ)
  pub left : List (List ℕ)
  pub all : payloads ≡ taken ++ left
  pub works : List Work
  pub say : SayAll taken works
  pub store_is : store ≡ after_works works start
  pub left_is : IsLeft (first + length taken) damage left

-- what is told of a count: no more than 64 bits tell
abbrev pub capped : ℕ → ℕ
capped n = min n (2 ^ 64 - 1)

-- The frames so far were carried out, with that many works.
abbrev pub HasTaken : ℕ → Entries → List (List ℕ) → Frames → Type 0
HasTaken first start payloads frames =
    (made : IsMade first start payloads frames.store frames.damage) × (frames.works ≡ capped (length made.works))

-- No frame more is damaged; or one of this place is the first, and counts.
abbrev pub DamagedAt : Bool → Place → Option Damage → Option Damage → Type 0
DamagedAt counts place old new = (new ≡ old) ⊎ ((counts ≡ true) × IfSome new (λ d. d.place ≡ place))

-- one payload more, where it counts
abbrev pub with_one : Bool → List (List ℕ) → List ℕ → List (List ℕ)
with_one counts payloads payload = if counts then payloads ++ payload ∷ [] else payloads
