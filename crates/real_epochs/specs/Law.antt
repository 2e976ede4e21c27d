-- Calls one after another, and what they come to.
use Rattle.std.specs.Prelude.{◌≡◌, ◌++◌, ℕ, zero, suc, Bool, true, false, List, [], ◌∷◌, Some, if◌then◌else◌}
use Rattle.sk_record.specs.Release.{IsFront}
use Rattle.real_epochs.specs.declared.event.Event.{Event}
use Rattle.real_epochs.specs.declared.event.Event.TheVariants.{Changes, Told, Says}
use Rattle.real_epochs.specs.Story.{said_on, Call, Begins, Happens, Accepts, Refuses, Shows, no_story, with_calls}
use Rattle.real_epochs.specs.Calls.{Shown}
use Rattle.real_epochs.specs.Tells.{EpochsView, Goes, Tells}

-- ---- what counts, told of calls alone

-- whether the first so many epochs that wait are accepted in these calls, which are to come
abbrev pub are_accepted : ℕ → List Call → Bool
are_accepted zero cs = true
are_accepted (suc n) [] = false
are_accepted (suc n) (Begins number checkpoint ∷ cs) = are_accepted (suc n) cs
are_accepted (suc n) (Happens event ∷ cs) = are_accepted (suc n) cs
are_accepted (suc n) (Accepts ∷ cs) = are_accepted n cs
are_accepted (suc n) (Refuses ∷ cs) = false
are_accepted (suc n) (Shows stream output ∷ cs) = are_accepted (suc n) cs

-- whether all of them have a reply, whatever it is: with one all behind it are refused
abbrev pub are_decided : ℕ → List Call → Bool
are_decided zero cs = true
are_decided (suc n) [] = false
are_decided (suc n) (Begins number checkpoint ∷ cs) = are_decided (suc n) cs
are_decided (suc n) (Happens event ∷ cs) = are_decided (suc n) cs
are_decided (suc n) (Accepts ∷ cs) = are_decided n cs
are_decided (suc n) (Refuses ∷ cs) = true
are_decided (suc n) (Shows stream output ∷ cs) = are_decided (suc n) cs

-- what happens while so many epochs wait counts where all of them are accepted; what the server tells, where they are decided
abbrev pub counts : Event → ℕ → List Call → Bool
counts (Changes name version) n cs = are_accepted n cs
counts (Told name version) n cs = are_decided n cs
counts (Says stream output) n cs = are_accepted n cs

-- just what counts of calls, in their order, where so many epochs wait before them
abbrev pub counted : ℕ → List Call → List Event
counted n [] = []
counted n (Begins number checkpoint ∷ cs) = counted (suc n) cs
counted n (Happens event ∷ cs) = if counts event n cs then event ∷ counted n cs else counted n cs
counted zero (Accepts ∷ cs) = counted zero cs
counted (suc n) (Accepts ∷ cs) = counted n cs
counted n (Refuses ∷ cs) = counted zero cs
counted n (Shows stream output ∷ cs) = counted n cs

-- ---- calls

-- a call, by what its contract says
abbrev pub Makes : EpochsView → Call → EpochsView → Type 0
Makes a (Shows stream output) b = Shown stream (Some output) a b
Makes a call b = Goes call a b

-- any calls, one after another
abbrev pub Follows : EpochsView → List Call → EpochsView → Type 0
Follows a [] b = a ≡ b
Follows a (c ∷ cs) b = (m : EpochsView) × Makes a c m × Follows m cs b

-- After any calls their story is told; what it accepts is just what counts of the calls, in their order; and what was shown on a stream is
-- what a plain run of that says first.
pub record Stands (cs : List Call) (b : EpochsView) : Type 0 where
  pub told : Tells (with_calls cs no_story) b
  pub counts : (with_calls cs no_story).accepted ≡ counted 0 cs
  pub shown : (t : ℕ) → IsFront ((with_calls cs no_story).shown t) (said_on t (counted 0 cs))

-- after any calls from the beginning on
abbrev pub EpochsStand : Type 0
EpochsStand = (a b : EpochsView) (cs : List Call) → Tells no_story a → Follows a cs b → Stands cs b
