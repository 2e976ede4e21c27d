-- When epochs stand as a story tells. Of `Tells` nothing has to be believed but its name: each call says what it makes of it, and `told_law`
-- what it comes to.
use Rattle.std.specs.Prelude.{◌≡◌, ℕ, false, List, [], ◌∷◌, ◌++◌, map, Option}
use Rattle.std.specs.FinMap.{FinMap, empty}
use Rattle.std.specs.Ordering.{nat_cmp}
use Rattle.sk_record.specs.Trace.{Event as Move, record_of, undecided_of}
use Rattle.sk_record.specs.Merged.{MergedStands}
use Rattle.sk_record.specs.declared.status.Status.{Status}
use Rattle.sk_deeds.specs.Told.{Told as Out, with_told}
use Rattle.sk_guesses.specs.Kept.{AreStatuses}
use Rattle.sk_speculator.specs.Parts.{Parts, machine_of}
use Rattle.real_epochs.specs.declared.begun.Begun.{Begun}
use Rattle.real_epochs.specs.Story.{Epoch, Story, Call, with_call}
use Rattle.real_epochs.specs.Host.{Entry, host, entries_of, events_in, is_begun}
use Rattle.real_epochs.specs.Clean.{IsClean}

-- the kernel, and the epochs without their replies, oldest first
pub record EpochsView : Type 0 where
  pub parts : Parts ℕ ℕ ℕ
  pub line : List Begun

-- no key is there
abbrev pub nothing : FinMap host.order ℕ
nothing = empty

-- moves of the kernel led to these parts, by when this had been taken out
pub record StandsAt (moves : List (Move Entry)) (out : Out ℕ) (p : Parts ℕ ℕ ℕ) : Type 0 where
  pub status : ℕ → Option Status
  pub agrees : AreStatuses p.guesses p.opens status
  pub stands : MergedStands host nothing moves (with_told out (machine_of nat_cmp p status))

-- the tokens of epochs, and their checkpoints
abbrev pub line_of : ℕ → List Epoch → List Begun
line_of kernel es = map (λ e. record { token = record { kernel = kernel; id = e.number }; checkpoint = e.checkpoint }) es

abbrev pub numbers_of : List Epoch → List ℕ
numbers_of es = map (λ e. e.number) es

-- no epoch had begun before
abbrev pub AreApart : List Entry → List Epoch → Type 0
AreApart ns [] = Unit {0}
AreApart ns (e ∷ es) = (is_begun e.number ns ≡ false) × AreApart (ns ++ entries_of (e ∷ [])) es

-- some moves of the kernel led here, of which just the steps are left that the story tells
pub record Tells (s : Story) (c : EpochsView) : Type 0 where
  pub before : List Entry
  pub moves : List (Move Entry)
  pub out : Out ℕ
  pub stands : StandsAt moves out c.parts
  pub steps : record_of host nothing moves ≡ before ++ entries_of s.waiting
  pub guesses : undecided_of host nothing moves ≡ numbers_of s.waiting
  pub apart : AreApart before s.waiting
  pub clean : IsClean [] (entries_of s.waiting)
  pub accepted : events_in before ≡ s.accepted
  pub shown : (t : ℕ) → out t ≡ map (λ o. (t, o)) (s.shown t)
  pub line : c.line ≡ line_of c.parts.guesses.kernel s.waiting

-- whatever is told before a call, this is told after it
abbrev pub Goes : Call → EpochsView → EpochsView → Type 0
Goes call a b = (s : Story) → Tells s a → Tells (with_call call s) b

-- whatever is told before, is told after
abbrev pub Stays : EpochsView → EpochsView → Type 0
Stays a b = (s : Story) → Tells s a → Tells s b
