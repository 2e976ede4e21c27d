-- Outputs that are taken out of the channels, between the calls that are moves.
use Rattle.std.specs.Prelude.{◌≡◌, ◌==◌, ℕ, false, List, [], ◌∷◌, ◌++◌, map, if◌then◌else◌}
use Rattle.std.specs.FinMap.{FinMap, IsAntisymmetric}
use Rattle.std.specs.Cmp.{IsTotalOrder}
use Rattle.sk_record.specs.Run.{System}
use Rattle.sk_record.specs.Trace.{Event}
use Rattle.sk_record.specs.Machine.{Machine, Tagged, IsPlainRun}
use Rattle.sk_deeds.specs.Moves.{Moves, Starts}

-- a call: a move, or the first output of a channel is taken out
pub data Call (N O : Type 0) : Type 0 where
  Does : (event : Event N) → Call N O
  Tells : (channel : ℕ) → (output : O) → Call N O

-- what was taken out of each channel, in order
abbrev pub Told : Type 0 → Type 0
Told O = ℕ → List (ℕ × O)

-- what was taken out, with one output more
abbrev pub told_more : {O : Type 0} → ℕ → O → Told O → Told O
told_more t output told u = if t == u then told u ++ (t, output) ∷ [] else told u

-- outputs that depend on nothing
abbrev pub untagged : {O : Type 0} → List (ℕ × O) → List (Tagged (ℕ × O))
untagged ws = map (λ w. (w, [])) ws

-- the machine with what was taken out of it
abbrev pub with_told : {K V O : Type 0} → Told O → Machine K V (ℕ × O) → Machine K V (ℕ × O)
with_told told m = record { state = m.state; status = m.status; texts = λ t. untagged (told t) ++ m.texts t }

-- the first output of a channel is taken out, which depends on nothing; all else stays
pub record TakenOut {K V O : Type 0} (a : Machine K V (ℕ × O)) (t : ℕ) (output : O) (b : Machine K V (ℕ × O)) : Type 0 where
  pub look : (k : K) → b.state.look k ≡ a.state.look k
  pub logs : (k : K) → b.state.logs k ≡ a.state.logs k
  pub opens : b.state.opens ≡ a.state.opens
  pub status : (g : ℕ) → b.status g ≡ a.status g
  pub first : a.texts t ≡ ((t, output), []) ∷ b.texts t
  pub others : (u : ℕ) → (t == u) ≡ false → b.texts u ≡ a.texts u

-- the moves among calls
abbrev pub moves_of : {N O : Type 0} → List (Call N O) → List (Event N)
moves_of [] = []
moves_of (Does e ∷ cs) = e ∷ moves_of cs
moves_of (Tells t output ∷ cs) = moves_of cs

module _ {K V O F N : Type 0} (own : System K V (ℕ × O) F N) where
  -- any calls, one after another, and what was taken out by then
  abbrev pub Calls : Told O → Machine K V (ℕ × O) → List (Call N O) → Told O → Machine K V (ℕ × O) → Type 0
  Calls told a [] last b = (told ≡ last) × (a ≡ b)
  Calls told a (Does e ∷ cs) last b = (m : Machine K V (ℕ × O)) × Moves own a e m × Calls told m cs last b
  Calls told a (Tells t output ∷ cs) last b = (m : Machine K V (ℕ × O)) × TakenOut a t output m × Calls (told_more t output told) m cs last b

  -- after any calls all is as in a plain run of the steps that depend on no failed guess; what was taken out of a channel stands before what is in it
  abbrev pub TellsAsPlain : Type 0
  TellsAsPlain =
      IsTotalOrder own.order → IsAntisymmetric own.order → ((w : ℕ × O) → own.goes_to w ≡ w.0)
      → (start : FinMap own.order V) (a b : Machine K V (ℕ × O)) (cs : List (Call N O)) (told : Told O) → Starts own start a → Calls (λ t. []) a cs told b
      → IsPlainRun own start (moves_of cs) (with_told told b)
