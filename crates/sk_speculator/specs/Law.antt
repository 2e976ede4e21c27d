-- The calls of a kernel over its user's own step function, one after another, and what they come to.
use Rattle.std.specs.Prelude.{◌≡◌, ◌==◌, ◌⊎◌, ℕ, false, List, [], ◌∷◌, Option, Some, None, Ok}
use Rattle.sk_speculator.specs.Base.{FinMap, IsAntisymmetric, get, IsTotalOrder, perform, System, Event, Taken, Commit}
use Rattle.sk_speculator.specs.Base.{Fail, IsPlainRun, Status, AreStatuses, Deed, effect_of, Told, told_more}
use Rattle.sk_speculator.specs.Base.{with_told, look_at, log_at, said_at}
use Rattle.sk_speculator.specs.Parts.{Parts, machine_of}
use Rattle.sk_speculator.specs.Calls.{next_of, Takes, Commits, FailsIn, Forgets}

-- a call: a step, a commit or a failure; the first output of a channel is taken out; or the token of a struck guess comes back
pub data Call (N O : Type 0) : Type 0 where
  Does : (event : Event N) → Call N O
  Tells : (channel : ℕ) → (output : O) → Call N O
  Returns : (guess : ℕ) → Call N O

-- the events among calls
abbrev pub events_of : {N O : Type 0} → List (Call N O) → List (Event N)
events_of [] = []
events_of (Does e ∷ cs) = e ∷ events_of cs
events_of (other ∷ cs) = events_of cs

-- the first output of a channel is taken out; all else stays
pub record TakesOut {K V O : Type 0} (a : Parts K V O) (t : ℕ) (output : O) (b : Parts K V O) : Type 0 where
  pub first : said_at a.said t ≡ ((t, output), []) ∷ said_at b.said t
  pub others : (u : ℕ) → (t == u) ≡ false → said_at b.said u ≡ said_at a.said u
  pub same : b ≡ record a { said = b.said }

module _ {K V O F N : Type 0} (own : System K V (ℕ × O) F N) where
  -- what the step function does on the values that are there is handed in and taken, as a step or as the step of the next guess
  pub record Hands (a : Parts K V O) (n : N) (b : Parts K V O) : Type 0 where
    pub deed : Deed K V O
    pub honest : perform (look_at own.order a.slots) (own.act n) ≡ Ok (effect_of (look_at own.order a.slots) deed)
    pub mark : (own.mark n ≡ None) ⊎ (own.mark n ≡ Some (next_of a.guesses))
    pub takes : Takes own.order a deed (own.mark n) b

  -- an event, by the clauses of the call that it is
  abbrev pub Happens : Parts K V O → Event N → Parts K V O → Type 0
  Happens a (Taken n) b = Hands a n b
  Happens a (Commit g) b = Commits own.order a g b
  Happens a (Fail g) b = FailsIn own.order a g b

  -- any calls, one after another, and what was taken out by then
  abbrev pub Calls : Told O → Parts K V O → List (Call N O) → Told O → Parts K V O → Type 0
  Calls told a [] last b = (told ≡ last) × (a ≡ b)
  Calls told a (Does e ∷ cs) last b = (m : Parts K V O) × Happens a e m × Calls told m cs last b
  Calls told a (Tells t output ∷ cs) last b = (m : Parts K V O) × TakesOut a t output m × Calls (told_more t output told) m cs last b
  Calls told a (Returns g ∷ cs) last b = (m : Parts K V O) × Forgets own.order a g m × Calls told m cs last b

  -- keys have what they start with, and nothing else has happened
  pub record IsFirst (start : FinMap own.order V) (a : Parts K V O) : Type 0 where
    pub look : (k : K) → look_at own.order a.slots k ≡ get start k
    pub log : (k : K) → log_at own.order a.slots k ≡ []
    pub drawn : a.guesses.drawn ≡ 0
    pub struck : a.guesses.struck ≡ []
    pub opens : a.opens ≡ []
    pub said : a.said ≡ []

  -- after any calls all is as in a plain run of the steps that depend on no failed guess, with the statuses of some function that agrees with
  -- what is kept of guesses; what was taken out of a channel stands before what is in it
  abbrev pub OwnRunsAsPlain : Type 0
  OwnRunsAsPlain =
      IsTotalOrder own.order → IsAntisymmetric own.order → ((w : ℕ × O) → own.goes_to w ≡ w.0)
      → (start : FinMap own.order V) (a b : Parts K V O) (cs : List (Call N O)) (told : Told O) → IsFirst start a → Calls (λ t. []) a cs told b
      → (status : ℕ → Option Status) × AreStatuses b.guesses b.opens status × IsPlainRun own start (events_of cs) (with_told told (machine_of own.order b status))
