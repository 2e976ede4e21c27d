-- What is logged of steps along any calls: what each said, and what it depended on when it was taken.
use Rattle.std.specs.Prelude.{◌≡◌, ℕ, Bool, not, List, [], ◌∷◌, ◌++◌, map, Option}
use Rattle.std.specs.List.{filter, list_any}
use Rattle.sk_record.specs.Step.{perform}
use Rattle.sk_record.specs.Effects.{MarkedEffect}
use Rattle.sk_record.specs.Run.{System, marked_effect}
use Rattle.sk_record.specs.Notes.{has}
use Rattle.sk_record.specs.Release.{said_by}
use Rattle.sk_record.specs.Trace.{Event, Taken, Commit, Fail}
use Rattle.sk_record.specs.UndoState.{UndoState, is_tag}
use Rattle.sk_record.specs.Machine.{Machine, Tagged}
use Rattle.sk_deeds.specs.Moves.{Moves}
use Rattle.sk_deeds.specs.Told.{Call, Does, Tells, Told, told_more, TakenOut}

-- a step that was taken: its entry, what it said to which channel, and the guesses that it depended on then
pub record Logged (N O : Type 0) : Type 0 where
  pub entry : N
  pub said : Option (ℕ × O)
  pub rests : List ℕ

-- the guesses that fail in a trace
abbrev pub failed_in : {N : Type 0} → List (Event N) → List ℕ
failed_in [] = []
failed_in (Taken n ∷ es) = failed_in es
failed_in (Commit g ∷ es) = failed_in es
failed_in (Fail g ∷ es) = g ∷ failed_in es

module _ {N O : Type 0} where
  -- whether a step depended on one of these guesses
  abbrev pub is_struck : List ℕ → Logged N O → Bool
  is_struck failed r = list_any (λ g. has g failed) r.rests

  -- the steps that depended on none of them, in their order
  abbrev pub kept : List ℕ → List (Logged N O) → List (Logged N O)
  kept failed log = filter (λ r. not (is_struck failed r)) log

-- outputs, each with those of its guesses that are among these
abbrev pub resting_among : {W : Type 0} → List ℕ → List (Tagged W) → List (Tagged W)
resting_among guesses xs = map (λ x. (x.0, filter (λ g. has g x.1) guesses)) xs

module _ {K V O F N : Type 0} (own : System K V (ℕ × O) F N) where
  -- what some steps said to a channel, each output with what its step depended on
  abbrev pub said_to : ℕ → List (Logged N O) → List (Tagged (ℕ × O))
  said_to t [] = []
  said_to t (r ∷ log) = said_by own t r.said r.rests ++ said_to t log

  -- what the step of an entry does on the values that are there
  abbrev pub done_at : UndoState K V → N → MarkedEffect K V (ℕ × O)
  done_at a n = marked_effect own (own.mark n) (perform a.look (own.act n))

  -- a step is logged: what it says, its own guess, and each guess among the tags of the keys that it looks at or writes
  pub record IsLogged (a : UndoState K V) (n : N) (r : Logged N O) : Type 0 where
    pub entry : r.entry ≡ n
    pub said : r.said ≡ (done_at a n).said
    pub rests : (g : ℕ) → has g r.rests ≡ is_tag a (done_at a n) g

  -- what is logged of a move: its step; nothing of a commit or a failure
  abbrev pub IsLogOf : UndoState K V → Event N → List (Logged N O) → Type 0
  IsLogOf a (Taken n) log = (r : Logged N O) × (log ≡ r ∷ []) × IsLogged a n r
  IsLogOf a (Commit g) log = log ≡ []
  IsLogOf a (Fail g) log = log ≡ []

  -- any calls, one after another: what is logged of them, and what was taken out by then
  abbrev pub Logs : Told O → Machine K V (ℕ × O) → List (Call N O) → List (Logged N O) → Told O → Machine K V (ℕ × O)
      → Type 0
  Logs told a [] log last b = (log ≡ []) × (told ≡ last) × (a ≡ b)
  Logs told a (Does e ∷ cs) log last b =
      (m : Machine K V (ℕ × O)) × (one : List (Logged N O)) × (more : List (Logged N O)) × (log ≡ one ++ more)
      × Moves own a e m × IsLogOf a.state e one × Logs told m cs more last b
  Logs told a (Tells t output ∷ cs) log last b =
      (m : Machine K V (ℕ × O)) × TakenOut a t output m × Logs (told_more t output told) m cs log last b
