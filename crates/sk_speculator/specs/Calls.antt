-- What a step and a decision make of a kernel. The statuses of guesses are not kept: each call is told for all that agree with what is.
use Rattle.std.specs.Prelude.{◌≡◌, ◌++◌, ◌+◌, ◌≤◌, ℕ, true, false, length, nat_le, Option, Some, None, Result, Ok, Err}
use Rattle.sk_speculator.specs.Base.{IsStrictlySortedBy, Ordering, LAST_GUESS, is_in, has, without, marks, numbers}
use Rattle.sk_speculator.specs.Base.{not_struck, still_open, tags_at, Fails, with_drawn, with_failure, with_status}
use Rattle.sk_speculator.specs.Base.{MergedCommits, MergedTakes, Status, KeptView, AreStatuses, one_drawn, struck_with}
use Rattle.sk_speculator.specs.Base.{with_struck, Token, Deed, again, Committed, Failed, Undone, Refusal, TooMany}
use Rattle.sk_speculator.specs.Base.{NoNumber, Memory}
use Rattle.sk_speculator.specs.Parts.{Parts, machine_of, undo_state_of}

-- with one guess more, where a step draws one
abbrev pub drawn_by : Option ℕ → KeptView → KeptView
drawn_by None v = v
drawn_by (Some g) v = one_drawn v

-- the number that the next guess has
abbrev pub next_of : KeptView → ℕ
next_of v = v.drawn + 1

module _ {K V O : Type 0} (R : K → K → Ordering) where
  -- a step that did this is taken, with its own guess or none
  pub record Takes (a : Parts K V O) (d : Deed K V O) (mark : Option ℕ) (b : Parts K V O) : Type 0 where
    pub takes : (status : ℕ → Option Status) → AreStatuses a.guesses a.opens status → MergedTakes (again R) (machine_of R a status) (record { deed = d; guess = mark }) (machine_of R b (with_drawn mark status))
    pub agrees : (status : ℕ → Option Status) → AreStatuses a.guesses a.opens status → AreStatuses b.guesses b.opens (with_drawn mark status)
    pub guesses : b.guesses ≡ drawn_by mark a.guesses
    pub numbered : numbers b.opens ≡ numbers a.opens ++ marks mark

  -- an undecided guess is committed
  pub record Commits (a : Parts K V O) (g : ℕ) (b : Parts K V O) : Type 0 where
    pub undecided : has g (numbers a.opens) ≡ true
    pub commits : (status : ℕ → Option Status) → AreStatuses a.guesses a.opens status → MergedCommits (machine_of R a status) g (machine_of R b (with_status g Status.Committed status))
    pub agrees : (status : ℕ → Option Status) → AreStatuses a.guesses a.opens status → AreStatuses b.guesses b.opens (with_status g Status.Committed status)
    pub guesses : b.guesses ≡ a.guesses
    pub opens : b.opens ≡ still_open g a.opens

  -- an undecided guess fails
  pub record FailsIn (a : Parts K V O) (g : ℕ) (b : Parts K V O) : Type 0 where
    pub undecided : has g (numbers a.opens) ≡ true
    pub fails : (status : ℕ → Option Status) → AreStatuses a.guesses a.opens status → Fails (machine_of R a status) g (machine_of R b (with_failure g a.opens status))
    pub agrees : (status : ℕ → Option Status) → AreStatuses a.guesses a.opens status → AreStatuses b.guesses b.opens (with_failure g a.opens status)
    pub guesses : b.guesses ≡ with_struck g a.opens a.guesses
    pub opens : b.opens ≡ not_struck g a.opens

  -- a struck guess is forgotten with its token; nothing else changes
  pub record Forgets (a : Parts K V O) (g : ℕ) (b : Parts K V O) : Type 0 where
    pub struck : has g a.guesses.struck ≡ true
    pub left : b ≡ record a { guesses = record a.guesses { struck = without g a.guesses.struck } }

  -- what a failure took back: just the keys that depended on the guess, and so many guesses
  pub record TookBack (a : Parts K V O) (g : ℕ) (undone : Undone K) : Type 0 where
    pub keys : (k : K) → is_in R undone.keys.items k ≡ has g (tags_at (undo_state_of R a) k)
    pub rising : IsStrictlySortedBy R undone.keys.items
    pub struck : undone.struck ≡ length (struck_with g a.opens)

-- a token of another kernel, or of a guess that is neither undecided nor struck with its token out
abbrev pub IsStranger : {K V O : Type 0} → Parts K V O → Token → Type 0
IsStranger m token = token.kernel ≡ m.guesses.kernel → (has token.id (numbers m.opens) ≡ false) × (has token.id m.guesses.struck ≡ false)

module _ {K V O : Type 0} (R : K → K → Ordering) where
  -- an undecided guess is committed; of one that was struck nothing is left; any other token comes back
  abbrev pub CommitPost : Parts K V O → Token → Result Committed Token → Parts K V O → Type 0
  CommitPost old token (Ok Committed.Done) new = (token.kernel ≡ old.guesses.kernel) × Commits R old token.id new
  CommitPost old token (Ok Committed.Gone) new = (token.kernel ≡ old.guesses.kernel) × Forgets R old token.id new
  CommitPost old token (Err back) new = IsStranger old token × (back ≡ token) × (new ≡ old)

  -- an undecided guess fails, and it is told what was taken back; of one that was struck nothing is left; any other token comes back
  abbrev pub FailPost : Parts K V O → Token → Result (Failed K) Token → Parts K V O → Type 0
  FailPost old token (Ok (Failed.Done undone)) new = (token.kernel ≡ old.guesses.kernel) × TookBack R old token.id undone × FailsIn R old token.id new
  FailPost old token (Ok Failed.Gone) new = (token.kernel ≡ old.guesses.kernel) × Forgets R old token.id new
  FailPost old token (Err back) new = IsStranger old token × (back ≡ token) × (new ≡ old)

-- why no guess is drawn: as many are undecided as may be; or the last number is drawn; or there is no memory
abbrev pub Refuses : {K V O : Type 0} → Parts K V O → Refusal → Type 0
Refuses m TooMany = m.guesses.limit ≤ length m.opens
Refuses m NoNumber = (nat_le m.guesses.limit (length m.opens) ≡ false) × (LAST_GUESS ≤ m.guesses.drawn)
Refuses m Memory = (nat_le m.guesses.limit (length m.opens) ≡ false) × ((LAST_GUESS ≤ m.guesses.drawn) → ⊥)
