-- Rounds, by which a host knows that it still leads.
use Rattle.std.specs.Prelude.{◌≡◌, ◌+◌, ◌≤◌, ℕ, Bool, true, false, not, nat_lt, nat_le, List, [], ◌∷◌, ◌++◌, Option, Some, None, if◌then◌else◌, Result, Ok, Err}
use Rattle.sk_engine.specs.declared.rounds.RoundRefusal.{RoundRefusal}
use Rattle.sk_engine.specs.declared.rounds.RoundRefusal.TheVariants.{Over, Nothing, NoNumber, Unknown}
use Rattle.sk_engine.specs.declared.rounds.TheConstants.{ROUND_LIMIT}
use Rattle.sk_engine.specs.Moves.{Has}

-- how many rounds were taken; the last of which it is known that the host led after it; whether something waits for the next; and whether
-- it leads no more
pub record RoundsView : Type 0 where
  pub taken : ℕ
  pub held : ℕ
  pub is_waiting : Bool
  pub is_over : Bool

abbrev pub no_rounds : RoundsView
no_rounds = record { taken = 0; held = 0; is_waiting = false; is_over = false }

-- something waits for the next, unless there is none
abbrev pub waits : RoundsView → RoundsView
waits r = record r { is_waiting = not r.is_over }

-- the host leads no more
abbrev pub lost : RoundsView → RoundsView
lost r = record r { is_waiting = false; is_over = true }

-- what has this mark may be told
abbrev pub may_tell : ℕ → RoundsView → Bool
may_tell mark r = nat_lt mark r.held

-- the first cause against a round, or none
abbrev pub take_refused : RoundsView → Option RoundRefusal
take_refused r =
    if r.is_over then Some Over
    else if not r.is_waiting then Some Nothing
    else if nat_le ROUND_LIMIT r.taken then Some NoNumber
    else None

-- the rounds, once it is known that the host led after this one
abbrev pub after_still : ℕ → RoundsView → RoundsView
after_still round r = if nat_lt r.held round then record r { held = round } else r

-- ---- calls

-- CarriesOut: something is carried out, and has this mark. Takes, Holds: a round is taken; it is known that the host led after it.
-- Loses: the host leads no more.
pub data RoundCall : Type 0 where
  CarriesOut : (mark : ℕ) → RoundCall
  Takes : (round : ℕ) → RoundCall
  Holds : (round : ℕ) → RoundCall
  Loses : RoundCall

abbrev pub RoundDoes : RoundsView → RoundCall → RoundsView → Type 0
RoundDoes r (CarriesOut mark) s = (mark ≡ r.taken) × (s ≡ waits r)
RoundDoes r (Takes round) s = (take_refused r ≡ None) × (round ≡ r.taken + 1) × (s ≡ record r { taken = round; is_waiting = false })
RoundDoes r (Holds round) s = (nat_lt r.taken round ≡ false) × (s ≡ after_still round r)
RoundDoes r Loses s = s ≡ lost r

-- The next round is taken, for all that wait; or the first cause against it, and nothing has changed.
abbrev pub TakePost : Result ℕ RoundRefusal → RoundsView → RoundsView → Type 0
TakePost (Ok round) old new = RoundDoes old (Takes round) new
TakePost (Err why) old new = (take_refused old ≡ Some why) × (new ≡ old)

-- The host led after this round; or it was not taken, and nothing has changed.
abbrev pub StillPost : Result (Unit {0}) RoundRefusal → ℕ → RoundsView → RoundsView → Type 0
StillPost (Ok _) round old new = RoundDoes old (Holds round) new
StillPost (Err why) round old new = (nat_lt old.taken round ≡ true) × (why ≡ Unknown) × (new ≡ old)

abbrev pub RoundRuns : RoundsView → List RoundCall → RoundsView → Type 0
RoundRuns r [] last = r ≡ last
RoundRuns r (c ∷ cs) last = (s : RoundsView) × RoundDoes r c s × RoundRuns s cs last

-- ---- what holds of all runs

-- Among these calls a round is taken, and later it is known that the host led after it, or after one behind it.
pub record IsHeld (cs : List RoundCall) : Type 0 where
  pub round : ℕ
  pub before : List RoundCall
  pub after : List RoundCall
  pub at : cs ≡ before ++ Takes round ∷ after
  pub held : ℕ
  pub known : Has (Holds held) after
  pub behind : round ≤ held

-- What was carried out may be told only once a round that was taken later has held.
abbrev pub ToldBehindARound : Type 0
ToldBehindARound = (before after : List RoundCall) (r s : RoundsView) (mark : ℕ) → RoundRuns no_rounds before r
    → RoundRuns r (CarriesOut mark ∷ after) s → may_tell mark s ≡ true → IsHeld after
