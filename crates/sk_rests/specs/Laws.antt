-- What the log of any calls says of the end.
use Rattle.std.specs.Prelude.{◌≡◌, ◌↔◌, ◌⊎◌, ◌&&◌, ℕ, true, not, nat_le, List, [], ◌++◌, map, Some, slice_get}
use Rattle.std.specs.List.{filter, list_any, Contains}
use Rattle.std.specs.FinMap.{FinMap, IsAntisymmetric}
use Rattle.std.specs.Cmp.{IsTotalOrder}
use Rattle.sk_record.specs.Effects.{Dep}
use Rattle.sk_record.specs.Run.{System}
use Rattle.sk_record.specs.Notes.{has}
use Rattle.sk_record.specs.Trace.{Event, Commit, record_of, effects_of}
use Rattle.sk_record.specs.declared.status.Status.TheVariants.{Undecided, Committed, Failed}
use Rattle.sk_record.specs.UndoState.{numbers}
use Rattle.sk_record.specs.Machine.{Machine, Tagged}
use Rattle.sk_deeds.specs.Moves.{Starts}
use Rattle.sk_deeds.specs.Told.{Call, Told, moves_of}
use Rattle.sk_rests.specs.Logged.{Logged, failed_in, kept, resting_among, said_to, Logs}

-- what steps said to a channel: first what was taken out of it, then what waits there
pub record IsSaid {K V O : Type 0} (said : List (Tagged (ℕ × O))) (t : ℕ) (told : Told O)
    (b : Machine K V (ℕ × O)) : Type 0 where
  pub out : List (Tagged (ℕ × O))
  pub waiting : List (Tagged (ℕ × O))
  pub split : said ≡ out ++ waiting
  pub gone : told t ≡ map (λ x. x.0) out
  -- what waits has as tags those of its guesses that are undecided
  pub texts : b.texts t ≡ resting_among (numbers b.state.opens) waiting
  -- what is out depends on committed guesses alone
  pub settled : (x : Tagged (ℕ × O)) (g : ℕ) → Contains out x → has g x.1 ≡ true → b.status g ≡ Some Committed
  -- an output that waits without an undecided tag depends on committed guesses alone
  pub ready : (x : Tagged (ℕ × O)) (g : ℕ) → Contains waiting x
      → filter (λ h. has h x.1) (numbers b.state.opens) ≡ [] → has g x.1 ≡ true → b.status g ≡ Some Committed

module _ {K V O F N : Type 0} (own : System K V (ℕ × O) F N) where
  -- what some calls come to is told by what is logged of them
  pub record IsAsLogged (start : FinMap own.order V) (es : List (Event N)) (log : List (Logged N O)) (told : Told O)
      (b : Machine K V (ℕ × O)) : Type 0 where
    -- the guesses that were committed, and those that failed, have this status
    pub committed : (g : ℕ) → Contains es (Commit g) ↔ (b.status g ≡ Some Committed)
    pub failed : (g : ℕ) → (has g (failed_in es) ≡ true) ↔ (b.status g ≡ Some Failed)
    -- the entries that stand are those of the steps that depended on no guess that failed
    pub entries : record_of own start es ≡ map (λ r. r.entry) (kept (failed_in es) log)
    -- each of them depends on an undecided guess just where it depended on it when it was taken
    pub depends : (k g : ℕ) (r : Logged N O) → slice_get (kept (failed_in es) log) k ≡ Some r
        → b.status g ≡ Some Undecided
        → (has g r.rests ≡ true) ↔ Dep (effects_of own start es) g k
    -- all that it depended on is undecided or committed
    pub decided : (r : Logged N O) (g : ℕ) → Contains (kept (failed_in es) log) r → has g r.rests ≡ true
        → (b.status g ≡ Some Undecided) ⊎ (b.status g ≡ Some Committed)
    -- what they said is what the channels have let go and what waits there
    pub channels : (t : ℕ) → IsSaid (said_to own t (kept (failed_in es) log)) t told b

  -- after any calls what they came to is told by what is logged of them
  abbrev pub StandsAsLogged : Type 0
  StandsAsLogged =
      IsTotalOrder own.order → IsAntisymmetric own.order → ((w : ℕ × O) → own.goes_to w ≡ w.0)
      → (start : FinMap own.order V) (a b : Machine K V (ℕ × O)) (cs : List (Call N O))
      → (log : List (Logged N O)) (told : Told O)
      → Starts own start a → Logs own (λ t. []) a cs log told b → IsAsLogged start (moves_of cs) log told b

-- where just the guesses from the first to the last fail more, what is left loses just what depended on one of them
abbrev pub RangeIsStruck : (N O : Type 0) → Type 0
RangeIsStruck N O =
    (failed more : List ℕ) (first last : ℕ) (log : List (Logged N O))
    → ((g : ℕ) → has g more ≡ (nat_le first g && nat_le g last))
    → kept (failed ++ more) log
    ≡ filter (λ r. not (list_any (λ n. nat_le first n && nat_le n last) r.rests)) (kept failed log)
