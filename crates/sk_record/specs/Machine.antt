-- The machine: a kernel in place, which unions tags, keeps notes, commits and unwinds, runs no step again and has no record.
use Rattle.std.specs.Prelude.{◌≡◌, ℕ, Bool, true, ◌&&◌, ◌==◌, not, List, [], ◌∷◌, ◌++◌, map, Option, Some, None, Result, Ok, Err, if◌then◌else◌, ◌↔◌}
use Rattle.std.specs.List.{filter, list_any, fold}
use Rattle.std.specs.List.Sorted.{IsStrictlyIncreasing}
use Rattle.std.specs.FinMap.{FinMap, get}
use Rattle.sk_record.specs.Step.{Effect, perform}
use Rattle.sk_record.specs.Effects.{is_in, writes, written_value}
use Rattle.sk_record.specs.Run.{System, marked_effect, run, effects}
use Rattle.sk_record.specs.Notes.{has, without, noted, cut, unwound, committed, tags_along}
use Rattle.sk_record.specs.Trace.{Event, Taken, Commit, Fail, Status, Undecided, Committed, Failed, Struck, StatusIs, IsTagOf, IsSound, record_of, undecided_of, Record, all_recorded, no_record}
use Rattle.sk_record.specs.Release.{said, said_by, said_with, IsReleased}
use Rattle.sk_record.specs.UndoState.{Open, UndoState, numbers, tags_at, step_tags, opened, still_open, not_struck, Took, Committed as CommittedState, Failed as FailedState, Represents}

-- a text that was said, with the guesses that it depends on
abbrev pub Tagged : Type 0 → Type 0
Tagged W = W × List ℕ

-- a text before released ones, where it has no tags
abbrev pub released_if : {W : Type 0} → List ℕ → W → List W → List W
released_if [] w ws = w ∷ ws
released_if (t ∷ tags) w ws = []

module _ {W : Type 0} where
  -- what is released: the longest prefix without tags
  abbrev pub released : List (Tagged W) → List W
  released [] = []
  released (x ∷ xs) = released_if x.1 x.0 (released xs)

  -- the texts after the commit of g
  abbrev pub lightened : ℕ → List (Tagged W) → List (Tagged W)
  lightened g xs = map (λ x. (x.0, without g x.1)) xs

  -- the texts that the failure of g leaves
  abbrev pub not_dropped : ℕ → List (Tagged W) → List (Tagged W)
  not_dropped g xs = filter (λ x. not (has g x.1)) xs

-- the status of g is now s, and the others are as before
abbrev pub with_status : ℕ → Status → (ℕ → Option Status) → ℕ → Option Status
with_status g s status h = if h == g then Some s else status h

-- a new guess is undecided
abbrev pub with_drawn : Option ℕ → (ℕ → Option Status) → ℕ → Option Status
with_drawn None status = status
with_drawn (Some g) status = with_status g Undecided status

-- whether h is an open guess whose own step depends on g
abbrev pub rests_on : ℕ → List Open → ℕ → Bool
rests_on g os h = list_any (λ o. (o.0 == h) && has g o.1) os

-- after the failure of g it has failed, and the open guesses that depend on it are struck
abbrev pub with_failure : ℕ → List Open → (ℕ → Option Status) → ℕ → Option Status
with_failure g os status = with_status g Failed (λ h. if rests_on g os h then Some Struck else status h)

-- the value and the notes of each entity and the open guesses; the status of each guess; each terminal's texts in the order of saying
pub record Machine (E V W : Type 0) : Type 0 where
  pub state : UndoState E V
  pub status : ℕ → Option Status
  pub texts : ℕ → List (Tagged W)

module _ {E V W F N : Type 0} (K : System E V W F N) where
  -- an accepted step: what it writes, a note for each entity written, the guess that it opens, and its text, all with the step's tags
  abbrev pub took_by : Machine E V W → N → Result (Effect E V W) F → Machine E V W
  took_by m n (Err why) = m
  took_by m n (Ok f) =
      let left = marked_effect K (K.mark n) (Ok f) in
      let tags = step_tags m.state left in
      record {
        state = record {
          look = λ e. written_value K.order f.written e (m.state.look e);
          logs = λ e. m.state.logs e ++ noted (is_in K.order (writes left) e) tags (m.state.look e) [];
          opens = m.state.opens ++ opened (K.mark n) tags;
        };
        status = with_drawn (K.mark n) m.status;
        texts = λ t. m.texts t ++ said_by K t f.said tags;
      }

  -- a commit: its guess goes out of all tags
  abbrev pub committed_in_place : Machine E V W → ℕ → Machine E V W
  committed_in_place m g = record {
    state = record { look = m.state.look; logs = λ e. committed g (m.state.logs e); opens = still_open g m.state.opens };
    status = with_status g Committed m.status;
    texts = λ t. lightened g (m.texts t);
  }

  -- a failure: each entity is unwound to before the first note that carries the guess, and what else carries it is dropped
  abbrev pub failed_in_place : Machine E V W → ℕ → Machine E V W
  failed_in_place m g = record {
    state = record { look = λ e. unwound g (m.state.logs e) (m.state.look e); logs = λ e. cut g (m.state.logs e); opens = not_struck g m.state.opens };
    status = with_failure g m.state.opens m.status;
    texts = λ t. not_dropped g (m.texts t);
  }

  -- calls as relations of parts: what an accepted step makes of the machine a
  pub record Takes (a : Machine E V W) (n : N) (b : Machine E V W) : Type 0 where
    pub state : Took K a.state n b.state
    pub status : (g : ℕ) → b.status g ≡ with_drawn (K.mark n) a.status g
    pub texts : (t : ℕ) → b.texts t ≡ a.texts t ++ said_by K t state.effect.said (step_tags a.state (marked_effect K (K.mark n) (Ok state.effect)))

  -- the machine after an event; a refused step changes nothing
  abbrev pub moved : Machine E V W → Event N → Machine E V W
  moved m (Taken n) = took_by m n (perform m.state.look (K.act n))
  moved m (Commit g) = committed_in_place m g
  moved m (Fail g) = failed_in_place m g

module _ {E V W : Type 0} where
  -- what the commit of c makes of the machine a
  pub record Commits (a : Machine E V W) (c : ℕ) (b : Machine E V W) : Type 0 where
    pub state : CommittedState a.state c b.state
    pub status : (g : ℕ) → b.status g ≡ with_status c Committed a.status g
    pub texts : (t : ℕ) → b.texts t ≡ lightened c (a.texts t)

  -- what the failure of c makes of the machine a
  pub record Fails (a : Machine E V W) (c : ℕ) (b : Machine E V W) : Type 0 where
    pub state : FailedState a.state c b.state
    pub status : (g : ℕ) → b.status g ≡ with_failure c a.state.opens a.status g
    pub texts : (t : ℕ) → b.texts t ≡ not_dropped c (a.texts t)

module _ {E V W F N : Type 0} (K : System E V W F N) (start : FinMap K.order V) where
  -- the machine where nothing has happened yet
  abbrev pub machine_at_start : Machine E V W
  machine_at_start = record { state = record { look = get start; logs = λ e. []; opens = [] }; status = λ g. None; texts = λ t. [] }

  -- the machine after a trace
  abbrev pub machine_after : List (Event N) → Machine E V W
  machine_after es = fold (moved K) machine_at_start es

  -- the machine is what the plain kernel makes of the trace's record
  pub record IsPlainRun (es : List (Event N)) (m : Machine E V W) : Type 0 where
    -- each entity has the value that it has in the run of the record
    pub values : (e : E) → m.state.look e ≡ get (run K start (record_of K start es)) e
    -- its tags are the undecided guesses of which some dependent position writes it
    pub tags : (e : E) (g : ℕ) → (has g (tags_at m.state e) ≡ true) ↔ IsTagOf K start es e g
    -- each guess has its status
    pub statuses : (g : ℕ) (s : Status) → (m.status g ≡ Some s) ↔ StatusIs K start es g s
    -- its open guesses are the undecided ones, each once, by rising number
    pub opens : numbers m.state.opens ≡ undecided_of K start es
    pub rising : IsStrictlyIncreasing (numbers m.state.opens)
    -- to each terminal it says what the record says to it
    pub texts : (t : ℕ) → map (λ x. x.0) (m.texts t) ≡ map (λ x. x.0) (said K start es t)
    -- and has released the longest prefix of that which depends on no undecided guess
    pub releases : (t : ℕ) → IsReleased K start es t (released (m.texts t))

  -- the texts are those that the record says, each with the undecided guesses that its step depends on
  abbrev pub TextsRepresent : Record N → (ℕ → List (Tagged W)) → Type 0
  TextsRepresent r texts = (t : ℕ) → texts t ≡ said_with K t (tags_along K.order r.undecided (λ g. []) (effects K start r.entries)) (effects K start r.entries)

  -- the trace is sound, and each part of the machine is as computed from it
  pub record RepresentsTrace (es : List (Event N)) (m : Machine E V W) : Type 0 where
    pub sound : IsSound K start es
    pub state : Represents K start (all_recorded K start no_record es) m.state
    pub statuses : (g : ℕ) (s : Status) → (m.status g ≡ Some s) ↔ StatusIs K start es g s
    pub texts : TextsRepresent (all_recorded K start no_record es) m.texts
