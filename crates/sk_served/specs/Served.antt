-- The steps of the store: a batch begins; or what a channel asked for is carried out.
use Rattle.std.specs.Prelude.{ℕ, List, [], ◌∷◌, ◌++◌, Option, Some, None}
use Rattle.sk_served.specs.Base.{option_map, nat_cmp, slice_cmp, Step, Ask, Refuse, Done, System, Deed, asking}
use Rattle.sk_served.specs.Base.{batch_key, Work, Answer, Have, comes_to, looks_at, works}

-- Work that came on a channel with this ticket, where these keys are known; where it may write, the batch that logs it.
pub record Asked : Type 0 where
  pub channel : ℕ
  pub ticket : ℕ
  pub known : List (List ℕ)
  pub batch : Option ℕ
  pub work : Work

-- a batch begins, or work is carried out
pub data Entry : Type 0 where
  Opens : (batch : ℕ) → Entry
  Runs : (asked : Asked) → Entry

-- the key of a batch, if there is one
abbrev pub batch_keys : Option ℕ → List (List ℕ)
batch_keys None = []
batch_keys (Some n) = batch_key n ∷ []

-- a step as it is logged: it looks at these keys too before it is done, and says its ticket with the answer
abbrev pub logged : List (List ℕ) → ℕ → Step (List ℕ) (List ℕ) (ℕ × Answer) (Unit {0})
    → Step (List ℕ) (List ℕ) (ℕ × (ℕ × Answer)) (Unit {0})
logged keys ticket (Ask key next) = Ask key (λ value. logged keys ticket (next value))
logged keys ticket (Refuse why) = Refuse why
logged keys ticket (Done written said) = asking keys (Done written (option_map (λ s. (s.0, (ticket, s.1))) said))

-- A batch makes its key absent, which depends on its guess from then on. Work looks at the key of its batch last, and so
-- depends on it too.
abbrev pub act : Entry → Step (List ℕ) (List ℕ) (ℕ × (ℕ × Answer)) (Unit {0})
act (Opens n) = Done ((batch_key n, None) ∷ []) None
act (Runs a) = logged (batch_keys a.batch) a.ticket (works a.channel a.known a.work)

-- a batch is the guess of its number
abbrev pub mark : Entry → Option ℕ
mark (Opens n) = Some n
mark (Runs a) = None

-- the plain kernel of the store
abbrev pub served : System (List ℕ) (List ℕ) (ℕ × (ℕ × Answer)) (Unit {0}) Entry
served = record { order = slice_cmp nat_cmp; act = act; mark = mark; goes_to = λ said. said.0 }

-- what the step of an entry does, where keys have this
abbrev pub deed : Entry → Have → Deed (List ℕ) (List ℕ) (ℕ × Answer)
deed (Opens n) has = record { looked = []; written = (batch_key n, None) ∷ []; said = None }
deed (Runs a) has = record {
  looked = looks_at a.known a.work ++ batch_keys a.batch;
  written = (comes_to a.known a.work has).written;
  said = Some (a.channel, (a.ticket, (comes_to a.known a.work has).reply));
}
