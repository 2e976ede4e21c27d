-- What a kernel keeps, and the machine of records that it is.
use Rattle.std.specs.Prelude.{◌≡◌, ℕ, Bool, true, List, [], ◌∷◌, ◌++◌, Option, Some, None, is_some, refl, if◌then◌else◌}
use Rattle.sk_speculator.specs.Base.{eq_by_cmp, list_any, Coded, code_by, coded×, coded_ℕ, coded_list, Ordering}
use Rattle.sk_speculator.specs.Base.{FinMap, is_in, written_value, has, noted, last_tags, Event, Open, UndoState}
use Rattle.sk_speculator.specs.Base.{Machine, Merges, MergedStands, Status, tags_by, AllExact, KeptView, AreStatuses}
use Rattle.sk_speculator.specs.Base.{keys_of, OpenGuess, Deed, Entry, again, Told, with_told, SlotView, slot_code}
use Rattle.sk_speculator.specs.Base.{look_at, log_at, found, goes_unnoted, AllSettled, Said, one_code, said_at}

-- what each key has with its notes, what is kept of guesses, the undecided ones with the guesses that their own steps depend on, and the
-- outputs that were not taken out
pub record Parts (K V O : Type 0) : Type 0 where
  pub slots : List (K × SlotView V)
  pub guesses : KeptView
  pub opens : List Open
  pub said : Said O

abbrev pub guesses_code : Coded KeptView
guesses_code =
    code_by (ℕ × (ℕ × (ℕ × List ℕ))) (coded× coded_ℕ (coded× coded_ℕ (coded× coded_ℕ (coded_list coded_ℕ))))
    (λ g. (g.kernel, (g.limit, (g.drawn, g.struck)))) (λ p. record { kernel = p.0; limit = p.1.0; drawn = p.1.1.0; struck = p.1.1.1 }) (λ _. refl)

abbrev pub parts_code : {K V O : Type 0} → Coded K → Coded V → Coded O → Coded (Parts K V O)
parts_code {K} {V} {O} k v o =
    code_by (List (K × SlotView V) × (KeptView × (List Open × Said O)))
    (coded× (coded_list (coded× k (slot_code v))) (coded× guesses_code (coded× (coded_list (coded× coded_ℕ (coded_list coded_ℕ))) (coded_list (one_code o)))))
    (λ m. (m.slots, (m.guesses, (m.opens, m.said)))) (λ p. record { slots = p.0; guesses = p.1.0; opens = p.1.1.0; said = p.1.1.1 }) (λ _. refl)

module _ {K V O : Type 0} (R : K → K → Ordering) where
  -- what keys have, with their notes and the undecided guesses
  abbrev pub undo_state_of : Parts K V O → UndoState K V
  undo_state_of m = record { look = look_at R m.slots; logs = log_at R m.slots; opens = m.opens }

  -- the machine of records that these parts are, where guesses have these statuses
  abbrev pub machine_of : Parts K V O → (ℕ → Option Status) → Machine K V (ℕ × O)
  machine_of m status = record { state = undo_state_of m; status = status; texts = said_at m.said }

  -- some calls from some start lead to these parts, but for notes that are left out, and to statuses that agree with what is kept: nothing
  -- keeps them
  pub record IsWhole (m : Parts K V O) : Type 0 where
    pub start : FinMap R V
    pub events : List (Event (Entry K V O))
    -- what was taken out of the channels
    pub told : Told O
    pub status : ℕ → Option Status
    pub agrees : AreStatuses m.guesses m.opens status
    pub stands : MergedStands (again R) start events (with_told told (machine_of m status))

  -- between calls: no slot is kept for nothing, each undecided guess has the list of just the keys that depend on it, and some calls lead here
  pub record IsSound (m : Parts K V O) (lists : List (OpenGuess K)) : Type 0 where
    pub settled : AllSettled R m.slots
    pub exact : AllExact R (tags_by (log_at R m.slots)) lists
    pub whole : IsWhole m

-- what a step handed in: the keys that it looked at, what it writes, and what it says to which channel
abbrev pub deed : {K V O : Type 0} → List K → List (K × Option V) → Option (ℕ × O) → Deed K V O
deed looked written said = record { looked = looked; written = written; said = said }

module _ {K V : Type 0} (R : K → K → Ordering) where
  -- whether one of these keys depends on a guess
  abbrev pub any_rests : List (K × SlotView V) → ℕ → List K → Bool
  any_rests m g ks = list_any (λ k. has g (last_tags [] (log_at R m k))) ks

  -- the tags of the first of these keys
  abbrev pub first_tags : List (K × SlotView V) → List K → List ℕ
  first_tags m [] = []
  first_tags m (k ∷ ks) = last_tags [] (log_at R m k)

  -- a step goes on with the tags of the first key that it writes: each key that it writes has a slot, in which a write with these tags is not
  -- noted, and what it looked at depends on no other guess
  pub record GoesOn (m : List (K × SlotView V)) (looked written : List K) : Type 0 where
    pub slots : (q : K) → is_in R written q ≡ true → is_some (found R m q) ≡ true
    pub unnoted : (q : K) → is_in R written q ≡ true → goes_unnoted (first_tags m written) (log_at R m q) ≡ true
    pub within : (g : ℕ) → any_rests m g looked ≡ true → has g (first_tags m written) ≡ true

  -- what writes make of what keys have, each after those before it
  abbrev pub made_by : {W : Type 0} → (W → Option V → Option V) → (K → Option V) → List (K × W) → List (K × Option V)
  made_by written look [] = []
  made_by written look (w ∷ ws) = (w.0, written w.1 (look w.0)) ∷ made_by written (λ q. if eq_by_cmp R q w.0 then written w.1 (look q) else look q) ws

  -- the writes of a step that has these tags, whose notes may be left out
  pub record Performed (old : List (K × SlotView V)) (tags : List ℕ) (ws : List (K × Option V)) (new : List (K × SlotView V)) : Type 0 where
    pub look : (q : K) → look_at R new q ≡ written_value R ws q (look_at R old q)
    pub logs : (q : K) → Merges [] (log_at R old q ++ noted (is_in R (keys_of ws) q) tags (look_at R old q) []) (log_at R new q)

-- what was said after a step that says this
abbrev pub says : {O : Type 0} → Option (ℕ × O) → List ℕ → Said O → Said O
says None tags said = said
says (Some w) tags said = said ++ (w, tags) ∷ []

-- the parts are the same, as far as anyone sees
pub record IsSame {K V O : Type 0} (R : K → K → Ordering) (a b : Parts K V O) : Type 0 where
  pub look : (k : K) → look_at R b.slots k ≡ look_at R a.slots k
  pub logs : (k : K) → log_at R b.slots k ≡ log_at R a.slots k
  pub guesses : b.guesses ≡ a.guesses
  pub opens : b.opens ≡ a.opens
  pub said : b.said ≡ a.said
