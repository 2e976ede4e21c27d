-- Undecided guesses, many of which share one list of what depends on them.
use Rattle.std.specs.Prelude.{◌≡◌, ◌≤◌, ◌<◌, ◌+◌, ℕ, Bool, true, false, not, List, [], length, map, if◌then◌else◌, ◌⊎◌}
use Rattle.sk_guesses.specs.Base.{AllByRecursion, IsStrictlySortedBy, nat_cmp, has}
use Rattle.sk_guesses.specs.Opens.{OpenGuess}
use Rattle.sk_guesses.specs.Room.{Listing}

-- an undecided guess with its own list, the room in that, and whether it has the shared list in its place
pub record Sharing (E : Type 0) : Type 0 where
  pub guess : OpenGuess E
  pub room : ℕ
  pub shares : Bool

-- what is seen of one, where the shared list is this
abbrev pub seen : {E : Type 0} → List E → Sharing E → Listing E
seen es o = record { guess = if o.shares then record o.guess { dependents = es } else o.guess }

-- one that shares has room for so many entities, and none of its own
abbrev pub IsReady : {E : Type 0} → ℕ → Sharing E → Type 0
IsReady n o = o.shares ≡ true → (o.guess.dependents ≡ []) × (n ≤ o.room)

abbrev pub AreReady : {E : Type 0} → ℕ → List (Sharing E) → Type 0
AreReady n os = AllByRecursion (IsReady n) os

-- their numbers rise
abbrev pub AreRising : {E : Type 0} → List (Sharing E) → Type 0
AreRising os = IsStrictlySortedBy nat_cmp (map (λ o. o.guess.id) os)

-- a guess that shares the list has a number from the first to the last
abbrev pub IsWithin : {E : Type 0} → ℕ → ℕ → Sharing E → Type 0
IsWithin first last o = o.shares ≡ true → (first ≤ o.guess.id) × (o.guess.id ≤ last)

abbrev pub AreWithin : {E : Type 0} → ℕ → ℕ → List (Sharing E) → Type 0
AreWithin first last os = AllByRecursion (IsWithin first last) os

-- whether a guess is named: as one of these, or as none of them
abbrev pub is_named : Bool → List ℕ → ℕ → Bool
is_named within tags g = if within then has g tags else not (has g tags)

-- a change of the list of a guess that is among some
abbrev pub changing : {E : Type 0} → (List E → List E) → (ℕ → Bool) → OpenGuess E → OpenGuess E
changing f c o = if c o.id then record o { dependents = f o.dependents } else o

-- ---- what one guess becomes

-- room for one entity more, where so many are shared: the own list has it, or that which the shared one takes the place of
abbrev pub HasPlace : {E : Type 0} → (ℕ → Bool) → ℕ → Sharing E → Type 0
HasPlace c n o = c o.guess.id ≡ true → (o.shares ≡ true → n < o.room) × (o.shares ≡ false → 0 < o.room)

-- nothing is seen of new room
pub record IsRoomier {E : Type 0} (n : ℕ) (o new : Sharing E) : Type 0 where
  pub guess : new.guess ≡ o.guess
  pub shares : new.shares ≡ o.shares
  pub ready : IsReady n o → IsReady n new

-- nothing is seen of new room, and there is a place
pub record IsPlaced {E : Type 0} (c : ℕ → Bool) (n : ℕ) (o new : Sharing E) : Type 0 where
  pub same : IsRoomier n o new
  pub place : HasPlace c n new

-- one that shared has the shared list as its own
pub record IsParted {E : Type 0} (es : List E) (o new : Sharing E) : Type 0 where
  pub shared : o.shares ≡ true
  pub guess : new.guess ≡ record o.guess { dependents = es }
  pub shares : new.shares ≡ false

-- those that share change, or do not, with the shared list
abbrev pub Agrees : {E : Type 0} → List E → (ℕ → Bool) → Bool → Sharing E → Sharing E → Type 0
Agrees es c b o new = ((new ≡ o) × (o.shares ≡ true → c o.guess.id ≡ b)) ⊎ (IsParted es o new × (c o.guess.id ≡ false))

-- its own list is changed, where it shares none
pub record IsChanged {E : Type 0} (f : List E → List E) (c : ℕ → Bool) (o new : Sharing E) : Type 0 where
  pub sharing : o.shares ≡ true → new ≡ o
  pub alone : o.shares ≡ false → new.guess ≡ changing f c o.guess
  pub shares : new.shares ≡ o.shares

-- the list that is seen of it is changed, where it is among some; that is its own then
pub record IsRelieved {E : Type 0} (es : List E) (f : List E → List E) (c : ℕ → Bool) (o new : Sharing E) : Type 0 where
  pub others : c o.guess.id ≡ false → new ≡ o
  pub guess : c o.guess.id ≡ true → new.guess ≡ record o.guess { dependents = f (seen es o).guess.dependents }
  pub shares : c o.guess.id ≡ true → new.shares ≡ false

-- a guess is among some, and not among others
abbrev pub is_beyond : List ℕ → List ℕ → ℕ → Bool
is_beyond tags own g = if has g tags then not (has g own) else false

-- one shares, is among some, and has room for more than so many entities
abbrev pub WillChange : {E : Type 0} → (ℕ → Bool) → ℕ → Sharing E → Type 0
WillChange c n o = (o.shares ≡ true) × (c o.guess.id ≡ true) × (n < length o.guess.dependents + o.room)
