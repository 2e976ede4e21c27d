-- What the calls over byte strings promise: what those of the kernel over any keys promise, at the order of byte strings.
use Rattle.std.specs.Prelude.{◌≡◌, ◌||◌, ℕ, Bool, true, false, nat_lt, List, [], ◌∷◌, length, Some, None, Result, Ok, Err}
use Rattle.sk_bytes.specs.Base.{filter, list_any, Vec, is_in, has, tags_at, struck_with, Token, look_at, log_at}
use Rattle.sk_bytes.specs.Base.{bytes_cmp, number_of, Parts, undo_state_of, IsSame, FailsIn, Forgets}
use Rattle.sk_bytes.specs.Base.{IsStranger, Refuses, WholeStep, Inner, KEY_LIMIT, Unmade, Refusal, LongKey}
use Rattle.sk_bytes.specs.Base.{LongValue, TooMany, NoNumber, Memory}
use Rattle.sk_speculator.specs.declared.refusal.Refusal.TheVariants as inner
use Rattle.sk_bytes.specs.Numbers.{names}
use Rattle.sk_bytes.specs.Told.{ByteView, IsTwoWay}

-- each key once
abbrev pub AreOnce : List (List ℕ) → Type 0
AreOnce [] = Unit {0}
AreOnce (k ∷ ks) = (is_in bytes_cmp ks k ≡ false) × AreOnce ks

-- so many keys are there, depend on a guess, or were taken back by the last failure: just these, each once
pub record Counts {V O : Type 0} (b : ByteView V O) (many : ℕ) : Type 0 where
  pub keys : List (List ℕ)
  pub count : many ≡ length keys
  pub once : AreOnce keys
  pub all : (k : List ℕ) → is_in bytes_cmp keys k ≡ false → (look_at bytes_cmp b.parts.slots k ≡ None) × (log_at bytes_cmp b.parts.slots k ≡ []) × (is_in bytes_cmp b.undone k ≡ false)
  pub some : (k : List ℕ) → is_in bytes_cmp keys k ≡ true → look_at bytes_cmp b.parts.slots k ≡ None → log_at bytes_cmp b.parts.slots k ≡ [] → is_in bytes_cmp b.undone k ≡ true

-- each key that is there, depends on a guess, or was taken back by the last failure has one place, and no other key has any
pub record HasPlaces {V O : Type 0} (b : ByteView V O) : Type 0 where
  pub two_way : IsTwoWay b.keys
  pub all : (k : List ℕ) → number_of b.keys k ≡ None → (look_at bytes_cmp b.parts.slots k ≡ None) × (log_at bytes_cmp b.parts.slots k ≡ []) × (is_in bytes_cmp b.undone k ≡ false)
  pub some : (k : List ℕ) (place : ℕ) → number_of b.keys k ≡ Some place → look_at bytes_cmp b.parts.slots k ≡ None → log_at bytes_cmp b.parts.slots k ≡ [] → is_in bytes_cmp b.undone k ≡ true

-- the keys that depend on a guess, by their places
abbrev pub resting_on : {V O : Type 0} → ByteView V O → ℕ → List (List ℕ)
resting_on b g = names (filter (λ e. has g (tags_at (undo_state_of bytes_cmp b.parts) e.0)) b.keys)

-- a key that is longer than may be
abbrev pub is_long : Vec ℕ → Bool
is_long key = nat_lt KEY_LIMIT (length key.items)

-- whether one of the step's is
abbrev pub has_long_key : {V O : Type 0} → WholeStep (Vec ℕ) V O → Bool
has_long_key step = list_any is_long step.looked.items || list_any (λ w. is_long w.0) step.written.items

-- the refusal of a step over byte strings, where the kernel over numbers refused it so
abbrev pub refusal_of : Inner → Refusal
refusal_of inner.TooMany = TooMany
refusal_of inner.NoNumber = NoNumber
refusal_of inner.Memory = Memory

-- why no guess may be drawn, whatever its step is: as many are undecided as may be; or the last number is drawn
abbrev pub RefusesNext : {K V O : Type 0} → Parts K V O → Refusal → Type 0
RefusesNext m TooMany = Refuses m inner.TooMany
RefusesNext m NoNumber = Refuses m inner.NoNumber
RefusesNext m other = ⊥

module _ {V O : Type 0} where
  -- why a step is not taken: a key is too long; or there is no memory
  abbrev pub RefusesStep : WholeStep (Vec ℕ) V O → Refusal → Type 0
  RefusesStep step LongKey = has_long_key step ≡ true
  RefusesStep step Memory = has_long_key step ≡ false
  RefusesStep step other = ⊥

  -- why no guess is drawn: a key is too long; or as many are undecided as may be; or the last number is drawn; or there is no memory
  abbrev pub RefusesGuess : Parts (List ℕ) V O → WholeStep (Vec ℕ) V O → Refusal → Type 0
  RefusesGuess m step LongKey = has_long_key step ≡ true
  RefusesGuess m step LongValue = ⊥
  RefusesGuess m step TooMany = (has_long_key step ≡ false) × Refuses m inner.TooMany
  RefusesGuess m step NoNumber = (has_long_key step ≡ false) × Refuses m inner.NoNumber
  RefusesGuess m step Memory = (has_long_key step ≡ false) × Refuses m inner.Memory

  -- after a refusal, and after a token that comes back, nothing has changed but that what the last failure took back is told no more
  pub record Unchanged (old new : ByteView V O) : Type 0 where
    pub parts : IsSame bytes_cmp old.parts new.parts
    pub undone : new.undone ≡ []

  -- just the keys that depended on the guess are told, each once, in the order of their numbers inside
  pub record TellsUndone (old : Parts (List ℕ) V O) (g : ℕ) (many more : ℕ) (undone : List (List ℕ)) : Type 0 where
    pub keys : (s : List ℕ) → is_in bytes_cmp undone s ≡ has g (tags_at (undo_state_of bytes_cmp old) s)
    pub count : many ≡ length undone
    pub struck : more ≡ length (struck_with g old.opens)

  -- an undecided guess fails, which says how many keys it took back, told one by one from then on, and how many guesses it struck; of one
  -- that was struck nothing is left; any other token comes back
  abbrev pub FailPost : ByteView V O → Token → Result Unmade Token → ByteView V O → Type 0
  FailPost old token (Ok (Unmade.Done keys struck)) new =
      (token.kernel ≡ old.parts.guesses.kernel) × TellsUndone old.parts token.id keys struck new.undone × FailsIn bytes_cmp old.parts token.id new.parts
  FailPost old token (Ok Unmade.Gone) new = (token.kernel ≡ old.parts.guesses.kernel) × Forgets bytes_cmp old.parts token.id new.parts
  FailPost old token (Err back) new = IsStranger old.parts token × (back ≡ token) × (new.parts ≡ old.parts)
