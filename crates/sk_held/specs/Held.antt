-- A kernel over byte strings whose guesses are decided by their numbers, as its callers see it, and what its calls answer.
use Rattle.std.specs.Prelude.{◌≡◌, ◌⊎◌, ◌++◌, ℕ, Bool, true, false, nat_lt, List, [], ◌∷◌, length, Option, Some, None, Result, Ok, Err}
use Rattle.std.specs.Global.{Vec}
use Rattle.sk_guesses.specs.Kept.{known, none_drawn}
use Rattle.sk_guesses.specs.Token.{Token}
use Rattle.sk_slots.specs.Slots.{look_at, log_at}
use Rattle.sk_index.specs.Index.{bytes_cmp}
use Rattle.sk_deeds.specs.Deed.{Deed}
use Rattle.sk_speculator.specs.Calls.{next_of, CommitPost, Refuses, Takes}
use Rattle.sk_speculator.specs.declared.decided.Committed.{Committed}
use Rattle.sk_speculator.specs.declared.refusal.Refusal.TheVariants as inner
use Rattle.sk_bytes.specs.declared.bytes.TheConstants.{KEY_LIMIT}
use Rattle.sk_bytes.specs.declared.bytes.Unmade.{Unmade}
use Rattle.sk_bytes.specs.declared.refusal.Refusal.{Refusal}
use Rattle.sk_bytes.specs.declared.refusal.Refusal.TheVariants.{LongKey, LongValue, Memory}
use Rattle.sk_bytes.specs.Told.{ByteView}
use Rattle.sk_bytes.specs.Calls.{FailPost, RefusesNext, Unchanged}
use Rattle.sk_held.specs.declared.output.Output.{Output}
use Rattle.sk_held.specs.declared.parts.TheConstants.{VALUE_LIMIT}

-- the kernel, what the step that is being written did so far, and the outputs that were taken out of their channels and not handed over
pub record HeldView : Type 0 where
  pub kernel : ByteView (Vec ℕ) (Vec ℕ)
  pub step : Deed (List ℕ) (Vec ℕ) (Vec ℕ)
  pub out : List Output

abbrev pub no_step : Deed (List ℕ) (Vec ℕ) (Vec ℕ)
no_step = record { looked = []; written = []; said = None }

-- no key is there, nothing has happened, and nothing is written or to be handed over
pub record IsNew (number limit : ℕ) (h : HeldView) : Type 0 where
  pub look : (k : List ℕ) → look_at bytes_cmp h.kernel.parts.slots k ≡ None
  pub log : (k : List ℕ) → log_at bytes_cmp h.kernel.parts.slots k ≡ []
  pub guesses : h.kernel.parts.guesses ≡ none_drawn number limit
  pub opens : h.kernel.parts.opens ≡ []
  pub said : h.kernel.parts.said ≡ []
  pub undone : h.kernel.undone ≡ []
  pub step : h.step ≡ no_step
  pub out : h.out ≡ []

-- ---- the step that is being written

abbrev pub with_look : List ℕ → HeldView → HeldView
with_look key h = record h { step = record h.step { looked = h.step.looked ++ key ∷ [] } }

abbrev pub with_write : List ℕ → Option (Vec ℕ) → HeldView → HeldView
with_write key value h = record h { step = record h.step { written = h.step.written ++ (key, value) ∷ [] } }

-- a value of these bytes is written
abbrev pub Puts : List ℕ → List ℕ → HeldView → HeldView → Type 0
Puts key bytes old new = (value : Vec ℕ) × (value.items ≡ bytes) × (new ≡ with_write key (Some value) old)

-- an output of these bytes is said, and nothing else
abbrev pub Says : ℕ → List ℕ → HeldView → HeldView → Type 0
Says channel bytes old new =
    (output : Vec ℕ) × (output.items ≡ bytes) × (new ≡ record old { step = record old.step { said = Some (channel, output) } })

abbrev pub is_long_key : List ℕ → Bool
is_long_key key = nat_lt KEY_LIMIT (length key)

abbrev pub is_long_value : List ℕ → Bool
is_long_value value = nat_lt VALUE_LIMIT (length value)

-- why a key is not written: it is too long; or there is no memory
abbrev pub RefusesKey : List ℕ → Refusal → Type 0
RefusesKey key LongKey = is_long_key key ≡ true
RefusesKey key Memory = is_long_key key ≡ false
RefusesKey key other = ⊥

-- why an output is not said
abbrev pub RefusesOutput : List ℕ → Refusal → Type 0
RefusesOutput output LongValue = is_long_value output ≡ true
RefusesOutput output Memory = is_long_value output ≡ false
RefusesOutput output other = ⊥

-- why a value is not written: the key is too long; or else the value is; or there is no memory
abbrev pub RefusesPut : List ℕ → List ℕ → Refusal → Type 0
RefusesPut key value LongKey = is_long_key key ≡ true
RefusesPut key value LongValue = (is_long_key key ≡ false) × (is_long_value value ≡ true)
RefusesPut key value Memory = (is_long_key key ≡ false) × (is_long_value value ≡ false)
RefusesPut key value other = ⊥

-- what the step says so far, or why not, and then nothing has changed
abbrev pub LooksPost : Result (Unit {0}) Refusal → List ℕ → HeldView → HeldView → Type 0
LooksPost (Ok _) key old new = new ≡ with_look key old
LooksPost (Err why) key old new = RefusesKey key why × (new ≡ old)

abbrev pub PutsPost : Result (Unit {0}) Refusal → List ℕ → List ℕ → HeldView → HeldView → Type 0
PutsPost (Ok _) key value old new = Puts key value old new
PutsPost (Err why) key value old new = RefusesPut key value why × (new ≡ old)

abbrev pub WritesPost : Result (Unit {0}) Refusal → List ℕ → Option (Vec ℕ) → HeldView → HeldView → Type 0
WritesPost (Ok _) key value old new = new ≡ with_write key value old
WritesPost (Err why) key value old new = RefusesKey key why × (new ≡ old)

abbrev pub SaysPost : Result (Unit {0}) Refusal → ℕ → List ℕ → HeldView → HeldView → Type 0
SaysPost (Ok _) channel output old new = Says channel output old new
SaysPost (Err why) channel output old new = RefusesOutput output why × (new ≡ old)

-- ---- steps and guesses

-- the step that was written is taken, with its own guess or none
pub record TakesWritten (old : HeldView) (mark : Option ℕ) (new : HeldView) : Type 0 where
  pub takes : Takes bytes_cmp old.kernel.parts old.step mark new.kernel.parts
  pub step : new.step ≡ no_step
  pub out : new.out ≡ old.out

-- nothing has changed, but that what the last failure took back may be told no more
pub record Stays (old new : HeldView) : Type 0 where
  pub kernel : (new.kernel ≡ old.kernel) ⊎ Unchanged old.kernel new.kernel
  pub step : new.step ≡ old.step
  pub out : new.out ≡ old.out

-- why no guess is drawn: as many are undecided as may be; or the last number is drawn; or there is no memory
abbrev pub RefusesGuess : HeldView → Refusal → Type 0
RefusesGuess h Memory = Refuses h.kernel.parts inner.Memory
RefusesGuess h other = RefusesNext h.kernel.parts other

abbrev pub StepPost : Result (Unit {0}) Refusal → HeldView → HeldView → Type 0
StepPost (Ok _) old new = TakesWritten old None new
StepPost (Err why) old new = (why ≡ Memory) × Stays old new

abbrev pub GuessPost : Result ℕ Refusal → HeldView → HeldView → Type 0
GuessPost (Ok g) old new = (g ≡ next_of old.kernel.parts.guesses) × TakesWritten old (Some g) new
GuessPost (Err why) old new = RefusesGuess old why × Stays old new

-- ---- decisions

-- the token of a guess
abbrev pub token_of : HeldView → ℕ → Token
token_of h g = record { kernel = h.kernel.parts.guesses.kernel; id = g }

-- nothing is known of a guess, and nothing has changed
abbrev pub HasNone : HeldView → ℕ → HeldView → Type 0
HasNone old g new = (known old.kernel.parts.guesses old.kernel.parts.opens g ≡ None) × (new ≡ old)

-- the kernel decides a guess by its token, which was held; the step and what is to be handed over stay
abbrev pub CommitsBy : Option Committed → ℕ → HeldView → HeldView → Type 0
CommitsBy None g old new = HasNone old g new
CommitsBy (Some committed) g old new =
    CommitPost bytes_cmp old.kernel.parts (token_of old g) (Ok committed) new.kernel.parts × (new ≡ record old { kernel = new.kernel })

abbrev pub FailsBy : Option Unmade → ℕ → HeldView → HeldView → Type 0
FailsBy None g old new = HasNone old g new
FailsBy (Some unmade) g old new = FailPost old.kernel (token_of old g) (Ok unmade) new.kernel × (new ≡ record old { kernel = new.kernel })
