-- What the calls of a kernel over its caller's own byte strings do, and what they are told.
use Rattle.std.specs.Prelude.{◌≡◌, ◌⊎◌, ◌==◌, ◌≤◌, ℕ, false, List, [], length, nat_le, get_or, Option, Some, None, Result, if◌then◌else◌}
use Rattle.sk_handles.specs.Base.{slice_get, option_map, option_map_or, vec_items, released, numbers, look_at, said_at}
use Rattle.sk_handles.specs.Base.{bytes_cmp, next_of, undo_state_of, Committed, Unmade, LongKey, LongValue, TooMany}
use Rattle.sk_handles.specs.Base.{NoNumber, HeldView, no_step, CommitsBy, FailsBy, GuessPost, IsNew, LooksPost}
use Rattle.sk_handles.specs.Base.{PutsPost, SaysPost, StepPost, WritesPost, but_first, first_of, MayBring, ABSENT}
use Rattle.sk_handles.specs.Base.{DONE, GONE, GUESSED, HELD, MEMORY, NO_TOKEN, REFUSED, SHOWN, STEPPED, WRITTEN}
use Rattle.sk_handles.specs.Base.{OwnCounts, Told, HasPlaces, KeyCounts, IsGuessNumber, Status, known, guess_tags, resting_on, string_of, waiting_of}
use Rattle.sk_record.specs.UndoState.{tags_at}
use Rattle.sk_bytes.specs.declared.refusal.Refusal.{Refusal}
use Rattle.sk_bytes.specs.declared.refusal.Refusal.TheVariants.{Memory}
use Rattle.sk_handles.specs.Told.{just, opened, put, texted, told_by}

-- ---- what is told

abbrev pub refused : Refusal → Told
refused LongKey = just REFUSED 1
refused LongValue = just REFUSED 2
refused TooMany = just REFUSED 3
refused NoNumber = just REFUSED 4
refused Memory = just MEMORY 0

abbrev pub part_told : Result (Unit {0}) Refusal → Told
part_told did = told_by (λ _. just WRITTEN 0) refused did

abbrev pub commit_told : Option Committed → Told
commit_told None = just NO_TOKEN 0
commit_told (Some Committed.Done) = just DONE 0
commit_told (Some Committed.Gone) = just GONE 0

-- how many keys a failure took back, and how many guesses it struck
abbrev pub fail_told : Option Unmade → Told
fail_told None = just NO_TOKEN 0
fail_told (Some (Unmade.Done keys struck)) = record { answer = DONE; number = keys; bytes = struck }
fail_told (Some Unmade.Gone) = just GONE 0

-- ---- what is done

abbrev pub Clears : Told → HeldView → HeldView → Type 0
Clears told old new = (told ≡ just WRITTEN 0) × (new ≡ record old { step = no_step })

abbrev pub Looks : List ℕ → Told → HeldView → HeldView → Type 0
Looks key told old new = (did : Result (Unit {0}) Refusal) × (told ≡ part_told did) × LooksPost did key old new

abbrev pub Puts : List ℕ → List ℕ → Told → HeldView → HeldView → Type 0
Puts key value told old new = (did : Result (Unit {0}) Refusal) × (told ≡ part_told did) × PutsPost did key value old new

abbrev pub Removes : List ℕ → Told → HeldView → HeldView → Type 0
Removes key told old new = (did : Result (Unit {0}) Refusal) × (told ≡ part_told did) × WritesPost did key None old new

abbrev pub Says : ℕ → List ℕ → Told → HeldView → HeldView → Type 0
Says channel output told old new = (did : Result (Unit {0}) Refusal) × (told ≡ part_told did) × SaysPost did channel output old new

abbrev pub Steps : Told → HeldView → HeldView → Type 0
Steps told old new = (did : Result (Unit {0}) Refusal) × (told ≡ told_by (λ _. just STEPPED 0) refused did) × StepPost did old new

abbrev pub Guesses : Told → HeldView → HeldView → Type 0
Guesses told old new = (did : Result ℕ Refusal) × (told ≡ told_by (just GUESSED) refused did) × GuessPost did old new

abbrev pub Commits : ℕ → Told → HeldView → HeldView → Type 0
Commits guess told old new = (did : Option Committed) × (told ≡ commit_told did) × CommitsBy did guess old new

abbrev pub Fails : ℕ → Told → HeldView → HeldView → Type 0
Fails guess told old new = (did : Option Unmade) × (told ≡ fail_told did) × FailsBy did guess old new

-- ---- what is shown

-- bytes are in the room, or there are none
abbrev pub ShowsBytes : Told → Option (List ℕ) → List ℕ → List ℕ → Type 0
ShowsBytes told None old new = (told ≡ just ABSENT 0) × (new ≡ old)
ShowsBytes told (Some bytes) old new = (told ≡ texted (just SHOWN 0) bytes) × (new ≡ put bytes old)

-- bytes of what is held are in the room, or there are none
abbrev pub ShowsKept : {S : Type 0} → (S → Option (List ℕ)) → List ℕ → List ℕ → Told → S → Type 0
ShowsKept bytes room_old room_new told held = ShowsBytes told (bytes held) room_old room_new

abbrev pub value_of : List ℕ → HeldView → Option (List ℕ)
value_of key h = option_map vec_items (look_at bytes_cmp h.kernel.parts.slots key)

abbrev pub undone_at : ℕ → HeldView → Option (List ℕ)
undone_at place h = slice_get h.kernel.undone place

abbrev pub tag_at : List ℕ → ℕ → HeldView → Option ℕ
tag_at key place h = slice_get (tags_at (undo_state_of bytes_cmp h.kernel.parts) key) place

-- after an output was shown: it is handed over where the room has all of it
abbrev pub handed : ℕ → List ℕ → List ℕ → HeldView → HeldView
handed t bytes room h = if nat_le (length bytes) (length room) then record h { out = but_first t h.out } else h

abbrev pub Shown : ℕ → Told → Option (List ℕ) → HeldView → HeldView → List ℕ → List ℕ → Type 0
Shown t told None h new room_old room_new =
    (told ≡ just ABSENT 0) × (released (said_at h.kernel.parts.said t) ≡ []) × (new ≡ h) × (room_new ≡ room_old)
Shown t told (Some bytes) h new room_old room_new =
    (told ≡ texted (just SHOWN 0) bytes) × (new ≡ handed t bytes room_old h) × (room_new ≡ put bytes room_old)

-- the next output of a channel is shown, once it is taken out of it; without memory for that nothing changes
abbrev pub Releases : ℕ → List ℕ → List ℕ → Told → HeldView → HeldView → Type 0
Releases t room_old room_new told old new =
    ((h : HeldView) × MayBring old t h × Shown t told (first_of t h.out) h new room_old room_new)
    ⊎ ((told ≡ just MEMORY 0) × (new ≡ old) × (room_new ≡ room_old))

-- the keys that are there, depend on a guess, or were taken back by the last failure; the undecided guesses, the struck ones whose tokens
-- have not come back, and below which number each is decided
pub record AreOwnCounts (h : HeldView) (counts : OwnCounts) : Type 0 where
  pub keys : KeyCounts h.kernel counts.keys
  pub undecided : counts.undecided ≡ length h.kernel.parts.opens
  pub struck : counts.struck ≡ length h.kernel.parts.guesses.struck
  pub settled : counts.settled ≡ get_or (numbers h.kernel.parts.opens) 0 (next_of h.kernel.parts.guesses)

-- ---- what else is seen

-- a place behind all that keys have: those that are there, depend on a guess, or were taken back by the last failure
pub record TellsPlaces (told : Told) (h : HeldView) : Type 0 where
  pub count : ℕ
  pub is_told : told ≡ just SHOWN count
  pub behind : (place : ℕ) → count ≤ place → string_of h.kernel.keys place ≡ None
  pub keys : HasPlaces h.kernel

-- the key at a place; a number that no key has, or had, is of none
abbrev pub key_at : ℕ → HeldView → Option (List ℕ)
key_at place h = string_of h.kernel.keys place

-- one of the keys that depend on a guess, by its place among them; a number that no guess can have is told as absent
abbrev pub dependent_at : ℕ → ℕ → HeldView → Option (List ℕ)
dependent_at g place h = slice_get (resting_on h.kernel g) place

-- that key is shown, or there is none
abbrev pub ShowsDependent : ℕ → ℕ → List ℕ → List ℕ → Told → HeldView → Type 0
ShowsDependent g place room_old room_new told h =
    (IsGuessNumber g × ShowsBytes told (dependent_at g place h) room_old room_new)
    ⊎ ((IsGuessNumber g → ⊥) × ShowsBytes told None room_old room_new)

abbrev pub status_number : Status → ℕ
status_number Status.Undecided = 1
status_number Status.Struck = 2
status_number Status.Committed = 3
status_number Status.Failed = 4

-- on how many undecided guesses the own step of a guess depends, itself among them; none where it is not undecided
abbrev pub depends_on : ℕ → HeldView → ℕ
depends_on g h = option_map_or length (guess_tags g h.kernel.parts.opens) 0

-- Whether a guess is undecided, or struck and not decided, and on how many its own step depends: on one alone where its commit
-- is firm. Of any other there is none.
abbrev pub TellsStatus : ℕ → Told → HeldView → Type 0
TellsStatus g told h =
    (IsGuessNumber g × (told ≡ option_map_or (λ s. record { answer = SHOWN; number = status_number s; bytes = depends_on g h }) (known h.kernel.parts.guesses h.kernel.parts.opens g) (just ABSENT 0)))
    ⊎ ((IsGuessNumber g → ⊥) × (told ≡ just ABSENT 0))

-- how many outputs of a channel wait: the first that depends on a guess, and all behind it
abbrev pub TellsWaiting : ℕ → Told → HeldView → Type 0
TellsWaiting t told h = told ≡ just SHOWN (waiting_of (said_at h.kernel.parts.said t))

-- a channel of which an output can be taken, or there is none
abbrev pub TellsChannel : Told → HeldView → Type 0
TellsChannel told h =
    ((t : ℕ) × (told ≡ just SHOWN t) × (released (said_at h.kernel.parts.said t) ≡ [] → ⊥))
    ⊎ ((told ≡ just ABSENT 0) × ((t : ℕ) → released (said_at h.kernel.parts.said t) ≡ []))

-- ---- of what a handle holds

-- where nothing is held, a new kernel is held then, in which a guess can be drawn; or it is told that none could be drawn in it, or else
-- that there is no memory
abbrev pub OwnOpens : ℕ → ℕ → Told → Option HeldView → Option HeldView → Type 0
OwnOpens number limit told (Some old) new = (told ≡ just HELD 0) × (new ≡ Some old)
OwnOpens number limit told None (Some h) = (told ≡ opened) × ((limit == 0) ≡ false) × IsNew number limit h
OwnOpens number limit told None None = told ≡ (if limit == 0 then just REFUSED 5 else just MEMORY 0)

-- a guess, or a batch, of what is held is told, or there is none
abbrev pub TellsTag : {S : Type 0} → (S → Option ℕ) → Told → S → Type 0
TellsTag tag told held = told ≡ option_map_or (just SHOWN) (tag held) (just ABSENT 0)

abbrev pub CountsOwn : OwnCounts → Told → HeldView → Type 0
CountsOwn counts told h = (told ≡ just SHOWN 0) × AreOwnCounts h counts
