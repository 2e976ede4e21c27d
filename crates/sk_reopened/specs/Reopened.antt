-- A store that goes on behind what was read of its log.
use Rattle.std.specs.Prelude.{◌≡◌, ◌⊎◌, ◌||◌, ◌+◌, ◌<◌, ◌≤◌, ◌^◌, ℕ, Bool, true, false, nat_lt, List, [], ◌++◌, drop, length, Result, Ok, Err}
use Rattle.std.specs.List.{list_any}
use Rattle.sk_log.specs.Frame.{frame}
use Rattle.sk_bytes.specs.declared.bytes.TheConstants.{KEY_LIMIT}
use Rattle.sk_batches.specs.declared.frames.Sealed.{Sealed}
use Rattle.sk_plain_store.specs.Plain.{keys_of, Entries}
use Rattle.sk_reserved.specs.Keys.{is_reserved}
use Rattle.sk_durable.specs.declared.limits.Limits.{Limits}
use Rattle.sk_durable.specs.declared.store.Next.{Next}
use Rattle.sk_durable.specs.Limits.{are_sound}
use Rattle.sk_durable.specs.Store.{IsNew, StoreView}
use Rattle.sk_reopened.specs.declared.refusal.Refusal.{Refusal}
use Rattle.sk_reopened.specs.declared.opening.Last.{Last}
use Rattle.sk_reopened.specs.declared.opening.Reopened.{Reopened}

-- whether no store has such a key: it is reserved, or longer than may be
abbrev pub is_wrong : List ℕ → Bool
is_wrong key = is_reserved key || nat_lt KEY_LIMIT (length key)

abbrev pub has_wrong : Entries → Bool
has_wrong entries = list_any is_wrong (keys_of entries)

-- ---- entries are set

-- A new store has more entries, unless one has a wrong key: those that it has come to these.
abbrev pub SetPost : Bool → (Entries → Entries) → Result (Unit {0}) Refusal → StoreView → StoreView → Type 0
SetPost wrong more (Ok _) a b = (wrong ≡ false)
    × ((next : Next) (start : Entries) → IsNew a.limits next start a → IsNew a.limits next (more start) b)
SetPost wrong more (Err Refusal.Key) a b = wrong ≡ true
SetPost wrong more (Err Refusal.Memory) a b = Unit {0}
SetPost wrong more (Err other) a b = ⊥

-- ---- where the log goes on

-- There are numbers for another segment, for its head, and for a frame behind that.
abbrev pub HasNumbers : Last → Type 0
HasNumbers last = (last.segment + 1 < 2 ^ 28) × (last.frame + 1 < 2 ^ 56)

abbrev pub HasNone : Last → Type 0
HasNone last = (2 ^ 28 ≤ last.segment + 1) ⊎ (2 ^ 56 ≤ last.frame + 1)

-- the head of the segment behind the last: an empty frame with the next number
abbrev pub head_of : Last → Sealed
head_of last = record { frame = last.frame; segment = last.segment + 1; offset = 0; len = 24 }

-- the next frame stands behind it
abbrev pub next_of : Last → Next
next_of last = record { frame = last.frame + 1; segment = last.segment + 1; offset = 24 }

abbrev pub HeadPost : Last → ℕ → Result Sealed Refusal → Type 0
HeadPost last room (Ok head) = HasNumbers last × (24 ≤ room) × (head ≡ head_of last)
HeadPost last room (Err Refusal.NoNumber) = HasNone last
HeadPost last room (Err Refusal.Short) = HasNumbers last × (room < 24)
HeadPost last room (Err other) = ⊥

-- ---- a store goes on

-- A new store with these entries goes on behind the head of the next segment, which stands at the front of the room.
pub record Reopens (limits : Limits) (last : Last) (entries : Entries) (opened : Reopened) (room filled : List ℕ) : Type 0 where
  pub sound : are_sound limits ≡ true
  pub numbers : HasNumbers last
  pub fits : 24 ≤ length room
  pub named : has_wrong entries ≡ false
  pub new : IsNew limits (next_of last) entries opened.store
  pub head : opened.head ≡ head_of last
  pub written : filled ≡ frame (last.segment + 1) last.frame [] ++ drop 24 room

-- the first cause against it
abbrev pub IsAgainst : Refusal → Limits → Last → Entries → List ℕ → Type 0
IsAgainst Refusal.Limits limits last entries room = are_sound limits ≡ false
IsAgainst Refusal.NoNumber limits last entries room = (are_sound limits ≡ true) × HasNone last
IsAgainst Refusal.Short limits last entries room = (are_sound limits ≡ true) × HasNumbers last × (length room < 24)
IsAgainst Refusal.Key limits last entries room = (are_sound limits ≡ true) × HasNumbers last × (24 ≤ length room) × (has_wrong entries ≡ true)
IsAgainst Refusal.Memory limits last entries room = (are_sound limits ≡ true) × HasNumbers last × (24 ≤ length room)

abbrev pub ReopenPost : Limits → Last → Entries → Result Reopened Refusal → List ℕ → List ℕ → Type 0
ReopenPost limits last entries (Ok opened) room filled = Reopens limits last entries opened room filled
ReopenPost limits last entries (Err why) room filled = IsAgainst why limits last entries room × (filled ≡ room)
