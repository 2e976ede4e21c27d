-- All keys with their slots.
use Rattle.std.specs.Prelude.{◌≡◌, ℕ, true, false, List, [], Option, Some, None}
use Rattle.std.specs.declared.cmp.Ordering.{Ordering}
use Rattle.std.specs.FinMap.{get}
use Rattle.sk_record.specs.Effects.{is_in}
use Rattle.sk_record.specs.Notes.{Note}
use Rattle.sk_map.specs.Seen.{seen}
use Rattle.sk_slots.specs.Slot.{SlotView, IsPrepared, is_settled}

module _ {V : Type 0} where
  -- a key without a slot is absent, and nothing is noted of it
  abbrev pub slot_in : Option (SlotView V) → SlotView V
  slot_in None = record { value = None; log = []; ready = None }
  slot_in (Some s) = s

  -- a slot is there, and prepared for a note with these tags
  abbrev pub HasPrepared : List ℕ → Option (SlotView V) → Type 0
  HasPrepared tags None = ⊥
  HasPrepared tags (Some s) = IsPrepared tags s

module _ {K V : Type 0} (R : K → K → Ordering) where
  -- the slot of a key, if it has one
  abbrev pub found : List (K × SlotView V) → K → Option (SlotView V)
  found m k = get (seen R m) k

  -- the slot of a key, or that of one that is absent
  abbrev pub slot_at : List (K × SlotView V) → K → SlotView V
  slot_at m k = slot_in (found m k)

  -- what a key has
  abbrev pub look_at : List (K × SlotView V) → K → Option V
  look_at m k = (slot_at m k).value

  -- the notes, the oldest first
  abbrev pub log_at : List (K × SlotView V) → K → List (Note V)
  log_at m k = (slot_at m k).log

  -- a write of this key with these tags wants no memory
  abbrev pub IsReady : List ℕ → List (K × SlotView V) → K → Type 0
  IsReady tags m k = HasPrepared tags (found m k)

  -- each slot has a value or a note, and keeps no room for a note, but for those of some keys
  abbrev pub SettledBut : List K → List (K × SlotView V) → Type 0
  SettledBut ks m = (k : K) (s : SlotView V) → found m k ≡ Some s → is_in R ks k ≡ false → is_settled s ≡ true

  -- each slot has: an absent key that depends on nothing has no slot
  abbrev pub AllSettled : List (K × SlotView V) → Type 0
  AllSettled m = SettledBut [] m
