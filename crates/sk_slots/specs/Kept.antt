-- Notes as they are kept, with the value before a write or the undo of a change, and the log that is seen of them.
use Rattle.std.specs.Prelude.{ℕ, ◌-◌, Bool, List, [], ◌∷◌, Option, Some, None, take, length, if◌then◌else◌}
use Rattle.sk_record.specs.Notes.{Note}
use Rattle.sk_inversion.specs.Undone.{value_before, FitsBefore}
use Rattle.sk_inversion.specs.declared.before.Before.{Before}
use Rattle.sk_slots.specs.declared.notes.Kept.{Kept}

module _ {V U : Type 0} where
  -- the tags of the newest note
  abbrev pub newest_tags : List ℕ → List (Kept V U) → List ℕ
  newest_tags tags [] = tags
  newest_tags tags (n ∷ ns) = newest_tags n.tags ns

  -- the notes but the last, where that is ready for the next write
  abbrev pub without_ready : Bool → List (Kept V U) → List (Kept V U)
  without_ready has_ready ns = if has_ready then take (length ns - 1) ns else ns

  -- the tags of the one that is ready
  abbrev pub ready_tags : Bool → List (Kept V U) → Option (List ℕ)
  ready_tags has_ready ns = if has_ready then Some (newest_tags [] ns) else None

module _ {V U : Type 0} (undone : U → V → V) where
  -- what was there before the oldest of these notes, from what is there now
  abbrev pub rewound : Option V → List (Kept V U) → Option V
  rewound now [] = now
  rewound now (n ∷ ns) = value_before undone n.before (rewound now ns)

  -- the notes, the oldest first, with what was there before each
  abbrev pub seen : Option V → List (Kept V U) → List (Note V)
  seen now [] = []
  seen now (n ∷ ns) = record { tags = n.tags; before = value_before undone n.before (rewound now ns) } ∷ seen now ns

module _ {V U : Type 0} (undone : U → V → V) (fits : U → V → Type 0) where
  -- each write can be put back in its turn, the newest first
  abbrev pub CanGoBack : Option V → List (Kept V U) → Type 0
  CanGoBack now [] = Unit {0}
  CanGoBack now (n ∷ ns) = FitsBefore fits n.before (rewound undone now ns) × CanGoBack now ns

  -- there is something from which each write can be put back in its turn
  abbrev pub IsLog : List (Kept V U) → Type 0
  IsLog ns = (now : Option V) × CanGoBack now ns

  -- what puts a write back that these notes do not have can be put with the newest of them
  abbrev pub CanTakeIn : Before V U → List (Kept V U) → Type 0
  CanTakeIn later ns = (now : Option V) × FitsBefore fits later now × CanGoBack (value_before undone later now) ns
