-- Objects and processes as what is kept with a log of its writes, and the runs of a process.
use Rattle.std.specs.Prelude.{◌≡◌, ℕ, Bool, true, not, ◌&&◌, List, [], ◌∷◌, map, Option, None}
use Rattle.sk_undo.specs.Base.{list_all, Value, Process, CanUndo, value_undone, PutBack, Was, Changed, Note}
use Rattle.sk_undo.specs.Base.{same_tags, RawNote}
use Rattle.sk_undo.specs.Log.{undone_by, FitsBy, restores}

-- an object before a write
abbrev pub object_undone : PutBack Value → Option Value → Option Value
object_undone = undone_by value_undone

abbrev pub ObjectFits : PutBack Value → Option Value → Type 0
ObjectFits = FitsBy CanUndo

-- a process is only ever set
abbrev pub is_process_whole : Process → Bool
is_process_whole p = true

-- what was there before a write that set it
abbrev pub was : PutBack Process → Option Process
was (Was before) = before
was (Changed undo) = None

-- a run of neighbouring writes with equal tags, seen as the note of its first
abbrev pub run_of : RawNote (PutBack Process) → Note Process
run_of n = record { tags = n.tags; before = was n.undo }

-- the runs that notes are
abbrev pub runs_of : List (RawNote (PutBack Process)) → List (Note Process)
runs_of ns = map run_of ns

-- each note puts a process back, or its absence
abbrev pub AllSet : List (RawNote (PutBack Process)) → Type 0
AllSet ns = list_all (λ n. restores is_process_whole n.undo) ns ≡ true

module _ {V : Type 0} where
  -- whether no note has the tags of the one before it, nor the first these
  abbrev pub is_apart : List ℕ → List (Note V) → Bool
  is_apart t [] = true
  is_apart t (n ∷ ns) = not (same_tags n.tags t) && is_apart n.tags ns
