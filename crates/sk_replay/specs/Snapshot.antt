-- Snapshots: what a plain store has, written as works that set it.
use Rattle.std.specs.Prelude.{◌≡◌, ℕ, ◌<◌, ◌≤◌, true, false, List, [], ◌∷◌, flat_map, length, map, take, drop}
use Rattle.sk_commands.specs.declared.command.When.{When}
use Rattle.std.specs.FinMap.{is_sorted}
use Rattle.sk_commands.specs.Requests.{log_text}
use Rattle.sk_commands.specs.Work.{comes_to}
use Rattle.sk_commands.specs.declared.command.Command.TheVariants.{Set}
use Rattle.sk_commands.specs.declared.work.Work.{Work}
use Rattle.sk_commands.specs.declared.work.Work.TheVariants.{One}
use Rattle.sk_plain_store.specs.Plain.{bytes_cmp, held, keys_of, written_to, Entries}

-- a plain store behind a work, and behind works, one after another
abbrev pub after_work : Work → Entries → Entries
after_work work entries = written_to (comes_to (keys_of entries) work (held entries)).written entries

abbrev pub after_works : List Work → Entries → Entries
after_works [] entries = entries
after_works (work ∷ works) entries = after_works works (after_work work entries)

-- the work that sets an entry
abbrev pub set_of : List ℕ × List ℕ → Work
set_of entry = One (Set entry.0 entry.1 (record { when = When.Always; gives = false }))

-- the bytes that a log keeps of works that set entries
abbrev pub entries_text : Entries → List ℕ
entries_text entries = flat_map log_text (map set_of entries)

-- The first entries were written: all, or as many as have room, and one at least.
pub record IsFilled (room : ℕ) (entries : Entries) (count : ℕ) (text : List ℕ) : Type 0 where
  pub within : count ≤ length entries
  pub some : 0 < length entries → 0 < count
  pub is : text ≡ entries_text (take count entries)
  pub fits : 1 < count → length text ≤ room

-- So many first entries were written, and the others are left.
pub record IsPiece (room : ℕ) (old : Entries) (text : List ℕ) (new : Entries) : Type 0 where
  pub count : ℕ
  pub filled : IsFilled room old count text
  pub left : new ≡ drop count old

-- Works that set the entries of a plain store, one after another, make it again.
abbrev pub SnapshotsRestore : Type 0
SnapshotsRestore = (entries : Entries) → is_sorted bytes_cmp entries ≡ true → after_works (map set_of entries) [] ≡ entries
