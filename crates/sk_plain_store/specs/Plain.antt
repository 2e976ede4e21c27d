-- A plain store: keys in the order of their bytes, each with what it has.
use Rattle.std.specs.Prelude.{◌≡◌, ℕ, not, List, [], ◌∷◌, map, Option, Some, None, Result, Ok, Err}
use Rattle.std.specs.Ordering.{nat_cmp, eq_by_cmp}
use Rattle.std.specs.Cmp.Lexicographic.{slice_cmp}
use Rattle.std.specs.FinMap.{find, put}
use Rattle.std.specs.FinMap.Entries.{where_key}
use Rattle.std.specs.declared.cmp.Ordering.{Ordering}
use Rattle.std.specs.declared.alloc.AllocError.{AllocError}
use Rattle.sk_commands.specs.declared.work.Work.{Work}
use Rattle.sk_commands.specs.declared.work.Answer.{Answer}
use Rattle.sk_commands.specs.Table.{Have, Written}
use Rattle.sk_commands.specs.Work.{comes_to}

abbrev pub Entries : Type 0
Entries = List (List ℕ × List ℕ)

-- the order of keys: that of their first bytes that differ, and a front part comes first
abbrev pub bytes_cmp : List ℕ → List ℕ → Ordering
bytes_cmp = slice_cmp nat_cmp

-- what each key has
abbrev pub held : Entries → Have
held entries key = find bytes_cmp key entries

-- the keys that are there
abbrev pub keys_of : Entries → List (List ℕ)
keys_of entries = map (λ e. e.0) entries

-- a key gets this, in its place, or becomes absent
abbrev pub written_at : List ℕ → Option (List ℕ) → Entries → Entries
written_at key (Some value) entries = put bytes_cmp key value entries
written_at key None entries = where_key bytes_cmp (λ k. not (eq_by_cmp bytes_cmp key k)) entries

-- keys get these, one after another
abbrev pub written_to : Written → Entries → Entries
written_to [] entries = entries
written_to (w ∷ ws) entries = written_to ws (written_at w.0 w.1 entries)

-- What is left and answered: what comes of it by what keys have, where all that are there are known. Without memory nothing has
-- changed.
abbrev pub Runs : Work → Entries → Result Answer AllocError → Entries → Type 0
Runs work old (Ok answer) new = (answer ≡ (comes_to (keys_of old) work (held old)).reply)
    × (new ≡ written_to (comes_to (keys_of old) work (held old)).written old)
Runs work old (Err out_of_memory) new = new ≡ old
