-- What holds of all plain stores.
use Rattle.std.specs.Prelude.{◌≡◌, ℕ, true, List, is_some}
use Rattle.std.specs.FinMap.{is_sorted}
use Rattle.sk_commands.specs.Table.{is_among, Written}
use Rattle.sk_commands.specs.Work.{after}
use Rattle.sk_plain_store.specs.Plain.{bytes_cmp, held, keys_of, written_to, Entries}

-- After writes each key has what it was given last, and the others what they had.
abbrev pub HoldsWhatIsWritten : Type 0
HoldsWhatIsWritten = (ws : Written) (entries : Entries) (key : List ℕ)
    → held (written_to ws entries) key ≡ after ws (held entries) key

-- The keys are just those that have something.
abbrev pub KnowsItsKeys : Type 0
KnowsItsKeys = (entries : Entries) (key : List ℕ) → is_among key (keys_of entries) ≡ is_some (held entries key)

-- The keys rise by their bytes, so that each stands there once, and what is written leaves them so.
abbrev pub StaysInOrder : Type 0
StaysInOrder = (ws : Written) (entries : Entries)
    → is_sorted bytes_cmp entries ≡ true → is_sorted bytes_cmp (written_to ws entries) ≡ true
