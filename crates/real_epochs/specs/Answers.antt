-- What calls answer.
use Rattle.std.specs.Prelude.{◌≡◌, ◌==◌, ℕ, true, false, Bool, List, [], ◌∷◌, ◌++◌, Option, Some, None, if◌then◌else◌}
use Rattle.std.specs.List.{list_any}
use Rattle.std.specs.List.Sorted.{IsStrictlySortedBy}
use Rattle.std.specs.Ordering.{nat_cmp}
use Rattle.sk_record.specs.Effects.{is_in}
use Rattle.real_epochs.specs.declared.back.Back.{Back}
use Rattle.real_epochs.specs.Story.{Epoch, Story, all_in, changed_in, known_after, said_on}

-- the checkpoint that the oldest epoch goes back to
abbrev pub oldest_checkpoint : List Epoch → Option ℕ
oldest_checkpoint [] = None
oldest_checkpoint (e ∷ es) = Some e.checkpoint

-- whether one of them goes back to a checkpoint
abbrev pub is_needed : ℕ → List Epoch → Bool
is_needed checkpoint es = list_any (λ e. e.checkpoint == checkpoint) es

-- whether there is none
abbrev pub are_none : List Epoch → Bool
are_none [] = true
are_none (e ∷ es) = false

-- what is known of a name now
abbrev pub known_of : Story → ℕ → Option ℕ
known_of s name = if name == 0 then None else known_after (s.accepted ++ all_in s.waiting) name None

-- the output of a stream that counts and comes behind those that were shown
pub record IsNext (s : Story) (stream output : ℕ) : Type 0 where
  pub more : List ℕ
  pub next : said_on stream s.accepted ≡ s.shown stream ++ output ∷ more

-- All goes back to the checkpoint of the oldest epoch; undone are just the names that these epochs changed.
pub record IsBack (e : Epoch) (es : List Epoch) (back : Back) : Type 0 where
  pub checkpoint : back.checkpoint ≡ e.checkpoint
  pub names : (name : ℕ) → is_in nat_cmp back.names.items name ≡ (if name == 0 then false else changed_in (all_in (e ∷ es)) name)
  pub rising : IsStrictlySortedBy nat_cmp back.names.items

abbrev pub GoesBack : List Epoch → Option Back → Type 0
GoesBack [] back = back ≡ None
GoesBack (e ∷ es) None = ⊥
GoesBack (e ∷ es) (Some back) = IsBack e es back
