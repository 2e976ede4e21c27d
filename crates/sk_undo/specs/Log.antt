-- The writes of one value, seen as the value before each.
use Rattle.std.specs.Prelude.{◌≡◌, ◌<◌, ◌==◌, ◌&&◌, ℕ, zero, suc, Bool, true, false, not, nat_le, List, [], ◌∷◌, length, reverse, Option, Some, None, if◌then◌else◌}
use Rattle.sk_undo.specs.Base.{list_any, list_all, Vec, vec_len, vec_capacity, Note, has, without, same_tags, Undo}
use Rattle.sk_undo.specs.Base.{PutBack, Was, Changed, RawNote}

-- whether nothing is in the list
abbrev pub is_empty : {A : Type 0} → List A → Bool
is_empty [] = true
is_empty (x ∷ xs) = false

abbrev pub HasNote : {A : Type 0} → List A → Type 0
HasNote [] = ⊥
HasNote (n ∷ ns) = Unit {0}

-- all of the tags are among these
abbrev pub Covers : List ℕ → List ℕ → Type 0
Covers these tags = (g : ℕ) → has g tags ≡ true → has g these ≡ true

-- a vector has room for one more
abbrev pub HasRoom : {X Z : Type 0} → Vec X Z → Type 0
HasRoom v = vec_len v < vec_capacity v

-- ---- what puts a write back
module _ {V : Type 0} where
  -- what was there before a write, by what puts it back and what is there now
  abbrev pub undone_by : (V → Undo → V) → PutBack V → Option V → Option V
  undone_by undone (Was v) now = v
  undone_by undone (Changed undo) None = None
  undone_by undone (Changed undo) (Some v) = Some (undone v undo)

  abbrev pub FitsBy : (V → Undo → Type 0) → PutBack V → Option V → Type 0
  FitsBy fits (Was v) now = Unit {0}
  FitsBy fits (Changed undo) None = ⊥
  FitsBy fits (Changed undo) (Some v) = fits v undo

  -- nothing, or what a note holds whole
  abbrev pub is_whole_at : (V → Bool) → Option V → Bool
  is_whole_at whole None = true
  is_whole_at whole (Some v) = whole v

  -- whether what was there is put back whatever stands there now
  abbrev pub restores : (V → Bool) → PutBack V → Bool
  restores whole (Was v) = is_whole_at whole v
  restores whole (Changed undo) = false

-- ---- notes
module _ {U V : Type 0} (undone : U → Option V → Option V) where
  -- the notes, the newest first, with what was there before each
  abbrev pub seen : Option V → List (RawNote U) → List (Note V)
  seen now [] = []
  seen now (n ∷ ns) = record { tags = n.tags; before = undone n.undo now } ∷ seen (undone n.undo now) ns

  -- the notes in the order of the writes, from raw ones in that order, with what was there before each
  abbrev pub log_of : Option V → List (RawNote U) → List (Note V)
  log_of now ns = reverse (seen now (reverse ns))

module _ {U V : Type 0} (fits : U → Option V → Type 0) (undone : U → Option V → Option V) where
  -- each can be undone in its turn, the newest first
  abbrev pub CanGoBack : Option V → List (RawNote U) → Type 0
  CanGoBack now [] = Unit {0}
  CanGoBack now (n ∷ ns) = fits n.undo now × CanGoBack (undone n.undo now) ns

module _ {V : Type 0} where
  -- whether a note depends on the guess
  abbrev pub carries : ℕ → List (Note V) → Bool
  carries g log = list_any (λ n. has g n.tags) log

  -- each note depends on some guess
  abbrev pub EachRests : List (Note V) → Type 0
  EachRests log = list_all (λ n. not (is_empty n.tags)) log ≡ true

  -- what was there before the newest note
  abbrev pub before_last : Option V → List (Note V) → Option V
  before_last now [] = now
  before_last now (n ∷ ns) = n.before

module _ {U : Type 0} where
  -- the tags of the newest note
  abbrev pub newest_tags : List (RawNote U) → List ℕ
  newest_tags [] = []
  newest_tags (n ∷ ns) = n.tags

  -- from the first note on that depends on the guess
  abbrev pub from_first : ℕ → List (RawNote U) → List (RawNote U)
  from_first g [] = []
  from_first g (n ∷ ns) = if has g n.tags then n ∷ ns else from_first g ns

  -- what a note depends on the later notes depend on too
  abbrev pub Grows : List (RawNote U) → Type 0
  Grows ns = (g : ℕ) → list_all (λ n. has g n.tags) (from_first g ns) ≡ true

  -- the notes with a guess taken out of all tags
  abbrev pub lightened : ℕ → List (RawNote U) → List (RawNote U)
  lightened g [] = []
  lightened g (n ∷ ns) = record { tags = without g n.tags; undo = n.undo } ∷ lightened g ns

  -- the notes from the first on that has tags
  abbrev pub dropped : List (RawNote U) → List (RawNote U)
  dropped [] = []
  dropped (n ∷ ns) = if is_empty n.tags then dropped ns else n ∷ ns

-- ---- notes that stand for later ones
module _ {V : Type 0} (whole : V → Bool) where
  -- whether a note puts back what was there before a later write with these tags, too
  abbrev pub stands_for : RawNote (PutBack V) → List ℕ → Bool
  stands_for n tags = restores whole n.undo && same_tags tags n.tags

  -- whether a write is not noted, after these notes, the newest first
  abbrev pub goes_unnoted_raw : List ℕ → List (RawNote (PutBack V)) → Bool
  goes_unnoted_raw tags [] = is_empty tags
  goes_unnoted_raw tags (n ∷ ns) = stands_for n tags

  -- whether a write with the tags of the newest of these notes is not noted, which are at least so many
  abbrev pub goes_on_raw : ℕ → List (RawNote (PutBack V)) → Bool
  goes_on_raw least [] = least == 0
  goes_on_raw least (n ∷ ns) = nat_le least (length n.tags) && restores whole n.undo

  -- whether a write with these tags is not noted behind this note, where there is one
  abbrev pub is_covered : Option (RawNote (PutBack V)) → List ℕ → Bool
  is_covered None tags = false
  is_covered (Some n) tags = stands_for n tags

  -- whether the note before stands for the one at a place
  abbrev pub repeats : Option (RawNote (PutBack V)) → ℕ → List (RawNote (PutBack V)) → Bool
  repeats p i [] = false
  repeats p zero (n ∷ ns) = is_covered p n.tags
  repeats p (suc i) (n ∷ ns) = repeats (Some n) i ns

  -- the notes without those, from a place on, for which the note before stands
  abbrev pub joined_from : Option (RawNote (PutBack V)) → ℕ → List (RawNote (PutBack V)) → List (RawNote (PutBack V))
  joined_from p i [] = []
  joined_from p zero (n ∷ ns) = if is_covered p n.tags then joined_from p zero ns else n ∷ joined_from (Some n) zero ns
  joined_from p (suc i) (n ∷ ns) = n ∷ joined_from (Some n) i ns
