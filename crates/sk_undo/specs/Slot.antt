-- What an entity has with its undo log, seen as the value now and the value before each note, the newest first.
use Rattle.std.specs.Prelude.{◌≡◌, ◌==◌, ℕ, Bool, true, false, ◌&&◌, nat_le, List, [], ◌∷◌, length, reverse, drop, Option, Some, None, is_none, refl, if◌then◌else◌}
use Rattle.sk_undo.specs.Base.{Coded, code_by, coded×, coded_ℕ, coded_list, coded_option, Note, has, last_tags}
use Rattle.sk_undo.specs.Base.{committed, same_tags, Undo, EntityState, StateFits, state_undone, PutBack, RawNote}
use Rattle.sk_undo.specs.Base.{Value}
use Rattle.sk_store.specs.contracts.entity_state.EntityState as stored_row
use Rattle.sk_undo.specs.Log.{is_empty, before_last, HasNote, undone_by, FitsBy, is_whole_at, restores}

-- whether a note holds it whole: a process, and a file
abbrev pub is_held_whole : EntityState → Bool
is_held_whole (EntityState.Process p) = true
is_held_whole (EntityState.Value (Value.File f)) = true
is_held_whole (EntityState.Value v) = false

-- what was there before a write
abbrev pub undone : PutBack EntityState → Option EntityState → Option EntityState
undone = undone_by state_undone

-- a noted change can be undone, and leaves nothing that a note would hold whole
abbrev pub NoteFits : EntityState → Undo → Type 0
NoteFits s undo = StateFits s undo × (is_held_whole (state_undone s undo) ≡ false)

abbrev pub Fits : PutBack EntityState → Option EntityState → Type 0
Fits = FitsBy NoteFits

pub record SlotView : Type 0 where
  pub now : Option EntityState
  pub log : List (Note EntityState)

abbrev pub note_code : Coded (Note EntityState)
note_code = code_by (List ℕ × Option EntityState) (coded× (coded_list coded_ℕ) (coded_option stored_row.the_row.coded)) (λ n. (n.tags, n.before)) (λ p. record { tags = p.0; before = p.1 }) (λ _. refl)

abbrev pub slot_code : Coded SlotView
slot_code = code_by (Option EntityState × List (Note EntityState)) (coded× (coded_option stored_row.the_row.coded) (coded_list note_code)) (λ s. (s.now, s.log)) (λ p. record { now = p.0; log = p.1 }) (λ _. refl)

-- the slot of an entity of which nothing is noted
abbrev pub slot_of : Option EntityState → SlotView
slot_of now = record { now = now; log = [] }

-- a slot with neither a value nor a note
abbrev pub is_bare : SlotView → Bool
is_bare s = is_none s.now && is_empty s.log

-- whether what was there before a write is put back whatever stands there now
abbrev pub is_whole : Option EntityState → Bool
is_whole = is_whole_at is_held_whole

-- whether a write is not noted: it has no tags, and there are no notes; or the newest note puts back what was there before it, too
abbrev pub goes_unnoted : List ℕ → List (Note EntityState) → Bool
goes_unnoted tags [] = is_empty tags
goes_unnoted tags (n ∷ ns) = is_whole n.before && same_tags tags n.tags

-- whether a write with the tags of the newest note is not noted, which are at least so many
abbrev pub goes_on : ℕ → List (Note EntityState) → Bool
goes_on least [] = least == 0
goes_on least (n ∷ ns) = nat_le least (length n.tags) && is_whole n.before

-- ---- what a commit leaves
-- whether the note before stands for one with these tags: it has the same, and puts back what was there whatever stands there now
abbrev pub is_needless : Option (Note EntityState) → List ℕ → Bool
is_needless None tags = false
is_needless (Some n) tags = is_whole n.before && same_tags tags n.tags

-- without each note for which the one before it stands; before the first stands this one
abbrev pub joined : Option (Note EntityState) → List (Note EntityState) → List (Note EntityState)
joined p [] = []
joined p (n ∷ ns) = if is_needless p n.tags then joined p ns else n ∷ joined (Some n) ns

-- from the first note on that depends on the guess: without it in all tags, and then without each note for which the one before it stands
abbrev pub committed_joined : ℕ → Option (Note EntityState) → List (Note EntityState) → List (Note EntityState)
committed_joined g p [] = []
committed_joined g p (n ∷ ns) = if has g n.tags then joined p (committed g (n ∷ ns)) else n ∷ committed_joined g (Some n) ns

-- the tags of the newest note
abbrev pub own_tags : SlotView → List ℕ
own_tags s = last_tags [] (reverse s.log)

-- the log after a write
abbrev pub noted_on : List ℕ → Option EntityState → List (Note EntityState) → List (Note EntityState)
noted_on tags before log = if goes_unnoted tags log then log else record { tags = tags; before = before } ∷ log

-- whether the log is the same whatever stands there now
abbrev pub is_stable : List (Note EntityState) → Bool
is_stable [] = true
is_stable (n ∷ ns) = is_whole n.before

-- whether the log of these notes, the newest first, is the same whatever stands there now
abbrev pub is_stable_raw : List (RawNote (PutBack EntityState)) → Bool
is_stable_raw [] = true
is_stable_raw (n ∷ ns) = restores is_held_whole n.undo

-- one write
abbrev pub slot_wrote : List ℕ → SlotView → Option EntityState → SlotView
slot_wrote tags s v = record { now = v; log = noted_on tags s.now s.log }

-- the newest write taken back: that of the newest note, or one that was not noted
abbrev pub slot_back : SlotView → Option (PutBack EntityState) → SlotView
slot_back s None = record { now = before_last s.now s.log; log = drop 1 s.log }
slot_back s (Some undo) = record { now = undone undo s.now; log = s.log }

abbrev pub CanGoBackOnce : SlotView → Option (PutBack EntityState) → Type 0
CanGoBackOnce s None = HasNote s.log
CanGoBackOnce s (Some undo) = (is_stable s.log ≡ true) × FitsBy StateFits undo s.now
