-- What a key has, with the value before each write that can be undone, the oldest first.
use Rattle.std.specs.Prelude.{◌≡◌, ◌==◌, ◌&&◌, not, ℕ, Bool, true, false, List, [], ◌∷◌, ◌++◌, Option, Some, is_none, refl, if◌then◌else◌}
use Rattle.std.specs.Coded.{Coded, code_by, coded×, coded_ℕ, coded_list, coded_option}
use Rattle.std.specs.List.{list_all}
use Rattle.sk_record.specs.Notes.{Note, last_tags}
use Rattle.sk_record.specs.Merged.{same_tags}

-- what a key has, its notes, and the tags of a note for which there is room
pub record SlotView (V : Type 0) : Type 0 where
  pub value : Option V
  pub log : List (Note V)
  pub ready : Option (List ℕ)

abbrev pub note_code : {V : Type 0} → Coded V → Coded (Note V)
note_code {V} code = code_by (List ℕ × Option V) (coded× (coded_list coded_ℕ) (coded_option code)) (λ n. (n.tags, n.before)) (λ p. record { tags = p.0; before = p.1 }) (λ _. refl)

abbrev pub slot_code : {V : Type 0} → Coded V → Coded (SlotView V)
slot_code {V} code =
    code_by (Option V × (List (Note V) × Option (List ℕ))) (coded× (coded_option code) (coded× (coded_list (note_code code)) (coded_option (coded_list coded_ℕ))))
    (λ s. (s.value, (s.log, s.ready))) (λ p. record { value = p.0; log = p.1.0; ready = p.1.1 }) (λ _. refl)

-- these tags are of no guess but one
abbrev pub are_of : ℕ → List ℕ → Bool
are_of g tags = list_all (λ t. t == g) tags

abbrev pub is_empty : {A : Type 0} → List A → Bool
is_empty [] = true
is_empty (x ∷ xs) = false

module _ {V : Type 0} where
  -- whether a write with these tags is not noted: the newest note has just these, or there are none of either
  abbrev pub goes_unnoted : List ℕ → List (Note V) → Bool
  goes_unnoted tags log = same_tags tags (last_tags [] log)

  -- the log after a write
  abbrev pub noted_on : List ℕ → Option V → List (Note V) → List (Note V)
  noted_on tags before log = if goes_unnoted tags log then log else log ++ record { tags = tags; before = before } ∷ []

  -- a slot with neither a value nor a note
  abbrev pub is_bare : SlotView V → Bool
  is_bare s = is_none s.value && is_empty s.log

  -- there is room for what a write with these tags notes
  abbrev pub IsPrepared : List ℕ → SlotView V → Type 0
  IsPrepared tags s = goes_unnoted tags s.log ≡ false → s.ready ≡ Some tags

  -- something is there or noted, and no room is kept for a note
  abbrev pub is_settled : SlotView V → Bool
  is_settled s = is_none s.ready && not (is_bare s)
