-- What a kernel over numbers is, told of the byte strings that have them.
use Rattle.std.specs.Prelude.{◌≡◌, ℕ, true, false, List, [], ◌∷◌, Option, Some, None, refl}
use Rattle.sk_bytes.specs.Base.{Coded, code_by, coded×, coded_ℕ, coded_list, nat_cmp, FinMap, empty, entries, put}
use Rattle.sk_bytes.specs.Base.{is_in, Note, SlotView, look_at, log_at, Numbered, bytes_cmp, number_of, string_of}
use Rattle.sk_bytes.specs.Base.{Parts, parts_code, IsWhole}

module _ {V : Type 0} where
  -- a slot with this, where there is anything
  abbrev pub shown : Option V → List (Note V) → Option (SlotView V)
  shown None [] = None
  shown None (n ∷ ns) = Some (record { value = None; log = n ∷ ns; ready = None })
  shown (Some v) log = Some (record { value = Some v; log = log; ready = None })

  abbrev pub slot_shown : List (ℕ × SlotView V) → ℕ → Option (SlotView V)
  slot_shown slots n = shown (look_at nat_cmp slots n) (log_at nat_cmp slots n)

  -- each string has the slot of its number
  abbrev pub slots_told : Numbered → List (ℕ × SlotView V) → FinMap bytes_cmp (SlotView V)
  slots_told [] slots = empty
  slots_told (e ∷ es) slots = put (slots_told es slots) e.0 (slot_shown slots e.1)

  -- each note depends on something
  abbrev pub AllRest : List (Note V) → Type 0
  AllRest [] = Unit {0}
  AllRest (n ∷ ns) = (n.tags ≡ [] → ⊥) × AllRest ns

-- the parts, told of the strings
abbrev pub told_of : {V O : Type 0} → Numbered → Parts ℕ V O → Parts (List ℕ) V O
told_of es m = record { slots = entries (slots_told es m.slots); guesses = m.guesses; opens = m.opens; said = m.said }

-- a string has a number just where that number is the string's
pub record IsTwoWay (es : Numbered) : Type 0 where
  pub there : (s : List ℕ) (n : ℕ) → number_of es s ≡ Some n → string_of es n ≡ Some s
  pub back : (s : List ℕ) (n : ℕ) → string_of es n ≡ Some s → number_of es s ≡ Some n

-- what callers see: the parts, the keys that the last failure took back, and the keys with their places
pub record ByteView (V O : Type 0) : Type 0 where
  pub parts : Parts (List ℕ) V O
  pub undone : List (List ℕ)
  pub keys : Numbered

abbrev pub byte_code : {V O : Type 0} → Coded V → Coded O → Coded (ByteView V O)
byte_code {V} {O} v o =
    code_by (Parts (List ℕ) V O × (List (List ℕ) × Numbered))
    (coded× (parts_code (coded_list coded_ℕ) v o) (coded× (coded_list (coded_list coded_ℕ)) (coded_list (coded× (coded_list coded_ℕ) coded_ℕ))))
    (λ b. (b.parts, (b.undone, b.keys))) (λ p. record { parts = p.0; undone = p.1.0; keys = p.1.1 }) (λ _. refl)

abbrev pub with_string : Option (List ℕ) → List (List ℕ) → List (List ℕ)
with_string None rest = rest
with_string (Some s) rest = s ∷ rest

-- the strings of these numbers
abbrev pub strings_of : Numbered → List ℕ → List (List ℕ)
strings_of es [] = []
strings_of es (n ∷ ns) = with_string (string_of es n) (strings_of es ns)

-- each key that is there or depends on something has a number, each note depends on something, and some calls lead here
pub record Fits {V O : Type 0} (es : Numbered) (m : Parts ℕ V O) : Type 0 where
  pub two_way : IsTwoWay es
  pub rests : (n : ℕ) → AllRest (log_at nat_cmp m.slots n)
  pub used : (n : ℕ) → string_of es n ≡ None → slot_shown m.slots n ≡ None
  pub whole : IsWhole nat_cmp m

-- no number is kept for nothing: but for these, each is that of a key that is there or depends on something
abbrev pub UsedBut : {V : Type 0} → Numbered → List (ℕ × SlotView V) → List ℕ → Type 0
UsedBut es slots some = (n : ℕ) → is_in nat_cmp some n ≡ false → slot_shown slots n ≡ None → string_of es n ≡ None

-- between calls: so it is, each key that the last failure took back has a number still, and no other number is kept for nothing
pub record IsTold {V O : Type 0} (es : Numbered) (m : Parts ℕ V O) (undone : List ℕ) : Type 0 where
  pub fits : Fits es m
  pub held : (n : ℕ) → is_in nat_cmp undone n ≡ true → string_of es n ≡ None → ⊥
  pub needed : UsedBut es m.slots undone
