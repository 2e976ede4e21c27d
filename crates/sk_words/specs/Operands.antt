-- What the words behind the first of a line say.
use Rattle.std.specs.Prelude.{◌≡◌, ℕ, ◌+◌, ◌*◌, ◌^◌, ℤ, pos, negsuc, neg_ℤ, Bool, not, List, [], ◌∷◌, ◌==◌, ◌||◌, ◌&&◌, if◌then◌else◌, Result, Ok, Err, Option, Some, None, nat_lt, nat_le, length, drop, slice_index}
use Rattle.std.specs.List.{list_any, list_all}
use Rattle.std.specs.Str.{all_ascii_digits}
use Rattle.std.specs.Str.Parse.{digits_value}
use denote.Bor.{Bor}
use Rattle.sk_ids.specs.Name.{is_name_byte}
use Rattle.sk_words.specs.declared.fault.FaultKind.{FaultKind}
use Rattle.sk_words.specs.declared.fault.FaultKind.TheVariants as kinds
use Rattle.sk_words.specs.Faults.{◌>>=◌}
use Rattle.sk_words.specs.Lines.{parts}
use Rattle.sk_words.specs.Words.{is_open}

-- ---- how many words there are

-- an open literal is told before a wrong count
abbrev pub closed : List (List ℕ) → Result (List (List ℕ)) FaultKind
closed ws = if list_any is_open ws then Err kinds.Operand else Ok ws

abbrev pub next_word : List (List ℕ) → Result (List ℕ × List (List ℕ)) FaultKind
next_word [] = Err kinds.Word
next_word (w ∷ ws) = Ok (w, ws)

-- no word is left; else there are too many
abbrev pub no_more : List (List ℕ) → Result (Unit {0}) FaultKind
no_more [] = Ok tt
no_more (w ∷ ws) = Err kinds.Word

-- there is no operand
unfoldable pub none_of : List (List ℕ) → Result (Unit {0}) FaultKind
none_of ws = do
  cs ← closed ws
  no_more cs

-- one operand, read so
unfoldable pub one_of : {A : Type 0} → (List ℕ → Result A FaultKind) → List (List ℕ) → Result A FaultKind
one_of a ws = do
  cs ← closed ws
  v ← next_word cs
  end ← no_more v.1
  a v.0

-- what two words say, the first before the second
unfoldable pub both : {A B : Type 0} → (List ℕ → Result A FaultKind) → (List ℕ → Result B FaultKind) → List ℕ → List ℕ → Result (A × B) FaultKind
both a b v w = do
  x ← a v
  y ← b w
  Ok (x, y)

-- the two words that are left
unfoldable pub the_two : List (List ℕ) → Result (List ℕ × List ℕ) FaultKind
the_two ws = do
  v ← next_word ws
  w ← next_word v.1
  end ← no_more w.1
  Ok (v.0, w.0)

-- two operands, each read so, or their first fault
unfoldable pub two_of : {A B : Type 0} → (List ℕ → Result A FaultKind) → (List ℕ → Result B FaultKind) → List (List ℕ) → Result (A × B) FaultKind
two_of a b ws = do
  cs ← closed ws
  p ← the_two cs
  both a b p.0 p.1

-- three operands, each read so, or their first fault
unfoldable pub three_of : {A B C : Type 0} → (List ℕ → Result A FaultKind) → (List ℕ → Result B FaultKind) → (List ℕ → Result C FaultKind) → List (List ℕ) → Result (A × B × C) FaultKind
three_of a b c ws = do
  cs ← closed ws
  u ← next_word cs
  p ← the_two u.1
  x ← a u.0
  y ← both b c p.0 p.1
  Ok (x, y.0, y.1)

-- a function took the next word, and left the others
abbrev pub NextWord : Result (Bor (List ℕ)) FaultKind → List (List ℕ) → List (List ℕ) → Type 0
NextWord (Ok word) old new = next_word old ≡ Ok (word.now, new)
NextWord (Err e) old new = (next_word old ≡ Err e) × (new ≡ old)

-- ---- what a word says

abbrev pub wrong : {A : Type 0} → Result A FaultKind
wrong = Err kinds.Operand

-- the number of one decimal digit or more
abbrev pub digits : List ℕ → Option ℕ
digits [] = None
digits (d ∷ ds) = if all_ascii_digits (d ∷ ds) then Some (digits_value 10 (d ∷ ds)) else None

-- the number that they say, where it is below a limit
abbrev pub below : {A : Type 0} → ℕ → (ℕ → A) → Option ℕ → Result A FaultKind
below limit number None = wrong
below limit number (Some n) = if nat_lt n limit then Ok (number n) else wrong

-- a number of 64 bits, with or without a minus sign
abbrev pub integer : List ℕ → Result ℤ FaultKind
integer word =
    if slice_index word 0 == 45 then below (2 ^ 63 + 1) (λ n. neg_ℤ (pos n)) (digits (drop 1 word))
    else below (2 ^ 63) pos (digits word)

-- a number within both bounds
abbrev pub between : ℕ → ℕ → ℤ → Result ℕ FaultKind
between least greatest (pos n) = if nat_le least n && nat_le n greatest then Ok n else wrong
between least greatest (negsuc n) = wrong

-- 0 to 2^63 - 1
abbrev pub natural : List ℕ → Result ℕ FaultKind
natural word = integer word >>= between 0 9223372036854775807

-- 1 to 2^63 - 1
abbrev pub positive : List ℕ → Result ℕ FaultKind
positive word = integer word >>= between 1 9223372036854775807

-- 1 to 65,535
abbrev pub index : List ℕ → Result ℕ FaultKind
index word = integer word >>= between 1 65535

-- 0 to 2^32 - 1
abbrev pub short : List ℕ → Result ℕ FaultKind
short word = integer word >>= between 0 4294967295

-- 1 to 32 letters, digits and . _ - /
abbrev pub is_name : List ℕ → Bool
is_name word = not (length word == 0) && (nat_le (length word) 32 && list_all is_name_byte word)

abbrev pub name : List ℕ → Result (List ℕ) FaultKind
name word = if is_name word then Ok word else wrong

-- a label is a name of letters, digits and _
abbrev pub is_label_byte : ℕ → Bool
is_label_byte b = (nat_le 48 b && nat_le b 57) || (nat_le 65 b && nat_le b 90) || (nat_le 97 b && nat_le b 122) || b == 95

abbrev pub label : List ℕ → Result (List ℕ) FaultKind
label word = if list_all is_label_byte word then name word else wrong

-- the child of a process, which is at level three or above
abbrev pub numbered_child : ℕ → ℕ → Result ℕ FaultKind
numbered_child p n = if nat_lt p (2 ^ 48) then Ok (p * 65536 + n) else wrong

abbrev pub child : ℕ → List ℕ → Result ℕ FaultKind
child p word = index word >>= numbered_child p

abbrev pub path_below : ℕ → List (List ℕ) → Result ℕ FaultKind
path_below p [] = Ok p
path_below p (w ∷ ws) = child p w >>= λ q. path_below q ws

abbrev pub path : List (List ℕ) → Result ℕ FaultKind
path [] = wrong
path (w ∷ ws) = index w >>= λ n. path_below n ws

-- a process: one to four numbers joined by dots
abbrev pub pid : List ℕ → Result ℕ FaultKind
pid word = path (parts 46 word)

-- a number was found, or there is none
abbrev pub SaysSome : {A : Type 0} → Option A → Result A FaultKind → Type 0
SaysSome (Some x) said = said ≡ Ok x
SaysSome None said = said ≡ wrong
