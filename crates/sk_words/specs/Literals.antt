-- What a literal says.
use Rattle.std.specs.Prelude.{◌≡◌, ℕ, ◌+◌, ◌*◌, Bool, false, List, [], ◌∷◌, ◌==◌, ◌||◌, ◌&&◌, if◌then◌else◌, Result, Ok, Err, Option, Some, None, nat_lt, nat_le, length}
use Rattle.std.specs.Char.{digit_value}
use denote.Bor.{Bor}
use Rattle.sk_words.specs.declared.fault.FaultKind.{FaultKind}
use Rattle.sk_words.specs.Faults.{◌>>=◌}
use Rattle.sk_words.specs.Operands.{wrong}

-- where in a literal a byte stands: by itself, behind a backslash, or as one of two hexadecimal digits
pub data Spot : Type 0 where
  Plain : Spot
  Escaped : Spot
  High : Spot
  Low : ℕ → Spot

abbrev pub then_byte : ℕ → Result (List ℕ) FaultKind → Result (List ℕ) FaultKind
then_byte b (Ok bs) = Ok (b ∷ bs)
then_byte b (Err e) = Err e

-- a hexadecimal digit of either case
abbrev pub hex_digit : ℕ → Result ℕ FaultKind
hex_digit b =
    if nat_lt (digit_value b) 16 then Ok (digit_value b) else wrong

-- What the bytes behind the opening quote say. They are the printable bytes but for the quote and the backslash, and
-- these two, a line feed and a byte of two hexadecimal digits behind a backslash. The closing quote is the last.
abbrev pub text_from : Spot → List ℕ → Result (List ℕ) FaultKind
text_from Plain [] = wrong
text_from Plain (b ∷ bs) =
    if b == 34 then (if length bs == 0 then Ok [] else wrong)
    else if b == 92 then text_from Escaped bs
    else if nat_le 32 b && nat_le b 126 then then_byte b (text_from Plain bs)
    else wrong
text_from Escaped [] = wrong
text_from Escaped (b ∷ bs) =
    if b == 34 || b == 92 then then_byte b (text_from Plain bs)
    else if b == 110 then then_byte 10 (text_from Plain bs)
    else if b == 120 then text_from High bs
    else wrong
text_from High [] = wrong
text_from High (b ∷ bs) = hex_digit b >>= λ d. text_from (Low d) bs
text_from (Low high) [] = wrong
text_from (Low high) (b ∷ bs) = hex_digit b >>= λ d. then_byte (high * 16 + d) (text_from Plain bs)

abbrev pub at_most_512 : Result (List ℕ) FaultKind → Result (List ℕ) FaultKind
at_most_512 (Ok t) = if nat_lt 512 (length t) then wrong else Ok t
at_most_512 (Err e) = wrong

-- the text that a literal says, of at most 512 bytes, or its fault
abbrev pub literal : List ℕ → Result (List ℕ) FaultKind
literal [] = wrong
literal (b ∷ bs) = if b == 34 then at_most_512 (text_from Plain bs) else wrong

-- just the closing quote
abbrev pub ends_here : List ℕ → Bool
ends_here [] = false
ends_here (b ∷ []) = b == 34
ends_here (b ∷ c ∷ bs) = false

-- a function took the first byte that the text says, and the rest says the others; or the text is malformed
abbrev pub Continues : Option (ℕ × Bor (List ℕ)) → Result (List ℕ) FaultKind → Type 0
Continues (Some x) said = said ≡ then_byte x.0 (text_from Plain x.1.now)
Continues None said = said ≡ wrong
