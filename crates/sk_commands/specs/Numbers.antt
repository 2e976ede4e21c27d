-- Integers of 64 bits, and their decimal texts.
use Rattle.std.specs.Prelude.{◌≡◌, ℕ, ◌^◌, ◌&&◌, ℤ, pos, negsuc, Bool, true, List, Option, Some, None, nat_lt, bytes_eq, if◌then◌else◌}
use Rattle.sk_commands.specs.Base.{signed_decimal, signed_digits_value}

-- whether an integer has 64 bits
abbrev pub fits : ℤ → Bool
fits (pos n) = nat_lt n (2 ^ 63)
fits (negsuc n) = nat_lt n (2 ^ 63)

-- an integer, if it has 64 bits
abbrev pub fitting : ℤ → Option ℤ
fitting z = if fits z then Some z else None

-- the integer, where the text is its decimal text and it has 64 bits
abbrev pub said_as : ℤ → List ℕ → Option ℤ
said_as z text = if fits z && bytes_eq text (signed_decimal z) then Some z else None

-- the integer of 64 bits whose decimal text this is
unfoldable pub number_of : List ℕ → Option ℤ
number_of text = said_as (signed_digits_value 10 text) text

-- a text that is the decimal text of no integer of 64 bits
abbrev pub IsNoNumber : List ℕ → Type 0
IsNoNumber text = (z : ℤ) → fits z ≡ true → text ≡ signed_decimal z → ⊥
