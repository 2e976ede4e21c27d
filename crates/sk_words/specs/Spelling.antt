-- How literals, processes and objects are printed, and words beside each other.
use Rattle.std.specs.Prelude.{ℕ, ◌+◌, ◌/◌, ◌%◌, ◌^◌, List, [], ◌∷◌, ◌++◌, Option, Some, None, nat_lt, nat_le, ◌==◌, ◌||◌, ◌&&◌, if◌then◌else◌, flat_map, decimal, codes}
use Rattle.sk_ids.specs.declared.pid.ObjId.{ObjId}

-- a hexadecimal digit in lower case
abbrev pub hex_glyph : ℕ → ℕ
hex_glyph d = if nat_lt d 10 then 48 + d else 87 + d

-- a byte within a literal
abbrev pub spelled_byte : ℕ → List ℕ
spelled_byte b =
    if b == 34 || b == 92 then 92 ∷ b ∷ []
    else if b == 10 then 92 ∷ 110 ∷ []
    else if nat_le 32 b && nat_le b 126 then b ∷ []
    else 92 ∷ 120 ∷ hex_glyph (b / 16) ∷ hex_glyph (b % 16) ∷ []

-- the one literal that is printed for a text
abbrev pub spelled : List ℕ → List ℕ
spelled text = 34 ∷ flat_map spelled_byte text ++ 34 ∷ []

-- the two last numbers of a path, joined by a dot
abbrev pub two_levels : ℕ → List ℕ
two_levels p = decimal (p / 65536 % 65536) ++ 46 ∷ decimal (p % 65536)

-- a process: its one to four numbers, joined by dots
abbrev pub pid_word : ℕ → List ℕ
pid_word p =
    if nat_lt p (2 ^ 16) then decimal p
    else if nat_lt p (2 ^ 32) then two_levels p
    else if nat_lt p (2 ^ 48) then decimal (p / 2 ^ 32) ++ 46 ∷ two_levels p
    else two_levels (p / 2 ^ 32) ++ 46 ∷ two_levels p

-- the maker of an object, 0 where it has none
abbrev pub maker_word : Option ℕ → List ℕ
maker_word None = codes "0"
maker_word (Some p) = pid_word p

-- an object: its maker, a colon, and its number
abbrev pub object_word : ObjId → List ℕ
object_word o = maker_word o.maker ++ 58 ∷ decimal o.count

-- words, with single spaces between them
abbrev pub spaced : List (List ℕ) → List ℕ
spaced [] = []
spaced (w ∷ []) = w
spaced (w ∷ v ∷ ws) = w ++ 32 ∷ spaced (v ∷ ws)
