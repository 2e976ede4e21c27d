-- Byte strings, each with a number.
use Rattle.std.specs.Prelude.{◌≡◌, ◌==◌, ℕ, List, [], ◌∷◌, map, Option, Some, None, if◌then◌else◌}
use Rattle.std.specs.Ordering.{nat_cmp, eq_by_cmp}
use Rattle.std.specs.Cmp.Lexicographic.{slice_cmp}
use Rattle.std.specs.FinMap.{find}
use Rattle.std.specs.declared.cmp.Ordering.{Ordering}

-- strings with their numbers
abbrev pub Numbered : Type 0
Numbered = List (List ℕ × ℕ)

-- the order of byte strings: that of their first bytes that differ, and a front part comes first
abbrev pub bytes_cmp : List ℕ → List ℕ → Ordering
bytes_cmp = slice_cmp nat_cmp

-- the number of a string, if it has one
abbrev pub number_of : Numbered → List ℕ → Option ℕ
number_of es s = find bytes_cmp s es

-- the string that has a number
abbrev pub string_of : Numbered → ℕ → Option (List ℕ)
string_of [] n = None
string_of (e ∷ es) n = if e.1 == n then Some e.0 else string_of es n

-- the numbers that strings have
abbrev pub numbers_in : Numbered → List ℕ
numbers_in es = map (λ e. e.1) es

-- no string is there twice
abbrev pub AreApart : Numbered → Type 0
AreApart [] = Unit {0}
AreApart (e ∷ es) = (number_of es e.0 ≡ None) × AreApart es

-- one string more has this number, which none had; the others keep theirs
pub record Adds (old : Numbered) (s : List ℕ) (n : ℕ) (new : Numbered) : Type 0 where
  pub absent : number_of old s ≡ None
  pub free : string_of old n ≡ None
  pub numbers : (q : List ℕ) → number_of new q ≡ (if eq_by_cmp bytes_cmp q s then Some n else number_of old q)
  pub strings : (m : ℕ) → string_of new m ≡ (if n == m then Some s else string_of old m)

-- the string with this number is gone; the others keep theirs
pub record Removes (old : Numbered) (s : List ℕ) (n : ℕ) (new : Numbered) : Type 0 where
  pub had : string_of old n ≡ Some s
  pub numbers : (q : List ℕ) → number_of new q ≡ (if eq_by_cmp bytes_cmp q s then None else number_of old q)
  pub strings : (m : ℕ) → string_of new m ≡ (if n == m then None else string_of old m)
