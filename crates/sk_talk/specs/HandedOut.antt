-- The texts of terminals, handed out once each.
use Rattle.std.specs.Prelude.{ℕ, List, ◌∷◌, ◌++◌, length, drop, codes, decimal}
use Rattle.sk_talk.specs.Base.{Coded, coded_ℕ, unwrap_or, nat_cmp, released, KernelView, said_there, texts_lines}
use Rattle.std.specs.FinMap as map

-- by the terminal's number, how many of its texts were handed out
abbrev pub HandedMap : Type 0
HandedMap = map.FinMap nat_cmp ℕ

abbrev pub handed_code : Coded HandedMap
handed_code = map.code coded_ℕ coded_ℕ

abbrev pub handed_at : HandedMap → ℕ → ℕ
handed_at m t = unwrap_or (map.get m t) 0

-- the texts that a terminal has released
abbrev pub released_in : KernelView → ℕ → List (List ℕ)
released_in k t = released (said_there k t)

-- how many texts, and the texts, a literal a line
abbrev pub released_lines : List (List ℕ) → List ℕ
released_lines texts = codes "released " ++ decimal (length texts) ++ 10 ∷ texts_lines texts

-- the lines of the released texts behind those that were handed out
abbrev pub released_answer : KernelView → ℕ → ℕ → List ℕ
released_answer k t handed = released_lines (drop handed (released_in k t))

-- the counts of handed out texts, once all of a terminal that are released are handed out
abbrev pub all_handed : KernelView → ℕ → HandedMap → HandedMap
all_handed k t m = map.insert m t (length (released_in k t))
