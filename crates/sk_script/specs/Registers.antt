-- Registers: how one is written, what they hold, and how that is printed.
use Rattle.std.specs.Prelude.{ℕ, ◌-◌, pos, List, [], ◌∷◌, ◌==◌, ◌&&◌, nat_le, if◌then◌else◌, Result, Ok, slice_index_or}
use Rattle.sk_script.specs.Base.{signed_decimal, FaultKind, wrong, pid_word, object_word, Val, Num, Obj, Who}

-- the value in a register
abbrev pub held : List Val → ℕ → Val
held registers r = slice_index_or registers r (Num (pos 0))

-- r0 to r7
abbrev pub register : List ℕ → Result ℕ FaultKind
register (r ∷ d ∷ []) = if r == 114 && (nat_le 48 d && nat_le d 55) then Ok (d - 48) else wrong
register _ = wrong

-- what a register holds, printed: a number as such, an object, or a process behind @
abbrev pub val_word : Val → List ℕ
val_word (Num n) = signed_decimal n
val_word (Obj o) = object_word o
val_word (Who p) = 64 ∷ pid_word p
