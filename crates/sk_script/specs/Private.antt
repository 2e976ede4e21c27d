-- The private instructions: those that read and write nothing but the process.
use Rattle.std.specs.Prelude.{◌≡◌, ℕ, ◌+◌, ◌^◌, ◌==◌, nat_lt, ℤ, pos, negsuc, neg_ℤ, ◌+ℤ◌, Bool, true, false, List, length, Option, Some, None, option_and_then, slice_get, slice_set, if◌then◌else◌}
use Rattle.sk_script.specs.Base.{boot_pid, Val, Num, Who, Process, Instruction, Set, Move, Add, Text, Len}
use Rattle.sk_script.specs.Base.{SelfPid, BootPid, Jump, Zero, Negative}
use Rattle.sk_script.specs.Registers.{held}

-- ---- what becomes of the process

-- the process moves on to the next instruction
abbrev pub moved : Process → Process
moved p = record p { place = p.place + 1 }

-- the process moves on, and has a value in a register
abbrev pub given : Process → ℕ → Val → Process
given p r v = record p { place = p.place + 1; registers = slice_set p.registers r v }

-- the process moves on, and has a text in its buffer
abbrev pub buffered : Process → List ℕ → Process
buffered p text = record p { place = p.place + 1; buffer = text }

-- the process moves on, and has the error 22 in r0
abbrev pub invalid : Process → Process
invalid p = given p 0 (Num (neg_ℤ (pos 22)))

-- the process goes on at a place
abbrev pub at_place : Process → ℕ → Process
at_place p place = record p { place = place }

-- the process goes on at a place if this holds, else at the next instruction
abbrev pub at_place_if : Bool → Process → ℕ → Process
at_place_if holds p place = if holds then at_place p place else moved p

-- ---- what values are

abbrev pub is_zero : Val → Bool
is_zero (Num (pos n)) = n == 0
is_zero _ = false

abbrev pub is_negative : Val → Bool
is_negative (Num (negsuc n)) = true
is_negative _ = false

-- whether 64 bits with sign hold a number
abbrev pub fits : ℤ → Bool
fits (pos n) = nat_lt n (2 ^ 63)
fits (negsuc n) = nat_lt n (2 ^ 63)

-- a number that fits
abbrev pub fitting : ℤ → Option ℤ
fitting n = if fits n then Some n else None

-- the number that a value is
abbrev pub integer_in : Val → Option ℤ
integer_in (Num n) = Some n
integer_in _ = None

-- the sum of two numbers, where it fits
abbrev pub sum_of : Option ℤ → Option ℤ → Option ℤ
sum_of (Some a) (Some b) = fitting (a +ℤ b)
sum_of _ _ = None

-- a number in a register, or the error 22 where there is none
abbrev pub number_given : Process → ℕ → Option ℤ → Process
number_given p r (Some n) = given p r (Num n)
number_given p r None = invalid p

-- a process in a register, or the error 22 where there is none
abbrev pub process_given : Process → ℕ → Option ℕ → Process
process_given p r (Some q) = given p r (Who q)
process_given p r None = invalid p

-- the sum of two registers
abbrev pub sum_in : Process → ℕ → ℕ → Option ℤ
sum_in p a b = sum_of (integer_in (held p.registers a)) (integer_in (held p.registers b))

-- ---- one instruction

-- the process after a private instruction; None where the instruction is not private
abbrev pub private_step : Process → Instruction → Option Process
private_step p (Set r n) = Some (given p r (Num n))
private_step p (Move to from) = Some (given p to (held p.registers from))
private_step p (Add to from) = Some (number_given p to (sum_in p to from))
private_step p (Text text) = Some (buffered p text)
private_step p (Len r) = Some (given p r (Num (pos (length p.buffer))))
private_step p (SelfPid r) = Some (given p r (Who p.pid))
private_step p (BootPid r n) = Some (process_given p r (boot_pid n))
private_step p (Jump place) = Some (at_place p place)
private_step p (Zero r place) = Some (at_place_if (is_zero (held p.registers r)) p place)
private_step p (Negative r place) = Some (at_place_if (is_negative (held p.registers r)) p place)
private_step p i = None

-- the process after its next instruction; None where it has ended, at its script's end, and where the instruction is
-- not private
abbrev pub private_next : Process → List Instruction → Option Process
private_next p script = if p.ended then None else option_and_then (private_step p) (slice_get script p.place)

-- the process became what it was to become; where that is nothing it is as it was
abbrev pub Becomes : Bool → Option Process → Process → Process → Type 0
Becomes true after old new = after ≡ Some new
Becomes false after old new = (after ≡ None) × (new ≡ old)
