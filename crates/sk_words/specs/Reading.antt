-- Reading a text line by line: what is known after all lines, or the first fault with the number of its line.
use Rattle.std.specs.Prelude.{◌≡◌, ◌<◌, ◌≤◌, ◌⊎◌, ℕ, ◌+◌, List, [], ◌∷◌, ◌++◌, length, Result, Ok, Err}
use Rattle.std.specs.Str.Lines.{lines}
use Rattle.sk_words.specs.declared.fault.FaultKind.{FaultKind}
use Rattle.sk_words.specs.declared.fault.FaultKind.TheVariants as kinds
use Rattle.sk_words.specs.declared.fault.Fault.{Fault}

-- what the lines behind say of what a line left, or the fault of the line of this number
abbrev pub at : {S T : Type 0} → ℕ → Result S FaultKind → (S → Result T Fault) → Result T Fault
at number (Ok s) rest = rest s
at number (Err e) rest = Err (record { line = number; kind = e })

-- the lines in turn, the first of which has this number
abbrev pub read_from : {S : Type 0} → (S → List ℕ → Result S FaultKind) → S → ℕ → List (List ℕ) → Result S Fault
read_from line s number [] = Ok s
read_from line s number (l ∷ ls) = at number (line s l) (λ t. read_from line t (number + 1) ls)

-- The kind that is told of a line of which this is said: that of its fault. Want of memory is told only of a line
-- that has no fault.
abbrev pub TellsKind : {S : Type 0} → FaultKind → Result S FaultKind → Type 0
TellsKind e (Ok s) = e ≡ kinds.Memory
TellsKind e (Err k) = e ≡ k

-- a line leaves what it says, or its kind is told and nothing has changed
abbrev pub Leaves : {S : Type 0} → Result (Unit {0}) FaultKind → Result S FaultKind → S → S → Type 0
Leaves (Ok u) said old new = said ≡ Ok new
Leaves (Err e) said old new = TellsKind e said × (new ≡ old)

-- a text begins with a line, which leaves what it says, and this is left behind it
abbrev pub TakesIn : {S : Type 0} → (S → List ℕ → Result S FaultKind) → S → S → List ℕ → List ℕ → Type 0
TakesIn said old new text rest = (line : List ℕ) × (lines text ≡ line ∷ lines rest) × (said old line ≡ Ok new)

-- The fault that is told of lines of which this is said, the first and the last of them having these numbers: the
-- first fault, or want of memory at one of the lines before the first that has a fault.
abbrev pub Tells : {S : Type 0} → ℕ → ℕ → Fault → Result S Fault → Type 0
Tells first last f (Ok s) = (f.kind ≡ kinds.Memory) × (first ≤ f.line) × (f.line ≤ last)
Tells first last f (Err g) = (f ≡ g) ⊎ ((f.kind ≡ kinds.Memory) × (first ≤ f.line) × (f.line < g.line))

-- what is read of lines is what they say, or the fault is told
abbrev pub Reads : {S : Type 0} → Result S Fault → Result S Fault → ℕ → ℕ → Type 0
Reads (Ok s) said first last = said ≡ Ok s
Reads (Err f) said first last = Tells first last f said

-- The first line that has a fault: there is none before it, and it has this one.
pub record IsFirstFault {S : Type 0} (line : S → List ℕ → Result S FaultKind) (s : S) (first : ℕ) (ls : List (List ℕ)) (f : Fault) : Type 0 where
  pub before : List (List ℕ)
  pub faulty : List ℕ
  pub behind : List (List ℕ)
  pub state : S
  pub cut : ls ≡ before ++ faulty ∷ behind
  pub sound : read_from line s first before ≡ Ok state
  pub fault : line state faulty ≡ Err f.kind
  pub number : f.line ≡ first + length before
