-- What a line says, or the first of its faults.
use Rattle.std.specs.Prelude.{Result, Ok, Err}
use Rattle.sk_words.specs.declared.fault.FaultKind.{FaultKind}

-- what is said by the second where the first says something, else the first's fault
infixl 10 ◌>>=◌
abbrev pub ◌>>=◌ : {A B : Type 0} → Result A FaultKind → (A → Result B FaultKind) → Result B FaultKind
(Ok x) >>= f = f x
(Err e) >>= f = Err e
