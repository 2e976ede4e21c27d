-- Steps of a scenario, taken in turn.
use Rattle.std.specs.Prelude.{◌≡◌, ℕ, List, [], ◌∷◌, unwrap_or}
use Rattle.sk_play.specs.Base.{Declared, Call, TRACE_LIMIT, KERNEL_NUMBER, KernelView, booted, CallAnswer}
use Rattle.sk_play.specs.Session.{AnswerMatches, held_after}

-- the kernel that a scenario declares: number 1 and a trace of 1,000,000 where it names none
abbrev pub declared_kernel : Declared → KernelView
declared_kernel d = booted (unwrap_or d.number KERNEL_NUMBER) d.boot (unwrap_or d.limit TRACE_LIMIT)

-- from these held guesses and this kernel on, the steps are answered so in turn, which leaves those guesses held and that kernel
abbrev pub Plays : List Call → List CallAnswer → List ℕ → KernelView → List ℕ → KernelView → Type 0
Plays [] [] held kernel left last = (left ≡ held) × (last ≡ kernel)
Plays (s ∷ steps) (a ∷ answers) held kernel left last =
    (next : KernelView) × AnswerMatches a s held kernel next × Plays steps answers (held_after a s held) next left last
Plays _ _ held kernel left last = ⊥
