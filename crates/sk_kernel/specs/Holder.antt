-- A kernel with the tokens of its guesses, as its callers see it, and what its calls answer.
use Rattle.std.specs.Prelude.{◌≡◌, ℕ, ◌<◌, length, true, false, List, [], ◌∷◌, ◌++◌, ◌==◌, map, Option, Some, None, Result, Ok, Err, refl, if◌then◌else◌}
use Rattle.sk_kernel.specs.Base.{Coded, code_by, coded×, coded_ℕ, coded_list, has, Undecided, Struck, Token, Input}
use Rattle.sk_kernel.specs.Base.{Event, cause, Refusal, TerminalMap, TraceView, EpochRefusal, Outcome}
use Rattle.sk_kernel.specs.Kernel.{KernelView, HasStatus, kernel_code, next_guess, undecided_at, with_event}
use Rattle.sk_kernel.specs.Calls.{EpochPost}
use Rattle.sk_kernel.specs.Laws.{with_events}

-- the kernel, and the guesses whose tokens are held, the oldest first
pub record HolderView : Type 0 where
  pub kernel : KernelView
  pub held : List ℕ

abbrev pub holder_code : Coded HolderView
holder_code =
    code_by (KernelView × List ℕ) (coded× kernel_code (coded_list coded_ℕ))
    (λ h. (h.kernel, h.held)) (λ p. record { kernel = p.0; held = p.1 }) (λ _. refl)

abbrev pub ids : List Token → List ℕ
ids ts = map (λ t. t.id) ts

-- the guesses but for the first of this number
abbrev pub but : ℕ → List ℕ → List ℕ
but id [] = []
but id (g ∷ gs) = if g == id then gs else g ∷ but id gs

-- a kernel of which no guess is undecided
abbrev pub holding : KernelView → HolderView
holding k = record { kernel = k; held = [] }

-- a guess is made and its token held, or the first cause against it is told and nothing changes
abbrev pub GuessesPost : Result ℕ Refusal → Option Refusal → ℕ → Input → HolderView → HolderView → Type 0
GuessesPost (Ok id) refused pid input old new =
    (refused ≡ None) × (id ≡ next_guess old.kernel)
    × (new ≡ record { kernel = with_event old.kernel (Event.Guess (next_guess old.kernel) pid input); held = old.held ++ next_guess old.kernel ∷ [] })
GuessesPost (Err why) refused pid input old new = (refused ≡ cause why) × (new ≡ old)

-- a guess is decided by its token: it was undecided, and the event happens, or it was struck, and the kernel stays; the token is spent
abbrev pub DecidesPost : Option Outcome → Event → ℕ → HolderView → HolderView → Type 0
DecidesPost None event id old new = (has id old.held ≡ false) × (new ≡ old)
DecidesPost (Some Outcome.Done) event id old new =
    (has id old.held ≡ true) × HasStatus old.kernel id Undecided × (has id (undecided_at old.kernel) ≡ true)
    × (new ≡ record { kernel = with_event old.kernel event; held = but id old.held })
DecidesPost (Some Outcome.Gone) event id old new =
    (has id old.held ≡ true) × HasStatus old.kernel id Struck × (has id (undecided_at old.kernel) ≡ false)
    × (new ≡ record { kernel = old.kernel; held = but id old.held })

-- only failures happened
abbrev pub FailsSome : KernelView → KernelView → Type 0
FailsSome old new = (failed : List ℕ) × (new ≡ with_events old (map Event.Fail failed))

-- where no guess is undecided a new epoch begins, with no token held; else nothing changes, but that where memory runs out the
-- tokens of struck guesses are let go
abbrev pub BeginsPost : Result (TraceView × TerminalMap) EpochRefusal → HolderView → HolderView → Type 0
BeginsPost (Ok left) old new = EpochPost (Ok left) old.kernel new.kernel × (new.held ≡ [])
BeginsPost (Err (EpochRefusal.Undecided n)) old new = (n ≡ length (undecided_at old.kernel)) × (0 < n) × (new ≡ old)
BeginsPost (Err EpochRefusal.Memory) old new = (undecided_at old.kernel ≡ []) × (new ≡ holding old.kernel)
