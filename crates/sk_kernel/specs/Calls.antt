-- What the kernel's calls answer.
use Rattle.std.specs.Prelude.{◌≡◌, ℕ, ◌+◌, ◌<◌, ◌↔◌, List, [], length, map, Option, Some, None, Result, Ok, Err}
use Rattle.sk_kernel.specs.Base.{Undecided, Struck, released, IsDrawn, IsReleased, Token, TaggedText, waiting_of}
use Rattle.sk_kernel.specs.Base.{said_at, Input, Event, perform, Entity, ScriptMap, EntityState, plain, act, effect_of}
use Rattle.sk_kernel.specs.Base.{IsBeside, CanPerform, seen_with, Plan, cause, Refusal, Status, TraceView, TerminalMap}
use Rattle.sk_kernel.specs.Base.{released_at, EpochRefusal, Outcome, Stranger, FailRefusal}
use Rattle.sk_kernel.specs.Kernel.{KernelView, HasStatus, events_of, state_at, undecided_at, said_by_record, texts_at, last_guess, next_guess, with_event, guess_misfits}

-- a step is taken where no cause stands against it, and one event is appended; a refusal tells the first cause, and changes nothing
abbrev pub StepPost : Result (Unit {0}) Refusal → Option Refusal → Event → KernelView → KernelView → Type 0
StepPost (Ok u) refused event old new = (refused ≡ None) × (new ≡ with_event old event)
StepPost (Err why) refused event old new = (refused ≡ cause why) × (new ≡ old)

-- the number of the guess that is drawn is above each that was drawn before, and the guess is undecided
pub record IsNew (old new : KernelView) : Type 0 where
  pub above : (h : ℕ) → IsDrawn (plain old.scripts) (events_of old) h → h < next_guess old
  pub undecided : HasStatus new (next_guess old) Undecided

-- what a guess answers, whose token is of this kernel and of the next number
abbrev pub GuessPost : Result Token Refusal → Option Refusal → ℕ → Input → KernelView → KernelView → Type 0
GuessPost (Ok token) refused pid input old new =
    (refused ≡ None) × (token ≡ record { kernel = old.number; id = next_guess old }) × (new ≡ with_event old (Event.Guess (next_guess old) pid input)) × IsNew old new
GuessPost (Err why) refused pid input old new = (refused ≡ cause why) × (new ≡ old)

-- the plan of a guess with an input, or why it does not fit
abbrev pub PlansGuess : (Entity → Option EntityState) → ScriptMap → ℕ → Input → Result Plan Refusal → Type 0
PlansGuess look scripts pid input (Ok plan) =
    (perform look (act scripts pid input) ≡ Ok (effect_of look pid input (seen_with look scripts pid input plan))) × (guess_misfits input (perform look (act scripts pid input)) ≡ None)
    × CanPerform look scripts pid input plan × IsBeside pid (seen_with look scripts pid input plan).beside
PlansGuess look scripts pid input (Err why) = (guess_misfits input (perform look (act scripts pid input)) ≡ Some why) × (cause why ≡ Some why)

-- a token that is another kernel's, or whose guess is decided
abbrev pub IsStranger : KernelView → Token → Type 0
IsStranger k token = token.kernel ≡ k.number → (HasStatus k token.id Undecided → ⊥) × (HasStatus k token.id Struck → ⊥)

-- a decision of a token that is no stranger: its guess is undecided, and one event is appended, or it is struck, and nothing changes
abbrev pub DecisionPost : Outcome → Token → Event → KernelView → KernelView → Type 0
DecisionPost Outcome.Done token event old new = (token.kernel ≡ old.number) × HasStatus old token.id Undecided × (new ≡ with_event old event)
DecisionPost Outcome.Gone token event old new = (token.kernel ≡ old.number) × HasStatus old token.id Struck × (new ≡ old)

-- a commit, where a stranger comes back
abbrev pub CommitPost : Result Outcome Stranger → Token → KernelView → KernelView → Type 0
CommitPost (Ok outcome) token old new = DecisionPost outcome token (Event.Commit token.id) old new
CommitPost (Err stranger) token old new = IsStranger old token × (stranger.guess ≡ token) × (new ≡ old)

-- a failure, which takes no memory
abbrev pub FailPost : Result Outcome FailRefusal → Token → KernelView → KernelView → Type 0
FailPost (Ok outcome) token old new = DecisionPost outcome token (Event.Fail token.id) old new
FailPost (Err (FailRefusal.Stranger guess)) token old new = IsStranger old token × (guess ≡ token) × (new ≡ old)

-- the texts of a terminal: those that the record says to it, with what they depend on, of which the longest prefix that depends on no undecided guess is released, and the others wait
pub record ShowsTerminal (k : KernelView) (t : ℕ) (texts : List TaggedText) : Type 0 where
  pub said : said_at t texts ≡ texts_at k t
  pub all : map (λ x. x.0) (said_at t texts) ≡ said_by_record k t
  pub waiting : waiting_of texts + length (released (said_at t texts)) ≡ length (said_by_record k t)
  pub released : IsReleased (plain k.scripts) k.start (events_of k) t (released (said_at t texts))

-- the texts that a shut kernel leaves for a terminal: all that was said to it by the steps that count, and all of it is released
pub record LeavesTexts (k : KernelView) (t : ℕ) (texts : List (List ℕ)) : Type 0 where
  pub all : map (λ text. record { to = t; text = text }) texts ≡ map (λ said. said.0) (texts_at k t)
  pub released : IsReleased (plain k.scripts) k.start (events_of k) t (map (λ text. record { to = t; text = text }) texts)

-- the next epoch of a kernel: its state now becomes the start, its trace is empty, and each guess keeps its status
pub record IsNextEpoch (old new : KernelView) : Type 0 where
  pub view : new ≡ record { number = old.number; scripts = old.scripts; start = state_at old; limit = old.limit; earlier = new.earlier; trace = [] }
  pub drawn : length new.earlier ≡ last_guess old
  pub statuses : (id : ℕ) (s : Status) → HasStatus new id s ↔ HasStatus old id s

-- where no guess is undecided a new epoch begins, and what was done and released is handed out; else nothing changes
abbrev pub EpochPost : Result (TraceView × TerminalMap) EpochRefusal → KernelView → KernelView → Type 0
EpochPost (Ok left) old new =
    (undecided_at old ≡ []) × (left.0.events ≡ old.trace) × ((t : ℕ) → LeavesTexts old t (released_at left.1 t)) × IsNextEpoch old new
EpochPost (Err (EpochRefusal.Undecided n)) old new = (n ≡ length (undecided_at old)) × (0 < n) × (new ≡ old)
EpochPost (Err EpochRefusal.Memory) old new = (undecided_at old ≡ []) × (new ≡ old)
