-- What is left is spent by failures alone, and nothing fails where no guess is undecided; then a new epoch begins.
use Rattle.sk_kernel.proofs.Names.{Some, subst, Ok, ◌∷◌, Err, ◌≡◌, Option, List, ap, ◌++◌, length, append_assoc, ℕ}
use Rattle.sk_kernel.proofs.Names.{sym, None, Result, [], ◌∙◌, map, true≢false, append-nil, map-append}
use Rattle.sk_kernel.proofs.Names.{nil_from_length, IfErr, HolderView, DecidesPost, FailsSome, BeginsPost, EpochPost}
use Rattle.sk_kernel.proofs.Names.{with_event, undecided_at, KernelView, EpochRefusal, Outcome, has, TerminalMap}
use Rattle.sk_kernel.proofs.Names.{TraceView, Event}
use Rattle.sk_trace.specs.declared.event.Event.TheVariants as events
use Rattle.sk_kernel.specs.declared.kernel.EpochRefusal.TheVariants as refusals
use Rattle.sk_kernel.specs.declared.kernel.Outcome.TheVariants as outcomes

pub none_failed : (k : KernelView) → FailsSome k k
none_failed k = ([], λ i. record k { trace = sym (append-nil k.trace) i })

pub spent : (start : KernelView) (old new : HolderView) (id : ℕ) (result : Option Outcome) → FailsSome start old.kernel → DecidesPost result (events.Fail id) id old new → FailsSome start new.kernel
spent start old new id None before d = (before.0, ap (λ (h : HolderView). h.kernel) d.1 ∙ before.1)
spent start old new id (Some outcomes.Gone) before d = (before.0, ap (λ (h : HolderView). h.kernel) d.3 ∙ before.1)
spent start old new id (Some outcomes.Done) before d = (
  before.0 ++ id ∷ [],
  ap (λ (h : HolderView). h.kernel) d.3
      ∙ ap (λ (k : KernelView). with_event k (events.Fail id)) before.1
      ∙ ap (λ (es : List Event). record start { trace = es }) (append_assoc start.trace (map events.Fail before.0) (events.Fail id ∷ [])
      ∙ ap (λ (es : List Event). start.trace ++ es) (sym (map-append events.Fail before.0 (id ∷ [])))),
)

pub kernel_stays : (start : KernelView) (old new : HolderView) (id : ℕ) (result : Option Outcome) → undecided_at start ≡ [] → old.kernel ≡ start → DecidesPost result (events.Fail id) id old new
    → new.kernel ≡ start
kernel_stays start old new id None none here d = ap (λ (h : HolderView). h.kernel) d.1 ∙ here
kernel_stays start old new id (Some outcomes.Gone) none here d = ap (λ (h : HolderView). h.kernel) d.3 ∙ here
kernel_stays start old new id (Some outcomes.Done) none here d =
    absurd (true≢false (sym d.2 ∙ ap (λ (k : KernelView). has id (undecided_at k)) here ∙ ap (has id) none))

pub begins : (result : Result (TraceView × TerminalMap) EpochRefusal) (old mid new : HolderView) → length (undecided_at old.kernel) ≡ 0 → mid.held ≡ []
    → (undecided_at old.kernel ≡ [] → mid.kernel ≡ old.kernel) → EpochPost result mid.kernel new.kernel → IfErr result (λ why. why ≡ refusals.Memory) → new.held ≡ [] → BeginsPost result old new
begins (Ok left) old mid new few spent struck h memory held =
    (subst (λ (k : KernelView). EpochPost (Ok left) k new.kernel) (struck (nil_from_length _ few)) h, held)
begins (Err (refusals.Undecided n)) old mid new few spent struck h memory held = absurd (let bad : refusals.Undecided n ≡ refusals.Memory = memory in cc)
begins (Err refusals.Memory) old mid new few spent struck h memory held =
    let none = nil_from_length (undecided_at old.kernel) few in
    (none, λ i. record { kernel = (h.1 ∙ struck none) i; held = held i })
