-- What is appended to a trace, and that it was foreseen.
use Rattle.sk_kernel.proofs.Names.{◌≡◌, ℕ, List, [], ◌∷◌, ◌++◌, length, Option, Some, None, refl, sym, ap, subst, ◌∙◌}
use Rattle.sk_kernel.proofs.Names.{arith, slice_get, slice_get_past, Input, Event, KernelView, with_event, appended}
use Rattle.std.specs.Prelude.{⊤}
use Rattle.sk_trace.specs.declared.event.Event.TheVariants as events

behind : {X : Type 0} (xs : List X) (x : X) → slice_get (xs ++ x ∷ []) (length xs) ≡ Some x
behind [] x = refl
behind (y ∷ ys) x = behind ys x

-- an event that takes a step takes it of this process with this input
abbrev pub IsForeseen : Option (ℕ × Input) → Option Event → Type 0
IsForeseen upcoming (Some (events.Step pid input)) = upcoming ≡ Some (pid, input)
IsForeseen upcoming (Some (events.Guess id pid input)) = upcoming ≡ Some (pid, input)
IsForeseen upcoming _ = ⊤

-- a kernel that stays as it is appends nothing
pub unchanged_foreseen : (upcoming : Option (ℕ × Input)) (k new : KernelView) → new ≡ k → IsForeseen upcoming (appended k new)
unchanged_foreseen upcoming k new is =
    let nothing : appended k new ≡ None = ap (λ (n : KernelView). appended k n) is ∙ slice_get_past k.trace (length k.trace) (omega arith) in
    subst (IsForeseen upcoming) (sym nothing) tt

-- and one with one event more that event
pub appended_foreseen : (upcoming : Option (ℕ × Input)) (k new : KernelView) (e : Event) → new ≡ with_event k e → IsForeseen upcoming (Some e) → IsForeseen upcoming (appended k new)
appended_foreseen upcoming k new e is foreseen =
    let one : appended k new ≡ Some e = ap (λ (n : KernelView). appended k n) is ∙ behind k.trace e in
    subst (IsForeseen upcoming) (sym one) foreseen
