-- The plan tells why the plain kernel refuses the guess's step, and the guesses whether one can be drawn.
use Rattle.sk_kernel.proofs.Names.{◌≡◌, true, false, Some, None, refl, sym, ◌∙◌, subst, EntryView, input_in, TooMany}
use Rattle.sk_kernel.proofs.Names.{KernelView, effect_at, or_else, guess_misfits, too_many, next_guess, the_view}
use Rattle.sk_kernel.proofs.Refusals.{guess_why}
use Rattle.sk_kernel.proofs.kernel.Kernel.guess_refusal.Goals as goal

pub returns-in-Err-clause-exact : goal.returns-in-Err-clause-exact
returns-in-Err-clause-exact c =
    let n : EntryView = record { pid = c.args.pid; input = input_in c.args.input; guess = Some (next_guess c.args.self.now) } in
    subst (λ (k : KernelView). Some c.in-Err.why ≡ or_else (guess_misfits n.input (effect_at k n)) (too_many k)) c.self.view_is
    (sym (guess_why (the_view c.self.inside) c.self.inside.machine c.self.inside.trace.room c.self.invariant.0 n (Some c.in-Err.why) c.in-Err.ensures.0 _ refl))

pub returns-then-is_full-clause-exact : goal.returns-then-is_full-clause-exact
returns-then-is_full-clause-exact c =
    let n : EntryView = record { pid = c.args.pid; input = input_in c.args.input; guess = Some (next_guess c.args.self.now) } in
    subst (λ (k : KernelView). Some TooMany ≡ or_else (guess_misfits n.input (effect_at k n)) (too_many k)) c.self.view_is
    (sym (guess_why (the_view c.self.inside) c.self.inside.machine c.self.inside.trace.room c.self.invariant.0 n None c.in_default.ensures.1 true (sym c.is_full.ensures ∙ c.if-is_full.true)))

pub returns-clause-exact : goal.returns-clause-exact
returns-clause-exact c =
    let n : EntryView = record { pid = c.args.pid; input = input_in c.args.input; guess = Some (next_guess c.args.self.now) } in
    subst (λ (k : KernelView). None ≡ or_else (guess_misfits n.input (effect_at k n)) (too_many k)) c.self.view_is
    (sym (guess_why (the_view c.self.inside) c.self.inside.machine c.self.inside.trace.room c.self.invariant.0 n None c.in_default.ensures.1 false (sym c.is_full.ensures ∙ c.if-is_full.false)))
