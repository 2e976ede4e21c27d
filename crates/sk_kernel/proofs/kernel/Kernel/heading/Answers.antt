-- What is looked up is the run of the trace's record, and a directory that is full makes no difference.
use Rattle.sk_kernel.proofs.Names.{◌≡◌, Option, Some, None, Result, Ok, Err, refl, sym, ap, ◌∙◌}
use Rattle.sk_kernel.proofs.Names.{look_at, KernelView, Refusal, state_at, effect_at, no_room, or_full, the_view}
use Rattle.std.specs.FinMap as map
use Rattle.sk_plain.specs.Next.{next_of, unplanned}
use Rattle.sk_plain.specs.declared.next.Next.{Next}
use Rattle.sk_plain.specs.declared.next.Next.TheVariants as nexts
use Rattle.sk_script.specs.declared.instruction.Input.TheVariants as inputs
use Rattle.sk_kernel.proofs.Whole.{look_is}
use Rattle.sk_kernel.proofs.kernel.Kernel.heading.Goals as goal

unfilled : (full : Option Refusal) (r : Result Next Refusal) → unplanned (or_full full r) ≡ unplanned r
unfilled full (Err why) = refl
unfilled full (Ok nexts.Signal) = refl
unfilled full (Ok (nexts.Fetch name)) = refl
unfilled full (Ok (nexts.Store name)) = refl
unfilled full (Ok nexts.Private) = refl
unfilled full (Ok nexts.Waits) = refl
unfilled full (Ok nexts.Full) = refl
unfilled None (Ok nexts.Other) = refl
unfilled (Some why) (Ok nexts.Other) = refl

pub returns : goal.returns
returns c =
    let k = the_view c.self.inside in
    c.heading_of.ensures
    ∙ ap (λ scripts. unplanned (next_of (λ e. look_at c.self.inside.machine.slots e) scripts c.args.pid)) c.scripts.ensures
    ∙ (λ i. unplanned (next_of (λ e. look_is k c.self.inside.machine c.self.invariant.0.stands e i) c.self.inside.opening.start.scripts c.args.pid))
    ∙ ap (λ (k : KernelView). unplanned (next_of (map.get (state_at k)) k.scripts c.args.pid)) c.self.view_is
    ∙ sym (unfilled (no_room (state_at c.args.self.now) (effect_at c.args.self.now (record { pid = c.args.pid; input = inputs.None; guess = None }))) (next_of (map.get (state_at c.args.self.now)) c.args.self.now.scripts c.args.pid))
