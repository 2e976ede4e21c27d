-- The plan's entities are those of the effect that the plain kernel has there.
use Rattle.sk_kernel.proofs.Names.{◌≡◌, None, Ok, Err, sym, ◌∙◌, ap, subst, EntryView, input_in, look_at, read_by}
use Rattle.sk_kernel.proofs.Names.{seen_with, asked, changed_are, written_is, KernelView, effect_at, footprint_of}
use Rattle.sk_kernel.proofs.Names.{the_view}
use Rattle.sk_kernel.proofs.Whole.{same_effect}
use Rattle.sk_kernel.proofs.kernel.Kernel.footprint.Goals as goal

pub returns-in-Ok : goal.returns-in-Ok
returns-in-Ok c =
    let n : EntryView = record { pid = c.args.pid; input = input_in c.args.input; guess = None } in
    let look = look_at c.self.inside.machine.slots in
    let scripts = c.self.inside.opening.start.scripts in
    let plan = seen_with look scripts n.pid n.input c.in-Ok.plan in
    let same = same_effect (the_view c.self.inside) c.self.inside.machine c.self.invariant.0.stands n in
    let planned = ap footprint_of (sym same ∙ c.in-Ok.ensures.plans)
    ∙ (λ i. Ok (record { reads = asked look (read_by n.pid n.input plan.looks) i; writes = (changed_are look n.pid plan ∙ written_is look scripts n.pid n.input c.in-Ok.plan) i })) in
    subst (λ (k : KernelView). Ok (record { reads = c.reads.result; writes = c.writes.result }) ≡ footprint_of (effect_at k n)) c.self.view_is
    ((λ i. Ok (record { reads = c.reads.ensures i; writes = c.writes.ensures i })) ∙ sym planned)

pub returns-in-Err : goal.returns-in-Err
returns-in-Err c =
    let n : EntryView = record { pid = c.args.pid; input = input_in c.args.input; guess = None } in
    let same = same_effect (the_view c.self.inside) c.self.inside.machine c.self.invariant.0.stands n in
    subst (λ (k : KernelView). Err c.in-Err.why ≡ footprint_of (effect_at k n)) c.self.view_is (sym (ap footprint_of (sym same ∙ c.in-Err.ensures.plans)))
