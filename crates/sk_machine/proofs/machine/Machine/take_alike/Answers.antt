-- What depends on just what its process does leaves the lists as they are.
use Rattle.sk_machine.proofs.Names.{Ok, None, refl, ◌∙◌, subst, sym, input_in, AllExact, tags_in, Parts, CanTake}
use Rattle.sk_machine.proofs.Names.{MergedTakes, machine_of, plain, the_view, IsOrdered, undo_state_of}
use Rattle.sk_machine.proofs.AsProcess.{exact_either, taken_either}
use Rattle.sk_machine.proofs.Becomes.{with_slots}
use Rattle.sk_machine.proofs.machine.Machine.take_alike.Goals as goal

pub set_alike-requires-clause-order : goal.set_alike-requires-clause-order
set_alike-requires-clause-order c = subst (λ (q : Parts). IsOrdered (undo_state_of q)) (sym c.self.view_is) c.requires.order

pub invariant_of-self-2 : goal.invariant_of-self-2
invariant_of-self-2 c =
    let os = c.self.inside.guesses.opens in
    let p : Parts = record (the_view c.self.inside) { slots = c.set_alike.new.logs.slots } in
    let view = with_slots (the_view c.self.inside) p.slots c.set_alike.ensures.slots ∙ c.self.view_is in
    let can = subst (λ (q : Parts). CanTake q c.args.scripts.now c.args.pid (input_in c.args.input) c.args.plan.now) (sym view) c.requires in
    let alike = c.in_ok-alike.ensures.alike c.if-not-alike.false in (
      exact_either p c.args.scripts.now c.args.pid (input_in c.args.input) c.args.plan.now c.set_alike.new.logs.tags can alike
          (Ok c.in_ok-perform.field-0) c.perform.new.logs.slots c.self.inside.terminals c.perform.new.terminals c.in_ok-perform.ensures os
          (subst (λ k. AllExact (tags_in k) os) (sym c.set_alike.ensures.slots) c.self.invariant.0),
      c.self.invariant.1,
    )

pub returns-clause-takes : goal.returns-clause-takes
returns-clause-takes c = λ is.
    let scripts = c.args.scripts.now in
    let input = input_in c.args.input in
    let p : Parts = record (the_view c.self.inside) { slots = c.set_alike.new.logs.slots } in
    let b : Parts = record (the_view c.self.inside) { slots = c.perform.new.logs.slots; texts = c.perform.new.terminals } in
    let view = with_slots (the_view c.self.inside) p.slots c.set_alike.ensures.slots ∙ c.self.view_is in
    let can = subst (λ (q : Parts). CanTake q scripts c.args.pid input c.args.plan.now) (sym view) c.requires in
    let alike = c.in_ok-alike.ensures.alike c.if-not-alike.false in
    subst (λ (q : Parts). MergedTakes (plain scripts) (machine_of q) (record { pid = c.args.pid; input = input; guess = None }) (machine_of b)) view
    (taken_either p scripts c.args.pid input c.args.plan.now c.set_alike.new.logs.tags can alike (Ok c.in_ok-perform.field-0) b c.in_ok-perform.ensures refl refl).ok
