-- What its step reads depends on what it depends on, and its log stays as it is.
use Rattle.sk_machine.proofs.Names.{◌≡◌, true, false, None, Some, refl, sym, ◌∙◌, subst, MergedTakes, Proc, input_in}
use Rattle.sk_machine.proofs.Names.{look_at, slot_in, on_many, next_in, process_in, plain, AllExact, IsEnough, tags_in}
use Rattle.sk_machine.proofs.Names.{Parts, machine_of, CanTake, the_view}
use Rattle.std.specs.FinMap as map
use Rattle.sk_machine.proofs.GoingOn.{by_next, went_exact, went_on}
use Rattle.sk_machine.proofs.machine.Machine.go_on.Goals as goal

pub invariant_of-self : goal.invariant_of-self
invariant_of-self c =
    let scripts = c.args.scripts.now in
    let input = input_in c.args.input in
    let p : Parts = the_view c.self.inside in
    let os = c.self.inside.guesses.opens in
    let can = subst (CanTake p scripts c.args.pid input) c.requires.next.private (subst (λ (q : Parts). CanTake q scripts c.args.pid input c.args.plan.now) (sym c.self.view_is) c.requires.step) in
    let next = subst (λ (q : Parts). next_in scripts (process_in (look_at q.slots (Proc c.args.pid))) ≡ Some c.args.instruction.now) (sym c.self.view_is) c.requires.next.next in
    let enough = subst (λ (q : Parts). IsEnough c.in-Some.least c.args.pid q.slots) (sym c.self.view_is) c.in-Some.ensures in (
      elim c.go_on.result as (λ b. c.go_on.result ≡ b → AllExact (tags_in c.go_on.new.self.slots) os) [
        | true ↦ λ is.
            let many = on_many c.in-Some.least (slot_in (map.get p.slots (Proc c.args.pid))).log (sym c.go_on.ensures.exact ∙ is) in
            went_exact p scripts c.args.pid input can c.go_on.ensures.rising (enough many c.go_on.ensures.rising) c.go_on.new.self.slots
            (by_next p scripts c.args.pid c.args.instruction.now next c.go_on.new.self.slots (c.go_on.ensures.wrote is)) os c.self.invariant.0
        | false ↦ λ no. subst (λ k. AllExact (tags_in k) os) (sym (c.go_on.ensures.same no)) c.self.invariant.0
      ] refl,
      c.self.invariant.1,
    )

pub returns-clause-takes : goal.returns-clause-takes
returns-clause-takes c = λ is.
    let scripts = c.args.scripts.now in
    let input = input_in c.args.input in
    let p : Parts = the_view c.self.inside in
    let b : Parts = record p { slots = c.go_on.new.self.slots } in
    let can = subst (CanTake p scripts c.args.pid input) c.requires.next.private (subst (λ (q : Parts). CanTake q scripts c.args.pid input c.args.plan.now) (sym c.self.view_is) c.requires.step) in
    let next = subst (λ (q : Parts). next_in scripts (process_in (look_at q.slots (Proc c.args.pid))) ≡ Some c.args.instruction.now) (sym c.self.view_is) c.requires.next.next in
    let enough = subst (λ (q : Parts). IsEnough c.in-Some.least c.args.pid q.slots) (sym c.self.view_is) c.in-Some.ensures in
    let many = on_many c.in-Some.least (slot_in (map.get p.slots (Proc c.args.pid))).log (sym c.go_on.ensures.exact ∙ is) in
    subst (λ (q : Parts). MergedTakes (plain scripts) (machine_of q) (record { pid = c.args.pid; input = input; guess = None }) (machine_of b)) c.self.view_is
    (went_on p scripts c.args.pid input can c.go_on.ensures.rising (enough many c.go_on.ensures.rising) c.go_on.new.self.slots
    (by_next p scripts c.args.pid c.args.instruction.now next c.go_on.new.self.slots (c.go_on.ensures.wrote is)) b refl refl refl refl)
