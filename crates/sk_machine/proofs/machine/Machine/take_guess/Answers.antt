-- What was performed, with the guess that was drawn, is what the machine takes.
use Rattle.sk_machine.proofs.Names.{◌≡◌, false, true, [], ◌∷◌, ◌++◌, List, Some, Ok, ap, refl, ◌∙◌, subst, sym, eq-eqb}
use Rattle.sk_machine.proofs.Names.{has, perform, numbers, step_tags, MergedTakes, with_entities, drawn, next_of}
use Rattle.sk_machine.proofs.Names.{OpenGuess, opens_of, entity_cmp, Entity, input_in, EntryView, look_at, act, plain}
use Rattle.sk_machine.proofs.Names.{effect_of, writes_of, seen_with, written_in, written_is, changed_are}
use Rattle.sk_machine.proofs.Names.{AllAlmostExact, AllExact, Covers, tags_in, Parts, machine_of, planned_effect}
use Rattle.sk_machine.proofs.Names.{undo_state_of, entities_of, the_view, CanPerformWith, IsOrdered}
use Rattle.sk_machine.proofs.Names.{marks}
use Rattle.sk_machine.proofs.Given.{for_err, from_ok, from_err}
use Rattle.sk_machine.proofs.Tags.{front_rises}
use Rattle.sk_machine.proofs.Becomes.{same_parts, takes_guess}
use Rattle.sk_machine.proofs.Joins.{can_perform}
use Rattle.sk_machine.proofs.Listed.{fresh, guessed_exact, more_opens, not_known, unperformed}
use Rattle.sk_machine.proofs.machine.Machine.take_guess.Goals as goal

pub depend_all-requires-clause-order : goal.depend_all-requires-clause-order
depend_all-requires-clause-order c =
    let rising = front_rises (numbers c.args.self.now.opens) (marks (Some (next_of c.args.self.now.guesses))) c.requires.rising in
    subst (λ (m : Parts). IsOrdered (undo_state_of m)) (sym c.self.view_is) (record { tidy = c.requires.tidy; rising = rising })

pub depend_all-requires-clause-covers : goal.depend_all-requires-clause-covers
depend_all-requires-clause-covers c =
    subst (λ (es : List Entity). Covers c.in_ok-tags.tags es (tags_in c.self.inside.logs.slots)) (sym (c.as_slice-entities.ensures.value ∙ c.put_written.ensures))
    (subst (λ (m : Parts). Covers c.in_ok-tags.tags (written_in c.args.pid c.args.plan.now) (tags_in m.slots)) (sym c.self.view_is) c.in_ok-tags.ensures.covers)

pub perform_guess-performed-requires : goal.perform_guess-performed-requires
perform_guess-performed-requires c =
    let n : EntryView = record { pid = c.args.pid; input = (input_in c.args.input); guess = Some c.in-Some.id } in
    subst (λ (m : Parts). CanPerformWith m.slots c.in_ok-tags.tags c.args.scripts.now n.pid n.input c.args.plan.now) (sym c.self.view_is)
    (can_perform c.args.self.now c.args.scripts.now n c.args.plan.now c.in_ok-tags.tags c.requires.planned c.requires.tidy c.in_ok-tags.ensures.exact)

pub relieve_all-requires-clause-almost : goal.relieve_all-requires-clause-almost
relieve_all-requires-clause-almost c =
    let m = c.self.inside.logs.slots in
    let covers = subst (λ (es : List Entity). Covers c.in_ok-tags.tags es (tags_in m)) (sym (c.as_slice-entities.ensures.value ∙ c.put_written.ensures))
    (subst (λ (p : Parts). Covers c.in_ok-tags.tags (written_in c.args.pid c.args.plan.now) (tags_in p.slots)) (sym c.self.view_is) c.in_ok-tags.ensures.covers) in
    subst (AllAlmostExact (tags_in c.perform_guess-performed.new.logs.slots) c.as_slice-entities.result.now) (sym c.perform_guess-performed.ensures.opens)
    (unperformed m c.perform_guess-performed.new.logs.slots c.in_ok-tags.tags c.as_slice-entities.result.now (from_err c.perform_guess-performed.result c.if-is_err.ensures.value c.perform_guess-performed.ensures.did.unwritten) covers c.depend_all.new.guesses.opens c.in_ok-depend_all.ensures.ok)

pub invariant_of-self-2 : goal.invariant_of-self-2
invariant_of-self-2 c =
    let m = c.self.inside.logs.slots in
    let id = c.in-Some.id in
    let n : EntryView = record { pid = c.args.pid; input = (input_in c.args.input); guess = Some id } in
    let plan = seen_with (look_at m) c.args.scripts.now c.args.pid (input_in c.args.input) c.args.plan.now in
    let ws = writes_of (look_at m) c.args.pid plan in
    let es = c.as_slice-entities.result.now in
    let written : es ≡ entities_of ws = c.as_slice-entities.ensures.value ∙ c.put_written.ensures
    ∙ sym (written_is (look_at m) c.args.scripts.now c.args.pid (input_in c.args.input) c.args.plan.now) ∙ sym (changed_are (look_at m) c.args.pid plan) in
    let can = subst (λ (p : Parts). CanPerformWith p.slots c.in_ok-tags.tags c.args.scripts.now n.pid n.input c.args.plan.now) (sym c.self.view_is)
    (can_perform c.args.self.now c.args.scripts.now n c.args.plan.now c.in_ok-tags.tags c.requires.planned c.requires.tidy c.in_ok-tags.ensures.exact) in
    let did = from_ok c.perform_guess-performed.result c.if-is_err.ensures.value c.perform_guess-performed.ensures.did.writes in
    let view = c.perform_guess-performed.ensures.view ∙ c.depend_all.ensures.view in
    let next : next_of c.perform_guess-performed.new.guesses.view ≡ id = ap next_of view ∙ sym c.in-Some.ensures.value in
    let o : OpenGuess Entity = record { id = next_of c.perform_guess-performed.new.guesses.view; tags = c.in_ok-own_tags.own_tags; dependents = with_entities entity_cmp [] es } in
    let own : has o.id c.in_ok-tags.tags ≡ true = ap (λ k. has k c.in_ok-tags.tags) next ∙ c.in_ok-tags.ensures.own id (eq-eqb id id refl) in
    let none : (e : Entity) → has o.id (tags_in m e) ≡ false = λ e.
    ap (λ k. has k (tags_in m e)) (next ∙ c.in-Some.ensures.value)
    ∙ subst (λ (p : Parts). has (next_of c.self.inside.guesses.view) (tags_in p.slots e) ≡ false) (sym c.self.view_is)
    (not_known c.args.self.now c.requires.tidy (next_of c.self.inside.guesses.view) (subst (λ (p : Parts). has (next_of p.guesses) (numbers c.args.self.now.opens) ≡ false) (sym c.self.view_is) (fresh (numbers c.args.self.now.opens) (next_of c.args.self.now.guesses) c.requires.rising)) e) in (
      subst (AllExact (tags_in c.perform_guess-performed.new.logs.slots)) (sym (c.draw_reserved.ensures.opens ∙ ap (λ os. os ++ o ∷ []) c.perform_guess-performed.ensures.opens))
          (guessed_exact m c.perform_guess-performed.new.logs.slots c.in_ok-tags.tags es ws o written can.clean did refl own none c.depend_all.new.guesses.opens c.in_ok-depend_all.ensures.ok),
      c.self.invariant.1,
    )

pub returns-in_err-depend_all-clause-err : goal.returns-in_err-depend_all-clause-err
returns-in_err-depend_all-clause-err c =
    let new : Parts = record (the_view c.self.inside) { opens = opens_of c.depend_all.new.guesses.opens; guesses = c.depend_all.new.guesses.view } in
    for_err c.from_residual-in_err-depend_all.result (same_parts new (the_view c.self.inside) refl c.depend_all.ensures.opens c.depend_all.ensures.view refl ∙ c.self.view_is)

pub returns-then-is_err-clause-err : goal.returns-then-is_err-clause-err
returns-then-is_err-clause-err c =
    let opens = c.relieve_all.ensures.opens ∙ ap opens_of c.perform_guess-performed.ensures.opens ∙ c.depend_all.ensures.opens in
    let guesses = c.relieve_all.ensures.view ∙ c.perform_guess-performed.ensures.view ∙ c.depend_all.ensures.view in
    let slots = from_err c.perform_guess-performed.result c.if-is_err.ensures.value c.perform_guess-performed.ensures.did.unwritten in
    let texts = from_err c.perform_guess-performed.result c.if-is_err.ensures.value c.perform_guess-performed.ensures.did.unsaid in
    let new : Parts = record { slots = c.perform_guess-performed.new.logs.slots; opens = opens_of c.relieve_all.new.guesses.opens; guesses = c.relieve_all.new.guesses.view; texts = c.perform_guess-performed.new.terminals } in
    same_parts new (the_view c.self.inside) slots opens guesses texts ∙ c.self.view_is

pub returns-clause-ok : goal.returns-clause-ok
returns-clause-ok c =
    let scripts = c.args.scripts.now in
    let plan = c.args.plan.now in
    let id = c.in-Some.id in
    let n : EntryView = record { pid = c.args.pid; input = (input_in c.args.input); guess = Some id } in
    let a : Parts = the_view c.self.inside in
    let b : Parts = record { slots = c.perform_guess-performed.new.logs.slots; opens = opens_of c.draw_reserved.new.self.opens; guesses = c.draw_reserved.new.self.view; texts = c.perform_guess-performed.new.terminals } in
    let accepted = subst (λ (p : Parts). perform (look_at p.slots) (act scripts n.pid n.input) ≡ Ok (effect_of (look_at p.slots) n.pid n.input (seen_with (look_at p.slots) scripts n.pid n.input plan))) (sym c.self.view_is) c.requires.planned.accepted in
    let tags = subst (λ (p : Parts). c.in_ok-tags.tags ≡ step_tags (undo_state_of p) (planned_effect p n (seen_with (look_at p.slots) scripts n.pid n.input plan))) (sym c.self.view_is) c.in_ok-tags.ensures.exact in
    let view = c.perform_guess-performed.ensures.view ∙ c.depend_all.ensures.view in
    let next : next_of c.perform_guess-performed.new.guesses.view ≡ id = ap next_of view ∙ sym c.in-Some.ensures.value in
    let opens : b.opens ≡ a.opens ++ (id, c.in_ok-tags.tags) ∷ [] =
    ap opens_of c.draw_reserved.ensures.opens ∙ more_opens c.perform_guess-performed.new.guesses.opens _
    ∙ (λ i. (ap opens_of c.perform_guess-performed.ensures.opens ∙ c.depend_all.ensures.opens) i ++ (next i, c.in_ok-own_tags.ensures i) ∷ []) in
    let guesses = c.draw_reserved.ensures.view ∙ ap drawn view in
    subst (λ (p : Parts). MergedTakes (plain scripts) (machine_of p) (record { pid = n.pid; input = n.input; guess = Some (next_of p.guesses) }) (machine_of b)) c.self.view_is
    (takes_guess scripts a b n.pid n.input id (seen_with (look_at a.slots) scripts n.pid n.input plan) c.in_ok-tags.tags c.in-Some.ensures.value accepted tags (from_ok c.perform_guess-performed.result c.if-is_err.ensures.value c.perform_guess-performed.ensures.did.writes) opens
    (from_ok c.perform_guess-performed.result c.if-is_err.ensures.value c.perform_guess-performed.ensures.did.says) guesses)
