-- What is written is listed for the guesses that it depends on, and is what is handed in.
use Rattle.sk_machine.proofs.Names.{◌≡◌, [], ◌∷◌, ◌∙◌, List, Some, refl, sym, subst, Entity, Proc, opens_of, IsProcess}
use Rattle.sk_machine.proofs.Names.{look_at, Covers, tags_in, HandsInProcess, Parts, IsClean, entities_of}
use Rattle.sk_machine.proofs.Names.{the_view, IsOrdered, undo_state_of, machine_of, alone_tags, alone_reads, plain, Scripts}
use Rattle.std.specs.FinMap as map
use Rattle.sk_store.specs.declared.entity_state.EntityState.TheVariants as stored
use Rattle.sk_machine.proofs.Given.{for_err, from_ok, from_err}
use Rattle.sk_machine.proofs.Becomes.{same_parts}
use Rattle.sk_machine.proofs.Listed.{performed_exact, unperformed}
use Rattle.sk_machine.proofs.Alone.{clean_alone, hands_in}
use Rattle.sk_machine.proofs.machine.Machine.hand_in.Goals as goal

pub depend_all-requires-clause-order : goal.depend_all-requires-clause-order
depend_all-requires-clause-order c =
    subst (λ (m : Parts). IsOrdered (undo_state_of m)) (sym c.self.view_is) c.requires.order

pub depend_all-requires-clause-covers : goal.depend_all-requires-clause-covers
depend_all-requires-clause-covers c =
    subst (λ (es : List Entity). Covers c.in_ok-tags.tags es (tags_in c.self.inside.logs.slots)) (sym c.from_ref-entities.ensures.value)
    (subst (λ (m : Parts). Covers c.in_ok-tags.tags (Proc c.args.pid ∷ []) (tags_in m.slots)) (sym c.self.view_is) c.in_ok-tags.ensures.covers)

pub set_process-requires-clause-there : goal.set_process-requires-clause-there
set_process-requires-clause-there c =
    subst (λ (m : Parts). IsProcess (look_at m.slots (Proc c.args.pid))) (sym c.self.view_is) c.requires.there

pub set_process-requires-clause-clean : goal.set_process-requires-clause-clean
set_process-requires-clause-clean c =
    subst (λ (m : Parts). IsClean m.slots c.in_ok-tags.tags (Proc c.args.pid ∷ [])) (sym c.self.view_is)
    (clean_alone c.args.self.now c.args.pid map.empty c.in_ok-tags.tags c.requires.order.tidy (c.in_ok-tags.ensures.alone map.empty))

pub relieve_all-requires-clause-almost : goal.relieve_all-requires-clause-almost
relieve_all-requires-clause-almost c =
    let m = c.self.inside.logs.slots in
    let covers = subst (λ (es : List Entity). Covers c.in_ok-tags.tags es (tags_in m)) (sym c.from_ref-entities.ensures.value)
    (subst (λ (p : Parts). Covers c.in_ok-tags.tags (Proc c.args.pid ∷ []) (tags_in p.slots)) (sym c.self.view_is) c.in_ok-tags.ensures.covers) in
    unperformed m c.set_process.new.logs.slots c.in_ok-tags.tags c.from_ref-entities.result.now (from_err c.set_process.result c.if-is_err.ensures.value c.set_process.ensures.err) covers c.depend_all.new.guesses.opens c.in_ok-depend_all.ensures.ok

pub invariant_of-self-else-is_err : goal.invariant_of-self-else-is_err
invariant_of-self-else-is_err c =
    let m = c.self.inside.logs.slots in
    let ws = (Proc c.args.pid, Some (stored.Process c.args.process.now)) ∷ [] in
    let written : c.from_ref-entities.result.now ≡ entities_of ws = c.from_ref-entities.ensures.value in
    let clean = subst (λ (p : Parts). IsClean p.slots c.in_ok-tags.tags (Proc c.args.pid ∷ [])) (sym c.self.view_is)
    (clean_alone c.args.self.now c.args.pid map.empty c.in_ok-tags.tags c.requires.order.tidy (c.in_ok-tags.ensures.alone map.empty)) in
    let did = from_ok c.set_process.result c.if-is_err.ensures.value c.set_process.ensures.ok in
    (performed_exact m c.set_process.new.logs.slots c.in_ok-tags.tags c.from_ref-entities.result.now ws written clean did c.depend_all.new.guesses.opens c.in_ok-depend_all.ensures.ok, c.self.invariant.1)

pub returns-in_err-depend_all-clause-err : goal.returns-in_err-depend_all-clause-err
returns-in_err-depend_all-clause-err c =
    let new : Parts = record (the_view c.self.inside) { opens = opens_of c.depend_all.new.guesses.opens; guesses = c.depend_all.new.guesses.view } in
    for_err c.from_residual-in_err-depend_all.result (same_parts new (the_view c.self.inside) refl c.depend_all.ensures.opens c.depend_all.ensures.view refl ∙ c.self.view_is)

pub returns-then-is_err-clause-err : goal.returns-then-is_err-clause-err
returns-then-is_err-clause-err c =
    let opens = c.relieve_all.ensures.opens ∙ c.depend_all.ensures.opens in
    let guesses = c.relieve_all.ensures.view ∙ c.depend_all.ensures.view in
    let slots = from_err c.set_process.result c.if-is_err.ensures.value c.set_process.ensures.err in
    let new : Parts = record { slots = c.set_process.new.logs.slots; opens = opens_of c.relieve_all.new.guesses.opens; guesses = c.relieve_all.new.guesses.view; texts = c.self.inside.terminals } in
    same_parts new (the_view c.self.inside) slots opens guesses refl ∙ c.self.view_is

pub returns-clause-ok : goal.returns-clause-ok
returns-clause-ok c =
    let a : Parts = the_view c.self.inside in
    let b : Parts = record { slots = c.set_process.new.logs.slots; opens = opens_of c.depend_all.new.guesses.opens; guesses = c.depend_all.new.guesses.view; texts = c.self.inside.terminals } in
    let tags : (scripts : Scripts) → c.in_ok-tags.tags ≡ alone_tags (plain scripts) (machine_of a) (Proc c.args.pid) (alone_reads c.args.pid) =
    subst (λ (p : Parts). (scripts : Scripts) → c.in_ok-tags.tags ≡ alone_tags (plain scripts) (machine_of p) (Proc c.args.pid) (alone_reads c.args.pid)) (sym c.self.view_is) c.in_ok-tags.ensures.alone in
    subst (λ (p : Parts). HandsInProcess p c.args.pid c.args.process.now b) c.self.view_is
    (λ scripts. hands_in scripts a b c.args.pid c.args.process.now c.in_ok-tags.tags (tags scripts) (from_ok c.set_process.result c.if-is_err.ensures.value c.set_process.ensures.ok) c.depend_all.ensures.opens c.depend_all.ensures.view refl)
