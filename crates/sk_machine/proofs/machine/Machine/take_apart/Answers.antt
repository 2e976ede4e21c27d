-- A step without tags writes only what has no notes; what was performed is what the machine takes, and every status stays.
use Rattle.sk_machine.proofs.Names.{◌≡◌, List, None, Ok, ap, refl, ◌∙◌, subst, sym, append-nil, perform, step_tags}
use Rattle.sk_machine.proofs.Names.{MergedTakes, Entity, status_since, input_in, EntryView, look_at, act, opens_of}
use Rattle.sk_machine.proofs.Names.{plain, effect_of, seen_with, written_in, written_is, changed_are, Covers, LogsView}
use Rattle.sk_machine.proofs.Names.{tags_in, Parts, machine_of, planned_effect, undo_state_of, planned_writes}
use Rattle.sk_machine.proofs.Names.{entities_of, the_view, CanPerformWith, HasPerformed, IsOrdered}
use Rattle.std.proofs.Common.{rules}
use Rattle.sk_machine.proofs.Given.{for_err, from_ok, from_err}
use Rattle.sk_machine.proofs.Becomes.{same_parts, takes_of}
use Rattle.sk_machine.proofs.Joins.{can_perform}
use Rattle.sk_machine.proofs.Listed.{performed_exact, unperformed}
use Rattle.sk_machine.proofs.machine.Machine.take_apart.Goals as goal

pub depend_all-requires-clause-order : goal.depend_all-requires-clause-order
depend_all-requires-clause-order c = subst (λ (m : Parts). IsOrdered (undo_state_of m)) (sym c.self.view_is) c.requires.order

pub depend_all-requires-clause-covers : goal.depend_all-requires-clause-covers
depend_all-requires-clause-covers c =
    subst (λ (es : List Entity). Covers c.in_ok-tags.tags es (tags_in c.self.inside.logs.slots)) (sym (c.as_slice-entities.ensures.value ∙ c.writes-written.ensures))
    (subst (λ (m : Parts). Covers c.in_ok-tags.tags (written_in c.args.pid c.args.plan.now) (tags_in m.slots)) (sym c.self.view_is) c.in_ok-tags.ensures.covers)

pub perform-requires : goal.perform-requires
perform-requires c =
    let n : EntryView = record { pid = c.args.pid; input = (input_in c.args.input); guess = None } in
    subst (λ (l : LogsView). CanPerformWith l.slots l.tags c.args.scripts.now n.pid n.input c.args.plan.now) (sym c.set_tags.ensures)
    (subst (λ (m : Parts). CanPerformWith m.slots c.in_ok-tags.tags c.args.scripts.now n.pid n.input c.args.plan.now) (sym c.self.view_is)
    (can_perform c.args.self.now c.args.scripts.now n c.args.plan.now c.in_ok-tags.tags c.requires.planned c.requires.order.tidy c.in_ok-tags.ensures.exact))

pub relieve_all-requires-clause-almost : goal.relieve_all-requires-clause-almost
relieve_all-requires-clause-almost c =
    let m = c.self.inside.logs.slots in
    let covers = subst (λ (es : List Entity). Covers c.in_ok-tags.tags es (tags_in m)) (sym (c.as_slice-entities.ensures.value ∙ c.writes-written.ensures))
    (subst (λ (p : Parts). Covers c.in_ok-tags.tags (written_in c.args.pid c.args.plan.now) (tags_in p.slots)) (sym c.self.view_is) c.in_ok-tags.ensures.covers) in
    unperformed m c.perform.new.logs.slots c.in_ok-tags.tags c.as_slice-entities.result.now
    (from_err c.perform.result c.if-is_err.ensures.value c.perform.ensures.unwritten ∙ ap (λ (l : LogsView). l.slots) c.set_tags.ensures) covers c.depend_all.new.guesses.opens c.in_ok-depend_all.ensures.ok

pub invariant_of-self-else-is_err : goal.invariant_of-self-else-is_err
invariant_of-self-else-is_err c =
    let m = c.self.inside.logs.slots in
    let n : EntryView = record { pid = c.args.pid; input = (input_in c.args.input); guess = None } in
    let ws = planned_writes m c.args.scripts.now n.pid n.input c.args.plan.now in
    let written : c.as_slice-entities.result.now ≡ entities_of ws = c.as_slice-entities.ensures.value ∙ c.writes-written.ensures
    ∙ sym (written_is (look_at m) c.args.scripts.now n.pid n.input c.args.plan.now) ∙ sym (changed_are (look_at m) n.pid (seen_with (look_at m) c.args.scripts.now n.pid n.input c.args.plan.now)) in
    let can = subst (λ (p : Parts). CanPerformWith p.slots c.in_ok-tags.tags c.args.scripts.now n.pid n.input c.args.plan.now) (sym c.self.view_is)
    (can_perform c.args.self.now c.args.scripts.now n c.args.plan.now c.in_ok-tags.tags c.requires.planned c.requires.order.tidy c.in_ok-tags.ensures.exact) in
    let did = subst (λ (l : LogsView). HasPerformed c.perform.result l.slots l.tags c.args.scripts.now n.pid n.input c.args.plan.now c.perform.new.logs.slots c.self.inside.terminals c.perform.new.terminals) c.set_tags.ensures c.perform.ensures in (
      performed_exact m c.perform.new.logs.slots c.in_ok-tags.tags c.as_slice-entities.result.now ws written can.clean
          (from_ok c.perform.result c.if-is_err.ensures.value did.writes) c.depend_all.new.guesses.opens c.in_ok-depend_all.ensures.ok,
      c.self.invariant.1,
    )

pub returns-in_err-depend_all : goal.returns-in_err-depend_all
returns-in_err-depend_all c =
    let new : Parts = record (the_view c.self.inside) { opens = opens_of c.depend_all.new.guesses.opens; guesses = c.depend_all.new.guesses.view } in
    let same = same_parts new (the_view c.self.inside) refl c.depend_all.ensures.opens c.depend_all.ensures.view refl ∙ c.self.view_is in
    record { ok = search rules; guesses = ap (λ (p : Parts). p.guesses) same; err = for_err c.from_residual-in_err-depend_all.result same }

pub returns-then-is_err : goal.returns-then-is_err
returns-then-is_err c =
    let slots = from_err c.perform.result c.if-is_err.ensures.value c.perform.ensures.unwritten ∙ ap (λ (l : LogsView). l.slots) c.set_tags.ensures in
    let texts = from_err c.perform.result c.if-is_err.ensures.value c.perform.ensures.unsaid in
    let new : Parts = record { slots = c.perform.new.logs.slots; opens = opens_of c.relieve_all.new.guesses.opens; guesses = c.relieve_all.new.guesses.view; texts = c.perform.new.terminals } in
    let same = same_parts new (the_view c.self.inside) slots (c.relieve_all.ensures.opens ∙ c.depend_all.ensures.opens) (c.relieve_all.ensures.view ∙ c.depend_all.ensures.view) texts ∙ c.self.view_is in
    record { ok = tt; guesses = ap (λ (p : Parts). p.guesses) same; err = same }

pub returns : goal.returns
returns c =
    let scripts = c.args.scripts.now in
    let plan = c.args.plan.now in
    let n : EntryView = record { pid = c.args.pid; input = (input_in c.args.input); guess = None } in
    let a : Parts = the_view c.self.inside in
    let b : Parts = record { slots = c.perform.new.logs.slots; opens = opens_of c.depend_all.new.guesses.opens; guesses = c.depend_all.new.guesses.view; texts = c.perform.new.terminals } in
    let accepted = subst (λ (p : Parts). perform (look_at p.slots) (act scripts n.pid n.input) ≡ Ok (effect_of (look_at p.slots) n.pid n.input (seen_with (look_at p.slots) scripts n.pid n.input plan))) (sym c.self.view_is) c.requires.planned.accepted in
    let tags = subst (λ (p : Parts). c.in_ok-tags.tags ≡ step_tags (undo_state_of p) (planned_effect p n (seen_with (look_at p.slots) scripts n.pid n.input plan))) (sym c.self.view_is) c.in_ok-tags.ensures.exact in
    let did = subst (λ (l : LogsView). HasPerformed c.perform.result l.slots l.tags scripts n.pid n.input plan b.slots a.texts b.texts) c.set_tags.ensures c.perform.ensures in
    record {
      ok = subst (λ (p : Parts). MergedTakes (plain scripts) (machine_of p) n (machine_of b)) c.self.view_is
          (takes_of scripts a b n (seen_with (look_at a.slots) scripts n.pid n.input plan) c.in_ok-tags.tags accepted tags
          (from_ok c.perform.result c.if-is_err.ensures.value did.writes) (c.depend_all.ensures.opens ∙ sym (append-nil a.opens))
          (λ g. ap (λ v. status_since v g) c.depend_all.ensures.view)
          (from_ok c.perform.result c.if-is_err.ensures.value did.says));
      guesses = c.depend_all.ensures.view ∙ ap (λ (p : Parts). p.guesses) c.self.view_is;
      err = tt;
    }
