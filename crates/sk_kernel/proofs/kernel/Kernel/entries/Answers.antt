-- What is listed is the run of the trace's record.
use Rattle.sk_kernel.proofs.Names.{◌≡◌, sym, ◌∙◌, subst, IfOk, KernelView, state_at, tags_at, the_view, if_ok}
use Rattle.std.proofs.lemmas.Result.{IfOk-weaker}
use Rattle.std.proofs.lemmas.List.Elements.{All-weaker}
use Rattle.std.specs.FinMap as map
use Rattle.std.specs.List.{All}
use Rattle.sk_machine.specs.Parts.{undo_state_of}
use Rattle.sk_record.specs.UndoState.{tags_at as tags_in}
use Rattle.sk_store.specs.Present.{IsPresent, entities_of}
use Rattle.sk_machine.specs.Parts.{look_at}
use Rattle.sk_kernel.proofs.Whole.{entities_are, look_is, tags_computed}
use Rattle.sk_kernel.proofs.kernel.Kernel.entries.Goals as goal

pub returns-clause-present : goal.returns-clause-present
returns-clause-present c =
    subst (λ (k : KernelView). IfOk c.entries.result (λ all. entities_of all.items ≡ map.keys (state_at k))) c.self.view_is
    (if_ok c.entries.result c.entries.ensures.rising c.entries.ensures.present (λ all rising present.
    entities_are (the_view c.self.inside) c.self.inside.machine c.self.invariant.0.stands (entities_of all.items) rising present))

pub returns-clause-each : goal.returns-clause-each
returns-clause-each c =
    let v = the_view c.self.inside in
    let m = c.self.inside.machine in
    let stands = c.self.invariant.0.stands in
    subst (λ (k : KernelView). IfOk c.entries.result (λ all. All (IsPresent (map.get (state_at k)) (tags_at k)) all.items)) c.self.view_is
    (IfOk-weaker c.entries.result (λ all. All (IsPresent (look_at m.slots) (tags_in (undo_state_of m))) all.items) (λ all. All (IsPresent (map.get (state_at v)) (tags_at v)) all.items)
    (λ all each. All-weaker (IsPresent (look_at m.slots) (tags_in (undo_state_of m))) (IsPresent (map.get (state_at v)) (tags_at v))
    (λ p h. (sym (look_is v m stands p.entity) ∙ h.0, sym (tags_computed v m stands p.entity) ∙ h.1)) all.items each) c.entries.ensures.each)
