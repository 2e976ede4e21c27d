-- Steps as the machine of a record has them.
use Rattle.sk_machine.proofs.Names.{◌≡◌, ℕ, zero, suc, ◌<◌, true, false, ◌||◌, List, [], ◌∷◌, ◌++◌, map, Option, Some}
use Rattle.sk_machine.proofs.Names.{None, refl, sym, ◌∙◌, ap, arith, Contains, eq_by_cmp, Equal-is, entity_cmp, Entity}
use Rattle.sk_machine.proofs.Names.{Proc, Process, written_beside, gone_in, entity_exact, true≢false, is_in, writes}
use Rattle.sk_machine.proofs.Names.{IsTidy, step_tags, tidy_clean, EntityState, IsBeside, IsNoProcess, writes_of}
use Rattle.sk_machine.proofs.Names.{PlanView, BesideView, Nothing, Says, One, Birth, Gone, EntryView, look_at, Parts}
use Rattle.sk_machine.proofs.Names.{undo_state_of, planned_effect, AreApart, IsClean, entities_of, IsPlanned, Plan}
use Rattle.sk_machine.proofs.Names.{CanPerformWith, Scripts, seen_with}
use Rattle.sk_store.specs.declared.entity_state.EntityState.TheVariants as stored

pub contained : (es : List Entity) (e : Entity) → is_in entity_cmp es e ≡ true → Contains es e
contained [] e here = absurd (true≢false (sym here))
contained (x ∷ es) e here =
    elim (eq_by_cmp entity_cmp e x) as (λ b. eq_by_cmp entity_cmp e x ≡ b → (b || is_in entity_cmp es e) ≡ true → Contains (x ∷ es) e) [
      | true ↦ λ is _. (zero, omega arith, sym (entity_exact e x ((Equal-is (entity_cmp e x)).0 is)))
      | false ↦ λ _ later. let at = contained es e later in let far = at.1 in (suc at.0, omega arith, at.2)
    ] refl here

pub contained_more : (xs es : List Entity) (e : Entity) → Contains es e → Contains (xs ++ es) e
contained_more [] es e at = at
contained_more (x ∷ xs) es e at = let more = contained_more xs es e at in let far = more.1 in (suc more.0, omega arith, more.2)

-- a step without tags writes only what has no notes
pub clean_of : (m : Parts) (n : EntryView) (plan : PlanView) (tags : List ℕ) → IsTidy (undo_state_of m) → tags ≡ step_tags (undo_state_of m) (planned_effect m n plan)
    → IsClean m.slots tags (entities_of (writes_of (look_at m.slots) n.pid plan))
clean_of m n plan tags tidy is e there none =
    let f = planned_effect m n plan in
    tidy_clean (undo_state_of m) f tidy e (contained_more (map (λ r. r.0) f.read) (writes f) e (contained (writes f) e there)) (sym is ∙ none)

-- ---- no entity is written twice
process_apart : (e : Entity) (pid : ℕ) → IsNoProcess e → eq_by_cmp entity_cmp e (Proc pid) ≡ false
process_apart (Proc p) pid h = absurd h
process_apart other pid h = refl

process_first : (e : Entity) (pid : ℕ) → IsNoProcess e → eq_by_cmp entity_cmp (Proc pid) e ≡ false
process_first (Proc p) pid h = absurd h
process_first other pid h = refl

abbrev pid_of : Entity → ℕ
pid_of (Proc p) = p
pid_of other = 0

child_apart : (child pid : ℕ) → pid < child → eq_by_cmp entity_cmp (Proc child) (Proc pid) ≡ false
child_apart child pid less =
    elim (eq_by_cmp entity_cmp (Proc child) (Proc pid)) as (λ b. eq_by_cmp entity_cmp (Proc child) (Proc pid) ≡ b → b ≡ false) [
      | true ↦ λ same. let is : child ≡ pid = ap pid_of (entity_exact (Proc child) (Proc pid) ((Equal-is (entity_cmp (Proc child) (Proc pid))).0 same)) in absurd (omega arith)
      | false ↦ λ _. refl
    ] refl

apart_with : (look : Entity → Option EntityState) (pid : ℕ) (p : Process) (beside : BesideView) → IsBeside pid beside
    → AreApart (entities_of (written_beside look p beside ++ (Proc pid, Some (stored.Process p)) ∷ map (λ e. (e, None)) (gone_in beside)))
apart_with look pid p Nothing h = (refl, tt)
apart_with look pid p Says h = (refl, tt)
apart_with look pid p (One e becomes) h = (ap (λ b. b || false) (process_apart e pid h), (refl, tt))
apart_with look pid p (Gone e) h = (ap (λ b. b || false) (process_first e pid h), (refl, tt))
apart_with look pid p (Birth c) h = (ap (λ b. b || false) (child_apart c.pid pid h), (refl, (refl, (refl, tt))))

pub apart_of : (look : Entity → Option EntityState) (pid : ℕ) (plan : PlanView) → IsBeside pid plan.beside → AreApart (entities_of (writes_of look pid plan))
apart_of look pid plan h = apart_with look pid plan.process plan.beside h

-- a planned step can be performed with its tags
pub can_perform : (m : Parts) (scripts : Scripts) (n : EntryView) (plan : Plan) (tags : List ℕ) → IsPlanned m scripts n.pid n.input plan → IsTidy (undo_state_of m)
    → tags ≡ step_tags (undo_state_of m) (planned_effect m n (seen_with (look_at m.slots) scripts n.pid n.input plan)) → CanPerformWith m.slots tags scripts n.pid n.input plan
can_perform m scripts n plan tags planned tidy is = record { can = planned.can; clean = clean_of m n (seen_with (look_at m.slots) scripts n.pid n.input plan) tags tidy is }
