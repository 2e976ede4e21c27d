-- Whether a planned step has room for its name, from what the machine tells, and why the step is refused.
use Rattle.sk_kernel.proofs.Names.{◌≡◌, ℕ, ◌<◌, ◌≤◌, Bool, true, false, cond, Some, None, Ok, sym, ◌∙◌, ap, subst}
use Rattle.sk_kernel.proofs.Names.{EntryView, look_at, perform, act, adds_of, effect_of, seen_with, Plan, PlansStep}
use Rattle.sk_kernel.proofs.Names.{NoRoom, TraceFull, adds_is, Parts, ScriptMap, KernelView, state_at, no_room, room}
use Rattle.sk_kernel.proofs.Names.{step_refused, IsWhole}
use Rattle.sk_kernel.proofs.Refusals.{TellsRoom, step_room, step_crowded, step_without_room, step_free}

module _ (k : KernelView) (m : Parts) (place : ℕ) (whole : IsWhole k m place) (n : EntryView) (plan : Plan) (b : Bool) (tells : TellsRoom m.slots (adds_of plan) b) where
  pub room_of : no_room (state_at k) (Ok (effect_of (look_at m.slots) n.pid n.input (seen_with (look_at m.slots) k.scripts n.pid n.input plan))) ≡ cond b (Some NoRoom) None
  room_of =
      step_room k m place whole n (effect_of (look_at m.slots) n.pid n.input (seen_with (look_at m.slots) k.scripts n.pid n.input plan)) (adds_of plan) b
      (adds_is (look_at m.slots) k.scripts n.pid n.input plan) tells

  -- ---- the step at the kernel of this view, planned by its scripts
  module _ {self : KernelView} (same : k ≡ self) {scripts : ScriptMap} (by : scripts ≡ k.scripts) (plans : PlansStep (look_at m.slots) scripts n.pid n.input (Ok plan)) where
    accepted : perform (look_at m.slots) (act k.scripts n.pid n.input) ≡ Ok (effect_of (look_at m.slots) n.pid n.input (seen_with (look_at m.slots) k.scripts n.pid n.input plan))
    accepted = (subst (λ s. PlansStep (look_at m.slots) s n.pid n.input (Ok plan)) by plans).plans

    pub crowded_at : b ≡ true → step_refused self n ≡ Some NoRoom
    crowded_at is =
        subst (λ k. step_refused k n ≡ Some NoRoom) same (step_crowded k m place whole n _ accepted (room_of ∙ ap (λ b. cond b (Some NoRoom) None) is))

    module _ (free : b ≡ false) {r : ℕ} (is : r ≡ room self) where
      pub full_at : r < 1 → step_refused self n ≡ Some TraceFull
      full_at less =
          subst (λ k. step_refused k n ≡ Some TraceFull) same
          (step_without_room k m place whole n _ r accepted (room_of ∙ ap (λ b. cond b (Some NoRoom) None) free) (is ∙ ap room (sym same)) less)

      pub free_at : 1 ≤ r → step_refused self n ≡ None
      free_at least =
          subst (λ k. step_refused k n ≡ None) same
          (step_free k m place whole n _ r accepted (room_of ∙ ap (λ b. cond b (Some NoRoom) None) free) (is ∙ ap room (sym same)) least)
