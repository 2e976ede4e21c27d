-- A guess that is taken back gives each entity what it had before the first write that depends on it.
use Rattle.sk_undo.proofs.Cites.{◌≡◌, ℕ, List, [], ◌∷◌, ◌++◌, Bool, true, false, cond, not, ◌||◌, Option}
use Rattle.sk_undo.proofs.Cites.{refl, sym, ◌∙◌, ap, subst, eq_by_cmp, Equal-is, get}
use Rattle.sk_undo.proofs.Cites.{true≢false, reverse-append, Entity, entity_cmp, entity_exact}
use Rattle.sk_undo.proofs.Cites.{exact_bytes, and_both, Note, has, cut, unwound, same_tags, EntityState, is_empty, carries}
use Rattle.sk_undo.proofs.Cites.{SlotView, slot_wrote, is_whole, goes_unnoted, SlotMap, slot_in}
use Rattle.sk_undo.proofs.Cites.{slots_wrote, look_at, log_at, Write, all_wrote, AllRestOn, GivesBack}
use Rattle.std.proofs.Common.{reverse}
use Rattle.sk_undo.proofs.Notes.{any_reverse}
use Rattle.sk_undo.proofs.Passes.{placed_at}
use Rattle.sk_undo.proofs.SeenNotes.{none_off, one_off}

-- ---- a log, the oldest note first

module _ {V : Type 0} where
  -- where some note depends on it, the value now is of no account
  any_now : (g : ℕ) (l : List (Note V)) (now then : Option V) → carries g l ≡ true → unwound g l now ≡ unwound g l then
  any_now g [] now then is = absurd (true≢false (sym is))
  any_now g (m ∷ l) now then is =
      elim (has g m.tags) as (λ b. (b || carries g l) ≡ true → cond b m.before (unwound g l now) ≡ cond b m.before (unwound g l then)) [
        | true ↦ λ _. refl
        | false ↦ λ later. any_now g l now then later
      ] is

-- ---- a write to a slot

no_tags : (g : ℕ) (tags : List ℕ) → has g tags ≡ true → is_empty tags ≡ true → ⊥
no_tags g [] has_it empty = true≢false (sym has_it)
no_tags g (t ∷ tags) has_it empty = true≢false (sym empty)

-- the newest note has the write's guesses where the write goes unnoted
carried : (g : ℕ) (tags : List ℕ) (log : List (Note EntityState)) → has g tags ≡ true → goes_unnoted tags log ≡ true → carries g (reverse log) ≡ true
carried g tags [] has_it unnoted = absurd (no_tags g tags has_it unnoted)
carried g tags (n ∷ ns) has_it unnoted =
    let same : tags ≡ n.tags = (exact_bytes tags n.tags).0 (and_both (is_whole n.before) (same_tags tags n.tags) unnoted).1 in
    any_reverse (λ (m : Note EntityState). has g m.tags) (n ∷ ns) ∙ ap (λ b. b || carries g ns) (ap (has g) (sym same) ∙ has_it)

-- what a failure gives is the same before and after a write that depends on the guess
pub wrote_same : (g : ℕ) (tags : List ℕ) (s : SlotView) (v : Option EntityState) → has g tags ≡ true
    → (unwound g (reverse (slot_wrote tags s v).log) (slot_wrote tags s v).now ≡ unwound g (reverse s.log) s.now)
    × (cut g (reverse (slot_wrote tags s v).log) ≡ cut g (reverse s.log))
wrote_same g tags s v has_it =
    let n : Note EntityState = record { tags = tags; before = s.now } in
    let turned : reverse (n ∷ s.log) ≡ reverse s.log ++ n ∷ [] = reverse-append (n ∷ []) s.log in
    let off = one_off g (reverse s.log) n v has_it in
    elim (goes_unnoted tags s.log) as (λ b. goes_unnoted tags s.log ≡ b
    → (unwound g (reverse (cond b s.log (n ∷ s.log))) v ≡ unwound g (reverse s.log) s.now) × (cut g (reverse (cond b s.log (n ∷ s.log))) ≡ cut g (reverse s.log))) [
      | true ↦ λ unnoted. (any_now g (reverse s.log) v s.now (carried g tags s.log has_it unnoted), refl)
      | false ↦ λ _. (ap (λ l. unwound g l v) turned ∙ sym off.0, ap (cut g) turned ∙ sym off.1)
    ] refl

-- ---- a write to an entity

-- what a failure of the guess gives an entity
abbrev Gives : ℕ → SlotView → SlotView → Type 0
Gives g s t = (unwound g (reverse t.log) t.now ≡ unwound g (reverse s.log) s.now) × (cut g (reverse t.log) ≡ cut g (reverse s.log))

same_entity : (m : SlotMap) (g : ℕ) (w : Write) (e : Entity) (b : Bool) → eq_by_cmp entity_cmp e w.entity ≡ b → (not b || has g w.tags) ≡ true
    → Gives g (slot_in (get m e)) (cond b (slot_wrote w.tags (slot_in (get m w.entity)) w.value) (slot_in (get m e)))
same_entity m g w e true is rests =
    let one : e ≡ w.entity = entity_exact e w.entity ((Equal-is (entity_cmp e w.entity)).0 is) in
    subst (λ q. Gives g (slot_in (get m e)) (slot_wrote w.tags (slot_in (get m q)) w.value)) one (wrote_same g w.tags (slot_in (get m e)) w.value rests)
same_entity m g w e false is rests = (refl, refl)

all_same : (m : SlotMap) (g : ℕ) (e : Entity) (ws : List Write) → AllRestOn g e ws → Gives g (slot_in (get m e)) (slot_in (get (all_wrote m ws) e))
all_same m g e [] rest = (refl, refl)
all_same m g e (w ∷ ws) rest =
    let parts = and_both (not (eq_by_cmp entity_cmp e w.entity) || has g w.tags) _ rest in
    let next = slots_wrote w.tags m w.entity w.value in
    let later = all_same next g e ws parts.1 in
    let one = subst (Gives g (slot_in (get m e))) (sym (placed_at m w.entity (slot_wrote w.tags (slot_in (get m w.entity)) w.value) e)) (same_entity m g w e (eq_by_cmp entity_cmp e w.entity) refl parts.0) in
    (later.0 ∙ one.0, later.1 ∙ one.1)

pub gives_back : GivesBack
gives_back old ws g new e none rest took =
    let same = all_same old g e ws rest in
    let kept = none_off g (log_at old e) (look_at old e) none in
    (took.look e ∙ same.0 ∙ kept.0, took.logs e ∙ same.1 ∙ kept.1)
