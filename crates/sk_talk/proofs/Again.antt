-- The text by which the report names an entity is read as that entity: it is that of its words.
use Rattle.sk_talk.proofs.Names.{◌≡◌, ℕ, true, false, List, [], ◌∷◌, Option, Some, None, Result, Ok, Err, is_some, refl}
use Rattle.sk_talk.proofs.Names.{ap, sym, subst, ◌∙◌, find, list_any, AllByRecursion, eq_by_cmp, Equal-is}
use Rattle.sk_talk.proofs.Names.{eq_by_cmp_equiv, true≢false, or_parts, bytes_eq-Decides, entity_cmp, entity_total}
use Rattle.sk_talk.proofs.Names.{entity_exact, EntityState, KernelView, state_at, Entity, Proc, FaultKind, spaced}
use Rattle.sk_talk.proofs.Names.{words, entity, entity_words, IsEntity, entity_again, words_cut_again, entity_text}
use Rattle.sk_talk.proofs.Names.{is_named, present_as, named_by, named}
use Rattle.std.specs.FinMap as map

text_is_words : (e : Entity) → entity_text e ≡ spaced (entity_words e)
text_is_words (Proc p) = refl
text_is_words s = refl

pub text_again : (e : Entity) → IsEntity e → entity (words (entity_text e)) ≡ Ok e
text_again e h = ap (λ t. entity (words t)) (text_is_words e) ∙ ap entity (words_cut_again e h) ∙ entity_again e h

abbrev said_or : Entity → Result Entity FaultKind → Entity
said_or e (Ok f) = f
said_or e (Err kind) = e

pub text_once : (e f : Entity) → IsEntity e → IsEntity f → entity_text e ≡ entity_text f → e ≡ f
text_once e f h k same = ap (said_or e) (sym (text_again e h) ∙ ap (λ t. entity (words t)) same ∙ text_again f k)

-- ---- among entities that there can be, the one that is read is the one that is found

same : (a b : Entity) → eq_by_cmp entity_cmp a b ≡ true → a ≡ b
same a b is = entity_exact a b ((Equal-is (entity_cmp a b)).0 is)

own : (e : Entity) → eq_by_cmp entity_cmp e e ≡ true
own e = (eq_by_cmp_equiv entity_total).refl e

module _ (name : List ℕ) where
  read : (e : Entity) → IsEntity e → is_named name e ≡ true → entity (words name) ≡ Ok e
  read e h is = subst (λ t. entity (words t) ≡ Ok e) ((bytes_eq-Decides (entity_text e) name).0 is) (text_again e h)

  only_one : (e f : Entity) → IsEntity f → entity (words name) ≡ Ok e → is_named name f ≡ true → f ≡ e
  only_one e f h said is = ap (said_or f) (sym (read f h is) ∙ said)

  nothing_named : (es : List Entity) → AllByRecursion IsEntity es → ((e : Entity) → IsEntity e → is_named name e ≡ false) → find (is_named name) es ≡ None
  nothing_named [] h none = refl
  nothing_named (e ∷ es) h none = rw (none e h.0, nothing_named es h.1 none) refl

  found_there : (e : Entity) (es : List Entity) → AllByRecursion IsEntity es → is_named name e ≡ true → entity (words name) ≡ Ok e → list_any (eq_by_cmp entity_cmp e) es ≡ true → find (is_named name) es ≡ Some e
  found_there e [] h is said there = absurd (true≢false (sym there))
  found_there e (f ∷ fs) h is said there =
      elim (is_named name f) as (λ b. is_named name f ≡ b → find (is_named name) (f ∷ fs) ≡ Some e) [
        | true ↦ λ t. rw t (ap (λ (x : Entity). Some x) (only_one e f h.0 said t))
        | false ↦ λ t.
            let other : eq_by_cmp entity_cmp e f ≡ false
            = elim (eq_by_cmp entity_cmp e f) as (λ b. eq_by_cmp entity_cmp e f ≡ b → b ≡ false) [
              | true ↦ λ s. absurd (true≢false (sym (subst (λ x. is_named name x ≡ true) (same e f s) is) ∙ t))
              | false ↦ λ s. refl
            ] refl in
            rw t (found_there e fs h.1 is said (rw other at there))
      ] refl

  missing_there : (e : Entity) (es : List Entity) → AllByRecursion IsEntity es → entity (words name) ≡ Ok e → list_any (eq_by_cmp entity_cmp e) es ≡ false → find (is_named name) es ≡ None
  missing_there e [] h said there = refl
  missing_there e (f ∷ fs) h said there =
      let parts = or_parts (eq_by_cmp entity_cmp e f) (list_any (eq_by_cmp entity_cmp e) fs) there in
      elim (is_named name f) as (λ b. is_named name f ≡ b → find (is_named name) (f ∷ fs) ≡ None) [
        | true ↦ λ t. absurd (true≢false (sym (subst (λ x. eq_by_cmp entity_cmp e x ≡ true) (sym (only_one e f h.0 said t)) (own e)) ∙ parts.0))
        | false ↦ λ t. rw t (missing_there e fs h.1 said parts.1)
      ] refl

  module _ (k : KernelView) (h : AllByRecursion IsEntity (map.keys (state_at k))) where
    by_state : (e : Entity) (o : Option EntityState) → entity (words name) ≡ Ok e → map.get (state_at k) e ≡ o → present_as name e o ≡ find (is_named name) (map.keys (state_at k))
    by_state e None said there =
        sym (missing_there e (map.keys (state_at k)) h said (sym (map.contains_key-keys (state_at k) e) ∙ ap (λ (o : Option EntityState). is_some o) there))
    by_state e (Some s) said there =
        elim (is_named name e) as (λ b. is_named name e ≡ b → present_as name e (Some s) ≡ find (is_named name) (map.keys (state_at k))) [
          | true ↦ λ t. rw t (sym (found_there e (map.keys (state_at k)) h t said (sym (map.contains_key-keys (state_at k) e) ∙ ap (λ (o : Option EntityState). is_some o) there)))
          | false ↦ λ t. rw t (sym (nothing_named (map.keys (state_at k)) h (λ f valid.
              elim (is_named name f) as (λ b. is_named name f ≡ b → b ≡ false) [
                | true ↦ λ u. absurd (true≢false (sym (subst (λ x. is_named name x ≡ true) (only_one e f valid said u) u) ∙ t))
                | false ↦ λ u. refl
              ] refl)))
        ] refl

    by_said : (said : Result Entity FaultKind) → entity (words name) ≡ said → named_by (map.get (state_at k)) name said ≡ find (is_named name) (map.keys (state_at k))
    by_said (Ok e) is = by_state e (map.get (state_at k) e) is refl
    by_said (Err kind) is =
        sym (nothing_named (map.keys (state_at k)) h (λ f valid.
        elim (is_named name f) as (λ b. is_named name f ≡ b → b ≡ false) [
          | true ↦ λ u. absurd (let bad : Ok f ≡ Err kind = sym (read f valid u) ∙ is in cc)
          | false ↦ λ u. refl
        ] refl))

pub named_is_found : (k : KernelView) (name : List ℕ) → AllByRecursion IsEntity (map.keys (state_at k)) → named k name ≡ find (is_named name) (map.keys (state_at k))
named_is_found k name h = by_said name k h (entity (words name)) refl
