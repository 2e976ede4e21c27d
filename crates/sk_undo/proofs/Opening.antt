-- What a store has, moved over into slots.
use Rattle.sk_undo.proofs.Cites.{◌≡◌, ◌≤◌, ℕ, length, drop, true, false, cond, ◌||◌, List, [], ◌∷◌, Option, Some, None}
use Rattle.sk_undo.proofs.Cites.{IsSome, refl, sym, ◌∙◌, ap, subst, reverse, is_some, option_map, AllByRecursion}
use Rattle.sk_undo.proofs.Cites.{IsStrictlySortedBy, eq_by_cmp, Less, eq_by_cmp_equiv, Equal-is, true≢false, or_left}
use Rattle.sk_undo.proofs.Cites.{or_right, sorted_head, sorted_tail, drop_all, entity_cmp, Entity, entity_total}
use Rattle.sk_undo.proofs.Cites.{entity_exact, is_in, State, EntityState, SlotView, slot_of, slot_wrote, is_bare}
use Rattle.sk_undo.proofs.Cites.{SlotMap, slot_in, look_at, log_at, placed, moved, NoneBare}
use Rattle.std.specs.FinMap as map
use Rattle.sk_undo.proofs.Notes.{absent_is}
use Rattle.sk_undo.proofs.Passes.{by_place}

-- a slot of which nothing is noted
abbrev pub holding : EntityState → SlotView
holding v = slot_of (Some v)

-- where these are left
pub record Opening (start : State) (rest : List Entity) (store : State) (slots : SlotMap) : Type 0 where
  pub rising : IsStrictlySortedBy entity_cmp rest
  pub present : (q : Entity) → is_in entity_cmp rest q ≡ true → IsSome (map.get start q)
  pub left : (q : Entity) → is_in entity_cmp rest q ≡ true → map.get store q ≡ map.get start q
  pub free : (q : Entity) → is_in entity_cmp rest q ≡ true → map.get slots q ≡ None
  pub done : (q : Entity) → is_in entity_cmp rest q ≡ false → map.get slots q ≡ option_map holding (map.get start q)

pub opening_from : (start : State) (es : List Entity) → IsStrictlySortedBy entity_cmp es → ((q : Entity) → is_in entity_cmp es q ≡ is_some (map.get start q)) → Opening start es start map.empty
opening_from start es rising all = record {
  rising = rising;
  present = λ q there. sym (all q) ∙ there;
  left = λ q there. refl;
  free = λ q there. map.get-empty entity_cmp q;
  done = λ q out. map.get-empty entity_cmp q ∙ ap (option_map holding) (sym (absent_is (map.get start q) (sym (all q) ∙ out)));
}

out_after : (e : Entity) (rest : List Entity) → AllByRecursion (λ y. entity_cmp e y ≡ Less) rest → is_in entity_cmp rest e ≡ false
out_after e [] h = refl
out_after e (y ∷ rest) h = rw h.0 (out_after e rest h.1)

self_in : (e : Entity) → eq_by_cmp entity_cmp e e ≡ true
self_in e = (eq_by_cmp_equiv entity_total).refl e

held : (o : Option EntityState) → IsSome o → Some (slot_of o) ≡ option_map holding o
held (Some v) h = refl
held None h = absurd (true≢false (sym h))

moved_some : (m : SlotMap) (e : Entity) (o : Option EntityState) → map.get m e ≡ None → IsSome o → moved m e o ≡ map.insert m e (slot_of o)
moved_some m e (Some v) none h = ap (λ (s : Option SlotView). placed m e (slot_wrote [] (slot_in s) (Some v))) none
moved_some m e None none h = absurd (true≢false (sym h))

module _ (start store store' : State) (slots slots' : SlotMap) (e : Entity) (rest : List Entity) (so : Opening start (e ∷ rest) store slots) where
  apart_from : (q : Entity) → is_in entity_cmp rest q ≡ true → eq_by_cmp entity_cmp q e ≡ false
  apart_from q there = by_place q e (eq_by_cmp entity_cmp q e ≡ false)
      (λ is. absurd (true≢false (sym (ap (is_in entity_cmp rest) (sym (entity_exact q e ((Equal-is (entity_cmp q e)).0 is))) ∙ there) ∙ out_after e rest (sorted_head entity_cmp e rest so.rising))))
      (λ is. is)

  there : IsSome (map.get store e)
  there = subst IsSome (sym (so.left e (or_left _ _ (self_in e)))) (so.present e (or_left _ _ (self_in e)))

  here_now : slots' ≡ moved slots e (map.get store e) → slots' ≡ map.insert slots e (slot_of (map.get store e))
  here_now is = is ∙ moved_some slots e (map.get store e) (so.free e (or_left _ _ (self_in e))) there

  pub opening_more : slots' ≡ moved slots e (map.get store e)
      → ((q : Entity) → eq_by_cmp entity_cmp q e ≡ false → map.get store' q ≡ map.get store q) → Opening start rest store' slots'
  opening_more is others = record {
    rising = sorted_tail entity_cmp e rest so.rising;
    present = λ q there. so.present q (or_right _ _ there);
    left = λ q there. others q (apart_from q there) ∙ so.left q (or_right _ _ there);
    free = λ q there.
        ap (λ m. map.get m q) (here_now is) ∙ map.get-insert entity_total slots e (slot_of (map.get store e)) q
        ∙ ap (λ b. cond b (Some (slot_of (map.get store e))) (map.get slots q)) (apart_from q there) ∙ so.free q (or_right _ _ there);
    done = λ q out.
        ap (λ m. map.get m q) (here_now is) ∙ map.get-insert entity_total slots e (slot_of (map.get store e)) q
        ∙ by_place q e (cond (eq_by_cmp entity_cmp q e) (Some (slot_of (map.get store e))) (map.get slots q) ≡ option_map holding (map.get start q))
        (λ same.
        ap (λ b. cond b (Some (slot_of (map.get store e))) (map.get slots q)) same
        ∙ ap (λ o. Some (slot_of o)) (so.left e (or_left _ _ (self_in e)))
        ∙ held (map.get start e) (so.present e (or_left _ _ (self_in e)))
        ∙ ap (λ x. option_map holding (map.get start x)) (sym (entity_exact q e ((Equal-is (entity_cmp q e)).0 same))))
        (λ apart.
        ap (λ b. cond b (Some (slot_of (map.get store e))) (map.get slots q)) apart
        ∙ so.done q (ap (λ b. b || is_in entity_cmp rest q) apart ∙ out));
  }

-- ---- at the end
pub opening_at_end : (es : List Entity) (i : ℕ) (start store : State) (slots : SlotMap) → length es ≤ i → Opening start (drop i es) store slots → Opening start [] store slots
opening_at_end es i start store slots past so = subst (λ es. Opening start es store slots) (drop_all i es past) so

shown : (o : Option EntityState) → (slot_in (option_map holding o)).now ≡ o
shown None = refl
shown (Some v) = refl

clean : (o : Option EntityState) → reverse (slot_in (option_map holding o)).log ≡ []
clean None = refl
clean (Some v) = refl

full : (o : Option EntityState) (s : SlotView) → option_map holding o ≡ Some s → is_bare s ≡ false
full None s no_way = absurd (true≢false (sym (ap is_some no_way)))
full (Some v) s is = sym (ap (λ o. is_bare (slot_in o)) is)

module _ (start store : State) (slots : SlotMap) (so : Opening start [] store slots) where
  pub values_moved : (q : Entity) → look_at slots q ≡ map.get start q
  values_moved q = ap (λ o. (slot_in o).now) (so.done q refl) ∙ shown (map.get start q)

  pub nothing_noted : (q : Entity) → log_at slots q ≡ []
  nothing_noted q = ap (λ o. reverse (slot_in o).log) (so.done q refl) ∙ clean (map.get start q)

  pub none_bare : NoneBare slots
  none_bare q s there = full (map.get start q) s (sym (so.done q refl) ∙ there)
