-- The writes of a step, each with its note or covered by the newest one: the logs are those of the machine, but for notes that are left out.
use Rattle.sk_machine.proofs.Names.{◌≡◌, ℕ, Bool, true, false, cond, ◌||◌, List, [], ◌∷◌, ◌++◌, Option, refl, sym, ◌∙◌}
use Rattle.sk_machine.proofs.Names.{ap, subst, reverse, eq_by_cmp, Equal-is, eq_by_cmp_equiv, true≢false, or_left}
use Rattle.sk_machine.proofs.Names.{or_right, reverse_onto, append-nil, entity_cmp, Entity, entity_total, entity_exact}
use Rattle.sk_machine.proofs.Names.{exact_bytes, Note, noted, last_tags, is_in, written_value, wrote_all, AreApart}
use Rattle.sk_machine.proofs.Names.{IsClean, Performed, entities_of, is_in_tied, EntityState, is_empty, SlotView}
use Rattle.sk_machine.proofs.Names.{noted_on, slot_wrote, goes_unnoted, is_whole, SlotMap, LogsView, slot_in, look_at}
use Rattle.sk_machine.proofs.Names.{log_at, slots_wrote, wrote, Merges, same_tags, left_out, both_more, in_turn}
use Rattle.sk_machine.proofs.Names.{none_left, and_both, newest_of, none_reverse, placed_at}
use Rattle.std.specs.FinMap as fin
use Rattle.sk_record.proofs.Merged.{all_kept}

-- a write that is not noted has the tags of the newest note
unnoted_tags : (t : ℕ) (tags : List ℕ) (log : List (Note EntityState)) → goes_unnoted (t ∷ tags) log ≡ true → last_tags [] (reverse log) ≡ t ∷ tags
unnoted_tags t tags [] h = absurd (true≢false (sym h))
unnoted_tags t tags (n ∷ ns) h =
    newest_of n ns ∙ sym ((exact_bytes (t ∷ tags) n.tags).0 (and_both (is_whole n.before) (same_tags (t ∷ tags) n.tags) h).1)

-- the log after a write
noted_more : (tags : List ℕ) (before : Option EntityState) (log : List (Note EntityState)) → (tags ≡ [] → reverse log ≡ []) → Merges [] (reverse log ++ noted true tags before []) (reverse (noted_on tags before log))
noted_more [] before [] clean = tt
noted_more [] before (n ∷ ns) clean = absurd (true≢false (ap is_empty (sym (clean refl)) ∙ none_reverse (n ∷ ns)))
noted_more (t ∷ tags) before log clean =
    let note : Note EntityState = record { tags = t ∷ tags; before = before } in
    elim (goes_unnoted (t ∷ tags) log) as (λ b. goes_unnoted (t ∷ tags) log ≡ b → Merges [] (reverse log ++ note ∷ []) (reverse (cond b log (note ∷ log)))) [
      | true ↦ λ is. left_out [] (reverse log) note (unnoted_tags t tags log is)
      | false ↦ λ _. subst (λ ns. Merges [] (reverse log ++ note ∷ []) ns) (sym (reverse_onto log note [])) (all_kept [] (reverse log ++ note ∷ []))
    ] refl

pick : {A B : Type 0} (f : A → B) (b : Bool) (x y : A) → f (cond b x y) ≡ cond b (f x) (f y)
pick f true x y = refl
pick f false x y = refl

module _ (tags : List ℕ) (m : SlotMap) (e : Entity) (v : Option EntityState) where
  at : (q : Entity) → slot_in (fin.get (slots_wrote tags m e v) q) ≡ cond (eq_by_cmp entity_cmp q e) (slot_wrote tags (slot_in (fin.get m e)) v) (slot_in (fin.get m q))
  at q = placed_at m e _ q

  pub look_wrote : (q : Entity) → look_at (slots_wrote tags m e v) q ≡ cond (eq_by_cmp entity_cmp q e) v (look_at m q)
  look_wrote q = ap (λ (s : SlotView). s.now) (at q) ∙ pick (λ (s : SlotView). s.now) (eq_by_cmp entity_cmp q e) (slot_wrote tags (slot_in (fin.get m e)) v) (slot_in (fin.get m q))

  pub log_wrote : (tags ≡ [] → log_at m e ≡ []) → (q : Entity) → Merges [] (log_at m q ++ noted (eq_by_cmp entity_cmp q e) tags (look_at m q) []) (log_at (slots_wrote tags m e v) q)
  log_wrote clean q =
      subst (λ ns. Merges [] (log_at m q ++ noted (eq_by_cmp entity_cmp q e) tags (look_at m q) []) ns) (sym (ap (λ (s : SlotView). reverse s.log) (at q)))
      (elim (eq_by_cmp entity_cmp q e) as (λ b. eq_by_cmp entity_cmp q e ≡ b → Merges [] (log_at m q ++ noted b tags (look_at m q) []) (reverse (cond b (slot_wrote tags (slot_in (fin.get m e)) v) (slot_in (fin.get m q))).log)) [
        | true ↦ λ is.
            subst (λ x. Merges [] (log_at m x ++ noted true tags (look_at m x) []) (reverse (slot_wrote tags (slot_in (fin.get m e)) v).log)) (sym (entity_exact q e ((Equal-is (entity_cmp q e)).0 is)))
            (noted_more tags (look_at m e) (slot_in (fin.get m e)).log clean)
        | false ↦ λ is. subst (λ ns. Merges [] ns (log_at m q)) (sym (append-nil (log_at m q))) (all_kept [] (log_at m q))
      ] refl)

two : (a b : Bool) (tags : List ℕ) (v w : Option EntityState) (log : List (Note EntityState)) → (a ≡ true → b ≡ false)
    → (log ++ noted a tags v []) ++ noted b tags (cond a w v) [] ≡ log ++ noted (a || b) tags v []
two true b tags v w log apart = (λ i. (log ++ noted true tags v []) ++ noted (apart refl i) tags w []) ∙ append-nil _
two false b tags v w log apart = λ i. append-nil log i ++ noted b tags v []

none_noted : (b : Bool) (tags : List ℕ) (v : Option EntityState) (log : List (Note EntityState)) → tags ≡ [] → log ≡ [] → log ++ noted b tags v [] ≡ []
none_noted true tags v log none empty = λ i. empty i ++ noted true (none i) v []
none_noted false tags v log none empty = append-nil log ∙ empty

pub look_all : (ws : List (Entity × Option EntityState)) (l : LogsView) (q : Entity) → look_at (wrote_all wrote ws l).slots q ≡ written_value entity_cmp ws q (look_at l.slots q)
look_all [] l q = refl
look_all (w ∷ ws) l q = look_all ws (wrote l w.0 w.1) q ∙ ap (written_value entity_cmp ws q) (look_wrote l.tags l.slots w.0 w.1 q)

self_in : (e : Entity) → eq_by_cmp entity_cmp e e ≡ true
self_in e = (eq_by_cmp_equiv entity_total).refl e

pub logs_all : (ws : List (Entity × Option EntityState)) (l : LogsView) → AreApart (entities_of ws) → IsClean l.slots l.tags (entities_of ws)
    → (q : Entity) → Merges [] (log_at l.slots q ++ noted (is_in entity_cmp (entities_of ws) q) l.tags (look_at l.slots q) []) (log_at (wrote_all wrote ws l).slots q)
logs_all [] l apart clean q = subst (λ ns. Merges [] ns (log_at l.slots q)) (sym (append-nil (log_at l.slots q))) (all_kept [] (log_at l.slots q))
logs_all (w ∷ ws) l apart clean q =
    let es = entities_of ws in
    let first = log_wrote l.tags l.slots w.0 w.1 (clean w.0 (or_left _ _ (self_in w.0))) in
    let still : IsClean (wrote l w.0 w.1).slots l.tags es = λ e there none.
    none_left [] (log_at (wrote l w.0 w.1).slots e)
    (subst (λ ns. Merges [] ns (log_at (wrote l w.0 w.1).slots e)) (none_noted (eq_by_cmp entity_cmp e w.0) l.tags (look_at l.slots e) (log_at l.slots e) none (clean e (or_right _ _ there) none)) (first e)) in
    let rest = logs_all ws (wrote l w.0 w.1) apart.1 still q in
    let seen = look_wrote l.tags l.slots w.0 w.1 q in
    subst (λ ns. Merges [] ns (log_at (wrote_all wrote ws (wrote l w.0 w.1)).slots q))
    (two (eq_by_cmp entity_cmp q w.0) (is_in entity_cmp es q) l.tags (look_at l.slots q) w.1 (log_at l.slots q)
    (λ tied. is_in_tied entity_total es q w.0 tied ∙ apart.0))
    (in_turn [] _ _ _
    (both_more [] (log_at l.slots q ++ noted (eq_by_cmp entity_cmp q w.0) l.tags (look_at l.slots q) []) (log_at (wrote l w.0 w.1).slots q) (noted (is_in entity_cmp es q) l.tags (cond (eq_by_cmp entity_cmp q w.0) w.1 (look_at l.slots q)) []) (first q))
    (subst (λ x. Merges [] (log_at (wrote l w.0 w.1).slots q ++ noted (is_in entity_cmp es q) l.tags x []) (log_at (wrote_all wrote ws (wrote l w.0 w.1)).slots q)) seen rest))

-- all writes of a step
pub performed : (ws : List (Entity × Option EntityState)) (l : LogsView) (new : SlotMap) → AreApart (entities_of ws) → IsClean l.slots l.tags (entities_of ws) → new ≡ (wrote_all wrote ws l).slots → Performed l.slots l.tags ws new
performed ws l new apart clean is = record {
  look = λ q. ap (λ m. look_at m q) is ∙ look_all ws l q;
  logs = λ q. subst (λ m. Merges [] (log_at l.slots q ++ noted (is_in entity_cmp (entities_of ws) q) l.tags (look_at l.slots q) []) (log_at m q)) (sym is) (logs_all ws l apart clean q);
}
