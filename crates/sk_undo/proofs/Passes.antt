-- What a pass over the listed entities leaves of the slots.
use Rattle.sk_undo.proofs.Cites.{◌≡◌, ℕ, ◌+◌, ◌<◌, length, drop, get_or, Bool, true, false, cond, ◌||◌, List, []}
use Rattle.sk_undo.proofs.Cites.{◌∷◌, Option, Some, None, refl, sym, ◌∙◌, ap, subst, reverse, is_none, is_some}
use Rattle.sk_undo.proofs.Cites.{list_all, and_parts, eq_by_cmp, Equal-is, true≢false, drop-cons, suc-eq-add-one, entity_cmp}
use Rattle.sk_undo.proofs.Cites.{Entity, entity_total, entity_exact, is_in, Note, has, cut, unwound, committed, Merges}
use Rattle.sk_undo.proofs.Cites.{IsGrowing, all_kept, in_turn, both_committed, grow_in, EntityState, is_empty, carries}
use Rattle.sk_undo.proofs.Cites.{EachRests, SlotView, slot_of, slot_wrote, is_bare, committed_joined, SlotMap, slot_in}
use Rattle.sk_undo.proofs.Cites.{slots_wrote, placed, look_at, log_at, SlotUnwound, SlotCommitted, ChangedAt}
use Rattle.sk_undo.proofs.Cites.{Unwound, Lightened, AreListed, AllRest, AllGrow, NoneBare}
use Rattle.std.specs.FinMap as map
use Rattle.sk_undo.proofs.Joined.{joined_free, settled_rests, settled_none}
use Rattle.sk_undo.proofs.SeenNotes.{none_is, none_off, grow_cut}
use Rattle.sk_undo.proofs.Commits.{committed_free, committed_twice, grow_commit, is_settled, settled_free, all_settled, all_merged}

-- ---- the slot of one entity
absent_is : (v : Option EntityState) → is_none v ≡ true → v ≡ None
absent_is None h = refl
absent_is (Some x) h = absurd (true≢false (sym h))

bare_is : (s : SlotView) → is_bare s ≡ true → slot_of None ≡ s
bare_is s h =
    let both = and_parts (is_none s.now) (is_empty s.log) h in
    let now = sym (absent_is s.now both.0) in
    let log = sym (none_is s.log both.1) in
    λ i. record { now = now i; log = log i }

pick : (b : Bool) (o p : Option SlotView) → slot_in (cond b o p) ≡ cond b (slot_in o) (slot_in p)
pick true o p = refl
pick false o p = refl

-- what each entity has then
pub placed_at : (m : SlotMap) (e : Entity) (s : SlotView) (q : Entity) → slot_in (map.get (placed m e s) q) ≡ cond (eq_by_cmp entity_cmp q e) s (slot_in (map.get m q))
placed_at m e s q =
    elim (is_bare s) as (λ b. is_bare s ≡ b → slot_in (map.get (cond b (map.remove m e) (map.insert m e s)) q) ≡ cond (eq_by_cmp entity_cmp q e) s (slot_in (map.get m q))) [
      | true ↦ λ bare.
          ap slot_in (map.get-remove entity_total m e q) ∙ pick (eq_by_cmp entity_cmp q e) None (map.get m q)
          ∙ ap (λ t. cond (eq_by_cmp entity_cmp q e) t (slot_in (map.get m q))) (bare_is s bare)
      | false ↦ λ _. ap slot_in (map.get-insert entity_total m e s q) ∙ pick (eq_by_cmp entity_cmp q e) (Some s) (map.get m q)
    ] refl

pub placed_get : (m : SlotMap) (e : Entity) (s : SlotView) (q : Entity) → eq_by_cmp entity_cmp q e ≡ false → map.get (placed m e s) q ≡ map.get m q
placed_get m e s q apart =
    elim (is_bare s) as (λ b. map.get (cond b (map.remove m e) (map.insert m e s)) q ≡ map.get m q) [
      | true ↦ map.get-remove entity_total m e q ∙ ap (λ b. cond b None (map.get m q)) apart
      | false ↦ map.get-insert entity_total m e s q ∙ ap (λ b. cond b (Some s) (map.get m q)) apart
    ]

-- the slot of another entity is as it was after a write
pub wrote_get : (tags : List ℕ) (m n : SlotMap) (e q : Entity) (v : Option EntityState) → n ≡ slots_wrote tags m e v → eq_by_cmp entity_cmp q e ≡ false → map.get n q ≡ map.get m q
wrote_get tags m n e q v is apart = ap (λ x. map.get x q) is ∙ placed_get m e (slot_wrote tags (slot_in (map.get m e)) v) q apart

pub placed_bare : (m : SlotMap) (e : Entity) (s : SlotView) → NoneBare m → NoneBare (placed m e s)
placed_bare m e s none q t =
    elim (is_bare s) as (λ b. is_bare s ≡ b → map.get (cond b (map.remove m e) (map.insert m e s)) q ≡ Some t → is_bare t ≡ false) [
      | true ↦ λ _ there. elim (eq_by_cmp entity_cmp q e) as (λ here. cond here None (map.get m q) ≡ Some t → is_bare t ≡ false) [
        | true ↦ λ no_way. absurd (true≢false (sym (ap is_some no_way)))
        | false ↦ λ there. none q t there
      ] (sym (map.get-remove entity_total m e q) ∙ there)
      | false ↦ λ full there. elim (eq_by_cmp entity_cmp q e) as (λ here. cond here (Some s) (map.get m q) ≡ Some t → is_bare t ≡ false) [
        | true ↦ λ is. sym (ap (λ o. is_bare (slot_in o)) is) ∙ full
        | false ↦ λ there. none q t there
      ] (sym (map.get-insert entity_total m e s q) ∙ there)
    ] refl

-- the changed slot where it is, and the others as they were
module _ {C : SlotView → SlotView → Type 0} {old new : SlotMap} {e : Entity} (h : ChangedAt C old e new) (q : Entity) where
  pub there : eq_by_cmp entity_cmp q e ≡ true → C (slot_in (map.get old q)) (slot_in (map.get new q))
  there is =
      let slot : slot_in (map.get new q) ≡ h.slot = ap (λ m. slot_in (map.get m q)) h.all ∙ placed_at old e h.slot q ∙ ap (λ b. cond b h.slot (slot_in (map.get old q))) is in
      subst (λ w. C (slot_in (map.get old q)) w) (sym slot)
      (subst (λ x. C (slot_in (map.get old x)) h.slot) (sym (entity_exact q e ((Equal-is (entity_cmp q e)).0 is))) h.changed)

  pub elsewhere : eq_by_cmp entity_cmp q e ≡ false → slot_in (map.get old q) ≡ slot_in (map.get new q)
  elsewhere is = sym (ap (λ m. slot_in (map.get m q)) h.all ∙ placed_at old e h.slot q ∙ ap (λ b. cond b h.slot (slot_in (map.get old q))) is)

  -- a slot elsewhere is the one that was there
  pub same_elsewhere : eq_by_cmp entity_cmp q e ≡ false → map.get new q ≡ map.get old q
  same_elsewhere is = ap (λ m. map.get m q) h.all ∙ placed_get old e h.slot q is

-- a proof for an entity, where it is the changed one and where it is not
pub by_place : (q e : Entity) (P : Type 0) → (eq_by_cmp entity_cmp q e ≡ true → P) → (eq_by_cmp entity_cmp q e ≡ false → P) → P
by_place q e P here apart = elim (eq_by_cmp entity_cmp q e) as (λ b. eq_by_cmp entity_cmp q e ≡ b → P) [ true ↦ here | false ↦ apart ] refl

-- each entity that has a slot there has one here
abbrev pub IsWithin : SlotMap → SlotMap → Type 0
IsWithin there here = (e : Entity) → map.contains_key there e ≡ true → map.contains_key here e ≡ true

-- an entity that has a slot then had one
pub kept_at : {C : SlotView → SlotView → Type 0} {old new : SlotMap} {e : Entity} → ChangedAt C old e new → IsWithin new old
kept_at {C} {old} {new} {e} h q there = by_place q e (map.contains_key old q ≡ true)
    (λ is. let same = entity_exact q e ((Equal-is (entity_cmp q e)).0 is) in
    subst (λ x. map.contains_key old x ≡ true) (sym same) (h.kept (subst (λ x. map.contains_key new x ≡ true) same there)))
    (λ is. sym (ap is_some (same_elsewhere h q is)) ∙ there)

-- ---- the list that is left
pub next_of : (es : List Entity) (i : ℕ) (e : Entity) → i < length es → e ≡ get_or es i e → drop i es ≡ e ∷ drop (i + 1) es
next_of es i e within is = drop-cons es i e within ∙ (λ k. sym is k ∷ drop (suc-eq-add-one i k) es)

-- ---- a failure, where these are left
pub record Unwinding (g : ℕ) (old now : SlotMap) (rest : List Entity) : Type 0 where
  pub look : (q : Entity) → unwound g (log_at now q) (look_at now q) ≡ unwound g (log_at old q) (look_at old q)
  pub logs : (q : Entity) → cut g (log_at now q) ≡ cut g (log_at old q)
  pub listed : AreListed g now rest
  pub grow : AllGrow now
  pub bare : NoneBare old → NoneBare now

carries_cut : (g : ℕ) (log : List (Note EntityState)) → carries g (cut g log) ≡ false
carries_cut g [] = refl
carries_cut g (n ∷ ns) =
    elim (has g n.tags) as (λ b. has g n.tags ≡ b → carries g (cond b [] (n ∷ cut g ns)) ≡ false) [
      | true ↦ λ _. refl
      | false ↦ λ is. ap (λ b. b || carries g (cut g ns)) is ∙ carries_cut g ns
    ] refl

pub unwinding_from : (g : ℕ) (old : SlotMap) (es : List Entity) → AreListed g old es → AllGrow old → Unwinding g old old es
unwinding_from g old es listed grows = record { look = λ q. refl; logs = λ q. refl; listed = listed; grow = grows; bare = λ h. h }

module _ (g : ℕ) (old now new : SlotMap) (e : Entity) (rest : List Entity) (so : Unwinding g old now (e ∷ rest)) (h : ChangedAt (SlotUnwound g) now e new) where
  left_at : (q : Entity) → carries g (log_at new q) ≡ true → is_in entity_cmp rest q ≡ true
  left_at q here = by_place q e (is_in entity_cmp rest q ≡ true)
      (λ is. absurd (true≢false (sym here ∙ ap (carries g) ((there h q is).log (so.grow q)) ∙ carries_cut g (log_at now q))))
      (λ is. sym (ap (λ b. b || is_in entity_cmp rest q) is) ∙ so.listed q (ap (λ (s : SlotView). carries g (reverse s.log)) (elsewhere h q is) ∙ here))

  pub unwinding_more : Unwinding g old new rest
  unwinding_more = record {
    look = λ q. by_place q e (unwound g (log_at new q) (look_at new q) ≡ unwound g (log_at old q) (look_at old q))
        (λ is.
        let slot = there h q is in
        ap (λ log. unwound g log (look_at new q)) (slot.log (so.grow q))
        ∙ (none_off g (cut g (log_at now q)) (look_at new q) (carries_cut g (log_at now q))).0
        ∙ slot.now (so.grow q) ∙ so.look q)
        (λ is. ap (λ (s : SlotView). unwound g (reverse s.log) s.now) (sym (elsewhere h q is)) ∙ so.look q);
    logs = λ q. by_place q e (cut g (log_at new q) ≡ cut g (log_at old q))
        (λ is. ap (cut g) ((there h q is).log (so.grow q)) ∙ (none_off g (cut g (log_at now q)) None (carries_cut g (log_at now q))).1 ∙ so.logs q)
        (λ is. ap (λ (s : SlotView). cut g (reverse s.log)) (sym (elsewhere h q is)) ∙ so.logs q);
    listed = left_at;
    grow = λ q. by_place q e (IsGrowing (log_at new q))
        (λ is. subst IsGrowing (sym ((there h q is).log (so.grow q))) (grow_cut g (log_at now q) (so.grow q)))
        (λ is. subst (λ (s : SlotView). IsGrowing (reverse s.log)) (elsewhere h q is) (so.grow q));
    bare = λ none. subst NoneBare (sym h.all) (placed_bare now e h.slot (so.bare none));
  }

no_more : (g : ℕ) (log : List (Note EntityState)) → (carries g log ≡ true → false ≡ true) → carries g log ≡ false
no_more g log h = elim (carries g log) as (λ b. (b ≡ true → false ≡ true) → b ≡ false) [ true ↦ λ h. absurd (true≢false (sym (h refl))) | false ↦ λ _. refl ] h

pub all_unwound : (g : ℕ) (old now : SlotMap) → Unwinding g old now [] → Unwound old g now
all_unwound g old now so =
    let off = λ (q : Entity). none_off g (log_at now q) (look_at now q) (no_more g (log_at now q) (so.listed q)) in
    record { look = λ q. sym (off q).0 ∙ so.look q; logs = λ q. sym (off q).1 ∙ so.logs q }

-- ---- a commit, where these are left
pub record Committing (g : ℕ) (old now : SlotMap) (rest : List Entity) : Type 0 where
  pub look : (q : Entity) → look_at now q ≡ look_at old q
  pub logs : (q : Entity) → Merges [] (committed g (log_at old q)) (committed g (log_at now q))
  pub grow : AllGrow now
  pub rests : AllRest now
  pub joined : (q : Entity) → committed_joined g None (log_at now q) ≡ committed_joined g None (log_at old q)
  pub free : (q : Entity) → is_in entity_cmp rest q ≡ false → carries g (log_at now q) ≡ false
  pub done : (q : Entity) → is_in entity_cmp rest q ≡ false → committed g (log_at now q) ≡ log_at now q
  pub bare : NoneBare old → NoneBare now
  pub kept : IsWithin now old

unlisted : (b c : Bool) → (b ≡ true → c ≡ true) → c ≡ false → b ≡ false
unlisted true c h is = absurd (true≢false (sym (h refl) ∙ is))
unlisted false c h is = refl

pub committing_from : (g : ℕ) (old : SlotMap) (es : List Entity) → AreListed g old es → AllRest old → AllGrow old → Committing g old old es
committing_from g old es listed rests grows = record {
  look = λ q. refl;
  logs = λ q. all_kept [] (committed g (log_at old q));
  grow = grows;
  rests = rests;
  joined = λ q. refl;
  free = λ q is. unlisted _ _ (listed q) is;
  done = λ q is. committed_free g (log_at old q) (unlisted _ _ (listed q) is) (rests q);
  bare = λ h. h;
  kept = λ q there. there;
}

module _ (g : ℕ) (old now new : SlotMap) (e : Entity) (rest : List Entity) (so : Committing g old now (e ∷ rest)) (h : ChangedAt (SlotCommitted g) now e new) where
  settled_there : (q : Entity) → eq_by_cmp entity_cmp q e ≡ true → list_all (is_settled g) (log_at new q) ≡ true
  settled_there q is = all_merged (is_settled g) [] (committed g (log_at now q)) (log_at new q) ((there h q is).log (so.grow q)) (all_settled g (log_at now q))

  pub committing_more : Committing g old new rest
  committing_more = record {
    look = λ q. by_place q e (look_at new q ≡ look_at old q)
        (λ is. (there h q is).now ∙ so.look q)
        (λ is. ap (λ (s : SlotView). s.now) (sym (elsewhere h q is)) ∙ so.look q);
    logs = λ q. by_place q e (Merges [] (committed g (log_at old q)) (committed g (log_at new q)))
        (λ is. in_turn [] _ _ _ (so.logs q) (subst (λ ns. Merges [] ns (committed g (log_at new q))) (committed_twice g (log_at now q)) (both_committed g [] (committed g (log_at now q)) (log_at new q) ((there h q is).log (so.grow q)))))
        (λ is. subst (λ (s : SlotView). Merges [] (committed g (log_at old q)) (committed g (reverse s.log))) (elsewhere h q is) (so.logs q));
    grow = λ q. by_place q e (IsGrowing (log_at new q))
        (λ is. λ x. grow_in x [] (committed g (log_at now q)) (log_at new q) refl ((there h q is).log (so.grow q)) (grow_commit g (log_at now q) (so.grow q) x))
        (λ is. subst (λ (s : SlotView). IsGrowing (reverse s.log)) (elsewhere h q is) (so.grow q));
    rests = λ q. by_place q e (EachRests (log_at new q))
        (λ is. settled_rests g (log_at new q) (settled_there q is))
        (λ is. subst (λ (s : SlotView). EachRests (reverse s.log)) (elsewhere h q is) (so.rests q));
    joined = λ q. by_place q e (committed_joined g None (log_at new q) ≡ committed_joined g None (log_at old q))
        (λ is. joined_free g None (log_at new q) (settled_none g (log_at new q) (settled_there q is)) ∙ (there h q is).joined (so.grow q) (so.rests q) ∙ so.joined q)
        (λ is. ap (λ (s : SlotView). committed_joined g None (reverse s.log)) (sym (elsewhere h q is)) ∙ so.joined q);
    free = λ q out. by_place q e (carries g (log_at new q) ≡ false)
        (λ is. settled_none g (log_at new q) (settled_there q is))
        (λ is. ap (λ (s : SlotView). carries g (reverse s.log)) (sym (elsewhere h q is)) ∙ so.free q (ap (λ b. b || is_in entity_cmp rest q) is ∙ out));
    done = λ q out. by_place q e (committed g (log_at new q) ≡ log_at new q)
        (λ is. settled_free g (log_at new q) (settled_there q is))
        (λ is. subst (λ (s : SlotView). committed g (reverse s.log) ≡ reverse s.log) (elsewhere h q is) (so.done q (ap (λ b. b || is_in entity_cmp rest q) is ∙ out)));
    bare = λ none. subst NoneBare (sym h.all) (placed_bare now e h.slot (so.bare none));
    kept = λ q there. so.kept q (kept_at h q there);
  }

pub all_committed : (g : ℕ) (old now : SlotMap) → Committing g old now [] → Lightened old g now
all_committed g old now so = record { look = so.look; logs = λ q. subst (Merges [] (committed g (log_at old q))) (so.done q refl) (so.logs q); joined = λ q. sym (joined_free g None (log_at now q) (so.free q refl)) ∙ so.joined q }
