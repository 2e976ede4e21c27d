-- Notes counted: as many are seen as are there, and none are counted exactly where no entity has one.
use Rattle.sk_undo.proofs.Cites.{◌≡◌, ℕ, ◌+◌, suc, length, Bool, true, false, cond, ◌&&◌, List, [], ◌∷◌, Option, Some}
use Rattle.sk_undo.proofs.Cites.{None, refl, sym, ◌∙◌, ap, arith, ◌↔◌, each, T, reverse, sum_by, find, is_sorted}
use Rattle.sk_undo.proofs.Cites.{below_all, eq_by_cmp, is_lt, is_eq, Ordering, Less, Equal, Greater, Equal-is}
use Rattle.sk_undo.proofs.Cites.{eq_by_cmp_equiv, and_parts, length-reverse, sum_by-cons, entity_cmp, Entity}
use Rattle.sk_undo.proofs.Cites.{entity_total, entity_exact, Note, EntityState, RawNote, seen, SlotView, SlotMap}
use Rattle.sk_undo.proofs.Cites.{slot_in, note_count, notes_in, AreUnnoted}
use Rattle.std.specs.Prelude.{min, ◌-◌, ◌^◌}
use Rattle.std.specs.FinMap as map

-- ---- notes that are there, and notes that are seen
module _ {U V : Type 0} (undone : U → Option V → Option V) where
  length_seen : (now : Option V) (ns : List (RawNote U)) → length (seen undone now ns) ≡ length ns
  length_seen now [] = refl
  length_seen now (n ∷ ns) = ap suc (length_seen (undone n.undo now) ns)

  pub as_many_seen : (now : Option V) (ns : List (RawNote U)) → length ns ≡ length (seen undone now (reverse ns))
  as_many_seen now ns = sym (length_seen now (reverse ns) ∙ length-reverse ns)

-- ---- none are counted
none_long : {A : Type 0} (xs : List A) → length xs ≡ 0 → xs ≡ []
none_long [] h = refl
none_long (x ∷ xs) h = absurd (omega arith)

none_behind : {A : Type 0} (xs : List A) → reverse xs ≡ [] → xs ≡ []
none_behind xs h = none_long xs (sym (length-reverse xs) ∙ ap length h)

abbrev Entries : Type 0
Entries = List (Entity × SlotView)

abbrev log_in : Entries → Entity → List (Note EntityState)
log_in es q = (slot_in (find entity_cmp q es)).log

abbrev pub total : Entries → ℕ
total es = sum_by note_count (each (λ e. e.1) es)

total_cons : (e : Entity × SlotView) (es : Entries) → total (e ∷ es) ≡ note_count e.1 + total es
total_cons e es = sum_by-cons note_count e.1 (each (λ x. x.1) es)

all_bare : (es : Entries) → total es ≡ 0 → (q : Entity) → log_in es q ≡ []
all_bare [] h q = refl
all_bare (e ∷ es) h q =
    let more = total_cons e es in
    elim (eq_by_cmp entity_cmp q e.0) as (λ b. (slot_in (cond b (Some e.1) (find entity_cmp q es))).log ≡ []) [
      | true ↦ none_long e.1.log (omega (arith, h, more))
      | false ↦ all_bare es (omega (arith, h, more)) q
    ]

-- what is below all keys is none of them
apart : (o : Ordering) (b : Bool) → (is_lt o && b) ≡ true → (is_eq o ≡ false) × (b ≡ true)
apart Less b h = (refl, h)
apart Equal b h = cc
apart Greater b h = cc

below_none : (k : Entity) (es : Entries) → below_all entity_cmp k es ≡ true → find entity_cmp k es ≡ None
below_none k [] h = refl
below_none k (e ∷ es) h =
    let parts = apart (entity_cmp k e.0) (below_all entity_cmp k es) h in
    ap (λ b. cond b (Some e.1) (find entity_cmp k es)) parts.0 ∙ below_none k es parts.1

-- an entry of a sorted list is found
all_found : (es : Entries) → is_sorted entity_cmp es ≡ true → ((q : Entity) → log_in es q ≡ []) → total es ≡ 0
all_found [] h bare = refl
all_found (e ∷ es) h bare =
    let parts = and_parts _ _ h in
    let own : eq_by_cmp entity_cmp e.0 e.0 ≡ true = (eq_by_cmp_equiv entity_total).refl e.0 in
    let first : e.1.log ≡ [] = sym (ap (λ b. (slot_in (cond b (Some e.1) (find entity_cmp e.0 es))).log) own) ∙ bare e.0 in
    let count = ap length first in
    let more = total_cons e es in
    let rest = all_found es parts.1 (λ q.
    elim (eq_by_cmp entity_cmp q e.0) as (λ b. eq_by_cmp entity_cmp q e.0 ≡ b → log_in es q ≡ []) [
      | true ↦ λ is. ap (log_in es) (entity_exact q e.0 ((Equal-is (entity_cmp q e.0)).0 is)) ∙ ap (λ o. (slot_in o).log) (below_none e.0 es parts.0)
      | false ↦ λ other. sym (ap (λ b. (slot_in (cond b (Some e.1) (find entity_cmp q es))).log) other) ∙ bare q
    ] refl) in
    omega (arith, more, count, rest)

none_of : (n : ℕ) → min n (2 ^ 64 - 1) ≡ 0 → n ≡ 0
none_of n h = omega (arith, h)

is_true : (b : Bool) → T b → b ≡ true
is_true true h = refl
is_true false h = absurd h

sorted_map : (m : SlotMap) → is_sorted entity_cmp (map.entries m) ≡ true
sorted_map m = is_true _ (map.entries_sorted m)

log_of_map : (m : SlotMap) (q : Entity) → log_in (map.entries m) q ≡ (slot_in (map.get m q)).log
log_of_map m q = ap (λ o. (slot_in o).log) (sym (map.get-entries m q))

-- they are 0 exactly where no entity has one
pub none_counted : (m : SlotMap) (n : ℕ) → n ≡ min (notes_in m) (2 ^ 64 - 1) → (n ≡ 0) ↔ AreUnnoted m
none_counted m n is = (
  (λ zero. λ e. ap reverse (sym (log_of_map m e) ∙ all_bare (map.entries m) (none_of (notes_in m) (sym is ∙ zero)) e)),
  λ bare. is ∙ ap (λ k. min k (2 ^ 64 - 1)) (all_found (map.entries m) (sorted_map m) (λ q. log_of_map m q ∙ none_behind _ (bare q))),
)
