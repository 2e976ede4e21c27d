-- How many names each directory has, after one entity was written.
use Rattle.sk_undo.proofs.Cites.{◌≡◌, ◌≤◌, ◌<◌, ◌^◌, ℕ, ◌+◌, ◌-◌, Bool, true, false, not, cond, ◌&&◌, ◌||◌, List, []}
use Rattle.sk_undo.proofs.Cites.{Option, Some, None, Result, Ok, Err, refl, sym, ◌∙◌, ap, subst, arith, is_some}
use Rattle.sk_undo.proofs.Cites.{OnOk, OnErr, unwrap_or, Ordering, Less, Equal, Greater, eq_by_cmp, is_eq}
use Rattle.sk_undo.proofs.Cites.{ordering_then, IsTotalOrder, Equal-is, eq_by_cmp_equiv, tied_itself}
use Rattle.sk_undo.proofs.Cites.{len, empty}
use Rattle.sk_undo.proofs.Cites.{contains-empty, len-empty, true≢false}
use Rattle.sk_undo.proofs.Cites.{name_order, entity_cmp, object_cmp, ObjId, total-law, Entity, Proc, Obj}
use Rattle.sk_undo.proofs.Cites.{Link, entity_total, entity_exact, object_same, object_exact, IsCount, name_there}
use Rattle.sk_undo.proofs.Cites.{one_more, one_less, as_many, EntityState, Change, FitsAt, PutBack, TakeBack}
use Rattle.sk_undo.proofs.Cites.{DropSlot, UndoLast, SlotView, slot_wrote, slot_back, SlotMap, slot_in}
use Rattle.sk_undo.proofs.Cites.{look_at, slots_wrote, slots_back, CanTakeBack, CanUndoLast, ChangedAt}
use Rattle.sk_undo.proofs.Cites.{SlotUnwound, NameMap, IsCounted, count_in, count_for, with_count, with_place}
use Rattle.sk_undo.proofs.Cites.{made_for, recounted, recounted_at, link_there}
use Rattle.std.specs.FinMap as map
use Rattle.std.proofs.lemmas.Map.Lookups.{exact_bytes}
use Rattle.sk_undo.specs.Kinds.{HasAtMost}
use Rattle.sk_undo.proofs.Maps.{placed_untouched, put_same, put_twice}
use Rattle.sk_undo.proofs.Notes.{absent_is}
use Rattle.sk_undo.proofs.Cites.{is_empty}
use Rattle.sk_undo.proofs.Passes.{IsWithin, placed_at, same_elsewhere, wrote_get}

-- ---- directories in their order
object_itself : (d : ObjId) → object_cmp d d ≡ Equal
object_itself d = tied_itself entity_total (Obj d)

object_is : (d o : ObjId) → eq_by_cmp object_cmp d o ≡ true → d ≡ o
object_is d o is = object_exact d o ((Equal-is (object_cmp d o)).0 is)

object_total : IsTotalOrder object_cmp
object_total = subst IsTotalOrder object_same total-law

-- ---- names of one directory, and of another
named_apart : (d o : ObjId) (q n : List ℕ) → eq_by_cmp object_cmp d o ≡ false → eq_by_cmp entity_cmp (Link d q) (Link o n) ≡ false
named_apart d o q n apart =
    elim (object_cmp d o) as (λ (r : Ordering). is_eq r ≡ false → is_eq (ordering_then r (name_order q n)) ≡ false) [
      | Less ↦ λ _. refl
      | Equal ↦ λ no_way. absurd (true≢false no_way)
      | Greater ↦ λ _. refl
    ] apart

named_alike : (d : ObjId) (q n : List ℕ) → eq_by_cmp entity_cmp (Link d q) (Link d n) ≡ eq_by_cmp name_order q n
named_alike d q n = ap (λ r. is_eq (ordering_then r (name_order q n))) (object_itself d)

seen_there : (o : Option SlotView) → is_some (slot_in o).now ≡ true → is_some o ≡ true
seen_there None h = h
seen_there (Some s) h = refl

-- a name that is there has a slot
has_slot : (m : SlotMap) (e : Entity) → is_some (look_at m e) ≡ true → map.contains_key m e ≡ true
has_slot m e h = seen_there (map.get m e) h

few_for : (m : SlotMap) (names : NameMap) (e : Entity) (most : ℕ) → IsCounted m names → HasAtMost m most → count_for names e ≤ most
few_for m names (Link d n) most so few =
    let a = so.count d in
    let under : len a.names ≤ most = few d a.names (λ q inside. has_slot m (Link d q) (sym (a.all q) ∙ inside)) in
    omega (arith, a.count, under)
few_for m names _ most so is = omega arith

pub few_fit : (m : SlotMap) (names : NameMap) (e : Entity) (most : ℕ) → IsCounted m names → HasAtMost m most → most < 2 ^ 63 → count_for names e < 2 ^ 63
few_fit m names e most so is small =
    let few = few_for m names e most so is in
    omega (arith, few, small)

-- ---- numbers made and set
given_there : (b : Bool) (n : ℕ) (o : Option ℕ) → is_some o ≡ true → is_some (cond b (Some n) o) ≡ true
given_there true n o there = refl
given_there false n o there = there

made_place : (names : NameMap) (d : ObjId) → is_some (map.get (with_place names d) d) ≡ true
made_place names d =
    elim (is_some (map.get names d)) as (λ b. is_some (map.get names d) ≡ b → is_some (map.get (cond b names (map.insert names d 0)) d) ≡ true) [
      | true ↦ λ there. there
      | false ↦ λ _. ap is_some (map.get-insert object_total names d 0 d) ∙ ap (λ b. is_some (cond b (Some 0) (map.get names d))) ((eq_by_cmp_equiv object_total).refl d)
    ] refl

-- a number made changes no count
made_counts : (names : NameMap) (d q : ObjId) → count_in (with_place names d) q ≡ count_in names q
made_counts names d q =
    elim (is_some (map.get names d)) as (λ b. is_some (map.get names d) ≡ b → count_in (cond b names (map.insert names d 0)) q ≡ count_in names q) [
      | true ↦ λ _. refl
      | false ↦ λ none.
          ap (λ o. unwrap_or o 0) (map.get-insert object_total names d 0 q)
          ∙ elim (eq_by_cmp object_cmp q d) as (λ b. eq_by_cmp object_cmp q d ≡ b → unwrap_or (cond b (Some 0) (map.get names q)) 0 ≡ unwrap_or (map.get names q) 0) [
            | true ↦ λ same. sym (ap (λ o. unwrap_or o 0) (ap (map.get names) (object_is q d same) ∙ absent_is (map.get names d) none))
            | false ↦ λ _. refl
          ] refl
    ] refl

made_keeps : (names : NameMap) (d q : ObjId) → is_some (map.get names q) ≡ true → is_some (map.get (with_place names d) q) ≡ true
made_keeps names d q there =
    elim (is_some (map.get names d)) as (λ b. is_some (map.get (cond b names (map.insert names d 0)) q) ≡ true) [
      | true ↦ there
      | false ↦ ap is_some (map.get-insert object_total names d 0 q) ∙ given_there (eq_by_cmp object_cmp q d) 0 (map.get names q) there
    ]

-- a number set is there where it was, and others are as they were
set_here : (names : NameMap) (d : ObjId) (n : ℕ) → is_some (map.get names d) ≡ true → count_in (with_count names d n) d ≡ n
set_here names d n there =
    ap (λ b. count_in (cond b (map.insert names d n) names) d) there
    ∙ ap (λ o. unwrap_or o 0) (map.get-insert object_total names d n d ∙ ap (λ b. cond b (Some n) (map.get names d)) ((eq_by_cmp_equiv object_total).refl d))

set_apart : (names : NameMap) (d q : ObjId) (n : ℕ) → eq_by_cmp object_cmp q d ≡ false → map.get (with_count names d n) q ≡ map.get names q
set_apart names d q n apart =
    elim (is_some (map.get names d)) as (λ b. map.get (cond b (map.insert names d n) names) q ≡ map.get names q) [
      | true ↦ map.get-insert object_total names d n q ∙ ap (λ b. cond b (Some n) (map.get names q)) apart
      | false ↦ refl
    ]

set_keeps : (names : NameMap) (d q : ObjId) (n : ℕ) → is_some (map.get names q) ≡ true → is_some (map.get (with_count names d n) q) ≡ true
set_keeps names d q n there =
    elim (is_some (map.get names d)) as (λ b. is_some (map.get (cond b (map.insert names d n) names) q) ≡ true) [
      | true ↦ ap is_some (map.get-insert object_total names d n q) ∙ given_there (eq_by_cmp object_cmp q d) n (map.get names q) there
      | false ↦ there
    ]

set_made : (names : NameMap) (d : ObjId) (n : ℕ) → map.insert (with_place names d) d n ≡ map.insert names d n
set_made names d n =
    elim (is_some (map.get names d)) as (λ b. map.insert (cond b names (map.insert names d 0)) d n ≡ map.insert names d n) [
      | true ↦ refl
      | false ↦ put_twice object_total object_exact names d (Some n) (Some 0)
    ]

-- one more, by one look at the numbers
pub one_put : (names : NameMap) (d : ObjId) → recounted_at (with_place names d) d false true ≡ map.insert names d (count_in names d + 1)
one_put names d =
    let made = with_place names d in
    ap (λ b. cond b (map.insert made d (count_in made d + 1)) made) (made_place names d)
    ∙ ap (λ n. map.insert made d (n + 1)) (made_counts names d d)
    ∙ set_made names d (count_in names d + 1)

-- the number that is there, set again
number_is : (o : Option ℕ) → is_some o ≡ true → o ≡ Some (unwrap_or o 0)
number_is None h = absurd (true≢false (sym h))
number_is (Some n) h = refl

less_one : (k : ℕ) → k + 1 - 1 ≡ k
less_one k = omega arith

-- one more and one less
more_and_less : (names : NameMap) (d : ObjId) → is_some (map.get names d) ≡ true → recounted_at (recounted_at names d false true) d true false ≡ names
more_and_less names d there =
    let k = count_in names d in
    let more = recounted_at names d false true in
    ap (λ n. with_count more d (n - 1)) (set_here names d (k + 1) there)
    ∙ ap (with_count more d) (less_one k)
    ∙ ap (λ b. cond b (map.insert more d k) more) (set_keeps names d d (k + 1) there)
    ∙ ap (λ b. map.insert (cond b (map.insert names d (k + 1)) names) d k) there
    ∙ put_twice object_total object_exact names d (Some k) (Some (k + 1))
    ∙ put_same object_total object_exact names d (Some k) (number_is (map.get names d) there)

counted_still : (names : NameMap) (e : Entity) → recounted names e true true ≡ names
counted_still names (Link d n) = refl
counted_still names _ = refl

put_and_taken : (names : NameMap) (e : Entity) → recounted (recounted (made_for names e) e false true) e true false ≡ made_for names e
put_and_taken names (Link d n) = more_and_less (with_place names d) d (made_place names d)
put_and_taken names _ = refl

recount_keeps : (names : NameMap) (d q : ObjId) (was is : Bool) → is_some (map.get names q) ≡ true → is_some (map.get (recounted_at names d was is) q) ≡ true
recount_keeps names d q true false there = set_keeps names d q (count_in names d - 1) there
recount_keeps names d q false true there = set_keeps names d q (count_in names d + 1) there
recount_keeps names d q true true there = there
recount_keeps names d q false false there = there

recount_apart : (names : NameMap) (d q : ObjId) (was is : Bool) → eq_by_cmp object_cmp q d ≡ false → count_in (recounted_at names d was is) q ≡ count_in names q
recount_apart names d q true true apart = refl
recount_apart names d q true false apart = ap (λ o. unwrap_or o 0) (set_apart names d q (count_in names d - 1) apart)
recount_apart names d q false true apart = ap (λ o. unwrap_or o 0) (set_apart names d q (count_in names d + 1) apart)
recount_apart names d q false false apart = refl

-- numbers made for a name count what they counted
pub counted_made : (m : SlotMap) (names : NameMap) (e : Entity) → IsCounted m names → IsCounted m (made_for names e)
counted_made m names (Link d n) so = record {
  count = λ q. subst (IsCount (name_there (look_at m)) q) (sym (made_counts names d q)) (so.count q);
  places = λ q name there. made_keeps names d q (so.places q name there);
}
counted_made m names _ so = so

-- whether the directory of a name has a number
abbrev pub HasNumber : NameMap → Entity → Type 0
HasNumber names (Link d name) = is_some (map.get names d) ≡ true
HasNumber names _ = Unit {0}

number_made : (names : NameMap) (e : Entity) → HasNumber (made_for names e) e
number_made names (Link d n) = made_place names d
number_made names _ = tt

number_there : (m : SlotMap) (names : NameMap) (e : Entity) → IsCounted m names → map.contains_key m e ≡ true → HasNumber names e
number_there m names (Link d n) so there = so.places d n there
number_there m names _ so there = tt

or_is : (a b : Bool) → cond a true b ≡ (a || b)
or_is true b = refl
or_is false b = refl

and_is : (a b : Bool) → cond a false b ≡ (not a && b)
and_is true b = refl
and_is false b = refl

abbrev directory_of : ObjId → Entity → ObjId
directory_of d (Link u n) = u
directory_of d _ = d

-- ---- after one entity was written, all others being as they were
module _ (old new : SlotMap) (names : NameMap) where
  elsewhere : (e : Entity) → ((q : Entity) → eq_by_cmp entity_cmp q e ≡ false → map.get new q ≡ map.get old q) → ((d : ObjId) (n : List ℕ) → eq_by_cmp entity_cmp (Link d n) e ≡ false) → IsCounted old names → IsCounted new names
  elsewhere e others apart so = record {
    count = λ d. as_many (name_there (look_at old)) (name_there (look_at new)) d (count_in names d) (λ n. ap (λ o. is_some (slot_in o).now) (others (Link d n) (apart d n))) (so.count d);
    places = λ d n there. so.places d n (sym (ap is_some (others (Link d n) (apart d n))) ∙ there);
  }

  module _ (d : ObjId) (name : List ℕ) (others : (q : Entity) → eq_by_cmp entity_cmp q (Link d name) ≡ false → map.get new q ≡ map.get old q) (so : IsCounted old names) where
    abbrev was : Bool
    was = is_some (look_at old (Link d name))

    abbrev is : Bool
    is = is_some (look_at new (Link d name))

    -- a name of the directory, after
    after : (q : List ℕ) → name_there (look_at new) d q ≡ cond (eq_by_cmp name_order q name) is (name_there (look_at old) d q)
    after q =
        elim (eq_by_cmp name_order q name) as (λ b. eq_by_cmp name_order q name ≡ b → name_there (look_at new) d q ≡ cond b is (name_there (look_at old) d q)) [
          | true ↦ λ same. ap (name_there (look_at new) d) (exact_bytes q name ((Equal-is (name_order q name)).0 same))
          | false ↦ λ apart. ap (λ o. is_some (slot_in o).now) (others (Link d q) (named_alike d q name ∙ apart))
        ] refl

    before : (q : List ℕ) → name_there (look_at old) d q ≡ cond (eq_by_cmp name_order q name) was (name_there (look_at old) d q)
    before q =
        elim (eq_by_cmp name_order q name) as (λ b. eq_by_cmp name_order q name ≡ b → name_there (look_at old) d q ≡ cond b was (name_there (look_at old) d q)) [
          | true ↦ λ same. ap (name_there (look_at old) d) (exact_bytes q name ((Equal-is (name_order q name)).0 same))
          | false ↦ λ _. refl
        ] refl

    the_count : (b c : Bool) → was ≡ b → is ≡ c → (map.contains_key new (Link d name) ≡ true → is_some (map.get names d) ≡ true) → IsCount (name_there (look_at new)) d (count_in (recounted_at names d b c) d)
    the_count true true had has number =
        as_many (name_there (look_at old)) (name_there (look_at new)) d (count_in names d) (λ q. after q ∙ ap (λ b. cond (eq_by_cmp name_order q name) b (name_there (look_at old) d q)) (has ∙ sym had) ∙ sym (before q)) (so.count d)
    the_count false false had has number =
        as_many (name_there (look_at old)) (name_there (look_at new)) d (count_in names d) (λ q. after q ∙ ap (λ b. cond (eq_by_cmp name_order q name) b (name_there (look_at old) d q)) (has ∙ sym had) ∙ sym (before q)) (so.count d)
    the_count false true had has number =
        subst (IsCount (name_there (look_at new)) d) (sym (set_here names d (count_in names d + 1) (number (has_slot new (Link d name) has))))
        (one_more (name_there (look_at old)) (name_there (look_at new)) d name (count_in names d) had
        (λ q. after q ∙ ap (λ b. cond (eq_by_cmp name_order q name) b (name_there (look_at old) d q)) has ∙ or_is (eq_by_cmp name_order q name) (name_there (look_at old) d q)) (so.count d))
    the_count true false had has number =
        subst (IsCount (name_there (look_at new)) d) (sym (set_here names d (count_in names d - 1) (so.places d name (has_slot old (Link d name) had))))
        (one_less (name_there (look_at old)) (name_there (look_at new)) d name (count_in names d) had
        (λ q. after q ∙ ap (λ b. cond (eq_by_cmp name_order q name) b (name_there (look_at old) d q)) has ∙ and_is (eq_by_cmp name_order q name) (name_there (look_at old) d q)) (so.count d))

    other_count : (u : ObjId) → eq_by_cmp object_cmp u d ≡ false → IsCount (name_there (look_at new)) u (count_in (recounted_at names d was is) u)
    other_count u apart =
        subst (IsCount (name_there (look_at new)) u) (sym (recount_apart names d u was is apart))
        (as_many (name_there (look_at old)) (name_there (look_at new)) u (count_in names u) (λ q. ap (λ o. is_some (slot_in o).now) (others (Link u q) (named_apart u d q name apart))) (so.count u))

    at_name : (map.contains_key new (Link d name) ≡ true → is_some (map.get names d) ≡ true) → IsCounted new (recounted_at names d was is)
    at_name number = record {
      count = λ u. elim (eq_by_cmp object_cmp u d) as (λ b. eq_by_cmp object_cmp u d ≡ b → IsCount (name_there (look_at new)) u (count_in (recounted_at names d was is) u)) [
        | true ↦ λ same. subst (λ x. IsCount (name_there (look_at new)) x (count_in (recounted_at names d was is) x)) (sym (object_is u d same)) (the_count was is refl refl number)
        | false ↦ λ apart. other_count u apart
      ] refl;
      places = λ u n here. recount_keeps names d u was is (elim (eq_by_cmp entity_cmp (Link u n) (Link d name)) as (λ b. eq_by_cmp entity_cmp (Link u n) (Link d name) ≡ b → is_some (map.get names u) ≡ true) [
        | true ↦ λ same.
            let one : Link u n ≡ Link d name = entity_exact (Link u n) (Link d name) ((Equal-is (entity_cmp (Link u n) (Link d name))).0 same) in
            subst (λ x. is_some (map.get names x) ≡ true) (sym (ap (directory_of u) one)) (number (subst (λ x. map.contains_key new x ≡ true) one here))
        | false ↦ λ apart. so.places u n (sym (ap is_some (others (Link u n) apart)) ∙ here)
      ] refl);
    }

  pub counted_on : (e : Entity) → ((q : Entity) → eq_by_cmp entity_cmp q e ≡ false → map.get new q ≡ map.get old q) → (map.contains_key new e ≡ true → HasNumber names e) → IsCounted old names
      → IsCounted new (recounted names e (link_there old e) (link_there new e))
  counted_on (Link d name) others number so = at_name d name others so number
  counted_on e others number so = elsewhere e others (λ d n. refl) so

-- ---- after each call of the slots; the numbers are as the code sets them
module _ (m n : SlotMap) (e : Entity) (names : NameMap) (so : IsCounted m names) where
  -- what is told of the write is what the slots tell
  told : (made : NameMap) (q : Entity) (a b : Bool) → a ≡ is_some (look_at m q) → b ≡ is_some (look_at n q) → recounted made q a b ≡ recounted made q (link_there m q) (link_there n q)
  told made (Link d name) a b had has = (λ i. recounted_at made d (had i) (has i))
  told made _ a b had has = refl

  wrote_now : (tags : List ℕ) (v : Option EntityState) → n ≡ slots_wrote tags m e v → look_at n e ≡ v
  wrote_now tags v is_new =
      let s = slot_wrote tags (slot_in (map.get m e)) v in
      ap (λ (x : SlotMap). look_at x e) is_new ∙ ap (λ (t : SlotView). t.now) (placed_at m e s e)
      ∙ ap (λ b. (cond b s (slot_in (map.get m e))).now) ((eq_by_cmp_equiv entity_total).refl e)

  -- a write that tells whether there was something
  pub wrote_counted : (tags : List ℕ) (v : Option EntityState) (made after : NameMap) (had : Bool) → made ≡ made_for names e → had ≡ is_some (look_at m e) → n ≡ slots_wrote tags m e v
      → after ≡ recounted made e had (is_some v) → IsCounted n after
  wrote_counted tags v made after had is_made is_had is_new is_after =
      let told_so = told (made_for names e) e had (is_some v) is_had (sym (ap is_some (wrote_now tags v is_new))) in
      subst (IsCounted n) (sym (is_after ∙ (λ i. recounted (is_made i) e had (is_some v)) ∙ told_so))
      (counted_on m n (made_for names e) e (λ q. wrote_get tags m n e q v is_new) (λ _. number_made names e) (counted_made m names e so))

  -- what had a slot where it has one then
  kept_counted : (after : NameMap) (had has : Bool) → ((q : Entity) → eq_by_cmp entity_cmp q e ≡ false → map.get n q ≡ map.get m q) → (map.contains_key n e ≡ true → map.contains_key m e ≡ true)
      → had ≡ link_there m e → has ≡ link_there n e → after ≡ recounted names e had has → IsCounted n after
  kept_counted after had has others kept is_had is_has is_after =
      subst (IsCounted n) (sym (is_after ∙ (λ i. recounted names e (is_had i) (is_has i))))
      (counted_on m n names e others (λ there. number_there m names e so (kept there)) so)

  -- a write without tags that leaves nothing: what had no slot gets none
  pub gone_counted : (tags : List ℕ) (after : NameMap) (had : Bool) → tags ≡ [] → had ≡ is_some (look_at m e) → n ≡ slots_wrote tags m e None → after ≡ recounted names e had false → IsCounted n after
  gone_counted tags after had untagged is_had is_new is_after =
      kept_counted after (link_there m e) (link_there n e) (λ q. wrote_get tags m n e q None is_new)
      (λ here. elim (map.get m e) as (λ o. map.get m e ≡ o → map.contains_key m e ≡ true) [
        | Some t ↦ λ is. ap is_some is
        | None ↦ λ none. subst (λ (x : SlotMap). map.contains_key x e ≡ true) (is_new ∙ sym (placed_untouched m e tags none (ap is_empty untagged))) here
      ] refl)
      refl refl (is_after ∙ told names e had false is_had (sym (ap is_some (wrote_now tags None is_new))))

  pub unwound_counted : (g : ℕ) (after : NameMap) (had has : Bool) → ChangedAt (SlotUnwound g) m e n → had ≡ link_there m e → has ≡ link_there n e → after ≡ recounted names e had has → IsCounted n after
  unwound_counted g after had has h = kept_counted after had has (same_elsewhere h) h.kept

  back_others : (how : TakeBack) (q : Entity) → eq_by_cmp entity_cmp q e ≡ false → map.get (slots_back m e how) q ≡ map.get m q
  back_others DropSlot q apart = map.get-remove entity_total m e q ∙ ap (λ b. cond b None (map.get m q)) apart
  back_others (UndoLast back) q apart = map.get-insert entity_total m e (slot_back (slot_in (map.get m e)) back) q ∙ ap (λ b. cond b (Some (slot_back (slot_in (map.get m e)) back)) (map.get m q)) apart

  undo_there : (o : Option SlotView) (back : Option (PutBack EntityState)) → CanUndoLast o back → is_some o ≡ true
  undo_there (Some s) back can = refl
  undo_there None back can = absurd can

  back_kept : (how : TakeBack) → CanTakeBack m e how → map.contains_key (slots_back m e how) e ≡ true → map.contains_key m e ≡ true
  back_kept DropSlot can there =
      absurd (true≢false (sym there ∙ ap is_some (map.get-remove entity_total m e e) ∙ ap (λ b. is_some (cond b None (map.get m e))) ((eq_by_cmp_equiv entity_total).refl e)))
  back_kept (UndoLast back) can there = undo_there (map.get m e) back can

  -- the newest write taken back
  pub back_counted : (how : TakeBack) (after : NameMap) (had has : Bool) → CanTakeBack m e how → n ≡ slots_back m e how → had ≡ link_there m e → has ≡ link_there n e
      → after ≡ recounted names e had has → IsCounted n after
  back_counted how after had has can is_new =
      kept_counted after had has (λ q apart. ap (λ (x : SlotMap). map.get x q) is_new ∙ back_others how q apart)
      (λ there. back_kept how can (subst (λ (x : SlotMap). map.contains_key x e ≡ true) is_new there))

  -- a name counted before it is set, which was not there
  pub put_counted : (tags : List ℕ) (v : EntityState) (put : NameMap) → false ≡ is_some (look_at m e) → n ≡ slots_wrote tags m e (Some v)
      → put ≡ recounted (made_for names e) e false true → IsCounted n put
  put_counted tags v put had is_new is_put = wrote_counted tags (Some v) (made_for names e) put false refl had is_new is_put

  put_and_out : (put after : NameMap) → put ≡ recounted (made_for names e) e false true → after ≡ recounted put e true false → after ≡ made_for names e
  put_and_out put after is_put is_after = is_after ∙ ap (λ (x : NameMap). recounted x e true false) is_put ∙ put_and_taken names e

  -- taken out of the count again, since it was there
  pub put_again_counted : (tags : List ℕ) (v : EntityState) (put after : NameMap) → true ≡ is_some (look_at m e) → n ≡ slots_wrote tags m e (Some v)
      → put ≡ recounted (made_for names e) e false true → after ≡ recounted put e true false → IsCounted n after
  put_again_counted tags v put after had is_new is_put is_after =
      wrote_counted tags (Some v) (made_for names e) after true refl had is_new (put_and_out put after is_put is_after ∙ sym (counted_still (made_for names e) e))

  -- or since it is not set
  pub put_back_counted : (put after : NameMap) → n ≡ m → put ≡ recounted (made_for names e) e false true → after ≡ recounted put e true false → IsCounted n after
  put_back_counted put after same is_put is_after =
      subst (λ (x : SlotMap). IsCounted x after) (sym same) (subst (IsCounted m) (sym (put_and_out put after is_put is_after)) (counted_made m names e so))

  -- a guess out of all notes
  pub committed_counted : ((q : Entity) → look_at n q ≡ look_at m q) → IsWithin n m → IsCounted n names
  committed_counted look kept = record {
    count = λ d. as_many (name_there (look_at m)) (name_there (look_at n)) d (count_in names d) (λ name. ap is_some (look (Link d name))) (so.count d);
    places = λ d name there. so.places d name (kept (Link d name) there);
  }

-- ---- after a slot was set where one was
module _ {m : SlotMap} (n : SlotMap) {names : NameMap} (so : IsCounted m names) (e : Entity) (s : SlotView) (is_new : n ≡ map.insert m e s) where
  others_stay : (q : Entity) → eq_by_cmp entity_cmp q e ≡ false → map.get n q ≡ map.get m q
  others_stay q apart = ap (λ (x : SlotMap). map.get x q) is_new ∙ map.get-insert entity_total m e s q ∙ ap (λ b. cond b (Some s) (map.get m q)) apart

  -- of a process, which is no name
  pub process_counted : (pid : ℕ) → e ≡ Proc pid → IsCounted n names
  process_counted pid is = elsewhere m n names e others_stay (λ d name. ap (eq_by_cmp entity_cmp (Link d name)) is) so

  still_there : (x : Entity) → is_some (look_at m x) ≡ true → is_some (look_at n x) ≡ true → recounted names x (link_there m x) (link_there n x) ≡ names
  still_there (Link d name) had has = (λ i. recounted_at names d (had i) (has i))
  still_there _ had has = refl

  -- of what was there and is there
  pub still_counted : is_some (look_at m e) ≡ true → is_some s.now ≡ true → IsCounted n names
  still_counted had has =
      let slot : map.get n e ≡ Some s =
      ap (λ (x : SlotMap). map.get x e) is_new ∙ map.get-insert entity_total m e s e ∙ ap (λ b. cond b (Some s) (map.get m e)) ((eq_by_cmp_equiv entity_total).refl e) in
      subst (IsCounted n) (still_there e had (ap (λ o. is_some (slot_in o).now) slot ∙ has))
      (counted_on m n names e others_stay (λ _. number_there m names e so (has_slot m e had)) so)

-- what is changed is there
pub had_value : (o : Option EntityState) (change : Change) → FitsAt o change → is_some o ≡ true
had_value None change fits = absurd fits
had_value (Some v) change fits = refl

-- ---- after a call that sets slots or fails
module _ {A F : Type 0} (r : Result A F) {m : SlotMap} (n : SlotMap) {names : NameMap} (so : IsCounted m names) where
  either_way : (P : Type 0) → (P → IsCounted n names) → OnOk r P → OnErr r (n ≡ m) → IsCounted n names
  either_way P = elim r as (λ r. (P → IsCounted n names) → OnOk r P → OnErr r (n ≡ m) → IsCounted n names) [
    | Ok x ↦ λ f ok err. f ok
    | Err why ↦ λ f ok err. subst (λ (x : SlotMap). IsCounted x names) (sym err) so
  ]

  pub process_either : (pid : ℕ) (s : SlotView) → OnOk r (n ≡ map.insert m (Proc pid) s) → OnErr r (n ≡ m) → IsCounted n names
  process_either pid s = either_way (n ≡ map.insert m (Proc pid) s) (λ is. process_counted n so (Proc pid) s is pid refl)

  pub change_either : (e : Entity) (s : SlotView) → is_some (look_at m e) ≡ true → is_some s.now ≡ true → OnOk r (n ≡ map.insert m e s) → OnErr r (n ≡ m) → IsCounted n names
  change_either e s had has = either_way (n ≡ map.insert m e s) (λ is. still_counted n so e s is had has)

  -- a change of a value, and then of a process
  pub both_either : (e : Entity) (s : SlotView) (pid : ℕ) (t : SlotView) → is_some (look_at m e) ≡ true → is_some s.now ≡ true
      → OnOk r (n ≡ map.insert (map.insert m e s) (Proc pid) t) → OnErr r (n ≡ m) → IsCounted n names
  both_either e s pid t had has = either_way (n ≡ map.insert (map.insert m e s) (Proc pid) t)
      (λ is. process_counted n (still_counted (map.insert m e s) so e s refl had has) (Proc pid) t is pid refl)

-- or says that it did nothing
pub process_if : (b : Bool) {m : SlotMap} (n : SlotMap) {names : NameMap} → IsCounted m names → (pid : ℕ) (s : SlotView) → (b ≡ true → n ≡ map.insert m (Proc pid) s) → (b ≡ false → n ≡ m) → IsCounted n names
process_if true n so pid s wrote same = process_counted n so (Proc pid) s (wrote refl) pid refl
process_if false n {names} so pid s wrote same = subst (λ (x : SlotMap). IsCounted x names) (sym (same refl)) so

-- no slots, and no numbers
pub none_counted : IsCounted map.empty map.empty
none_counted = record {
  count = λ d. record {
    names = empty;
    all = λ name. contains-empty name_order name ∙ sym (ap (λ o. is_some (slot_in o).now) (map.get-empty entity_cmp (Link d name)));
    count = len-empty name_order ∙ sym (ap (λ o. unwrap_or o 0) (map.get-empty object_cmp d));
  };
  places = λ d name there. absurd (true≢false (sym there ∙ ap is_some (map.get-empty entity_cmp (Link d name))));
}
