-- Among what is listed of entities that rise, the names of one directory stand side by side.
use Rattle.sk_report.proofs.Names.{◌≡◌, ◌≤◌, ◌<◌, ℕ, zero, suc, ◌+◌, Bool, true, false, cond, List, [], ◌∷◌, length}
use Rattle.sk_report.proofs.Names.{take, drop, refl, sym, ◌∙◌, ap, subst, arith, Ordering, Less, Equal, Greater, is_lt}
use Rattle.sk_report.proofs.Names.{is_eq, ordering_then, ordering_reverse, IsTotalOrder, filter, AllByRecursion}
use Rattle.sk_report.proofs.Names.{slice_index_or, IsStrictlySortedBy, IsPartitionedBy, IsPartitionPoint, get_or-drop}
use Rattle.sk_report.proofs.Names.{length-drop, true≢false, sorted_head, sorted_tail, name_order, entity_cmp}
use Rattle.sk_report.proofs.Names.{object_cmp, ObjId, Entity, Proc, Sig, Exit, Obj, Link, Copy, total-law, is_before}
use Rattle.sk_report.proofs.Names.{is_name_of, Present, entities_of}
use Rattle.sk_ids.specs.contracts.pid.ObjIdOrd.TheImpl as object_ord

computed_is : (a b : ObjId) → (object_ord.ghosts).cmp a b ≡ object_cmp a b
computed_is a b = refl

object_same : (object_ord.ghosts).cmp ≡ object_cmp
object_same i a b = computed_is a b i

object_total : IsTotalOrder object_cmp
object_total = subst IsTotalOrder object_same total-law

-- before the names of a directory, among them, or behind
abbrev rank_by : Ordering → ℕ
rank_by Less = 0
rank_by Equal = 1
rank_by Greater = 2

abbrev rank : ObjId → Entity → ℕ
rank d (Proc p) = 0
rank d (Sig p) = 0
rank d (Exit p) = 0
rank d (Obj o) = 0
rank d (Link u n) = rank_by (object_cmp u d)
rank d (Copy n) = 2

at_most_two : (r : Ordering) → rank_by r ≤ 2
at_most_two Less = omega arith
at_most_two Equal = omega arith
at_most_two Greater = omega arith

turned : (a b : ObjId) (r : Ordering) → object_cmp a b ≡ r → object_cmp b a ≡ ordering_reverse r
turned a b r is = object_total.antisymm b a ∙ ap ordering_reverse is

-- of two directories the later one is no nearer to the front
later_rank : (d u v : ObjId) → object_cmp u v ≡ Less → (r : Ordering) → object_cmp u d ≡ r → rank_by r ≤ rank_by (object_cmp v d)
later_rank d u v less Less is = omega arith
later_rank d u v less Equal is =
    let behind : object_cmp d v ≡ Less = object_total.congr d u v (turned u d Equal is) ∙ less in
    let after : object_cmp v d ≡ Greater = turned d v Less behind in
    subst (λ (r : Ordering). 1 ≤ rank_by r) (sym after) (omega arith)
later_rank d u v less Greater is =
    let behind : object_cmp d v ≡ Less = object_total.trans d u v (turned u d Greater is) less in
    let after : object_cmp v d ≡ Greater = turned d v Less behind in
    subst (λ (r : Ordering). 2 ≤ rank_by r) (sym after) (omega arith)

link_rank : (d u v : ObjId) (n m : List ℕ) (r : Ordering) → object_cmp u v ≡ r → ordering_then r (name_order n m) ≡ Less → rank d (Link u n) ≤ rank d (Link v m)
link_rank d u v n m Less is less = later_rank d u v is (object_cmp u d) refl
link_rank d u v n m Equal is less = (let same : object_cmp u d ≡ object_cmp v d = object_total.congr u v d is in let e : rank_by (object_cmp u d) ≡ rank_by (object_cmp v d) = ap rank_by same in omega (arith, e))
link_rank d u v n m Greater is less = cc

rises : (d : ObjId) (x y : Entity) → entity_cmp x y ≡ Less → rank d x ≤ rank d y
rises d (Proc p) y less = omega arith
rises d (Sig p) y less = omega arith
rises d (Exit p) y less = omega arith
rises d (Obj o) y less = omega arith
rises d (Link u n) (Link v m) less = link_rank d u v n m (object_cmp u v) refl less
rises d (Link u n) (Copy m) less = at_most_two (object_cmp u d)
rises d (Link u n) (Proc p) less = cc
rises d (Link u n) (Sig p) less = cc
rises d (Link u n) (Exit p) less = cc
rises d (Link u n) (Obj o) less = cc
rises d (Copy n) (Copy m) less = omega arith
rises d (Copy n) (Proc p) less = cc
rises d (Copy n) (Sig p) less = cc
rises d (Copy n) (Exit p) less = cc
rises d (Copy n) (Obj o) less = cc
rises d (Copy n) (Link u m) less = cc

-- ---- along a rising list
abbrev rank_at : ObjId → List Present → ℕ → Present → ℕ
rank_at d xs i z = rank d (slice_index_or xs i z).entity

head_below : (d : ObjId) (x : Present) (xs : List Present) (j : ℕ) (z : Present) → AllByRecursion (λ y. entity_cmp x.entity y ≡ Less) (entities_of xs) → j < length xs → rank d x.entity ≤ rank_at d xs j z
head_below d x [] j z below in_it = absurd (omega (arith, in_it))
head_below d x (y ∷ ys) zero z below in_it = rises d x.entity y.entity below.0
head_below d x (y ∷ ys) (suc j) z below in_it = head_below d x ys j z below.1 (omega (arith, in_it))

ranked : (d : ObjId) (xs : List Present) → IsStrictlySortedBy entity_cmp (entities_of xs) → (i j : ℕ) (z : Present) → i ≤ j → j < length xs → rank_at d xs i z ≤ rank_at d xs j z
ranked d [] sorted i j z le in_it = absurd (omega (arith, in_it))
ranked d (x ∷ xs) sorted zero zero z le in_it = omega arith
ranked d (x ∷ xs) sorted zero (suc j) z le in_it = head_below d x xs j z (sorted_head entity_cmp x.entity (entities_of xs) sorted) (omega (arith, in_it))
ranked d (x ∷ xs) sorted (suc i) zero z le in_it = absurd (omega (arith, le))
ranked d (x ∷ xs) sorted (suc i) (suc j) z le in_it = ranked d xs (sorted_tail entity_cmp x.entity (entities_of xs) sorted) i j z (omega (arith, le)) (omega (arith, in_it))

before_is : (d : ObjId) (e : Entity) → is_before d e ≡ true → rank d e ≡ 0
before_is d (Proc p) h = refl
before_is d (Sig p) h = refl
before_is d (Exit p) h = refl
before_is d (Obj o) h = refl
before_is d (Link u n) h = elim (object_cmp u d) as (λ r. is_lt r ≡ true → rank_by r ≡ 0) [ Less ↦ λ _. refl | Equal ↦ λ h. absurd (true≢false (sym h)) | Greater ↦ λ h. absurd (true≢false (sym h)) ] h
before_is d (Copy n) h = absurd (true≢false (sym h))

is_first : (d : ObjId) (e : Entity) → rank d e ≤ 0 → is_before d e ≡ true
is_first d (Proc p) h = refl
is_first d (Sig p) h = refl
is_first d (Exit p) h = refl
is_first d (Obj o) h = refl
is_first d (Link u n) h = elim (object_cmp u d) as (λ r. rank_by r ≤ 0 → is_lt r ≡ true) [ Less ↦ λ _. refl | Equal ↦ λ h. absurd (omega (arith, h)) | Greater ↦ λ h. absurd (omega (arith, h)) ] h
is_first d (Copy n) h = absurd (omega (arith, h))

named_is : (d : ObjId) (e : Entity) → is_name_of d e ≡ true → rank d e ≡ 1
named_is d (Proc p) h = absurd (true≢false (sym h))
named_is d (Sig p) h = absurd (true≢false (sym h))
named_is d (Exit p) h = absurd (true≢false (sym h))
named_is d (Obj o) h = absurd (true≢false (sym h))
named_is d (Link u n) h = elim (object_cmp u d) as (λ r. is_eq r ≡ true → rank_by r ≡ 1) [ Less ↦ λ h. absurd (true≢false (sym h)) | Equal ↦ λ _. refl | Greater ↦ λ h. absurd (true≢false (sym h)) ] h
named_is d (Copy n) h = absurd (true≢false (sym h))

-- between those before and those behind
is_named : (d : ObjId) (e : Entity) → is_before d e ≡ false → rank d e ≤ 1 → is_name_of d e ≡ true
is_named d (Proc p) fails h = absurd (true≢false fails)
is_named d (Sig p) fails h = absurd (true≢false fails)
is_named d (Exit p) fails h = absurd (true≢false fails)
is_named d (Obj o) fails h = absurd (true≢false fails)
is_named d (Link u n) fails h = elim (object_cmp u d) as (λ r. is_lt r ≡ false → rank_by r ≤ 1 → is_eq r ≡ true) [ Less ↦ λ fails _. absurd (true≢false fails) | Equal ↦ λ _ _. refl | Greater ↦ λ _ h. absurd (omega (arith, h)) ] fails h
is_named d (Copy n) fails h = absurd (omega (arith, h))

-- no name is before the names
not_both : (d : ObjId) (e : Entity) → is_before d e ≡ true → is_name_of d e ≡ false
not_both d e h =
    elim (is_name_of d e) as (λ b. is_name_of d e ≡ b → b ≡ false) [
      | true ↦ λ is. (let zero_rank : rank d e ≡ 0 = before_is d e h in let one_rank : rank d e ≡ 1 = named_is d e is in absurd (omega (arith, zero_rank, one_rank)))
      | false ↦ λ _. refl
    ] refl

pub parted_before : (d : ObjId) (xs : List Present) → IsStrictlySortedBy entity_cmp (entities_of xs) → IsPartitionedBy (λ p. is_before d p.entity) xs
parted_before d xs sorted i j z le in_it h =
    let later : rank_at d xs j z ≡ 0 = before_is d (slice_index_or xs j z).entity h in
    let nearer : rank_at d xs i z ≤ rank_at d xs j z = ranked d xs sorted i j z le in_it in
    is_first d (slice_index_or xs i z).entity (omega (arith, later, nearer))

-- a list of which the first so many fail a test
skipped : (p : Present → Bool) (xs : List Present) (i : ℕ) → i ≤ length xs → ((k : ℕ) (z : Present) → k < i → p (slice_index_or xs k z) ≡ false) → filter p xs ≡ filter p (drop i xs)
skipped p xs zero le fails = refl
skipped p [] (suc i) le fails = absurd (omega (arith, le))
skipped p (x ∷ xs) (suc i) le fails = ap (λ b. cond b (x ∷ filter p xs) (filter p xs)) (fails 0 x (omega arith)) ∙ skipped p xs i (omega (arith, le)) (λ k z less. fails (suc k) z (omega (arith, less)))

-- and one of which the first so many pass it, and the others fail it
kept : (p : Present → Bool) (xs : List Present) (i : ℕ) → i ≤ length xs → ((k : ℕ) (z : Present) → k < i → p (slice_index_or xs k z) ≡ true) → ((k : ℕ) (z : Present) → i ≤ k → k < length xs → p (slice_index_or xs k z) ≡ false) → filter p xs ≡ take i xs
kept p [] zero le passes fails = refl
kept p [] (suc i) le passes fails = absurd (omega (arith, le))
kept p (x ∷ xs) zero le passes fails = ap (λ b. cond b (x ∷ filter p xs) (filter p xs)) (fails 0 x (omega arith) (omega arith)) ∙ kept p xs zero (omega arith) (λ k z less. absurd (omega (arith, less))) (λ k z le less. fails (suc k) z (omega arith) (omega (arith, less)))
kept p (x ∷ xs) (suc i) le passes fails =
    ap (λ b. cond b (x ∷ filter p xs) (filter p xs)) (passes 0 x (omega arith))
    ∙ ap (λ (ys : List Present). x ∷ ys) (kept p xs i (omega (arith, le)) (λ k z less. passes (suc k) z (omega (arith, less))) (λ k z le less. fails (suc k) z (omega (arith, le)) (omega (arith, less))))

module _ (d : ObjId) (xs : List Present) (sorted : IsStrictlySortedBy entity_cmp (entities_of xs)) (i : ℕ) (bound : i ≤ length xs) (at : IsPartitionPoint (λ p. is_before d p.entity ≡ true) (λ p. is_before d p.entity ≡ false) xs i) where
  rest_at : (k : ℕ) (z : Present) → slice_index_or (drop i xs) k z ≡ slice_index_or xs (i + k) z
  rest_at k z = get_or-drop i xs k z

  pub parted_rest : IsPartitionedBy (λ p. is_name_of d p.entity) (drop i xs)
  parted_rest j k z le in_it h =
      let far : i + k < length xs = omega (arith, in_it, length-drop i xs) in
      let named : is_name_of d (slice_index_or xs (i + k) z).entity ≡ true = ap (λ (p : Present). is_name_of d p.entity) (sym (rest_at k z)) ∙ h in
      let later : rank_at d xs (i + k) z ≡ 1 = named_is d (slice_index_or xs (i + k) z).entity named in
      let nearer : rank_at d xs (i + j) z ≤ rank_at d xs (i + k) z = ranked d xs sorted (i + j) (i + k) z (omega (arith, le)) far in
      ap (λ (p : Present). is_name_of d p.entity) (rest_at j z)
      ∙ is_named d (slice_index_or xs (i + j) z).entity (at.1 (i + j) z (omega arith) (omega (arith, le, far))) (omega (arith, later, nearer))

  pub side_by_side : (k : ℕ) → k ≤ length (drop i xs) → IsPartitionPoint (λ p. is_name_of d p.entity ≡ true) (λ p. is_name_of d p.entity ≡ false) (drop i xs) k → take k (drop i xs) ≡ filter (λ p. is_name_of d p.entity) xs
  side_by_side k low point =
      sym (skipped (λ p. is_name_of d p.entity) xs i bound (λ j z less. not_both d (slice_index_or xs j z).entity (at.0 j z (omega arith) less))
      ∙ kept (λ p. is_name_of d p.entity) (drop i xs) k low (λ j z less. point.0 j z (omega arith) less) (λ j z le less. point.1 j z le less))
