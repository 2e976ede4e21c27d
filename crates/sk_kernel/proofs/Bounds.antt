-- How many notes slots hold at least and at most: one for each entity that has some, and no more than those of longer logs.
use Rattle.sk_kernel.proofs.Names.{◌≡◌, ℕ, ◌+◌, ◌≤◌, length, Bool, true, false, cond, ◌&&◌, List, [], ◌∷◌, Some, None}
use Rattle.sk_kernel.proofs.Names.{refl, sym, ◌∙◌, ap, subst, arith, each, T, list_all, sum_by, find, is_sorted}
use Rattle.sk_kernel.proofs.Names.{below_all, eq_by_cmp, is_lt, is_eq, Ordering, Equal-is, eq_by_cmp_equiv, true≢false}
use Rattle.sk_kernel.proofs.Names.{or_parts, and_parts, length-reverse, sum_by-cons, entity_cmp, Entity, entity_total}
use Rattle.sk_kernel.proofs.Names.{entity_exact, is_in, Note, EntityState, is_empty, SlotView, SlotMap, slot_in, log_at}
use Rattle.sk_kernel.proofs.Names.{note_count, notes_in, AreApart}
use Rattle.std.specs.FinMap as map

abbrev Entries : Type 0
Entries = List (Entity × SlotView)

abbrev log_in : Entries → Entity → List (Note EntityState)
log_in xs q = (slot_in (find entity_cmp q xs)).log

abbrev total : Entries → ℕ
total xs = sum_by note_count (each (λ x. x.1) xs)

total_cons : (x : Entity × SlotView) (xs : Entries) → total (x ∷ xs) ≡ note_count x.1 + total xs
total_cons x xs = sum_by-cons note_count x.1 (each (λ y. y.1) xs)

-- ---- entities that are the same, and others
same : (a b : Entity) → eq_by_cmp entity_cmp a b ≡ true → a ≡ b
same a b is = entity_exact a b ((Equal-is (entity_cmp a b)).0 is)

own : (a : Entity) → eq_by_cmp entity_cmp a a ≡ true
own a = (eq_by_cmp_equiv entity_total).refl a

either : (a b : Entity) → eq_by_cmp entity_cmp a b ≡ false → eq_by_cmp entity_cmp b a ≡ false
either a b other = elim (eq_by_cmp entity_cmp b a) as (λ v. eq_by_cmp entity_cmp b a ≡ v → v ≡ false) [
  | true ↦ λ is. absurd (true≢false (sym (subst (λ x. eq_by_cmp entity_cmp a x ≡ true) (sym (same b a is)) (own a)) ∙ other))
  | false ↦ λ _. refl
] refl

-- ---- sums where one entity has another number
abbrev weighed : Entity → ℕ → (Entity → ℕ) → Entity → ℕ
weighed k a f q = cond (eq_by_cmp entity_cmp q k) a (f q)

none_own : (k : Entity) (a : ℕ) (f : Entity → ℕ) (es : List Entity) → is_in entity_cmp es k ≡ false → sum_by (weighed k a f) es ≡ sum_by f es
none_own k a f [] out = refl
none_own k a f (e ∷ es) out =
    let parts = or_parts (eq_by_cmp entity_cmp k e) (is_in entity_cmp es k) out in
    let rest = none_own k a f es parts.1 in
    sum_by-cons (weighed k a f) e es ∙ (λ i. cond (either k e parts.0 i) a (f e) + rest i) ∙ sym (sum_by-cons f e es)

once_most : (k : Entity) (a : ℕ) (f : Entity → ℕ) (es : List Entity) → AreApart es → sum_by (weighed k a f) es ≤ a + sum_by f es
once_most k a f [] apart = omega arith
once_most k a f (e ∷ es) apart =
    grind (arith, sum_by-cons (weighed k a f) e es, sum_by-cons f e es, once_most k a f es apart.1, none_own k a f es, same e k, apart.0)

less_without : (k : Entity) (f : Entity → ℕ) (es : List Entity) → sum_by (weighed k 0 f) es ≤ sum_by f es
less_without k f [] = omega arith
less_without k f (e ∷ es) = grind (arith, sum_by-cons (weighed k 0 f) e es, sum_by-cons f e es, less_without k f es)

without_one : (k : Entity) (f : Entity → ℕ) (es : List Entity) → is_in entity_cmp es k ≡ true → f k + sum_by (weighed k 0 f) es ≤ sum_by f es
without_one k f [] here = absurd (true≢false (sym here))
without_one k f (e ∷ es) here =
    grind (arith, sum_by-cons (weighed k 0 f) e es, sum_by-cons f e es, less_without k f es, without_one k f es, same e k, either e k)

-- ---- at least
none_in : (es : List Entity) → sum_by (λ q. length (log_in [] q)) es ≡ 0
none_in [] = refl
none_in (e ∷ es) = let more = sum_by-cons (λ q. length (log_in [] q)) e es in let rest = none_in es in
    let one : length (log_in [] e) ≡ 0 = refl in
    omega (arith, more, one, rest)

sum_least : (xs : Entries) (es : List Entity) → AreApart es → sum_by (λ q. length (log_in xs q)) es ≤ total xs
sum_least [] es apart = let none = none_in es in omega (arith, none)
sum_least (x ∷ xs) es apart =
    let more = total_cons x xs in
    let weigh : (q : Entity) → length (log_in (x ∷ xs) q) ≡ weighed x.0 (note_count x.1) (λ q. length (log_in xs q)) q =
    λ q. elim (eq_by_cmp entity_cmp q x.0) as (λ b. length (slot_in (cond b (Some x.1) (find entity_cmp q xs))).log ≡ cond b (note_count x.1) (length (log_in xs q))) [ true ↦ refl | false ↦ refl ] in
    let all : sum_by (λ q. length (log_in (x ∷ xs) q)) es ≡ sum_by (weighed x.0 (note_count x.1) (λ q. length (log_in xs q))) es = λ i. sum_by (λ q. weigh q i) es in
    let once = once_most x.0 (note_count x.1) (λ q. length (log_in xs q)) es apart in
    let rest = sum_least xs es apart in
    omega (arith, more, all, once, rest)

pub ones : (f : Entity → ℕ) (t : Entity → Bool) → ((e : Entity) → t e ≡ true → 1 ≤ f e) → (es : List Entity) → list_all t es ≡ true → length es ≤ sum_by f es
ones f t some [] all = omega arith
ones f t some (e ∷ es) all = grind (arith, sum_by-cons f e es, some e, ones f t some es)

-- ---- at most
below : (o : Ordering) (b : Bool) → (is_lt o && b) ≡ true → (is_eq o ≡ false) × (b ≡ true)
below o b h = grind arith

below_none : (k : Entity) (xs : Entries) → below_all entity_cmp k xs ≡ true → find entity_cmp k xs ≡ None
below_none k [] h = refl
below_none k (x ∷ xs) h = grind (arith, below (entity_cmp k x.0) (below_all entity_cmp k xs), below_none k xs)

empty_long : {A : Type 0} (xs : List A) → is_empty xs ≡ true → length xs ≡ 0
empty_long [] h = refl
empty_long (x ∷ xs) h = absurd (true≢false (sym h))

module _ (x : Entity × SlotView) (xs : Entries) (sorted : below_all entity_cmp x.0 xs ≡ true) (q : Entity) where
  log_own : eq_by_cmp entity_cmp q x.0 ≡ true → log_in xs q ≡ []
  log_own is = ap (λ o. (slot_in o).log) (ap (λ e. find entity_cmp e xs) (same q x.0 is) ∙ below_none x.0 xs sorted)

  log_other : eq_by_cmp entity_cmp q x.0 ≡ false → log_in xs q ≡ log_in (x ∷ xs) q
  log_other is = sym (ap (λ b. (slot_in (cond b (Some x.1) (find entity_cmp q xs))).log) is)

  rest_within : (f : Entity → ℕ) → length (log_in (x ∷ xs) q) ≤ f q → length (log_in xs q) ≤ weighed x.0 0 f q
  rest_within f within = elim (eq_by_cmp entity_cmp q x.0) as (λ b. eq_by_cmp entity_cmp q x.0 ≡ b → length (log_in xs q) ≤ cond b 0 (f q)) [
    | true ↦ λ is. let none = ap length (log_own is) in omega (arith, none)
    | false ↦ λ is. let as_long = ap length (log_other is) in omega (arith, as_long, within)
  ] refl

  rest_covered : (es : List Entity) → (is_empty (log_in (x ∷ xs) q) ≡ false → is_in entity_cmp es q ≡ true) → is_empty (log_in xs q) ≡ false → is_in entity_cmp es q ≡ true
  rest_covered es covered some = elim (eq_by_cmp entity_cmp q x.0) as (λ b. eq_by_cmp entity_cmp q x.0 ≡ b → is_in entity_cmp es q ≡ true) [
    | true ↦ λ is. absurd (true≢false (sym (ap is_empty (log_own is)) ∙ some))
    | false ↦ λ is. covered (sym (ap is_empty (log_other is)) ∙ some)
  ] refl

sum_most : (xs : Entries) → is_sorted entity_cmp xs ≡ true → (f : Entity → ℕ) (es : List Entity) → ((q : Entity) → length (log_in xs q) ≤ f q)
    → ((q : Entity) → is_empty (log_in xs q) ≡ false → is_in entity_cmp es q ≡ true) → total xs ≤ sum_by f es
sum_most [] sorted f es within covered = omega arith
sum_most (x ∷ xs) sorted f es within covered =
    let parts = and_parts _ _ sorted in
    let more = total_cons x xs in
    let rest = sum_most xs parts.1 (weighed x.0 0 f) es (λ q. rest_within x xs parts.0 q f (within q)) (λ q. rest_covered x xs parts.0 q es (covered q)) in
    let here : log_in (x ∷ xs) x.0 ≡ x.1.log = ap (λ b. (slot_in (cond b (Some x.1) (find entity_cmp x.0 xs))).log) (own x.0) in
    elim (is_empty x.1.log) as (λ b. is_empty x.1.log ≡ b → total (x ∷ xs) ≤ sum_by f es) [
      | true ↦ λ is.
          let none = empty_long x.1.log is in
          let less = less_without x.0 f es in
          omega (arith, more, rest, none, less)
      | false ↦ λ is.
          let less = without_one x.0 f es (covered x.0 (ap is_empty here ∙ is)) in
          let long = ap length here in
          let first = within x.0 in
          omega (arith, more, rest, less, long, first)
    ] refl

-- ---- of the slots
is_true : (b : Bool) → T b → b ≡ true
is_true true h = refl
is_true false h = absurd h

log_of_map : (m : SlotMap) (q : Entity) → log_in (map.entries m) q ≡ (slot_in (map.get m q)).log
log_of_map m q = ap (λ o. (slot_in o).log) (sym (map.get-entries m q))

long_at : (m : SlotMap) (q : Entity) → length (log_in (map.entries m) q) ≡ length (log_at m q)
long_at m q = ap length (log_of_map m q) ∙ sym (length-reverse (slot_in (map.get m q)).log)

pub slots_least : (m : SlotMap) (es : List Entity) → AreApart es → sum_by (λ q. length (log_at m q)) es ≤ notes_in m
slots_least m es apart = subst (λ (f : Entity → ℕ). sum_by f es ≤ notes_in m) (λ i q. long_at m q i) (sum_least (map.entries m) es apart)

long_some : {A : Type 0} (xs ys : List A) → length xs ≡ length ys → is_empty xs ≡ false → is_empty ys ≡ false
long_some xs [] as_long some = absurd (true≢false (none xs as_long ∙ some)) where
  none : {A : Type 0} (xs : List A) → length xs ≡ 0 → true ≡ is_empty xs
  none [] h = refl
  none (x ∷ xs) h = absurd (omega arith)
long_some xs (y ∷ ys) as_long some = refl

pub slots_most : (m : SlotMap) (f : Entity → ℕ) (es : List Entity) → ((q : Entity) → length (log_at m q) ≤ f q) → ((q : Entity) → is_empty (log_at m q) ≡ false → is_in entity_cmp es q ≡ true) → notes_in m ≤ sum_by f es
slots_most m f es within covered =
    sum_most (map.entries m) (is_true _ (map.entries_sorted m)) f es
    (λ q. let long = long_at m q in let h = within q in omega (arith, long, h))
    (λ q some. covered q (long_some (log_in (map.entries m) q) (log_at m q) (long_at m q) some))
