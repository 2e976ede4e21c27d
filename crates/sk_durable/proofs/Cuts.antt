-- What a cut leaves of the log: the frames before it, and for the next frame what doesn't depend on what it takes away.
use Rattle.std.proofs.lemmas.Bool.Decides.{nat_tests}
use Rattle.sk_durable.proofs.Names.{◌≡◌, ℕ, zero, suc, ◌+◌, ◌-◌, ◌<◌, ◌≤◌, Bool, true, false, cond, not, ◌||◌, ◌&&◌}
use Rattle.sk_durable.proofs.Names.{List, [], ◌∷◌, ◌++◌, length, map, take, inl, inr, refl, sym, ◌∙◌, ap, subst}
use Rattle.sk_durable.proofs.Names.{append_assoc, arith, ◌⊎◌, ◌==◌, nat_lt, nat_le, both_ways, filter, list_any}
use Rattle.sk_durable.proofs.Names.{AllByRecursion, Contains, false≢true, and_from, and_parts, eq-eqb, eqb-true}
use Rattle.sk_durable.proofs.Names.{or_cases, or_left, or_right, or_from, cases_lt, false_from_ne_true, le-leb}
use Rattle.sk_durable.proofs.Names.{leb-true, lt-leb, lt-ltb, le-ltb, length-take-le, map-append, take-map}
use Rattle.sk_durable.proofs.Names.{All-contains_itself, All-weaker, filter-append, recursion_from_All}
use Rattle.sk_durable.proofs.Names.{Any-from_list_any, list_any-append, NUMBER_LIMIT, has, Event, failed_in, kept_log}
use Rattle.sk_durable.proofs.Names.{range_struck, Batch, Stage, Refused, Cut, AreDense, IsAtCut, IsBehind, IsRange}
use Rattle.sk_durable.proofs.Names.{after_cut, is_failed, is_refused, is_sent, is_taken, QueueView, RecordView}
use Rattle.sk_durable.proofs.Names.{synced_after, all_both, all_of, cut_into, dense_at, of_all, CutInto, cut_number}
use Rattle.sk_durable.proofs.Names.{failed_unkept, stays_below, Entry, Answer, is_logged, Command}
use Rattle.std.specs.Prelude.{flat_map}
use Rattle.std.proofs.lemmas.List.{length-append}
use Rattle.sk_batches.specs.Queue.{cut_off, past}
use Rattle.sk_batches.specs.Records.{is_struck, kept}
use Rattle.sk_durable.proofs.Contained.{from_map}
pub use Rattle.sk_durable.proofs.Contained.{any_has, has_any}
use Rattle.sk_durable.proofs.Frames.{in_frame, living, marked, next_marked, numbered, off, placed, unsent, AreOf, HasFrames, IsOf, Marked, Placed}

-- ---- lists

all_appended : {X : Type 0} (P : X → Type 0) (xs ys : List X) → AllByRecursion P xs → AllByRecursion P ys
    → AllByRecursion P (xs ++ ys)
all_appended P [] ys ps qs = qs
all_appended P (x ∷ xs) ys ps qs = (ps.0, all_appended P xs ys ps.1 qs)

all_left : {X : Type 0} (P : X → Type 0) (xs ys : List X) → AllByRecursion P (xs ++ ys) → AllByRecursion P xs
all_left P [] ys all = tt
all_left P (x ∷ xs) ys all = (all.0, all_left P xs ys all.1)

all_right : {X : Type 0} (P : X → Type 0) (xs ys : List X) → AllByRecursion P (xs ++ ys) → AllByRecursion P ys
all_right P [] ys all = all
all_right P (x ∷ xs) ys all = all_right P xs ys all.1

all_made : {X Y : Type 0} (P : Y → Type 0) (f : X → Y) (xs : List X) → ((x : X) → P (f x)) → AllByRecursion P (map f xs)
all_made P f [] each = tt
all_made P f (x ∷ xs) each = (each x, all_made P f xs each)

all_contained : {X : Type 0} (P : X → Type 0) (xs : List X) → ((x : X) → Contains xs x → P x) → AllByRecursion P xs
all_contained P xs each = recursion_from_All P xs (All-weaker (Contains xs) P each xs (All-contains_itself xs))

filter_all : {X : Type 0} (p : X → Bool) (xs : List X) → AllByRecursion (λ x. p x ≡ true) xs → filter p xs ≡ xs
filter_all p [] all = refl
filter_all p (x ∷ xs) all = grind (arith, nat_tests, filter_all p xs all.1)

filter_none : {X : Type 0} (p : X → Bool) (xs : List X) → AllByRecursion (λ x. p x ≡ false) xs → filter p xs ≡ []
filter_none p [] all = refl
filter_none p (x ∷ xs) all = ap (λ t. cond t (x ∷ filter p xs) (filter p xs)) all.0 ∙ filter_none p xs all.1

-- two filters in either order
filter_turned : {X : Type 0} (p q : X → Bool) (xs : List X) → filter p (filter q xs) ≡ filter q (filter p xs)
filter_turned p q [] = refl
filter_turned p q (x ∷ xs) = grind (arith, nat_tests, filter_turned p q xs)

filter_flat : {X Y : Type 0} (p : Y → Bool) (g : X → List Y) (xs : List X)
    → filter p (flat_map g xs) ≡ flat_map (λ x. filter p (g x)) xs
filter_flat p g [] = refl
filter_flat p g (x ∷ xs) = filter-append p (g x) (flat_map g xs) ∙ ap (λ ys. filter p (g x) ++ ys) (filter_flat p g xs)

-- ---- sets of guesses

has_numbers : (p : Batch → Bool) (bs : List Batch) (g : ℕ)
    → has g (map (λ (b : Batch). b.number) (filter p bs)) ≡ list_any (λ (b : Batch). p b && (b.number == g)) bs
has_numbers p [] g = refl
has_numbers p (b ∷ bs) g = grind (arith, nat_tests, has_numbers p bs g)

-- ---- the frames before a cut

unframed : (f : ℕ) (xs : List Marked) → map (λ (y : Placed). y.1) (in_frame f xs) ≡ xs
unframed f [] = refl
unframed f (x ∷ xs) = ap (λ ys. x ∷ ys) (unframed f xs)

numbered_flat : (f : ℕ) (sent : List (List Marked))
    → map (λ (y : Placed). y.1) (numbered f sent) ≡ flat_map (λ xs. xs) sent
numbered_flat f [] = refl
numbered_flat f (xs ∷ sent) =
    map-append (λ (y : Placed). y.1) (in_frame f xs) (numbered (f + 1) sent)
    ∙ (λ i. unframed f xs i ++ numbered_flat (f + 1) sent i)

numbered_empty : (f : ℕ) (sent : List (List Marked)) → numbered f (sent ++ [] ∷ []) ≡ numbered f sent
numbered_empty f [] = refl
numbered_empty f (xs ∷ sent) = ap (λ ys. in_frame f xs ++ ys) (numbered_empty (f + 1) sent)

not_below : (f : ℕ) (sent : List (List Marked)) → AllByRecursion (λ (y : Placed). f ≤ y.0) (numbered f sent)
not_below f [] = tt
not_below f (xs ∷ sent) =
    all_appended (λ (y : Placed). f ≤ y.0) (in_frame f xs) (numbered (f + 1) sent)
    (all_made (λ (y : Placed). f ≤ y.0) (λ (x : Marked). (f, x)) xs (λ x. omega arith))
    (all_of (λ (y : Placed). f + 1 ≤ y.0) (λ (y : Placed). f ≤ y.0) (λ y up. omega arith) (numbered (f + 1) sent)
    (not_below (f + 1) sent))

abbrev is_below : ℕ → Placed → Bool
is_below limit y = nat_lt y.0 limit

frame_below : (f limit : ℕ) (xs : List Marked) → f < limit → filter (is_below limit) (in_frame f xs) ≡ in_frame f xs
frame_below f limit xs less =
    filter_all (is_below limit) (in_frame f xs)
    (all_made (λ (y : Placed). nat_lt y.0 limit ≡ true) (λ (x : Marked). (f, x)) xs (λ x. lt-ltb f limit less))

frame_above : (f limit : ℕ) (xs : List Marked) → limit ≤ f → filter (is_below limit) (in_frame f xs) ≡ []
frame_above f limit xs more =
    filter_none (is_below limit) (in_frame f xs)
    (all_made (λ (y : Placed). nat_lt y.0 limit ≡ false) (λ (x : Marked). (f, x)) xs (λ x. le-ltb f limit more))

numbered_taken : (f k limit : ℕ) (sent : List (List Marked)) → limit ≡ f + k
    → numbered f (take k sent) ≡ filter (is_below limit) (numbered f sent)
numbered_taken f zero limit sent is =
    grind (arith, nat_tests, filter_none, numbered f sent, all_of (λ (y : Placed). f ≤ y.0), not_below f sent)
numbered_taken f (suc k) limit [] is = refl
numbered_taken f (suc k) limit (xs ∷ sent) is =
    (λ i. sym (frame_below f limit xs (omega arith)) i ++ numbered_taken (f + 1) k limit sent (omega arith) i)
    ∙ sym (filter-append (is_below limit) (in_frame f xs) (numbered (f + 1) sent))

-- ---- what a cut takes away

abbrev in_range : Cut → ℕ → Bool
in_range c n = nat_le c.first n && nat_le n c.last

-- whether a record stays in the log
abbrev stays : Cut → Marked → Bool
stays c x = not (in_range c x.0 || is_struck c.first c.last x.1)

-- it depends on none behind its batch
abbrev IsLow : Marked → Type 0
IsLow x = (g : ℕ) → has g x.1.rests ≡ true → g ≤ x.0

-- what a batch has, where it was sent and is not cut off
abbrev records_of : Batch → List Marked
records_of b = cond (is_taken b.stage) (marked b.number b.records) []

records_placed : (b : Batch) → map (λ (y : Placed). y.1) (placed b) ≡ records_of b
records_placed b =
    elim (is_taken b.stage) as
    (λ t. map (λ (y : Placed). y.1) (cond t (in_frame b.frame (marked b.number b.records)) [])
    ≡ cond t (marked b.number b.records) []) [
      | true ↦ unframed b.frame (marked b.number b.records)
      | false ↦ refl
    ]

all_placed : (bs : List Batch) → map (λ (y : Placed). y.1) (flat_map placed bs) ≡ flat_map records_of bs
all_placed [] = refl
all_placed (b ∷ bs) = map-append (λ (y : Placed). y.1) (placed b) (flat_map placed bs)
    ∙ (λ i. records_placed b i ++ all_placed bs i)

failed_taken : (s : Stage) → is_failed s ≡ true → is_refused s ≡ false
failed_taken Refused e = absurd (false≢true e)
failed_taken s e = refl

taken_whole : (s : Stage) → is_taken s ≡ true → is_refused s ≡ false
taken_whole Refused e = absurd (false≢true e)
taken_whole s e = refl

or_in : (x y l : Bool) → (x || (y || l)) ≡ ((x || y) || l)
or_in true y l = refl
or_in false y l = refl

or_turned : (x y l : Bool) → (x || (y || l)) ≡ (y || (x || l))
or_turned true true l = refl
or_turned true false l = refl
or_turned false y l = refl

module _ (c : Cut) where
  outside_low : (n : ℕ) → n < c.first → in_range c n ≡ false
  outside_low n less = ap (λ t. t && nat_le n c.last) (lt-leb c.first n less)

  outside_high : (n : ℕ) → c.last < n → in_range c n ≡ false
  outside_high n more = grind (arith, nat_tests)

  inside : (n : ℕ) → c.first ≤ n → n ≤ c.last → in_range c n ≡ true
  inside n low high = and_from (nat_le c.first n) (nat_le n c.last) (le-leb c.first n low) (le-leb n c.last high)

  low_stays : (x : Marked) → x.0 < c.first → IsLow x → stays c x ≡ true
  low_stays x less low =
      ap not (or_from (in_range c x.0) (is_struck c.first c.last x.1) (outside_low x.0 less)
      (false_from_ne_true (is_struck c.first c.last x.1) (λ is.
      let r = any_has (in_range c) x.1.rests is in
      let up = low r.0 r.1 in
      let from = leb-true c.first r.0 (and_parts (nat_le c.first r.0) (nat_le r.0 c.last) r.2).0 in omega arith)))

  -- a batch outside of the range loses just what depends on it
  marked_outside : (n : ℕ) (rs : List RecordView) → in_range c n ≡ false
      → filter (stays c) (marked n rs) ≡ marked n (kept c.first c.last rs)
  marked_outside n [] out = refl
  marked_outside n (r ∷ rs) out = grind (arith, nat_tests, marked_outside n rs out, marked n rs, marked n)

  -- one in it loses all
  marked_inside : (n : ℕ) (rs : List RecordView) → in_range c n ≡ true → filter (stays c) (marked n rs) ≡ []
  marked_inside n rs here =
      filter_none (stays c) (marked n rs)
      (all_made (λ (x : Marked). stays c x ≡ false) (λ (r : RecordView). (n, r)) rs
      (λ r. ap (λ t. not (t || is_struck c.first c.last r)) here))

  -- ---- batches

  none_below : (b : Batch) → c.frame ≤ b.frame → filter (is_below c.frame) (placed b) ≡ []
  none_below b from =
      grind (
        arith,
        nat_tests,
        in_frame b.frame (marked b.number b.records),
        marked b.number b.records,
        frame_above b.frame c.frame (marked b.number b.records) from,
      )

  placed_into : (b a : Batch) → CutInto c b a → filter (is_below c.frame) (placed b) ≡ placed a
  placed_into b a (inl (less, x)) =
      elim (is_taken b.stage) as
      (λ t. filter (is_below c.frame) (cond t (in_frame b.frame (marked b.number b.records)) [])
      ≡ cond t (in_frame b.frame (marked b.number b.records)) []) [
        | true ↦ frame_below b.frame c.frame (marked b.number b.records) less
        | false ↦ refl
      ] ∙ sym (ap placed x)
  placed_into b a (inr (inl (same, x))) = none_below b (omega arith) ∙ sym (ap placed x)
  placed_into b a (inr (inr (more, x))) = none_below b (omega arith) ∙ sym (ap placed x)

  placed_cut : (bs : List Batch) → filter (is_below c.frame) (flat_map placed bs) ≡ flat_map placed (map (cut_off c) bs)
  placed_cut [] = refl
  placed_cut (b ∷ bs) = filter-append (is_below c.frame) (placed b) (flat_map placed bs)
      ∙ (λ i. placed_into b (cut_off c b) (cut_into c b) i ++ placed_cut bs i)

  before_cut : (b a : Batch) → CutInto c b a → b.frame < c.frame → a ≡ b
  before_cut b a (inl (less, x)) before = x
  before_cut b a (inr (inl (same, x))) before = absurd (omega arith)
  before_cut b a (inr (inr (more, x))) before = absurd (omega arith)

  stays_whole : (b : Batch) → IsAtCut c b → b.frame < c.frame → AllByRecursion IsLow (records_of b)
      → filter (stays c) (records_of b) ≡ records_of b
  stays_whole b at less low =
      let under = (at.earlier less).1 in
      filter_all (stays c) (records_of b)
      (all_both IsLow (λ (x : Marked). x.0 ≡ b.number) (λ (x : Marked). stays c x ≡ true)
      (λ x l is. low_stays x (omega arith) l) (records_of b) low
      (elim (is_taken b.stage) as
      (λ t. AllByRecursion (λ (x : Marked). x.0 ≡ b.number) (cond t (marked b.number b.records) [])) [
        | true ↦ all_made (λ (x : Marked). x.0 ≡ b.number) (λ (r : RecordView). (b.number, r)) b.records (λ r. refl)
        | false ↦ tt
      ]))

  -- one that is cut off, or stands behind
  rest_into : (b a : Batch) → CutInto c b a → IsAtCut c b → c.frame ≤ b.frame
      → filter (stays c) (records_of b) ≡ unsent a
  rest_into b a (inl (less, x)) at from = absurd (omega arith)
  rest_into b a (inr (inl (same, x))) at from =
      let range = at.failed same in
      elim (is_taken b.stage) as (λ t. filter (stays c) (cond t (marked b.number b.records) []) ≡ []) [
        | true ↦ marked_inside b.number b.records (inside b.number range.1 range.2)
        | false ↦ refl
      ] ∙ sym (ap unsent x)
  rest_into b a (inr (inr (more, x))) at from =
      let later = at.later more in
      ap (λ t. filter (stays c) (cond t (marked b.number b.records) [])) later.0
      ∙ marked_outside b.number b.records (outside_high b.number later.1)
      ∙ sym (ap unsent x)

  none_placed : (b a : Batch) → CutInto c b a → c.frame ≤ b.frame → records_of a ≡ []
  none_placed b a (inl (less, x)) from = absurd (omega arith)
  none_placed b a (inr (inl (same, x))) from = ap records_of x
  none_placed b a (inr (inr (more, x))) from = ap records_of x

  all_behind : (bs : List Batch) → AllByRecursion (IsAtCut c) bs → AllByRecursion (λ (b : Batch). c.frame ≤ b.frame) bs
      → flat_map (λ b. filter (stays c) (records_of b)) bs ≡ flat_map unsent (map (cut_off c) bs)
  all_behind [] at from = refl
  all_behind (b ∷ bs) at from = λ i. rest_into b (cut_off c b) (cut_into c b) at.0 from.0 i
      ++ all_behind bs at.1 from.1 i

  none_behind : (bs : List Batch) → AllByRecursion (λ (b : Batch). c.frame ≤ b.frame) bs
      → flat_map records_of (map (cut_off c) bs) ≡ []
  none_behind [] from = refl
  none_behind (b ∷ bs) from = λ i. none_placed b (cut_off c b) (cut_into c b) from.0 i ++ none_behind bs from.1 i

  -- first those before the cut, then those that are to be sent again
  parted : (first next number : ℕ) (bs : List Batch) → AreDense first next number bs → AllByRecursion (IsAtCut c) bs
      → AllByRecursion IsLow (flat_map records_of bs)
      → flat_map (λ b. filter (stays c) (records_of b)) bs ≡ flat_map records_of (map (cut_off c) bs)
      ++ flat_map unsent (map (cut_off c) bs)
  parted first next number [] so at low = refl
  parted first next number (b ∷ bs) so at low =
      let later = flat_map records_of (map (cut_off c) bs) in
      let again = flat_map unsent (map (cut_off c) bs) in
      elim (cases_lt b.frame c.frame) as (λ _. flat_map (λ b. filter (stays c) (records_of b)) (b ∷ bs)
      ≡ flat_map records_of (map (cut_off c) (b ∷ bs)) ++ flat_map unsent (map (cut_off c) (b ∷ bs))) [
        | inl less ↦
            let is = before_cut b (cut_off c b) (cut_into c b) less in
            let none : unsent (cut_off c b) ≡ [] = ap unsent is
            ∙ ap (λ t. cond t (marked b.number b.records) []) at.0.unkept in
            (λ i. (stays_whole b at.0 less (all_left IsLow (records_of b) (flat_map records_of bs) low)
            ∙ ap records_of (sym is)) i
            ++ parted first next number bs so.3 at.1 (all_right IsLow (records_of b) (flat_map records_of bs) low) i)
            ∙ sym (append_assoc (records_of (cut_off c b)) later again)
            ∙ ap (λ zs. (records_of (cut_off c b) ++ later) ++ (zs ++ again)) (sym none)
        | inr from ↦
            let behind : AllByRecursion (λ (d : Batch). c.frame ≤ d.frame) (b ∷ bs) = (
              from,
              all_both (IsBehind b) (IsAtCut c) (λ (d : Batch). c.frame ≤ d.frame)
                  (λ d x y. let up = x.frame y.unkept in omega arith) bs so.2 at.1,
            ) in
            all_behind (b ∷ bs) at behind
            ∙ ap (λ zs. zs ++ flat_map unsent (map (cut_off c) (b ∷ bs))) (sym (none_behind (b ∷ bs) behind))
      ]

  none_unsent : (bs : List Batch) → AllByRecursion (IsAtCut c) bs → flat_map unsent bs ≡ []
  none_unsent [] at = refl
  none_unsent (b ∷ bs) at = λ i. ap (λ t. cond t (marked b.number b.records) []) at.0.unkept i ++ none_unsent bs at.1 i

  -- ---- the batches that are cut off

  off_into : (b a : Batch) (bs ds : List Batch) (g : ℕ) (l : Bool) → CutInto c b a → IsAtCut c b
      → has g (off ds) ≡ (has g (off bs) || l)
      → has g (off (a ∷ ds)) ≡ (has g (off (b ∷ bs)) || (((b.frame == c.frame) && (b.number == g)) || l))
  off_into b a bs ds g l (inl (less, x)) at rest =
      grind (arith, nat_tests, or_in (b.number == g) (has g (off bs)) l, off bs, off (b ∷ bs))
  off_into b a bs ds g l (inr (inl (same, x))) at rest =
      grind (
        arith,
        nat_tests,
        or_turned (b.number == g) (has g (off bs)) l,
        off bs,
        failed_taken b.stage (at.failed same).0,
      )
  off_into b a bs ds g l (inr (inr (more, x))) at rest =
      grind (arith, nat_tests, off, taken_whole b.stage (at.later more).0)

  off_cut : (bs : List Batch) (g : ℕ) → AllByRecursion (IsAtCut c) bs
      → has g (off (map (cut_off c) bs))
      ≡ (has g (off bs) || list_any (λ (b : Batch). (b.frame == c.frame) && (b.number == g)) bs)
  off_cut [] g at = refl
  off_cut (b ∷ bs) g at =
      off_into b (cut_off c b) bs (map (cut_off c) bs) g
      (list_any (λ (d : Batch). (d.frame == c.frame) && (d.number == g)) bs) (cut_into c b) at.0 (off_cut bs g at.1)

-- ---- commands

low_all : (rs : List Command) (xs : List Marked) → AreOf rs xs → AllByRecursion IsLow xs
low_all [] [] all = tt
low_all [] (x ∷ xs) all = absurd all
low_all (r ∷ rs) [] all = absurd all
low_all (r ∷ rs) (x ∷ xs) all = grind (arith, nat_tests, low_all rs xs all.1)

of_filtered : (p : Command → Bool) (p' : Marked → Bool) → ((r : Command) (x : Marked) → IsOf r x → p r ≡ p' x)
    → (rs : List Command) (xs : List Marked) → AreOf rs xs
    → AreOf (filter p rs) (filter p' xs)
of_filtered p p' same [] [] all = tt
of_filtered p p' same [] (x ∷ xs) all = absurd all
of_filtered p p' same (r ∷ rs) [] all = absurd all
of_filtered p p' same (r ∷ rs) (x ∷ xs) all =
    let rest = of_filtered p p' same rs xs all.1 in
    subst (λ t. AreOf (cond t (r ∷ filter p rs) (filter p rs)) (cond (p' x) (x ∷ filter p' xs) (filter p' xs)))
    (sym (same r x all.0))
    (elim (p' x) as (λ t. AreOf (cond t (r ∷ filter p rs) (filter p rs))
    (cond t (x ∷ filter p' xs) (filter p' xs))) [
      | true ↦ (all.0, rest)
      | false ↦ rest
    ])

-- whether a command stays
abbrev remains : Cut → Command → Bool
remains c r = not (list_any (λ n. nat_le c.first n && nat_le n c.last) r.rests)

remains_alike : (c : Cut) (r : Command) (x : Marked) → IsOf r x → remains c r ≡ stays c x
remains_alike c r x of = ap not
    (both_ways (list_any (in_range c) r.rests) (in_range c x.0 || is_struck c.first c.last x.1)
    (λ is.
    let found = any_has (in_range c) r.rests is in
    elim (or_cases (has found.0 x.1.rests) (x.0 == found.0) (sym (of.rests found.0) ∙ found.1)) as
    (λ _. (in_range c x.0 || is_struck c.first c.last x.1) ≡ true) [
      | inl beside ↦ or_right (in_range c x.0) (is_struck c.first c.last x.1)
          (has_any (in_range c) x.1.rests found.0 beside found.2)
      | inr own ↦ or_left (in_range c x.0) (is_struck c.first c.last x.1)
          (subst (λ n. in_range c n ≡ true) (sym (eqb-true x.0 found.0 own)) found.2)
    ])
    (λ is. elim (or_cases (in_range c x.0) (is_struck c.first c.last x.1) is) as
    (λ _. list_any (in_range c) r.rests ≡ true) [
      | inl own ↦ has_any (in_range c) r.rests x.0
          (of.rests x.0 ∙ or_right (has x.0 x.1.rests) (x.0 == x.0) (eq-eqb x.0 x.0 refl)) own
      | inr beside ↦
          let found = any_has (in_range c) x.1.rests beside in
          has_any (in_range c) r.rests found.0
          (of.rests found.0 ∙ or_left (has found.0 x.1.rests) (x.0 == found.0) found.1) found.2
    ]))

-- what is left is told by what failed or was cut off alone
left_alike : (a b : List ℕ) → ((g : ℕ) → has g a ≡ has g b) → (commands : List Command)
    → kept_log a commands ≡ kept_log b commands
left_alike a b same commands = λ i. filter (λ (r : Command). not (list_any (λ g. same g i) r.rests)) commands

module _ (c : Cut) (bs : List Batch) (range : IsRange c bs) where
  abbrev taken_away : List ℕ
  taken_away = map (λ (b : Batch). b.number) (filter (λ (b : Batch). b.frame == c.frame) bs)

  away : (g : ℕ) → has g taken_away ≡ in_range c g
  away g = has_numbers (λ (b : Batch). b.frame == c.frame) bs g ∙ range.numbers g

  more_off : (failed : List ℕ) (g : ℕ)
      → has g (failed ++ off (map (cut_off c) bs)) ≡ has g ((failed ++ off bs) ++ taken_away)
  more_off failed g =
      grind (
        arith,
        nat_tests,
        list_any-append (λ t. t == g) failed (off (map (cut_off c) bs)),
        off (map (cut_off c) bs),
        off_cut c bs g range.each,
        or_in (has g failed) (has g (off bs)) (list_any (λ (b : Batch). (b.frame == c.frame) && (b.number == g)) bs),
        off bs,
        list_any-append (λ t. t == g) failed (off bs),
        has_numbers (λ (b : Batch). b.frame == c.frame) bs g,
        list_any-append (λ t. t == g) (failed ++ off bs),
      )

  living_cut : (failed : List ℕ) (commands : List Command)
      → living commands (failed ++ off (map (cut_off c) bs)) ≡ filter (remains c) (living commands (failed ++ off bs))
  living_cut failed commands =
      ap (filter (λ (r : Command). is_logged r.entry))
      (left_alike (failed ++ off (map (cut_off c) bs)) ((failed ++ off bs) ++ taken_away) (more_off failed) commands
      ∙ range_struck Entry (ℕ × Answer) (failed ++ off bs) taken_away c.first c.last commands away)
      ∙ filter_turned (λ (r : Command). is_logged r.entry) (remains c) (kept_log (failed ++ off bs) commands)

  -- each number of the range is that of a batch of the frame
  batch_in : (g : ℕ) → c.first ≤ g → g ≤ c.last → (b : Batch) × Contains bs b × (b.frame ≡ c.frame) × (b.number ≡ g)
  batch_in g low high =
      grind (
        arith,
        nat_tests,
        Any-from_list_any (λ (b : Batch). (b.frame == c.frame) && (b.number == g)) bs (range.numbers g ∙ inside c g low
            high),
        inside c g low high,
      )

-- ---- the step

three : {X : Type 0} (xs ys zs us : List X) → (xs ++ (ys ++ zs)) ++ us ≡ (xs ++ ys) ++ (zs ++ us)
three xs ys zs us = ap (λ vs. vs ++ us) (sym (append_assoc xs ys zs)) ∙ append_assoc (xs ++ ys) zs us

-- what stays sent or failed is as it was
undecided_into : (c : Cut) (b a : Batch) → CutInto c b a → (is_sent a.stage ≡ true) ⊎ (is_failed a.stage ≡ true) → a ≡ b
undecided_into c b a (inl (less, x)) is = x
undecided_into c b a (inr (inl (same, x))) (inl is) = grind (arith, nat_tests)
undecided_into c b a (inr (inl (same, x))) (inr is) = grind (arith, nat_tests)
undecided_into c b a (inr (inr (more, x))) (inl is) = grind (arith, nat_tests)
undecided_into c b a (inr (inr (more, x))) (inr is) = grind (arith, nat_tests)

module _ (first : ℕ) (commands : List Command) (decides : List (Event Entry)) (log : List (List RecordView))
    (told : List ℕ) (q : QueueView) (c : Cut)
    (has_frames : HasFrames first commands decides log told q) (dense : AreDense first q.frame q.number q.batches)
    (range : IsRange c q.batches) where
  oldest : (b : Batch) × Contains q.batches b × (b.frame ≡ c.frame) × (b.number ≡ c.first)
  oldest = batch_in c q.batches range c.first (omega arith) range.in_order

  newest : (b : Batch) × Contains q.batches b × (b.frame ≡ c.frame) × (b.number ≡ c.last)
  newest = batch_in c q.batches range c.last range.in_order (omega arith)

  oldest_failed : is_failed oldest.0.stage ≡ true
  oldest_failed = ((of_all (IsAtCut c) q.batches oldest.0 range.each oldest.1).failed oldest.2).0

  -- the frame of the cut is one of the log
  within : (first ≤ c.frame) × (c.frame < q.frame) × (c.frame < NUMBER_LIMIT)
  within =
      grind (
        arith,
        nat_tests,
        dense_at first q.frame q.number q.batches oldest.0 dense oldest.1,
        failed_unkept oldest.0.stage oldest_failed,
        oldest_failed,
      )

  last_below : c.last < q.number
  last_below = subst (λ n. n < q.number) newest.3 (dense_at first q.frame q.number q.batches newest.0 dense newest.1).0

  done_frame : (y : Placed) → Contains has_frames.done y → y.0 < c.frame
  done_frame y at = subst (λ n. y.0 < n) oldest.2 ((has_frames.before y at).failed oldest.0 oldest.1 oldest_failed)

  done_number : (y : Placed) → Contains has_frames.done y → y.1.0 < c.first
  done_number y at = subst (λ n. y.1.0 < n) oldest.3 ((has_frames.before y at).number oldest.0 oldest.1)

  abbrev count : ℕ
  count = c.frame - first

  abbrev sent_left : List (List Marked)
  sent_left = take count has_frames.sent ++ [] ∷ []

  sent_same : map (map (λ (x : Marked). x.1)) sent_left ≡ take count log ++ [] ∷ []
  sent_same = grind (arith, nat_tests, map-append (map (λ (x : Marked). x.1)), take-map (map (λ (x : Marked). x.1)))

  next_same : past c.frame ≡ first + length sent_left
  next_same =
      let low = within.0 in
      let high = within.1 in
      let all = has_frames.next in
      let some = length-take-le count has_frames.sent (omega arith) in
      let long = length-append (take count has_frames.sent) ([] ∷ []) in
      ap (λ t. cond t (c.frame + 1) c.frame) (lt-ltb c.frame NUMBER_LIMIT within.2) ∙ omega (arith, low, some, long)

  stand_left : numbered first sent_left ≡ has_frames.done ++ flat_map placed (map (cut_off c) q.batches)
  stand_left =
      let low = within.0 in
      numbered_empty first (take count has_frames.sent)
      ∙ numbered_taken first count c.frame has_frames.sent (omega arith)
      ∙ ap (filter (is_below c.frame)) has_frames.stand
      ∙ filter-append (is_below c.frame) has_frames.done (flat_map placed q.batches)
      ∙ (λ i. filter_all (is_below c.frame) has_frames.done
      (all_contained (λ (y : Placed). nat_lt y.0 c.frame ≡ true) has_frames.done
      (λ y at. lt-ltb y.0 c.frame (done_frame y at))) i
      ++ placed_cut c q.batches i)

  -- ---- the records

  abbrev old : List Marked
  old = map (λ (y : Placed). y.1) has_frames.done

  sent_all : flat_map (λ xs. xs) has_frames.sent ≡ old ++ flat_map records_of q.batches
  sent_all =
      sym (numbered_flat first has_frames.sent)
      ∙ ap (map (λ (y : Placed). y.1)) has_frames.stand
      ∙ map-append (λ (y : Placed). y.1) has_frames.done (flat_map placed q.batches)
      ∙ ap (λ ys. old ++ ys) (all_placed q.batches)

  sent_now : flat_map (λ xs. xs) sent_left ≡ old ++ flat_map records_of (map (cut_off c) q.batches)
  sent_now =
      sym (numbered_flat first sent_left)
      ∙ ap (map (λ (y : Placed). y.1)) stand_left
      ∙ map-append (λ (y : Placed). y.1) has_frames.done (flat_map placed (map (cut_off c) q.batches))
      ∙ ap (λ ys. old ++ ys) (all_placed (map (cut_off c) q.batches))

  low_sent : AllByRecursion IsLow (old ++ flat_map records_of q.batches)
  low_sent =
      subst (AllByRecursion IsLow) sent_all
      (all_left IsLow (flat_map (λ xs. xs) has_frames.sent) (next_marked q)
      (low_all (living commands (failed_in decides ++ off q.batches))
      (flat_map (λ xs. xs) has_frames.sent ++ next_marked q) has_frames.same))

  old_stays : filter (stays c) old ≡ old
  old_stays =
      filter_all (stays c) old
      (all_both IsLow (λ (x : Marked). x.0 < c.first) (λ (x : Marked). stays c x ≡ true)
      (λ x low less. low_stays c x less low) old
      (all_left IsLow old (flat_map records_of q.batches) low_sent)
      (all_old has_frames.done (all_contained (λ (y : Placed). y.1.0 < c.first) has_frames.done done_number)))
    where
      all_old : (ys : List Placed) → AllByRecursion (λ (y : Placed). y.1.0 < c.first) ys
          → AllByRecursion (λ (x : Marked). x.0 < c.first) (map (λ (y : Placed). y.1) ys)
      all_old [] all = tt
      all_old (y ∷ ys) all = (all.0, all_old ys all.1)

  abbrev again : List Marked
  again = flat_map unsent (map (cut_off c) q.batches)

  abbrev opened : List Marked
  opened = marked q.number (kept c.first c.last q.records)

  records_left : filter (stays c) (flat_map (λ xs. xs) has_frames.sent ++ next_marked q)
      ≡ flat_map (λ xs. xs) sent_left ++ (again ++ opened)
  records_left =
      filter-append (stays c) (flat_map (λ xs. xs) has_frames.sent) (next_marked q)
      ∙ (λ i. (ap (filter (stays c)) sent_all
      ∙ filter-append (stays c) old (flat_map records_of q.batches)
      ∙ (λ j. old_stays j ++ (filter_flat (stays c) records_of q.batches
      ∙ parted c first q.frame q.number q.batches dense range.each
      (all_right IsLow old (flat_map records_of q.batches) low_sent)) j)) i
      ++ (ap (λ xs. filter (stays c) (xs ++ marked q.number q.records)) (none_unsent c q.batches range.each)
      ∙ marked_outside c q.number q.records (outside_high c q.number last_below)) i)
      ∙ three old (flat_map records_of (map (cut_off c) q.batches)) again opened
      ∙ ap (λ xs. xs ++ (again ++ opened)) (sym sent_now)

  pub cuts_step : HasFrames first commands decides (take (c.frame - first) log ++ [] ∷ []) (synced_after c told)
      (after_cut c q)
  cuts_step = record {
    sent = sent_left;
    sent_are = sent_same;
    next = next_same;
    done = has_frames.done;
    stand = stand_left;
    before = λ y at.
        let was = has_frames.before y at in
        record {
          newest = was.newest;
          number = λ a here.
              let b = from_map (cut_off c) q.batches a here in
              subst (λ n. y.1.0 < n) (sym (cut_number c b.0) ∙ ap (λ (z : Batch). z.number) b.2) (was.number b.0 b.1);
          waits = λ a here sent.
              let b = from_map (cut_off c) q.batches a here in
              let same = undecided_into c b.0 a (subst (CutInto c b.0) b.2 (cut_into c b.0)) (inl sent) in
              subst (λ n. y.0 < n) (sym (ap (λ (z : Batch). z.frame) same))
              (was.waits b.0 b.1 (sym (ap (λ (z : Batch). is_sent z.stage) same) ∙ sent));
          failed = λ a here fails.
              let b = from_map (cut_off c) q.batches a here in
              let same = undecided_into c b.0 a (subst (CutInto c b.0) b.2 (cut_into c b.0)) (inr fails) in
              subst (λ n. y.0 < n) (sym (ap (λ (z : Batch). z.frame) same))
              (was.failed b.0 b.1 (sym (ap (λ (z : Batch). is_failed z.stage) same) ∙ fails));
        };
    on_disk = λ y n at from upto.
        let less = done_frame y at in
        or_right (c.frame == n) (has n (filter (λ m. nat_lt m c.frame) told))
        (stays_below c.frame n told (omega arith) (has_frames.on_disk y n at from upto));
    same =
        subst (λ rs. AreOf rs (flat_map (λ xs. xs) sent_left ++ (again ++ opened)))
        (sym (living_cut c q.batches range (failed_in decides) commands))
        (subst (AreOf (filter (remains c) (living commands (failed_in decides ++ off q.batches)))) records_left
        (of_filtered (remains c) (stays c) (remains_alike c) (living commands (failed_in decides ++ off q.batches))
        (flat_map (λ xs. xs) has_frames.sent ++ next_marked q) has_frames.same));
    below = has_frames.below;
    settled = λ n at.
        let was = has_frames.settled n at in (
          was.0,
          λ a here.
              let b = from_map (cut_off c) q.batches a here in
              subst (λ m. n < m) (sym (cut_number c b.0) ∙ ap (λ (z : Batch). z.number) b.2) (was.1 b.0 b.1),
        );
  }
