-- Batches stand in the log one behind another, and a cut takes away just those of its frame.
use Rattle.std.proofs.lemmas.Bool.Decides.{nat_tests}
use Rattle.sk_batches.proofs.Names.{none-some, or_parts, ◌≡◌, ℕ, ◌+◌, ◌<◌, ◌≤◌, true, false, cond, ◌||◌, ◌&&◌, List}
use Rattle.sk_batches.proofs.Names.{[], ◌∷◌, ◌++◌, length, map, Option, Some, None, inl, inr, refl, sym, ◌∙◌, ap}
use Rattle.sk_batches.proofs.Names.{subst, arith, ◌⊎◌, ◌==◌, nat_lt, nat_le, list_any, AllByRecursion, Contains}
use Rattle.sk_batches.proofs.Names.{true≢false, eq-eqb, cases_order, lt-ltb, ne_eqb, false_from_ne_true}
use Rattle.sk_batches.proofs.Names.{length-append, length-map, All-contains, All-from_recursion, NUMBER_LIMIT, Stage}
use Rattle.sk_batches.proofs.Names.{Kept, Sent, Synced, Failed, Refused, Batch, Cut, RecordView, kept, QueueView}
use Rattle.sk_batches.proofs.Names.{send, tell, awaits, cut_off, first_failed, last_in, is_kept, is_sent, is_failed}
use Rattle.sk_batches.proofs.Names.{is_taken, left, past, Call, Appends, Withdraws, Takes, Syncs, Fails, Decides}
use Rattle.sk_batches.proofs.Names.{Cuts, Stops, Happens, Runs, Story, story_after, is_off, AreDense, CutsARange}
use Rattle.sk_batches.proofs.Names.{FramesAreDense, IsAtCut, IsBehind, IsBetween, IsRange}
use Rattle.sk_batches.proofs.Order.{cut_number, sent_number, told_number}
use Rattle.sk_batches.proofs.Synced.{due_cut, else_decided, failed_undecided, failed_unkept, kept_unfailing, sent_undecided, sent_unkept}

-- ---- of all

pub all_of : {X : Type 0} (P Q : X → Type 0) → ((x : X) → P x → Q x) → (xs : List X) → AllByRecursion P xs
    → AllByRecursion Q xs
all_of P Q f [] all = tt
all_of P Q f (x ∷ xs) all = (f x all.0, all_of P Q f xs all.1)

pub all_both : {X : Type 0} (P Q R : X → Type 0) → ((x : X) → P x → Q x → R x) → (xs : List X) → AllByRecursion P xs
    → AllByRecursion Q xs → AllByRecursion R xs
all_both P Q R f [] ps qs = tt
all_both P Q R f (x ∷ xs) ps qs = (f x ps.0 qs.0, all_both P Q R f xs ps.1 qs.1)

pub all_mapped : {X Y : Type 0} (h : X → Y) (P : X → Type 0) (Q : Y → Type 0) → ((x : X) → P x → Q (h x))
    → (xs : List X) → AllByRecursion P xs → AllByRecursion Q (map h xs)
all_mapped h P Q f [] all = tt
all_mapped h P Q f (x ∷ xs) all = (f x all.0, all_mapped h P Q f xs all.1)

pub all_pushed : {X : Type 0} (P : X → Type 0) (xs : List X) (x : X) → AllByRecursion P xs → P x
    → AllByRecursion P (xs ++ x ∷ [])
all_pushed P [] x all here = (here, tt)
all_pushed P (y ∷ xs) x all here = (all.0, all_pushed P xs x all.1 here)

pub of_all : {X : Type 0} (P : X → Type 0) (xs : List X) (x : X) → AllByRecursion P xs → Contains xs x → P x
of_all P xs x all at = All-contains P xs x (All-from_recursion P xs all) at

-- ---- each batch, and those behind it

dense_all : (first next number : ℕ) (bs : List Batch) → AreDense first next number bs
    → AllByRecursion (λ b. (b.number < number) × (is_kept b.stage ≡ false → IsBetween first next b)) bs
dense_all first next number [] so = tt
dense_all first next number (b ∷ bs) so = grind (arith, nat_tests, dense_all first next number bs so.3)

pub dense_at : (first next number : ℕ) (bs : List Batch) (b : Batch) → AreDense first next number bs → Contains bs b
    → (b.number < number) × (is_kept b.stage ≡ false → IsBetween first next b)
dense_at first next number bs b so at =
    of_all (λ (d : Batch). (d.number < number) × (is_kept d.stage ≡ false → IsBetween first next d)) bs b
    (dense_all first next number bs so) at

-- ---- a frame is taken

module _ (first next number : ℕ) (records : List RecordView) (least : first ≤ next) (small : next < NUMBER_LIMIT) where
  abbrev opened : Batch
  opened = record { number = number; frame = next; stage = Sent; records = records }

  between_opened : IsBetween first (next + 1) opened
  between_opened = record { from = least; before = omega arith; numbered = small }

  between_sent : (b : Batch) → (is_kept b.stage ≡ false → IsBetween first next b)
      → IsBetween first (next + 1) (send next b)
  between_sent b old = grind (arith, nat_tests)

  -- of two, where the second is sent or stays
  first_stays : (b d : Batch) → is_kept b.stage ≡ false → (is_kept b.stage ≡ false → IsBetween first next b)
      → IsBehind b d → IsBehind b (send next d)
  first_stays b d unkept between old = grind (arith, nat_tests)

  both_sent : (b d : Batch) → is_kept b.stage ≡ true → IsBehind b d
      → IsBehind (record b { frame = next; stage = Sent }) (send next d)
  both_sent b d is old = grind (arith, nat_tests)

  two_sent : (b d : Batch) → (is_kept b.stage ≡ false → IsBetween first next b) → IsBehind b d
      → IsBehind (send next b) (send next d)
  two_sent b d between old = grind (arith, nat_tests, both_sent b d, first_stays b d)

  open_behind : (b : Batch) → (is_kept b.stage ≡ false → IsBetween first next b) → b.number < number
      → IsBehind (send next b) opened
  open_behind b between less = grind (arith, nat_tests)

  taken : (bs : List Batch) → AreDense first next number bs
      → AreDense first (next + 1) (number + 1) (map (send next) bs ++ opened ∷ [])
  taken [] so = (refl, λ e. between_opened, tt, tt)
  taken (b ∷ bs) so =
      let one = length-append (map (send next) bs) in
      let two = length-map bs (send next) in
      let three = between_sent b so.1 in
      let four = all_pushed (IsBehind (send next b)) (map (send next) bs) in
      let five = all_mapped (send next) (IsBehind b) (IsBehind (send next b)) (λ d old. two_sent b d so.1 old) bs so.2
      in
      let six = open_behind b so.1 (omega arith) in
      grind (arith, nat_tests, one, two, sent_number next b, three, four, five, two_sent b, six, taken bs so.3)

-- ---- a frame is told of

module _ (frame : ℕ) (stage : Stage) (unkept : is_kept stage ≡ false) (on : is_off stage ≡ false) where
  told_between : (first next : ℕ) (b : Batch) → (is_kept b.stage ≡ false → IsBetween first next b)
      → is_kept (tell frame stage b).stage ≡ false → IsBetween first next (tell frame stage b)
  told_between first next b old = grind (arith, nat_tests, sent_unkept b.stage)

  -- what was told of both, in one frame, is told of both
  awaits_alike : (b d : Batch) → b.frame ≡ d.frame → b.stage ≡ d.stage → awaits frame b ≡ awaits frame d
  awaits_alike b d one two = λ i. is_sent (two i) && (one i == frame)

  two_told : (b d : Batch) → IsBehind b d → IsBehind (tell frame stage b) (tell frame stage d)
  two_told b d old =
      grind (arith, nat_tests, sent_unkept d.stage, awaits_alike b d, sent_unkept b.stage, sent_undecided b.stage)

  told : (first next number : ℕ) (bs : List Batch) → AreDense first next number bs
      → AreDense first next number (map (tell frame stage) bs)
  told first next number [] so = tt
  told first next number (b ∷ bs) so =
      let one = length-map bs (tell frame stage) in
      let two = all_mapped (tell frame stage) (IsBehind b) (IsBehind (tell frame stage b)) (λ d old. two_told b d old)
      bs so.2 in
      let three = told first next number bs so.3 in
      grind (arith, nat_tests, one, told_number frame stage b, told_between first next b so.1, two, two_told b, three)

-- ---- the oldest is let go of

popped : (first next number : ℕ) (bs : List Batch) → AreDense first next number bs
    → AreDense first next number (left bs)
popped first next number [] so = so
popped first next number (b ∷ bs) so = grind (arith, nat_tests)

-- ---- a cut

abbrev pub kept_batch : Cut → Batch → Batch
kept_batch c b = record b { stage = Kept; records = kept c.first c.last b.records }

-- what a cut makes of it
abbrev pub CutInto : Cut → Batch → Batch → Type 0
CutInto c b a =
    ((b.frame < c.frame) × (a ≡ b))
    ⊎ (((b.frame ≡ c.frame) × (a ≡ record b { stage = Refused })) ⊎ ((c.frame < b.frame) × (a ≡ kept_batch c b)))

pub cut_into : (c : Cut) (b : Batch) → CutInto c b (cut_off c b)
cut_into c b = grind (arith, nat_tests)

module _ (c : Cut) where
  two_into : (b d a e : Batch) → CutInto c b a → CutInto c d e → IsAtCut c b → IsAtCut c d → IsBehind b d → IsBehind a e
  two_into b d a e (inl (less, x)) (inl (under, y)) one two old = grind (arith, nat_tests)
  two_into b d a e (inl (less, x)) (inr (inl (same, y))) one two old = grind (arith, nat_tests)
  two_into b d a e (inl (less, x)) (inr (inr (more, y))) one two old = grind (arith, nat_tests)
  two_into b d a e (inr (inl (same, x))) (inl (under, y)) one two old = grind (arith, nat_tests)
  two_into b d a e (inr (inl (same, x))) (inr (inl (too, y))) one two old = grind (arith, nat_tests)
  two_into b d a e (inr (inl (same, x))) (inr (inr (more, y))) one two old = grind (arith, nat_tests)
  two_into b d a e (inr (inr (more, x))) (inl (under, y)) one two old = grind (arith, nat_tests)
  two_into b d a e (inr (inr (more, x))) (inr (inl (too, y))) one two old = grind (arith, nat_tests)
  two_into b d a e (inr (inr (more, x))) (inr (inr (over, y))) one two old = grind (arith, nat_tests)

  into_between : (first next : ℕ) (b a : Batch) → CutInto c b a → IsAtCut c b
      → (is_kept b.stage ≡ false → IsBetween first next b)
      → is_kept a.stage ≡ false → IsBetween first (c.frame + 1) a
  into_between first next b a (inl (less, x)) at old free = grind (arith, nat_tests)
  into_between first next b a (inr (inl (same, x))) at old free = grind (arith, nat_tests)
  into_between first next b a (inr (inr (more, x))) at old free = grind (arith, nat_tests)

  cut : (first next number : ℕ) (bs : List Batch) → AllByRecursion (IsAtCut c) bs → AreDense first next number bs
      → AreDense first (c.frame + 1) number (map (cut_off c) bs)
  cut first next number [] at so = tt
  cut first next number (b ∷ bs) at so =
      let one = length-map bs (cut_off c) in
      let two = into_between first next b (cut_off c b) (cut_into c b) at.0 so.1 in
      let three = all_mapped (cut_off c) (λ d. IsAtCut c d × IsBehind b d) (IsBehind (cut_off c b)) (λ d x. two_into b d
      (cut_off c b) (cut_off c d) (cut_into c b) (cut_into c d) at.0 x.0 x.1) bs (all_both (IsAtCut c) (IsBehind b) (λ
      d. IsAtCut c d × IsBehind b d) (λ d x y. (x, y)) bs at.1 so.2) in
      let four = all_both (IsAtCut c) (IsBehind b) (λ d. IsAtCut c d × IsBehind b d) (λ d x y. (x, y)) bs at.1 so.2 in
      let five = cut first next number bs at.1 so.3 in
      grind (arith, nat_tests, one, cut_number c b, two, cut_into c b, three, two_into b, cut_into c, four, five)

-- ---- which batches it takes

-- those that are in a frame stand first, in a row from a number on
record IsRun (frame n last : ℕ) (bs : List Batch) : Type 0 where
  pub least : n ≤ last
  pub numbers : (g : ℕ) → list_any (λ b. (b.frame == frame) && (b.number == g)) bs ≡ (nat_lt n g && nat_le g last)
  pub each : AllByRecursion (λ b. (b.frame ≡ frame → b.number ≤ last) × (frame < b.frame → last < b.number)) bs

none_between : (n g : ℕ) → (nat_lt n g && nat_le g n) ≡ false
none_between n g = grind (arith, nat_tests)

-- one more in front
run_on : (n last g : ℕ) → n + 1 ≤ last
    → ((n + 1 == g) || (nat_lt (n + 1) g && nat_le g last)) ≡ (nat_lt n g && nat_le g last)
run_on n last g least = grind (arith, nat_tests)

-- none of those behind a higher frame
none_in : (frame g : ℕ) (bs : List Batch) → AllByRecursion (λ (b : Batch). frame < b.frame) bs
    → list_any (λ (b : Batch). (b.frame == frame) && (b.number == g)) bs ≡ false
none_in frame g [] all = refl
none_in frame g (b ∷ bs) all = grind (arith, nat_tests, none_in frame g bs all.1)

last_none : (frame n : ℕ) (bs : List Batch) → AllByRecursion (λ (b : Batch). frame < b.frame) bs
    → last_in frame n bs ≡ n
last_none frame n [] all = refl
last_none frame n (b ∷ bs) all = grind (arith, nat_tests, last_none frame n bs all.1)

row_of : (first next number frame n : ℕ) (bs : List Batch) → AreDense first next number bs
    → AllByRecursion (λ (b : Batch). is_kept b.stage ≡ false) bs
    → AllByRecursion (λ (b : Batch). frame ≤ b.frame) bs → n + length bs + 1 ≡ number
    → IsRun frame n (last_in frame n bs) bs
row_of first next number frame n [] so free above row = record {
  least = omega arith;
  numbers = λ g. sym
      (none_between n g);
  each = tt;
}
row_of first next number frame n (b ∷ bs) so free above row =
    let here = so.0 in
    let named : b.number ≡ n + 1 = omega arith in
    let behind = all_both (IsBehind b) (λ (d : Batch). is_kept d.stage ≡ false) (λ (d : Batch). b.frame ≤ d.frame)
    (λ d x y. x.frame y) bs so.2 free.1 in
    elim (cases_order b.frame frame) as (λ _. IsRun frame n (last_in frame n (b ∷ bs)) (b ∷ bs)) [
      | inl same ↦
          let rest = row_of first next number frame b.number bs so.3 free.1 above.1 (omega arith) in
          let is = eq-eqb b.frame frame same in
          let last : last_in frame n (b ∷ bs)
          ≡ last_in frame b.number bs = ap (λ t. cond t (last_in frame b.number bs) (last_in frame n bs)) is in
          let low = rest.least in
          record {
            least = let up = last in omega arith;
            numbers = λ g.
                (λ i. (is i && (named i == g)) || rest.numbers g i)
                ∙ (λ i. (n + 1 == g) || (nat_lt (named i) g && nat_le g (last_in frame b.number bs)))
                ∙ run_on n (last_in frame b.number bs) g (omega arith)
                ∙ ap (λ l. nat_lt n g && nat_le g l) (sym last);
            each = (
              (λ _. let up = last in omega arith, λ over. absurd (omega arith)),
              subst (λ l. AllByRecursion
                  (λ (d : Batch). (d.frame ≡ frame → d.number ≤ l) × (frame < d.frame → l < d.number)) bs)
                  (sym last) rest.each,
            );
          }
      | inr other ↦ elim other as (λ _. IsRun frame n (last_in frame n (b ∷ bs)) (b ∷ bs)) [
        | inl less ↦ let up = above.0 in absurd (omega arith)
        | inr more ↦
            let over : AllByRecursion (λ (d : Batch). frame < d.frame) (b ∷ bs) = (
              more,
              all_of (λ (d : Batch). b.frame ≤ d.frame) (λ (d : Batch). frame < d.frame)
                  (λ d up. omega arith) bs behind,
            ) in
            let last = last_none frame n (b ∷ bs) over in
            record {
              least = omega arith;
              numbers = λ g. none_in frame g (b ∷ bs) over ∙ sym (none_between n g)
                  ∙ ap (λ l. nat_lt n g && nat_le g l) (sym last);
              each = (
                (λ at. absurd (omega arith), λ _. let up = last in omega arith),
                all_both (IsBehind b) (λ (d : Batch). frame < d.frame)
                    (λ (d : Batch). (d.frame ≡ frame → d.number ≤ last_in frame n (b ∷ bs))
                    × (frame < d.frame → last_in frame n (b ∷ bs) < d.number))
                    (λ d x up. (
                      λ at. absurd
                          (omega arith),
                      λ _. let on = x.number in let is = last in omega arith,
                    )) bs so.2 over.1,
              );
            }
      ]
    ]

-- ---- where a cut is due

-- one that did not fail stands before what failed
before_failed : (b : Batch) (bs : List Batch) (c : Cut) → is_failed b.stage ≡ false → AllByRecursion (IsBehind b) bs
    → first_failed bs ≡ Some c
    → (b.frame < c.frame) × (b.number < c.first)
before_failed b [] c stands behind is = absurd (none-some c is)
before_failed b (d ∷ bs) c stands behind is =
    grind (arith, nat_tests, failed_unkept d.stage, before_failed b bs c stands behind.1)

-- the first is one of a range
from_first : (n last g : ℕ) → n ≤ last → ((n == g) || (nat_lt n g && nat_le g last)) ≡ (nat_le n g && nat_le g last)
from_first n last g least = grind (arith, nat_tests)

-- the first that failed, with those behind it
range_here : (first next number : ℕ) (b : Batch) (bs : List Batch) → AreDense first next number (b ∷ bs)
    → is_failed b.stage ≡ true
    → IsRange (record { frame = b.frame; first = b.number; last = last_in b.frame b.number bs }) (b ∷ bs)
range_here first next number b bs so fails =
    let rough = failed_undecided b.stage fails in
    let free = failed_unkept b.stage fails in
    let on : AllByRecursion (λ (d : Batch). IsBehind b d × (is_off d.stage ≡ false)) bs =
    all_of (IsBehind b) (λ (d : Batch). IsBehind b d × (is_off d.stage ≡ false))
    (λ d x. (x, false_from_ne_true (is_off d.stage) (λ k. true≢false (sym (x.settled k free) ∙ rough)))) bs so.2 in
    let unkept = all_of (λ (d : Batch). IsBehind b d × (is_off d.stage ≡ false))
    (λ (d : Batch). is_kept d.stage ≡ false) (λ d x. on_unkept d.stage x.1) bs on in
    let above = all_both (IsBehind b) (λ (d : Batch). is_kept d.stage ≡ false) (λ (d : Batch). b.frame ≤ d.frame)
    (λ d x y. x.frame y) bs so.2 unkept in
    let row = so.0 in
    let run = row_of first next number b.frame b.number bs so.3 unkept above (omega arith) in
    let least = run.least in
    let found : Cut = record { frame = b.frame; first = b.number; last = last_in b.frame b.number bs } in
    record {
      in_order = run.least;
      each = (
        record {
          unkept = free;
          earlier = λ less. absurd (omega arith);
          failed = λ _. (fails, omega arith, least);
          later = λ more. absurd (omega arith);
        },
        all_both (λ (d : Batch). IsBehind b d × (is_off d.stage ≡ false))
            (λ (d : Batch). (d.frame ≡ b.frame → d.number ≤ last_in b.frame b.number bs)
            × (b.frame < d.frame → last_in b.frame b.number bs < d.number)) (IsAtCut found)
            (λ d x y.
            let u = on_unkept d.stage x.1 in
            let up = x.0.frame u in
            let over = x.0.number in
            record {
              unkept = u;
              earlier = λ less. absurd (omega arith);
              failed = λ same. (sym (ap is_failed (x.0.alike u (sym same))) ∙ fails, omega arith, y.0 same);
              later = λ more. (on_taken d.stage x.1, y.1 more);
            }) bs on run.each,
      );
      numbers = λ g.
          (λ i. (eq-eqb b.frame b.frame refl i && (b.number == g)) || run.numbers g i)
          ∙ from_first b.number (last_in b.frame b.number bs) g run.least;
    }
  where
    on_unkept : (s : Stage) → is_off s ≡ false → is_kept s ≡ false
    on_unkept Kept e = absurd (true≢false e)
    on_unkept s e = refl

    on_taken : (s : Stage) → is_off s ≡ false → is_taken s ≡ true
    on_taken Kept e = absurd (true≢false e)
    on_taken Refused e = absurd (true≢false e)
    on_taken s e = refl

ranged : (first next number : ℕ) (c : Cut) (bs : List Batch) → AreDense first next number bs
    → list_any (λ (b : Batch). is_sent b.stage) bs ≡ false
    → first_failed bs ≡ Some c → IsRange c bs
ranged first next number c [] so none is = absurd (none-some c is)
ranged first next number c (b ∷ bs) so none is =
    let unsent = or_parts (is_sent b.stage) (list_any (λ (x : Batch). is_sent x.stage) bs) none in
    let found : Cut = record { frame = b.frame; first = b.number; last = last_in b.frame b.number bs } in
    elim (is_failed b.stage) as
    (λ t. is_failed b.stage ≡ t → cond t (Some found) (first_failed bs) ≡ Some c → IsRange c (b ∷ bs)) [
      | true ↦ λ fails here. subst (λ o. IsRange (cut_of o) (b ∷ bs)) here (range_here first next number b bs so fails)
      | false ↦ λ stands later.
          let less = before_failed b bs c stands so.2 later in
          let rest = ranged first next number c bs so.3 unsent.1 later in
          let under = less.0 in
          let free : is_kept b.stage ≡ false = false_from_ne_true (is_kept b.stage) (λ k.
          none-some c (sym (kept_unfailing bs
          (all_of (IsBehind b) (λ (d : Batch). is_kept d.stage ≡ true) (λ d x. x.last k) bs so.2)) ∙ later)) in
          record {
            in_order = rest.in_order;
            each = (
              record {
                unkept = free;
                earlier = λ _. (else_decided b.stage free unsent.0 stands, less.1);
                failed = λ same. absurd (omega arith);
                later = λ more. absurd (omega arith);
              },
              rest.each,
            );
            numbers = λ g.
                ap (λ t. (t && (b.number == g))
                || list_any (λ (d : Batch). (d.frame == c.frame) && (d.number == g)) bs)
                (ne_eqb b.frame c.frame (λ e. omega arith))
                ∙ rest.numbers g;
          }
    ] refl is
  where
    cut_of : Option Cut → Cut
    cut_of None = c
    cut_of (Some d) = d

-- the frame of a cut is one of the log
pub cut_between : (first next number : ℕ) (c : Cut) (bs : List Batch) → AreDense first next number bs
    → first_failed bs ≡ Some c
    → (first ≤ c.frame) × (c.frame < next) × (c.frame < NUMBER_LIMIT)
cut_between first next number c [] so is = absurd (none-some c is)
cut_between first next number c (b ∷ bs) so is =
    grind (arith, nat_tests, failed_unkept b.stage, cut_between first next number c bs so.3)

-- ---- any calls

abbrev Stand : ℕ → QueueView → Type 0
Stand first q = (first ≤ q.frame) × AreDense first q.frame q.number q.batches

past_is : (frame : ℕ) → frame < NUMBER_LIMIT → past frame ≡ frame + 1
past_is frame small = ap (λ t. cond t (frame + 1) frame) (lt-ltb frame NUMBER_LIMIT small)

step : (first : ℕ) (q : QueueView) (c : Call) (m : QueueView) → Happens q c m → Stand first q → Stand first m
step first q (Appends added) m h so = subst (Stand first) (sym h) so
step first q Withdraws m h so = subst (Stand first) (sym h) so
step first q Takes m h so = grind (arith, nat_tests, taken first q.frame q.number q.records so.0 h.0 q.batches so.1)
step first q (Syncs frame) m h so = subst (Stand first) (sym h.1)
    (so.0, told frame Synced refl refl first q.frame q.number q.batches so.1)
step first q (Fails frame) m h so = subst (Stand first) (sym h.1)
    (so.0, told frame Failed refl refl first q.frame q.number q.batches so.1)
step first q Decides m h so = subst (Stand first) (sym h) (so.0, popped first q.frame q.number q.batches so.1)
step first q (Cuts c) m h so =
    let one = due_cut (list_any (λ (b : Batch). is_sent b.stage) q.batches) (first_failed q.batches) c h.0 in
    let two = cut_between first q.frame q.number c q.batches so.1 in
    let three = ranged first q.frame q.number c q.batches so.1 in
    grind (arith, nat_tests, one, two, three, past_is c.frame, cut c first q.frame q.number q.batches)
step first q Stops m h so = subst (Stand first) (sym h) so

run : (first : ℕ) (cs : List Call) (q : QueueView) (s : Story) (last : QueueView) (end : Story) → Runs q s cs last end
    → Stand first q → Stand first last
run first [] q s last end r so = subst (Stand first) r.0 so
run first (c ∷ cs) q s last end r so = run first cs r.0 (story_after q c s) last end r.2 (step first q c r.0 r.1 so)

pub frames_are_dense : FramesAreDense
frames_are_dense most most_bytes frame cs q s runs = run frame cs _ _ q s runs (omega arith, tt)

pub cuts_a_range : CutsARange
cuts_a_range most most_bytes frame cs q s c runs due =
    let one = due_cut (list_any (λ (b : Batch). is_sent b.stage) q.batches) (first_failed q.batches) c due in
    grind (arith, nat_tests, run frame cs, one, ranged frame q.frame q.number c q.batches)
