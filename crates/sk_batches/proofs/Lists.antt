-- Passes over lists, one place after the other.
use Rattle.std.proofs.lemmas.Bool.Decides.{nat_tests}
use Rattle.sk_batches.proofs.Names.{none-some, ◌≡◌, ℕ, zero, suc, ◌+◌, ◌-◌, ◌<◌, ◌≤◌, length, take, drop, true, false}
use Rattle.sk_batches.proofs.Names.{cond, List, [], ◌∷◌, ◌++◌, map, Some, None, refl, sym, ◌∙◌, ap, arith}
use Rattle.sk_batches.proofs.Names.{append_assoc, slice_set, slice_index_or, suc-eq-add-one, drop-cons}
use Rattle.sk_batches.proofs.Names.{drop-append-add, take-append-add, take-append_seam, append-nil, drop_all}
use Rattle.sk_batches.proofs.Names.{take_all, length-append, length-drop, length-take-le, drop-drop, ◌==◌, sum_by}
use Rattle.sk_batches.proofs.Names.{remove, take-append-drop, sum_by-cons, true≢false, eqb-true, Stage, Sent, Synced}
use Rattle.sk_batches.proofs.Names.{Refused, Batch, Cut, Decision, RecordView, payload, but_last, kept, send, tell}
use Rattle.sk_batches.proofs.Names.{awaits, cut_off, is_kept, is_decided, decided, decision_of, kept_of, kept_records}
use Rattle.sk_batches.proofs.Names.{left}

module _ {X : Type 0} where
  -- the next, and what is behind it
  pub next_at : (xs : List X) (i : ℕ) (x : X) → i < length xs → x ≡ slice_index_or xs i x → drop i xs ≡ x ∷ drop (i + 1) xs
  next_at xs i x lt at = drop-cons xs i x lt ∙ (λ k. sym at k ∷ drop (suc-eq-add-one i k) xs)

  mapped_suc : (f : X → X) (xs : List X) (i : ℕ) (x new : X) → i < length xs → x ≡ slice_index_or (map f (take i xs) ++ drop i xs) i x → new ≡ f x
      → slice_set (map f (take i xs) ++ drop i xs) i new ≡ map f (take (suc i) xs) ++ drop (suc i) xs
  mapped_suc f [] i x new lt at is = absurd (omega arith)
  mapped_suc f (z ∷ xs) zero x new lt at is = λ k. (is ∙ ap f at) k ∷ xs
  mapped_suc f (z ∷ xs) (suc i) x new lt at is = ap (λ ys. f z ∷ ys) (mapped_suc f xs i x new (omega arith) at is)

  mapped_length : (f : X → X) (xs : List X) (i : ℕ) → length (map f (take i xs) ++ drop i xs) ≡ length xs
  mapped_length f [] zero = refl
  mapped_length f [] (suc i) = refl
  mapped_length f (z ∷ xs) zero = refl
  mapped_length f (z ∷ xs) (suc i) = ap suc (mapped_length f xs i)

  -- a change is made of each before a place, and none from there on
  pub record IsMapped (f : X → X) (xs ys : List X) (i : ℕ) : Type 0 where
    pub so_far : ys ≡ map f (take i xs) ++ drop i xs
    pub as_many : length ys ≡ length xs

  pub none_mapped : (f : X → X) (xs : List X) → IsMapped f xs xs 0
  none_mapped f xs = record { so_far = refl; as_many = refl }

  pub one_mapped : (f : X → X) (xs ys : List X) (i : ℕ) (x new : X) → IsMapped f xs ys i → i < length xs → x ≡ slice_index_or ys i x → new ≡ f x
      → IsMapped f xs (slice_set ys i new) (i + 1)
  one_mapped f xs ys i x new so lt at is =
      grind (arith, nat_tests, mapped_suc f xs i x new lt, suc-eq-add-one i, mapped_length f xs (i + 1))

  pub all_mapped : (f : X → X) (xs ys : List X) (i : ℕ) → IsMapped f xs ys i → length xs ≤ i → ys ≡ map f xs
  all_mapped f xs ys i so le = grind (arith, nat_tests, take_all i xs le, drop_all i xs le, append-nil (map f xs))

pub payload_append : (rs qs : List RecordView) → payload (rs ++ qs) ≡ payload rs ++ payload qs
payload_append [] qs = refl
payload_append (r ∷ rs) qs = ap (λ bs. r.bytes ++ bs) (payload_append rs qs) ∙ sym (append_assoc r.bytes (payload rs) (payload qs))

pub pushed_length : (rs : List RecordView) (r : RecordView) → length (payload (rs ++ r ∷ [])) ≡ length (payload rs) + length r.bytes
pushed_length rs r =
    ap length (payload_append rs (r ∷ []) ∙ ap (λ bs. payload rs ++ bs) (append-nil r.bytes)) ∙ length-append (payload rs) r.bytes

pub front_length : (r : RecordView) (rs : List RecordView) → length (payload (r ∷ rs)) ≡ length r.bytes + length (payload rs)
front_length r rs = length-append r.bytes (payload rs)

pub both_length : (rs qs : List RecordView) → length (payload (rs ++ qs)) ≡ length (payload rs) + length (payload qs)
both_length rs qs = ap length (payload_append rs qs) ∙ length-append (payload rs) (payload qs)

-- what depends on a batch or not, no record is longer than it was
pub kept_length : (first last : ℕ) (rs : List RecordView) → length (payload (kept first last rs)) ≤ length (payload rs)
kept_length first last [] = omega arith
kept_length first last (r ∷ rs) =
    grind (arith, nat_tests, kept_length first last rs, front_length r rs, front_length r (kept first last rs))

pub last_length : (rs : List RecordView) → length (payload (but_last rs)) ≤ length (payload rs)
last_length rs =
    let whole = ap (λ qs. length (payload qs)) (take-append-drop (length rs - 1) rs) in
    let both = both_length (take (length rs - 1) rs) (drop (length rs - 1) rs) in omega (arith, whole, both)

-- ---- the bytes of batches
abbrev pub size : Batch → ℕ
size b = length (payload b.records)

pub sum_mapped : (f : Batch → Batch) → ((b : Batch) → size (f b) ≤ size b) → (bs : List Batch) → sum_by size (map f bs) ≤ sum_by size bs
sum_mapped f less [] = omega arith
sum_mapped f less (b ∷ bs) =
    let here = less b in
    let rest = sum_mapped f less bs in
    let one = sum_by-cons size (f b) (map f bs) in
    let two = sum_by-cons size b bs in omega (arith, here, rest, one, two)

pub sent_size : (frame : ℕ) (b : Batch) → size (send frame b) ≤ size b
sent_size frame b = elim (is_kept b.stage) as (λ t. size (cond t (record b { frame = frame; stage = Sent }) b) ≤ size b) [ true ↦ omega arith | false ↦ omega arith ]

pub told_size : (frame : ℕ) (stage : Stage) (b : Batch) → size (tell frame stage b) ≤ size b
told_size frame stage b = elim (awaits frame b) as (λ t. size (cond t (record b { stage = stage }) b) ≤ size b) [ true ↦ omega arith | false ↦ omega arith ]

pub cut_size : (c : Cut) (b : Batch) → size (cut_off c b) ≤ size b
cut_size c b = grind (arith, nat_tests, kept_length c.first c.last b.records)

pub left_size : (bs : List Batch) → sum_by size (left bs) ≤ sum_by size bs
left_size [] = omega arith
left_size (b ∷ bs) =
    let all = sum_by-cons size b bs in
    elim (is_decided b.stage) as (λ t. sum_by size (cond t bs (b ∷ bs)) ≤ sum_by size (b ∷ bs)) [ true ↦ omega (arith, all) | false ↦ omega arith ]

-- what is to be sent again is no more than all
pub kept_of_size : (b : Batch) → length (payload (kept_of b)) ≤ size b
kept_of_size b = elim (is_kept b.stage) as (λ t. length (payload (cond t b.records [])) ≤ size b) [ true ↦ omega arith | false ↦ omega arith ]

pub kept_size : (bs : List Batch) → length (payload (kept_records bs)) ≤ sum_by size bs
kept_size [] = omega arith
kept_size (b ∷ bs) =
    let here = kept_of_size b in
    let rest = kept_size bs in
    let all = sum_by-cons size b bs in
    let both = both_length (kept_of b) (kept_records bs) in omega (arith, here, rest, both, all)

-- ---- bytes that are written one piece after the other
pub record IsWritten (before whole rest first room : List ℕ) (at : ℕ) : Type 0 where
  pub within : at + length rest ≤ length room
  pub bytes : take at room ++ rest ≡ before ++ whole
  pub behind : (n : ℕ) → at ≤ n → drop n room ≡ drop n first
  pub same : length room ≡ length first

pub none_written : (place : ℕ) (whole first : List ℕ) → place + length whole ≤ length first → IsWritten (take place first) whole whole first first place
none_written place whole first le = record { within = le; bytes = refl; behind = λ n more. refl; same = refl }

piece_front : (at : ℕ) (room w d : List ℕ) → at ≤ length room → take (at + length w) (take at room ++ (w ++ d)) ≡ take at room ++ w
piece_front at room w d le =
    let one = take-append-add (take at room) (w ++ d) (length w) in
    grind (arith, nat_tests, length-take-le at room le, one, take-append_seam w d)

piece_behind : (at more : ℕ) (room w d : List ℕ) → at ≤ length room → drop (at + (length w + more)) (take at room ++ (w ++ d)) ≡ drop more d
piece_behind at more room w d le =
    let one = drop-append-add (take at room) (w ++ d) (length w + more) in
    grind (arith, nat_tests, length-take-le at room le, one, drop-append-add w d more)

pub one_written : (before whole rest first room : List ℕ) (at : ℕ) (w next new : List ℕ) → IsWritten before whole rest first room at → rest ≡ w ++ next
    → new ≡ take at room ++ (w ++ drop (at + length w) room) → IsWritten before whole next first new (at + length w)
one_written before whole rest first room at w next new so is written =
    let lengths = ap length is ∙ length-append w next in
    let within = so.within in
    let le : at ≤ length room = omega arith in
    let front = ap (take (at + length w)) written ∙ piece_front at room w (drop (at + length w) room) le in
    let size : length new ≡ length room =
    ap length written ∙ length-append (take at room) (w ++ drop (at + length w) room)
    ∙ omega (arith, length-take-le at room le, length-append w (drop (at + length w) room), length-drop (at + length w) room) in
    record {
      within = omega (arith, size);
      bytes = ap (λ zs. zs ++ next) front ∙ append_assoc (take at room) w next ∙ ap (λ zs. take at room ++ zs) (sym is) ∙ so.bytes;
      behind = λ n more.
          let extra = n - (at + length w) in
          let whole_n : at + (length w + extra) ≡ n = omega arith in
          let split : at + length w + extra ≡ n = omega arith in
          (λ k. drop (sym whole_n k) (written k))
          ∙ piece_behind at extra room w (drop (at + length w) room) le
          ∙ drop-drop extra (at + length w) room
          ∙ (λ k. drop (split k) room)
          ∙ so.behind n (omega arith);
      same = size ∙ so.same;
    }

pub all_written : (place : ℕ) (whole first room : List ℕ) (at : ℕ) → place ≤ length first → IsWritten (take place first) whole [] first room at
    → room ≡ take place first ++ (whole ++ drop (place + length whole) first)
all_written place whole first room at le so =
    let bytes = sym (append-nil (take at room)) ∙ so.bytes in
    let within = so.within in
    let lengths = ap length bytes ∙ length-append (take place first) whole in
    let there : at ≡ place + length whole = omega (arith, lengths, length-take-le at room (omega arith), length-take-le place first le) in
    sym (take-append-drop at room)
    ∙ (λ k. bytes k ++ so.behind at (omega arith) k)
    ∙ append_assoc (take place first) whole (drop at first)
    ∙ (λ k. take place first ++ (whole ++ drop (there k) first))

-- both stand one behind the other
pub filled : (a b first middle new : List ℕ) (k : ℕ) → k ≡ length a → middle ≡ a ++ drop (length a) first → new ≡ take k middle ++ (b ++ drop (k + length b) middle)
    → new ≡ (a ++ b) ++ drop (length (a ++ b)) first
filled a b first middle new k is one two =
    two
    ∙ (λ i. take (is i) (one i) ++ (b ++ drop (is i + length b) (one i)))
    ∙ (λ i. take-append_seam a (drop (length a) first) i ++ (b ++ drop-append-add a (drop (length a) first) (length b) i))
    ∙ (λ i. a ++ (b ++ drop-drop (length b) (length a) first i))
    ∙ sym (append_assoc a b (drop (length a + length b) first))
    ∙ (λ i. (a ++ b) ++ drop (sym (length-append a b) i) first)

-- ---- records that are to be sent again
positive : (n : ℕ) → 0 < n → (n == 0) ≡ false
positive n more = elim (n == 0) as (λ t. (n == 0) ≡ t → t ≡ false) [ true ↦ λ e. let none = eqb-true n 0 e in absurd (omega arith) | false ↦ λ e. refl ] refl

pub some_kept : {X : Type 0} (xs ys : List X) → (length xs == 0) ≡ false → (length (xs ++ ys) == 0) ≡ false
some_kept [] ys some = absurd (true≢false some)
some_kept (x ∷ xs) ys some = positive (length ((x ∷ xs) ++ ys)) (omega arith)

pub none_kept : {X : Type 0} (xs ys : List X) → (length xs == 0) ≡ true → length (xs ++ ys) ≡ length ys
none_kept [] ys none = refl
none_kept (x ∷ xs) ys none = let all = eqb-true (length (x ∷ xs)) 0 none in absurd (omega arith)

-- ---- the oldest
something : (d : Decision) → Some d ≡ None → ⊥
something d e = cc

goes : (s : Stage) (b : Batch) (bs : List Batch) (d : Decision) → decision_of s b.number ≡ Some d → bs ≡ cond (is_decided s) bs (b ∷ bs)
goes Synced b bs d is = refl
goes Refused b bs d is = refl
goes s b bs d is = absurd (none-some d is)

stays : (s : Stage) (b : Batch) (bs : List Batch) → decision_of s b.number ≡ None → cond (is_decided s) bs (b ∷ bs) ≡ b ∷ bs
stays Synced b bs is = absurd (something _ is)
stays Refused b bs is = absurd (something _ is)
stays s b bs is = refl

pub is_left : (bs : List Batch) (d : Decision) → decided bs ≡ Some d → remove bs 0 ≡ left bs
is_left [] d is = absurd (none-some d is)
is_left (b ∷ bs) d is = goes b.stage b bs d is

pub there_is : (bs : List Batch) (d : Decision) → decided bs ≡ Some d → 0 < length bs
there_is [] d is = absurd (none-some d is)
there_is (b ∷ bs) d is = omega arith
