-- Records of batches in frames, and what a queue's calls make of them.
use Rattle.std.proofs.lemmas.Bool.Decides.{nat_tests}
use Rattle.sk_durable.proofs.Names.{sent_unkept, sent_number, ◌≡◌, ℕ, zero, suc, ◌+◌, ◌<◌, ◌≤◌, true, false, cond}
use Rattle.sk_durable.proofs.Names.{List, [], ◌∷◌, ◌++◌, flat_map, length, map, drop, inl, inr, refl, sym, ◌∙◌, ap}
use Rattle.sk_durable.proofs.Names.{append_assoc, arith, ◌⊎◌, filter, AllByRecursion, Contains, false≢true}
use Rattle.sk_durable.proofs.Names.{append-nil, map-append, flat_map-append, filter-append, Contains-append_cases}
use Rattle.sk_durable.proofs.Names.{Contains-append_left, Contains-append_right, Contains-push_cases, Stage, Kept}
use Rattle.sk_durable.proofs.Names.{Sent, Refused, Batch, AreDense, IsBehind, after_take, is_kept, is_refused}
use Rattle.sk_durable.proofs.Names.{is_sent, is_taken, kept_of, kept_records, next_records, open_batch, send, tell}
use Rattle.sk_durable.proofs.Names.{QueueView, RecordView}
use Rattle.sk_durable.proofs.Contained.{from_map, nothing_there, to_map}
use Rattle.sk_durable.proofs.Frames.{in_frame, marked, next_marked, numbered, off, placed, unsent, Marked, Placed}

-- ---- stages

kept_untaken : (s : Stage) → is_kept s ≡ true → is_taken s ≡ false
kept_untaken Kept e = refl
kept_untaken s e = absurd (false≢true e)

kept_unrefused : (s : Stage) → is_kept s ≡ true → is_refused s ≡ false
kept_unrefused Refused e = absurd (false≢true e)
kept_unrefused s e = refl

sent_taken : (s : Stage) → is_sent s ≡ true → is_taken s ≡ true
sent_taken Kept e = absurd (false≢true e)
sent_taken Refused e = absurd (false≢true e)
sent_taken s e = refl

sent_unrefused : (s : Stage) → is_sent s ≡ true → is_refused s ≡ false
sent_unrefused Refused e = absurd (false≢true e)
sent_unrefused s e = refl

-- ---- lists that are made of others

flat_same : {A B : Type 0} (f : A → List B) (g : A → A) → ((x : A) → f (g x) ≡ f x) → (xs : List A)
    → flat_map f (map g xs) ≡ flat_map f xs
flat_same f g same [] = refl
flat_same f g same (x ∷ xs) = λ i. same x i ++ flat_same f g same xs i

off_same : (g : Batch → Batch) → ((b : Batch) → is_refused (g b).stage ≡ is_refused b.stage)
    → ((b : Batch) → (g b).number ≡ b.number)
    → (bs : List Batch) → off (map g bs) ≡ off bs
off_same g stage number [] = refl
off_same g stage number (b ∷ bs) = grind (arith, nat_tests, off_same g stage number bs)

off_append : (bs ds : List Batch) → off (bs ++ ds) ≡ off bs ++ off ds
off_append bs ds =
    ap (map (λ (d : Batch). d.number)) (filter-append (λ (d : Batch). is_refused d.stage) bs ds)
    ∙ map-append (λ (d : Batch). d.number) (filter (λ (d : Batch). is_refused d.stage) bs)
    (filter (λ (d : Batch). is_refused d.stage) ds)

-- ---- marks

unmarked : (number : ℕ) (rs : List RecordView) → map (λ (x : Marked). x.1) (marked number rs) ≡ rs
unmarked number [] = refl
unmarked number (r ∷ rs) = ap (λ xs. r ∷ xs) (unmarked number rs)

kept_unmarked : (b : Batch) → map (λ (x : Marked). x.1) (unsent b) ≡ kept_of b
kept_unmarked b = grind (arith, nat_tests, marked b.number b.records, unmarked b.number b.records)

all_unmarked : (bs : List Batch) → map (λ (x : Marked). x.1) (flat_map unsent bs) ≡ kept_records bs
all_unmarked [] = refl
all_unmarked (b ∷ bs) = map-append (λ (x : Marked). x.1) (unsent b) (flat_map unsent bs)
    ∙ (λ i. kept_unmarked b i ++ all_unmarked bs i)

-- what is to be sent are the records of the next frame
pub next_unmarked : (q : QueueView) → map (λ (x : Marked). x.1) (next_marked q) ≡ next_records q
next_unmarked q =
    map-append (λ (x : Marked). x.1) (flat_map unsent q.batches) (marked q.number q.records)
    ∙ (λ i. all_unmarked q.batches i ++ unmarked q.number q.records i)

pub numbered_push : (f : ℕ) (sent : List (List Marked)) (xs : List Marked)
    → numbered f (sent ++ xs ∷ []) ≡ numbered f sent ++ in_frame (f + length sent) xs
numbered_push f [] xs = append-nil (in_frame f xs)
    ∙ (let same : f ≡ f + 0 = omega arith in ap (λ k. in_frame k xs) same)
numbered_push f (ys ∷ sent) xs =
    let same : (f + 1) + length sent ≡ f + length (ys ∷ sent) = omega arith in
    ap (λ zs. in_frame f ys ++ zs)
    (numbered_push (f + 1) sent xs ∙ ap (λ k. numbered (f + 1) sent ++ in_frame k xs) same)
    ∙ sym (append_assoc (in_frame f ys) (numbered (f + 1) sent) (in_frame (f + length (ys ∷ sent)) xs))

-- frames have numbers from the first on, below the next
pub numbered_within : (f : ℕ) (sent : List (List Marked)) (y : Placed) → Contains (numbered f sent) y → (f ≤ y.0)
    × (y.0 < f + length sent)
numbered_within f [] y at = nothing_there y at
numbered_within f (xs ∷ sent) y at =
    grind (
      arith,
      nat_tests,
      Contains-append_cases (in_frame f xs) (numbered (f + 1) sent) y at,
      in_frame f xs,
      numbered (f + 1) sent,
      from_map (λ (x : Marked). (f, x)) xs y,
      numbered_within (f + 1) sent y,
    )

-- what lies behind the first n frames
pub numbered_behind : (f n : ℕ) (sent : List (List Marked)) (x : Marked)
    → Contains (flat_map (λ xs. xs) (drop n sent)) x
    → (k : ℕ) × (f + n ≤ k) × Contains (numbered f sent) (k, x)
numbered_behind f zero [] x at = nothing_there x at
numbered_behind f (suc n) [] x at = nothing_there x at
numbered_behind f zero (xs ∷ sent) x at = elim (Contains-append_cases xs (flat_map (λ ys. ys) sent) x at) [
  | inl here ↦ (
    f,
    omega arith,
    Contains-append_left (in_frame f xs) (numbered (f + 1) sent) (f, x)
        (to_map (λ (z : Marked). (f, z)) xs x here),
  )
  | inr later ↦ let rest = numbered_behind (f + 1) zero sent x later in
      (rest.0, omega (arith, rest.1), Contains-append_right (in_frame f xs) (numbered (f + 1) sent) (rest.0, x) rest.2)
]
numbered_behind f (suc n) (xs ∷ sent) x at =
    let rest = numbered_behind (f + 1) n sent x at in
    (rest.0, omega (arith, rest.1), Contains-append_right (in_frame f xs) (numbered (f + 1) sent) (rest.0, x) rest.2)

-- what a batch has in its frame is its own
pub placed_of : (b : Batch) (y : Placed) → Contains (placed b) y → (y.0 ≡ b.frame) × (y.1.0 ≡ b.number)
placed_of b y at =
    elim (is_taken b.stage) as (λ t. Contains (cond t (in_frame b.frame (marked b.number b.records)) []) y
    → (y.0 ≡ b.frame) × (y.1.0 ≡ b.number)) [
      | true ↦ λ here.
          let framed = from_map (λ (x : Marked). (b.frame, x)) (marked b.number b.records) y here in
          let own = from_map (λ (r : RecordView). (b.number, r)) b.records framed.0 framed.1 in (
            sym (ap (λ (z : Placed). z.0) framed.2),
            sym (ap (λ (z : Placed). z.1.0) framed.2)
                ∙ sym (ap (λ (x : Marked). x.0) own.2),
          )
      | false ↦ λ here. nothing_there y here
    ] at

pub unsent_of : (b : Batch) (x : Marked) → Contains (unsent b) x → x.0 ≡ b.number
unsent_of b x at =
    elim (is_kept b.stage) as (λ t. Contains (cond t (marked b.number b.records) []) x → x.0 ≡ b.number) [
      | true ↦ λ here. sym (ap (λ (z : Marked). z.0) (from_map (λ (r : RecordView). (b.number, r)) b.records x here).2)
      | false ↦ λ here. nothing_there x here
    ] at

-- ---- a frame is taken

sent_refused : (frame : ℕ) (b : Batch) → is_refused (send frame b).stage ≡ is_refused b.stage
sent_refused frame b = grind (arith, nat_tests, kept_unrefused b.stage)

sent_all : (frame : ℕ) (b : Batch) → unsent (send frame b) ≡ []
sent_all frame b = grind (arith, nat_tests, unsent, marked b.number b.records)

flat_none : {A B : Type 0} (f : A → List B) (g : A → A) → ((x : A) → f (g x) ≡ []) → (xs : List A)
    → flat_map f (map g xs) ≡ []
flat_none f g none [] = refl
flat_none f g none (x ∷ xs) = λ i. none x i ++ flat_none f g none xs i

none_placed : (bs : List Batch) → AllByRecursion (λ d. is_kept d.stage ≡ true) bs → flat_map placed bs ≡ []
none_placed [] all = refl
none_placed (b ∷ bs) all = λ i. cond (kept_untaken b.stage all.0 i)
    (in_frame b.frame (marked b.number b.records)) [] ++ none_placed bs all.1 i

all_kept : (b : Batch) (bs : List Batch) → is_kept b.stage ≡ true → AllByRecursion (IsBehind b) bs
    → AllByRecursion (λ d. is_kept d.stage ≡ true) bs
all_kept b [] is all = tt
all_kept b (d ∷ bs) is all = (all.0.last is, all_kept b bs is all.1)

sends_placed : (first next number frame : ℕ) (bs : List Batch) → AreDense first next number bs
    → flat_map placed (map (send frame) bs) ≡ flat_map placed bs ++ in_frame frame (flat_map unsent bs)
sends_placed first next number frame [] dense = refl
sends_placed first next number frame (b ∷ bs) dense =
    let rest = sends_placed first next number frame bs dense.3 in
    let own = marked b.number b.records in
    let place = in_frame b.frame own in
    let all : List Placed = flat_map placed bs in
    let kept : List Marked = flat_map unsent bs in
    elim (is_kept b.stage) as (λ t. is_kept b.stage ≡ t
    → placed (cond t (record b { frame = frame; stage = Sent }) b) ++ flat_map placed (map (send frame) bs)
    ≡ (placed b ++ all) ++ in_frame frame (cond t own [] ++ kept)) [
      | true ↦ λ is.
          let none = none_placed bs (all_kept b bs is dense.2) in
          ap (λ zs. in_frame frame own ++ zs) (rest ∙ ap (λ zs. zs ++ in_frame frame kept) none)
          ∙ sym (map-append (λ (x : Marked). (frame, x)) own kept)
          ∙ ap (λ zs. zs ++ in_frame frame (own ++ kept)) (sym none)
          ∙ (λ i. (cond (sym (kept_untaken b.stage is) i) place [] ++ all) ++ in_frame frame (own ++ kept))
      | false ↦ λ is. ap (λ zs. placed b ++ zs) rest ∙ sym (append_assoc (placed b) all (in_frame frame kept))
    ] refl

module _ (first : ℕ) (q : QueueView) (dense : AreDense first q.frame q.number q.batches) where
  abbrev kept : List Marked
  kept = flat_map unsent q.batches

  abbrev own : List Marked
  own = marked q.number q.records

  pub placed_sent : flat_map placed (after_take q).batches ≡ flat_map placed q.batches ++ in_frame q.frame
      (next_marked q)
  placed_sent =
      flat_map-append placed (map (send q.frame) q.batches) (open_batch q ∷ [])
      ∙ (λ i. sends_placed first q.frame q.number q.frame q.batches dense i ++ append-nil (in_frame q.frame own) i)
      ∙ append_assoc (flat_map placed q.batches) (in_frame q.frame kept) (in_frame q.frame own)
      ∙ ap (λ zs. flat_map placed q.batches ++ zs) (sym (map-append (λ (x : Marked). (q.frame, x)) kept own))

pub none_unsent : (q : QueueView) → next_marked (after_take q) ≡ []
none_unsent q =
    append-nil (flat_map unsent (map (send q.frame) q.batches ++ open_batch q ∷ []))
    ∙ flat_map-append unsent (map (send q.frame) q.batches) (open_batch q ∷ [])
    ∙ append-nil (flat_map unsent (map (send q.frame) q.batches))
    ∙ flat_none unsent (send q.frame) (sent_all q.frame) q.batches

pub off_sent : (q : QueueView) → off (after_take q).batches ≡ off q.batches
off_sent q =
    off_append (map (send q.frame) q.batches) (open_batch q ∷ [])
    ∙ append-nil (off (map (send q.frame) q.batches))
    ∙ off_same (send q.frame) (sent_refused q.frame) (sent_number q.frame) q.batches

-- a batch that was sent
pub of_sent : (q : QueueView) (d : Batch) → Contains (after_take q).batches d
    → ((b : Batch) × Contains q.batches b × (send q.frame b ≡ d)) ⊎ (open_batch q ≡ d)
of_sent q d at =
    grind (
      arith,
      nat_tests,
      Contains-push_cases (map (send q.frame) q.batches) (open_batch q) d at,
      from_map (send q.frame) q.batches d,
    )

-- ---- a frame is told of

module _ (frame : ℕ) (stage : Stage) (taken : is_taken stage ≡ true) (unkept : is_kept stage ≡ false)
    (stands : is_refused stage ≡ false) where
  pub told_number : (b : Batch) → (tell frame stage b).number ≡ b.number
  told_number b = grind (arith, nat_tests)

  told_refused : (b : Batch) → is_refused (tell frame stage b).stage ≡ is_refused b.stage
  told_refused b = grind (arith, nat_tests, sent_unrefused b.stage)

  told_placed : (b : Batch) → placed (tell frame stage b) ≡ placed b
  told_placed b =
      grind (
        arith,
        nat_tests,
        in_frame b.frame (marked b.number b.records),
        marked b.number b.records,
        placed b,
        sent_taken b.stage,
      )

  told_unsent : (b : Batch) → unsent (tell frame stage b) ≡ unsent b
  told_unsent b = grind (arith, nat_tests, unsent b, marked b.number b.records, sent_unkept b.stage)

  pub all_told_placed : (bs : List Batch) → flat_map placed (map (tell frame stage) bs) ≡ flat_map placed bs
  all_told_placed bs = flat_same placed (tell frame stage) told_placed bs

  pub all_told_unsent : (bs : List Batch) → flat_map unsent (map (tell frame stage) bs) ≡ flat_map unsent bs
  all_told_unsent bs = flat_same unsent (tell frame stage) told_unsent bs

  pub off_told : (bs : List Batch) → off (map (tell frame stage) bs) ≡ off bs
  off_told bs = off_same (tell frame stage) told_refused told_number bs
