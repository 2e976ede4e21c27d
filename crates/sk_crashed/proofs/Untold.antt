-- No frame that may still be cut off was told as synced, nor one that was not taken.
use Rattle.sk_crashed.proofs.Names.{same_Some, ◌≡◌, ℕ, ◌+◌, ◌<◌, Bool, true, false, cond, List, [], ◌∷◌, ◌++◌, map}
use Rattle.sk_crashed.proofs.Names.{Some, inl, inr, refl, sym, ◌∙◌, ap, subst, arith, filter, list_any, AllByRecursion}
use Rattle.sk_crashed.proofs.Names.{true≢false, false≢true, and_from, eqb-true, eq-eqb, false_from_ne_true, lt-ltb}
use Rattle.sk_crashed.proofs.Names.{ltb-true, or_cases, or_right, NUMBER_LIMIT, Stage, Kept, Sent, Synced, Failed}
use Rattle.sk_crashed.proofs.Names.{Refused, Batch, Cut, new_queue, AreDense, IsBehind, awaits, cut_due, cut_off}
use Rattle.sk_crashed.proofs.Names.{first_failed, is_decided, is_failed, is_kept, is_sent, last_in, left, past, send}
use Rattle.sk_crashed.proofs.Names.{tell, QueueView, kept, has, no_story, story_after, Appends, Fails, Happens, Runs}
use Rattle.sk_crashed.proofs.Names.{Story, Syncs, Takes, Withdraws, all_both, all_mapped, all_of, all_pushed}
use Rattle.sk_crashed.proofs.Names.{cut_between, frames_are_dense, decided_synced, due_cut, none-some, sent_unkept}
use Rattle.sk_crashed.proofs.Names.{and_parts, or_from, or_left}
use Rattle.std.specs.Prelude.{◌==◌, nat_lt}
use Rattle.sk_batches.specs.Runs.{Call, Cuts, Decides, Stops}

-- ---- batches that are in flight or failed

abbrev is_due : Stage → Bool
is_due Sent = true
is_due Failed = true
is_due other = false

sent_due : (s : Stage) → is_sent s ≡ true → is_due s ≡ true
sent_due Sent e = refl
sent_due s e = absurd (false≢true e)

failed_due : (s : Stage) → is_failed s ≡ true → is_due s ≡ true
failed_due Failed e = refl
failed_due s e = absurd (false≢true e)

due_unkept : (s : Stage) → is_due s ≡ true → is_kept s ≡ false
due_unkept Kept e = absurd (false≢true e)
due_unkept s e = refl

abbrev Waits : List ℕ → Batch → Type 0
Waits told b = is_due b.stage ≡ true → has b.frame told ≡ false

pub record Untold (q : QueueView) (told : List ℕ) : Type 0 where
  pub below : (n : ℕ) → has n told ≡ true → n < q.frame
  pub wait : AllByRecursion (Waits told) q.batches

-- ---- tests

-- what a filter leaves was there, and passes
filtered : (p : ℕ → Bool) (n : ℕ) (ns : List ℕ) → has n (filter p ns) ≡ true → (has n ns ≡ true) × (p n ≡ true)
filtered p n [] here = absurd (false≢true here)
filtered p n (m ∷ ns) here = elim (p m) as (λ t. p m ≡ t → has n (cond t (m ∷ filter p ns) (filter p ns)) ≡ true
    → (has n (m ∷ ns) ≡ true) × (p n ≡ true)) [
      | true ↦ λ passes there. elim (or_cases (m == n) (has n (filter p ns)) there) [
        | inl is ↦ (
          or_left (m == n) (has n ns) is,
          subst (λ k. p k ≡ true) (eqb-true m n is) passes,
        )
        | inr later ↦ let rest = filtered p n ns later in (or_right (m == n) (has n ns) rest.0, rest.1)
      ]
      | false ↦ λ fails there. let rest = filtered p n ns there in (or_right (m == n) (has n ns) rest.0, rest.1)
    ] refl here

-- ---- a frame that something is told of

-- some batch waits for it, in a frame before the next
awaited_below : (first next number f : ℕ) (bs : List Batch) → AreDense first next number bs → list_any (awaits f) bs ≡ true → f < next
awaited_below first next number f [] dense there = absurd (false≢true there)
awaited_below first next number f (b ∷ bs) dense there = elim (or_cases (awaits f b) (list_any (awaits f) bs) there) [
  | inl here ↦
      let sent = (and_parts (is_sent b.stage) (b.frame == f) here).0 in
      let same = eqb-true b.frame f (and_parts (is_sent b.stage) (b.frame == f) here).1 in
      let before = (dense.1 (sent_unkept b.stage sent)).before in omega (arith, same, before)
  | inr later ↦ awaited_below first next number f bs dense.3 later
]

-- behind one in its frame
sent_with : (b : Batch) (f : ℕ) (bs : List Batch) → AllByRecursion (IsBehind b) bs → list_any (awaits f) bs ≡ true → b.frame ≡ f
    → is_sent b.stage ≡ true
sent_with b f [] behind there at = absurd (false≢true there)
sent_with b f (d ∷ bs) behind there at = elim (or_cases (awaits f d) (list_any (awaits f) bs) there) [
  | inl here ↦
      let sent = (and_parts (is_sent d.stage) (d.frame == f) here).0 in
      let same = eqb-true d.frame f (and_parts (is_sent d.stage) (d.frame == f) here).1 in
      ap is_sent (behind.0.alike (sent_unkept d.stage sent) (at ∙ sym same)) ∙ sent
  | inr later ↦ sent_with b f bs behind.1 later at
]

abbrev Alike : ℕ → Batch → Type 0
Alike f b = is_due b.stage ≡ true → b.frame ≡ f → is_sent b.stage ≡ true

alike : (first next number f : ℕ) (bs : List Batch) → AreDense first next number bs → list_any (awaits f) bs ≡ true
    → AllByRecursion (Alike f) bs
alike first next number f [] dense there = tt
alike first next number f (b ∷ bs) dense there = elim (or_cases (awaits f b) (list_any (awaits f) bs) there) [
  | inl here ↦
      let sent = (and_parts (is_sent b.stage) (b.frame == f) here).0 in
      let same = eqb-true b.frame f (and_parts (is_sent b.stage) (b.frame == f) here).1 in (
        λ due at. sent,
        all_of (IsBehind b) (Alike f)
            (λ d behind due at. ap is_sent (sym (behind.alike (due_unkept d.stage due) (same ∙ sym at))) ∙ sent) bs dense.2,
      )
  | inr later ↦ (λ due at. sent_with b f bs dense.2 later at, alike first next number f bs dense.3 later)
]

-- ---- each call of the queue

sent_waits : (told : List ℕ) (next : ℕ) → has next told ≡ false → (b : Batch) → Waits told b → Waits told (send next b)
sent_waits told next none b waits = elim (is_kept b.stage) as (λ t. is_due (cond t (record b { frame = next; stage = Sent }) b).stage ≡ true
    → has (cond t (record b { frame = next; stage = Sent }) b).frame told ≡ false) [
      | true ↦ λ due. none
      | false ↦ waits
    ]

synced_waits : (told : List ℕ) (f : ℕ) (b : Batch) → Waits told b × Alike f b → Waits (f ∷ told) (tell f Synced b)
synced_waits told f b both = elim (awaits f b) as (λ t. awaits f b ≡ t → is_due (cond t (record b { stage = Synced }) b).stage ≡ true
    → has (cond t (record b { stage = Synced }) b).frame (f ∷ told) ≡ false) [
      | true ↦ λ is due. absurd (false≢true due)
      | false ↦ λ is due. or_from (f == b.frame) (has b.frame told) (false_from_ne_true (f == b.frame) (λ same.
          let at : b.frame ≡ f = sym (eqb-true f b.frame same) in
          true≢false (sym (and_from (is_sent b.stage) (b.frame == f) (both.1 due at) (eq-eqb b.frame f at)) ∙ is))) (both.0 due)
    ] refl

failed_waits : (told : List ℕ) (f : ℕ) (b : Batch) → Waits told b → Waits told (tell f Failed b)
failed_waits told f b waits = elim (awaits f b) as (λ t. awaits f b ≡ t → is_due (cond t (record b { stage = Failed }) b).stage ≡ true
    → has (cond t (record b { stage = Failed }) b).frame told ≡ false) [
      | true ↦ λ is due. waits (sent_due b.stage (and_parts (is_sent b.stage) (b.frame == f) is).0)
      | false ↦ λ is due. waits due
    ] refl

cut_waits : (told : List ℕ) (c : Cut) (b : Batch) → Waits told b
    → Waits (c.frame ∷ filter (λ n. nat_lt n c.frame) told) (cut_off c b)
cut_waits told c b waits = elim (nat_lt b.frame c.frame) as (λ t. nat_lt b.frame c.frame ≡ t
    → is_due (cond t b (cond (b.frame == c.frame) (record b { stage = Refused }) (record b { stage = Kept; records = kept c.first c.last b.records }))).stage ≡ true
    → has (cond t b (cond (b.frame == c.frame) (record b { stage = Refused }) (record b { stage = Kept; records = kept c.first c.last b.records }))).frame
    (c.frame ∷ filter (λ n. nat_lt n c.frame) told) ≡ false) [
      | true ↦ λ is due.
          let lt = ltb-true b.frame c.frame is in
          or_from (c.frame == b.frame) (has b.frame (filter (λ n. nat_lt n c.frame) told)) (false_from_ne_true (c.frame == b.frame) (λ same. let at = eqb-true c.frame b.frame same in omega (arith, at, lt)))
          (false_from_ne_true (has b.frame (filter (λ n. nat_lt n c.frame) told))
          (λ here. true≢false (sym (filtered (λ n. nat_lt n c.frame) b.frame told here).0 ∙ waits due)))
      | false ↦ λ is. elim (b.frame == c.frame) as (λ t.
          is_due (cond t (record b { stage = Refused }) (record b { stage = Kept; records = kept c.first c.last b.records })).stage ≡ true
          → has (cond t (record b { stage = Refused }) (record b { stage = Kept; records = kept c.first c.last b.records })).frame
          (c.frame ∷ filter (λ n. nat_lt n c.frame) told) ≡ false) [
            | true ↦ λ due. absurd (false≢true due)
            | false ↦ λ due. absurd (false≢true due)
          ]
    ] refl

left_waits : (told : List ℕ) (bs : List Batch) → AllByRecursion (Waits told) bs → AllByRecursion (Waits told) (left bs)
left_waits told [] all = all
left_waits told (b ∷ bs) all = elim (is_decided b.stage) as (λ t. AllByRecursion (Waits told) (cond t bs (b ∷ bs))) [
  | true ↦ all.1
  | false ↦ all
]

pub not_next : (q : QueueView) (told : List ℕ) → Untold q told → has q.frame told ≡ false
not_next q told so = false_from_ne_true (has q.frame told) (λ here. let lt = so.below q.frame here in omega (arith, lt))

step : (first : ℕ) (q : QueueView) (s : Story) (c : Call) (m : QueueView) → AreDense first q.frame q.number q.batches → Happens q c m
    → Untold q s.synced → Untold m (story_after q c s).synced
step first q s (Appends added) m dense h so = subst (λ x. Untold x s.synced) (sym h) (record { below = so.below; wait = so.wait })
step first q s Withdraws m dense h so = subst (λ x. Untold x s.synced) (sym h) (record { below = so.below; wait = so.wait })
step first q s Takes m dense h so = subst (λ x. Untold x s.synced) (sym h.1) (
    let none = not_next q s.synced so in record {
      below = λ n here. let lt = so.below n here in omega (arith, lt);
      wait = all_pushed (Waits s.synced) (map (send q.frame) q.batches)
          (record { number = q.number; frame = q.frame; stage = Sent; records = q.records })
          (all_mapped (send q.frame) (Waits s.synced) (Waits s.synced) (sent_waits s.synced q.frame none) q.batches so.wait)
          (λ due. none);
    })
step first q s (Syncs frame) m dense h so = subst (λ x. Untold x (frame ∷ s.synced)) (sym h.1) (record {
  below = λ n here. elim (or_cases (frame == n) (has n s.synced) here) [
    | inl is ↦
        let same = eqb-true frame n is in
        let lt = awaited_below first q.frame q.number frame q.batches dense h.0 in omega (arith, same, lt)
    | inr later ↦ so.below n later
  ];
  wait = all_mapped (tell frame Synced) (λ b. Waits s.synced b × Alike frame b) (Waits (frame ∷ s.synced)) (synced_waits s.synced frame) q.batches
      (all_both (Waits s.synced) (Alike frame) (λ b. Waits s.synced b × Alike frame b) (λ b w a. (w, a)) q.batches so.wait
      (alike first q.frame q.number frame q.batches dense h.0));
})
step first q s (Fails frame) m dense h so = subst (λ x. Untold x s.synced) (sym h.1) (record {
  below = so.below;
  wait = all_mapped (tell frame Failed) (Waits s.synced) (Waits s.synced) (failed_waits s.synced frame) q.batches so.wait;
})
step first q s Decides m dense h so = subst (λ x. Untold x (story_after q Decides s).synced) (sym h)
    (subst (Untold (record q { batches = left q.batches })) (sym (decided_synced q.batches s))
    (record { below = so.below; wait = left_waits s.synced q.batches so.wait }))
step first q s (Cuts c) m dense h so = subst (λ x. Untold x (story_after q (Cuts c) s).synced) (sym h.1) (
    let due = due_cut (list_any (λ (b : Batch). is_sent b.stage) q.batches) (first_failed q.batches) c h.0 in
    let within = cut_between first q.frame q.number c q.batches dense due.1 in
    let next : past c.frame ≡ c.frame + 1 = ap (λ t. cond t (c.frame + 1) c.frame) (lt-ltb c.frame NUMBER_LIMIT within.2) in
    record {
      below = λ n here. elim (or_cases (c.frame == n) (has n (filter (λ k. nat_lt k c.frame) s.synced)) here) [
        | inl is ↦ let same = eqb-true c.frame n is in omega (arith, same, next)
        | inr later ↦
            let lt = ltb-true n c.frame (filtered (λ k. nat_lt k c.frame) n s.synced later).1 in omega (arith, lt, next)
      ];
      wait = all_mapped (cut_off c) (Waits s.synced) (Waits (c.frame ∷ filter (λ k. nat_lt k c.frame) s.synced)) (cut_waits s.synced c) q.batches so.wait;
    })
step first q s Stops m dense h so = subst (λ x. Untold x s.synced) (sym h) (record { below = so.below; wait = so.wait })

-- ---- any calls

one_more : (a : QueueView) (t : Story) (cs : List Call) (q : QueueView) (s : Story) (c : Call) (m : QueueView) → Runs a t cs q s → Happens q c m
    → Runs a t (cs ++ c ∷ []) m (story_after q c s)
one_more a t [] q s c m runs h =
    (m, subst (λ x. Happens x c m) (sym runs.0) h, (refl, λ i. story_after (runs.0 i) c (runs.1 i)))
one_more a t (d ∷ cs) q s c m runs h = (runs.0, runs.1, one_more runs.0 (story_after a d t) cs q s c m runs.2 h)

module _ (most most_bytes frame : ℕ) where
  along : (before : List Call) (q : QueueView) (s : Story) (cs : List Call) (last : QueueView) (told : Story)
      → Runs (new_queue most most_bytes frame) no_story before q s → Untold q s.synced → Runs q s cs last told → Untold last told.synced
  along before q s [] last told runs so rest = subst (λ x. Untold x told.synced) rest.0 (subst (λ t. Untold q t.synced) rest.1 so)
  along before q s (c ∷ cs) last told runs so rest =
      let dense = frames_are_dense most most_bytes frame before q s runs in
      along (before ++ c ∷ []) rest.0 (story_after q c s) cs last told
      (one_more (new_queue most most_bytes frame) no_story before q s c rest.0 runs rest.1)
      (step frame q s c rest.0 dense.1 rest.1 so) rest.2

  pub untold : (cs : List Call) (q : QueueView) (s : Story) → Runs (new_queue most most_bytes frame) no_story cs q s → Untold q s.synced
  untold cs q s runs = along [] (new_queue most most_bytes frame) no_story cs q s (refl, refl)
      (record { below = λ n here. absurd (false≢true here); wait = tt }) runs

-- ---- what is cut off next

failed_untold : (told : List ℕ) (c : Cut) (bs : List Batch) → AllByRecursion (Waits told) bs → first_failed bs ≡ Some c → has c.frame told ≡ false
failed_untold told c [] all is = absurd (none-some c is)
failed_untold told c (b ∷ bs) all is =
    let found : Cut = record { frame = b.frame; first = b.number; last = last_in b.frame b.number bs } in
    elim (is_failed b.stage) as (λ t. is_failed b.stage ≡ t → cond t (Some found) (first_failed bs) ≡ Some c → has c.frame told ≡ false) [
      | true ↦ λ fails here. subst (λ n. has n told ≡ false) (ap (λ (x : Cut). x.frame) (same_Some _ _ here)) (all.0 (failed_due b.stage fails))
      | false ↦ λ stands later. failed_untold told c bs all.1 later
    ] refl is

pub due_untold : (q : QueueView) (told : List ℕ) (c : Cut) → Untold q told → cut_due q ≡ Some c → has c.frame told ≡ false
due_untold q told c so is =
    let due = due_cut (list_any (λ (b : Batch). is_sent b.stage) q.batches) (first_failed q.batches) c is in
    failed_untold told c q.batches so.wait due.1
