-- What each call leaves of the frames and of the commands in them.
use Rattle.std.proofs.lemmas.Bool.Decides.{nat_tests}
use Rattle.sk_durable.proofs.Names.{sent_number, ◌≡◌, ℕ, ◌<◌, ◌≤◌, Bool, true, false, cond, not, List, [], ◌∷◌, ◌++◌}
use Rattle.sk_durable.proofs.Names.{flat_map, map, inl, inr, refl, sym, ◌∙◌, ap, subst, append_assoc, length-append}
use Rattle.sk_durable.proofs.Names.{arith, ◌⊎◌, filter, Contains, true≢false, false≢true, append-nil, map-append}
use Rattle.sk_durable.proofs.Names.{flat_map-append, filter-append, All-contains, All-from_recursion}
use Rattle.sk_durable.proofs.Names.{Contains-append_cases, Contains-append_left, Contains-push_cases, has, Commit}
use Rattle.sk_durable.proofs.Names.{Event, Fail, failed_in, is_struck, kept, Stage, Kept, Synced, Refused, Batch}
use Rattle.sk_durable.proofs.Names.{AreDense, IsBehind, after_take, after_word, is_failed, is_kept, is_refused}
use Rattle.sk_durable.proofs.Names.{is_sent, is_taken, next_records, tell, QueueView, RecordView, Entry, is_logged}
use Rattle.sk_durable.proofs.Names.{Command, failed_more}
use Rattle.sk_durable.proofs.Contained.{at_later, from_map, nothing_there}
use Rattle.sk_durable.proofs.Frames.{in_frame, living, marked, next_marked, off, placed, unsent, AreOf, HasFrames, IsBefore, IsBelow, IsOf, Marked, Placed}
use Rattle.sk_durable.proofs.Marked.{all_told_placed, all_told_unsent, next_unmarked, none_unsent, numbered_push}
use Rattle.sk_durable.proofs.Marked.{numbered_within, of_sent, off_sent, off_told, placed_of, placed_sent}
use Rattle.sk_durable.proofs.Marked.{told_number}

-- ---- commands

pub of_more : (rs : List Command) (xs : List Marked) (r : Command) (x : Marked) → AreOf rs xs → IsOf r x
    → AreOf (rs ++ r ∷ []) (xs ++ x ∷ [])
of_more [] [] r x all one = (one, tt)
of_more [] (y ∷ xs) r x all one = absurd all
of_more (q ∷ rs) [] r x all one = absurd all
of_more (q ∷ rs) (y ∷ xs) r x all one = (all.0, of_more rs xs r x all.1 one)

living_more : (cm : List Command) (r : Command) (gone : List ℕ)
    → living (cm ++ r ∷ []) gone ≡ living cm gone ++ living (r ∷ []) gone
living_more cm r gone =
    grind (
      arith,
      nat_tests,
      filter-append (λ (c : Command). not (is_struck gone c)) cm (r ∷ []),
      filter-append (λ (c : Command). is_logged c.entry) (kept gone cm) (kept gone (r ∷ [])),
    )

living_logged : (r : Command) (gone : List ℕ) → is_struck gone r ≡ false → is_logged r.entry ≡ true
    → living (r ∷ []) gone ≡ r ∷ []
living_logged r gone stands logs = grind (arith, nat_tests)

living_unlogged : (r : Command) (gone : List ℕ) → is_logged r.entry ≡ false → living (r ∷ []) gone ≡ []
living_unlogged r gone unlogged = grind (arith, nat_tests)

below_more : (cm : List Command) (r : Command) → ((c : Command) → Contains cm c → IsBelow c) → IsBelow r
    → (c : Command) → Contains (cm ++ r ∷ []) c → IsBelow c
below_more cm r all one c at = grind (arith, nat_tests, Contains-push_cases cm r c at)

-- ---- the start

pub no_frames : (first : ℕ) (q : QueueView) → q.batches ≡ [] → q.records ≡ [] → q.frame ≡ first
    → HasFrames first [] [] [] [] q
no_frames first q none empty at = record {
  sent = [];
  sent_are = refl;
  next = omega (arith, at);
  done = [];
  stand = ap (flat_map placed) (sym none);
  before = λ y at. nothing_there y at;
  on_disk = λ y n at. nothing_there y at;
  same = subst (AreOf []) (λ i. flat_map unsent (sym none i) ++ marked q.number (sym empty i)) tt;
  below = λ r at. nothing_there r at;
  settled = λ n at. nothing_there (Commit n) at;
}

module _ (first : ℕ) (cm : List Command) (ds : List (Event Entry)) (log : List (List RecordView)) (told : List ℕ)
    (q : QueueView)
    (so : HasFrames first cm ds log told q) where
  abbrev gone : List ℕ
  gone = failed_in ds ++ off q.batches

  abbrev flat : List Marked
  flat = flat_map (λ xs. xs) so.sent

  -- ---- a command

  pub with_unlogged : (r : Command) → is_logged r.entry ≡ false → IsBelow r
      → HasFrames first (cm ++ r ∷ []) ds log told q
  with_unlogged r unlogged under =
      grind (
        arith,
        nat_tests,
        next_marked q,
        living_more cm r,
        living cm,
        living_unlogged r,
        append-nil,
        below_more cm r so.below under,
      )

  pub with_logged : (r : Command) (x : RecordView) → is_logged r.entry ≡ true → is_struck gone r ≡ false
      → IsOf r (q.number, x) → IsBelow r
      → HasFrames first (cm ++ r ∷ []) ds log told (record q { records = q.records ++ x ∷ [] })
  with_logged r x logs stands is under = record {
    sent = so.sent;
    sent_are = so.sent_are;
    next = so.next;
    done = so.done;
    stand = so.stand;
    before = λ y at. let b = so.before y at in
        record { newest = b.newest; number = b.number; waits = b.waits; failed = b.failed };
    on_disk = so.on_disk;
    same = subst (λ rs. AreOf rs (flat ++ (flat_map unsent q.batches ++ marked q.number (q.records ++ x ∷ []))))
        (sym (living_more cm r gone ∙ ap (λ rs. living cm gone ++ rs) (living_logged r gone stands logs)))
        (subst (AreOf (living cm gone ++ r ∷ []))
        (append_assoc flat (next_marked q) ((q.number, x) ∷ [])
        ∙ ap (λ zs. flat ++ zs)
        (append_assoc (flat_map unsent q.batches) (marked q.number q.records) ((q.number, x) ∷ [])
        ∙ ap (λ zs. flat_map unsent q.batches ++ zs)
        (sym (map-append (λ (z : RecordView). (q.number, z)) q.records (x ∷ [])))))
        (of_more (living cm gone) (flat ++ next_marked q) r (q.number, x) so.same is));
    below = below_more cm r so.below under;
    settled = so.settled;
  }

  -- ---- a frame is taken

  -- what lies below the numbers, or the frames, of all batches does so then
  above_sent : (n : ℕ) → n < q.number → ((b : Batch) → Contains q.batches b → n < b.number)
      → (d : Batch) → Contains (after_take q).batches d → n < d.number
  above_sent n newest under d there = elim (of_sent q d there) [
    | inl old ↦ let less = under old.0 old.1 in
        let same : old.0.number ≡ d.number = sym (sent_number q.frame old.0)
        ∙ ap (λ (b : Batch). b.number) old.2 in omega (arith, less, same)
    | inr last ↦ let same = ap (λ (b : Batch). b.number) last in omega (arith, newest, same)
  ]

  later_sent : (P : Stage → Bool) (n : ℕ) → n < q.frame
      → ((b : Batch) → Contains q.batches b → P b.stage ≡ true → n < b.frame)
      → (d : Batch) → Contains (after_take q).batches d → P d.stage ≡ true → n < d.frame
  later_sent P n less before d there holds = grind (arith, nat_tests, of_sent q d there)

  pub with_sent : AreDense first q.frame q.number q.batches
      → HasFrames first cm ds (log ++ next_records q ∷ []) told (after_take q)
  with_sent dense =
      let xs = next_marked q in
      let next = so.next in
      let sized = length-append so.sent (xs ∷ []) in
      let lower : (y : Placed) → Contains so.done y → y.0 < q.frame =
      λ y at. (let within = numbered_within first so.sent y
      (subst (λ ys. Contains ys y) (sym so.stand)
      (Contains-append_left so.done (flat_map placed q.batches) y at)) in omega (arith, within.1, next)) in
      record {
        sent = so.sent ++ xs ∷ [];
        sent_are = map-append (map (λ (x : Marked). x.1)) so.sent (xs ∷ [])
            ∙ (λ i. so.sent_are i ++ next_unmarked q i ∷ []);
        next = omega (arith, next, sized);
        done = so.done;
        stand = numbered_push first so.sent xs ∙ (λ i. so.stand i ++ in_frame (sym next i) xs)
            ∙ append_assoc so.done (flat_map placed q.batches) (in_frame q.frame xs)
            ∙ ap (λ zs. so.done ++ zs) (sym (placed_sent first q dense));
        before = λ y at.
            let was = so.before y at in
            let lt = lower y at in
            record {
              newest = omega (arith, was.newest);
              number = above_sent y.1.0 was.newest was.number;
              waits = later_sent is_sent y.0 lt was.waits;
              failed = later_sent is_failed y.0 lt was.failed;
            };
        on_disk = so.on_disk;
        same = subst (λ gs. AreOf (living cm (failed_in ds ++ gs))
            (flat_map (λ xs. xs) (so.sent ++ xs ∷ []) ++ next_marked (after_take q))) (sym (off_sent q))
            (subst (AreOf (living cm gone))
            (ap (λ zs. flat ++ zs) (sym (append-nil xs)) ∙ sym (flat_map-append (λ xs. xs) so.sent (xs ∷ []))
            ∙ sym (append-nil (flat_map (λ xs. xs) (so.sent ++ xs ∷ [])))
            ∙ ap (λ zs. flat_map (λ xs. xs) (so.sent ++ xs ∷ []) ++ zs) (sym (none_unsent q))) so.same);
        below = so.below;
        settled = λ n at. let was = so.settled n at in (omega (arith, was.0), above_sent n was.0 was.1);
      }

  -- ---- a frame is told of

  module _ (frame : ℕ) (stage : Stage) (taken : is_taken stage ≡ true) (unkept : is_kept stage ≡ false)
      (stands : is_refused stage ≡ false)
      (unsaid : is_sent stage ≡ false) (more : List ℕ) (grows : (n : ℕ) → has n told ≡ true → has n more ≡ true) where
    told_is : {P : Type 0} (b d : Batch) → tell frame stage b ≡ d
        → (is_sent b.stage ≡ true → stage ≡ d.stage → b.frame ≡ d.frame → P) → (b ≡ d → P) → P
    told_is {P} b d is changed same = grind (arith, nat_tests)

    told_above : (n : ℕ) → ((b : Batch) → Contains q.batches b → n < b.number)
        → (d : Batch) → Contains (map (tell frame stage) q.batches) d → n < d.number
    told_above n under d there =
        let old = from_map (tell frame stage) q.batches d there in
        subst (λ m. n < m) (sym (told_number frame stage taken unkept stands old.0)
        ∙ ap (λ (b : Batch). b.number) old.2) (under old.0 old.1)

    pub with_told : HasFrames first cm ds log more (after_word frame stage q)
    with_told = record {
      sent = so.sent;
      sent_are = so.sent_are;
      next = so.next;
      done = so.done;
      stand = so.stand ∙ ap (λ zs. so.done ++ zs) (sym (all_told_placed frame stage taken unkept stands q.batches));
      before = λ y at.
          let was = so.before y at in
          record {
            newest = was.newest;
            number = told_above y.1.0 was.number;
            waits = λ d there sends.
                let old = from_map (tell frame stage) q.batches d there in
                told_is old.0 d old.2
                (λ sent is at_frame. absurd (true≢false (sym sends ∙ sym (ap is_sent is) ∙ unsaid)))
                (λ is. subst (λ n. y.0 < n) (ap (λ (b : Batch). b.frame) is)
                (was.waits old.0 old.1 (ap (λ (b : Batch). is_sent b.stage) is ∙ sends)));
            failed = λ d there fails.
                let old = from_map (tell frame stage) q.batches d there in
                told_is old.0 d old.2 (λ sent is at_frame. subst (λ n. y.0 < n) at_frame (was.waits old.0 old.1 sent))
                (λ is. subst (λ n. y.0 < n) (ap (λ (b : Batch). b.frame) is)
                (was.failed old.0 old.1 (ap (λ (b : Batch). is_failed b.stage) is ∙ fails)));
          };
      on_disk = λ y n at from upto. grows n (so.on_disk y n at from upto);
      same = subst (λ gs. AreOf (living cm (failed_in ds ++ gs))
          (flat ++ (flat_map unsent (map (tell frame stage) q.batches) ++ marked q.number q.records)))
          (sym (off_told frame stage taken unkept stands q.batches))
          (subst (λ zs. AreOf (living cm gone) (flat ++ (zs ++ marked q.number q.records)))
          (sym (all_told_unsent frame stage taken unkept stands q.batches)) so.same);
      below = so.below;
      settled = λ n at. let was = so.settled n at in (was.0, told_above n was.1);
    }

  -- nothing is decided any more
  pub with_stop : HasFrames first cm ds log told (record q { stopped = true })
  with_stop = record {
    sent = so.sent;
    sent_are = so.sent_are;
    next = so.next;
    done = so.done;
    stand = so.stand;
    before = λ y at. let b = so.before y at in
        record { newest = b.newest; number = b.number; waits = b.waits; failed = b.failed };
    on_disk = so.on_disk;
    same = so.same;
    below = so.below;
    settled = so.settled;
  }

-- ---- the oldest batch is decided

same_commit : (g h : ℕ) → ◌≡◌ {A = Event Entry} (Commit g) (Commit h) → g ≡ h
same_commit g h is = cc

synced_unrefused : (s : Stage) → s ≡ Synced → is_refused s ≡ false
synced_unrefused s is = ap is_refused is

not_kept : (s : Stage) → (is_sent s ≡ true) ⊎ (is_failed s ≡ true) → is_kept s ≡ false
not_kept Kept (inl e) = absurd (false≢true e)
not_kept Kept (inr e) = absurd (false≢true e)
not_kept s e = refl

not_synced : (s : Stage) → (is_sent s ≡ true) ⊎ (is_failed s ≡ true) → s ≡ Synced → ⊥
not_synced s (inl e) is = false≢true (sym (ap is_sent is) ∙ e)
not_synced s (inr e) is = false≢true (sym (ap is_failed is) ∙ e)

-- what comes behind a synced batch, and waits or failed, is in a later frame
later_frame : (b d : Batch) → IsBehind b d → b.stage ≡ Synced → (is_sent d.stage ≡ true)
    ⊎ (is_failed d.stage ≡ true) → b.frame < d.frame
later_frame b d behind synced waits = grind (arith, nat_tests, not_kept d.stage waits, not_synced d.stage waits)

module _ (first : ℕ) (cm : List Command) (ds : List (Event Entry)) (log : List (List RecordView)) (told : List ℕ)
    (q : QueueView)
    (so : HasFrames first cm ds log told q) (b : Batch) (bs : List Batch) (oldest : q.batches ≡ b ∷ bs) where
  abbrev all_sent : List Marked
  all_sent = flat_map (λ xs. xs) so.sent

  abbrev rest : QueueView
  rest = record q { batches = bs }

  there_before : (d : Batch) → Contains bs d → Contains q.batches d
  there_before d at = subst (λ ds. Contains ds d) (sym oldest) (at_later b bs d at)

  still_before : (y : Placed) → IsBefore q y → IsBefore rest y
  still_before y was = record {
    newest = was.newest;
    number = λ d at. was.number d (there_before d at);
    waits = λ d at. was.waits d (there_before d at);
    failed = λ d at. was.failed d (there_before d at);
  }

  pub with_logged_batch : b.stage ≡ Synced → AreDense first q.frame q.number q.batches
      → ((n : ℕ) → first ≤ n → n ≤ b.frame → has n told ≡ true)
      → HasFrames first cm (ds ++ Commit b.number ∷ []) log told rest
  with_logged_batch synced dense disk =
      let here : AreDense first q.frame q.number (b ∷ bs) = subst (AreDense first q.frame q.number) oldest dense in
      let behind : (d : Batch) → Contains bs d
      → IsBehind b d = λ d at. All-contains (IsBehind b) bs d (All-from_recursion (IsBehind b) bs here.2) at in
      let older : b.number < q.number = (let in_row = here.0 in omega (arith, in_row)) in
      let unrefused = synced_unrefused b.stage synced in
      let unkept = ap is_kept synced in
      record {
        sent = so.sent;
        sent_are = so.sent_are;
        next = so.next;
        done = so.done ++ placed b;
        stand = so.stand ∙ ap (λ ds. so.done ++ flat_map placed ds) oldest
            ∙ sym (append_assoc so.done (placed b) (flat_map placed bs));
        before = λ y at. elim (Contains-append_cases so.done (placed b) y at) [
          | inl was ↦ still_before y (so.before y was)
          | inr new ↦
              let own = placed_of b y new in
              record {
                newest = omega (arith, own.1, older);
                number = λ d there. let more = (behind d there).number in omega (arith, own.1, more);
                waits = λ d there sends. let more = later_frame b d (behind d there) synced (inl sends) in
                    omega (arith, own.0, more);
                failed = λ d there fails. let more = later_frame b d (behind d there) synced (inr fails) in
                    omega (arith, own.0, more);
              }
        ];
        on_disk = λ y n at from upto. elim (Contains-append_cases so.done (placed b) y at) [
          | inl was ↦ so.on_disk y n was from upto
          | inr new ↦ let own = (placed_of b y new).0 in disk n from (omega (arith, own, upto))
        ];
        same = subst (λ fs. AreOf (living cm (fs ++ off bs)) (all_sent ++ next_marked rest))
            (sym (failed_more ds (Commit b.number ∷ []) ∙ append-nil (failed_in ds)))
            (subst (λ gs. AreOf (living cm (failed_in ds ++ gs)) (all_sent ++ next_marked rest))
            (ap off oldest ∙ (λ i. map (λ (d : Batch). d.number)
            (cond (unrefused i) (b ∷ filter (λ (d : Batch). is_refused d.stage) bs)
            (filter (λ (d : Batch). is_refused d.stage) bs))))
            (subst (λ zs. AreOf (living cm (failed_in ds ++ off q.batches))
            (all_sent ++ (zs ++ marked q.number q.records)))
            (ap (flat_map unsent) oldest
            ∙ (λ i. cond (unkept i) (marked b.number b.records) [] ++ flat_map unsent bs)) so.same));
        below = so.below;
        settled = λ n at. elim (Contains-push_cases ds (Commit b.number) (Commit n) at) [
          | inl was ↦ ((so.settled n was).0, λ d there. (so.settled n was).1 d (there_before d there))
          | inr is ↦
              let same = same_commit b.number n is in
              (omega (arith, same, older), λ d there. let more = (behind d there).number in omega (arith, same, more))
        ];
      }

  pub with_refused_batch : b.stage ≡ Refused → HasFrames first cm (ds ++ Fail b.number ∷ []) log told rest
  with_refused_batch refused =
      record {
        sent = so.sent;
        sent_are = so.sent_are;
        next = so.next;
        done = so.done;
        stand = so.stand ∙ ap (λ ds. so.done ++ flat_map placed ds) oldest
            ∙ (λ i. so.done ++ (cond (is_taken (refused i))
            (in_frame b.frame (marked b.number b.records)) [] ++ flat_map placed bs));
        before = λ y at. still_before y (so.before y at);
        on_disk = so.on_disk;
        same = subst (λ fs. AreOf (living cm (fs ++ off bs)) (all_sent ++ next_marked rest))
            (sym (failed_more ds (Fail b.number ∷ [])))
            (subst (λ gs. AreOf (living cm gs) (all_sent ++ next_marked rest))
            (sym (append_assoc (failed_in ds) (b.number ∷ []) (off bs)))
            (subst (λ gs. AreOf (living cm (failed_in ds ++ gs)) (all_sent ++ next_marked rest))
            (ap off oldest ∙ (λ i. map (λ (d : Batch). d.number)
            (cond (is_refused (refused i)) (b ∷ filter (λ (d : Batch). is_refused d.stage) bs)
            (filter (λ (d : Batch). is_refused d.stage) bs))))
            (subst (λ zs. AreOf (living cm (failed_in ds ++ off q.batches))
            (all_sent ++ (zs ++ marked q.number q.records)))
            (ap (flat_map unsent) oldest
            ∙ (λ i. cond (is_kept (refused i)) (marked b.number b.records) [] ++ flat_map unsent bs)) so.same)));
        below = so.below;
        settled = λ n at. elim (Contains-push_cases ds (Fail b.number) (Commit n) at) [
          | inl was ↦ ((so.settled n was).0, λ d there. (so.settled n was).1 d (there_before d there))
          | inr is ↦ cc
        ];
      }
