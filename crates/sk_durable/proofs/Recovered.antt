-- What is read of the first frames is what the first commands do.
use Rattle.std.proofs.lemmas.Bool.Decides.{nat_tests}
use Rattle.sk_durable.proofs.Names.{◌≡◌, ℕ, zero, suc, ◌+◌, ◌^◌, ◌<◌, ◌≤◌, true, false, not, List, [], ◌∷◌, ◌++◌}
use Rattle.sk_durable.proofs.Names.{flat_map, length, map, take, drop, Option, Some, None, inl, inr, refl, sym, ◌∙◌}
use Rattle.sk_durable.proofs.Names.{ap, subst, append_assoc, arith, ◌==◌, filter, Contains, true≢false, false≢true}
use Rattle.sk_durable.proofs.Names.{false_from_ne_true, or_cases, map-append, take-append-drop, take-map, take_at}
use Rattle.sk_durable.proofs.Names.{flat_map-append, Contains-append_cases, Contains-append_left}
use Rattle.sk_durable.proofs.Names.{Contains-append_right, list_any-append, has, Commit, Event, failed_in, is_struck}
use Rattle.sk_durable.proofs.Names.{kept, Batch, is_refused, QueueView, payload, RecordView, Null, Work, Say}
use Rattle.sk_durable.proofs.Names.{log_text, AreAsked, IsAsked, Entries, payloads_of, works_in, AreLogged, SayAll}
use Rattle.sk_durable.proofs.Names.{after_work, after_works, restore, short_is_within, entries_after, entry_after}
use Rattle.sk_durable.proofs.Names.{Asked, Entry, Opens, Runs, is_logged, Command, same_Some, not-true}
use Rattle.sk_durable.proofs.Contained.{at_first, at_later, first_or_later, from_filter, from_flat, from_map}
use Rattle.sk_durable.proofs.Contained.{nothing_there, to_filter, to_map, any_has, has_any, has_at}
use Rattle.sk_durable.proofs.Frames.{living, marked, next_marked, off, placed, unsent, AreOf, HasFrames, IsOf, Marked, Placed}
use Rattle.sk_durable.proofs.Marked.{numbered_behind, placed_of, unsent_of}
use Rattle.sk_durable.proofs.Records.{same_runs}

-- ---- commands, frame by frame

abbrev pub AreAllOf : List (List Command) → List (List Marked) → Type 0
AreAllOf [] [] = Unit {0}
AreAllOf [] (xs ∷ sent) = ⊥
AreAllOf (rs ∷ parts) [] = ⊥
AreAllOf (rs ∷ parts) (xs ∷ sent) = AreOf rs xs × AreAllOf parts sent

abbrev pub all_in : {A : Type 0} → List (List A) → List A
all_in xss = flat_map (λ xs. xs) xss

of_split : (rs : List Command) (xs ys : List Marked) → AreOf rs (xs ++ ys) → (one : List Command)
    × (two : List Command) × (rs ≡ one ++ two) × AreOf one xs × AreOf two ys
of_split rs [] ys all = ([], rs, refl, tt, all)
of_split [] (x ∷ xs) ys all = absurd all
of_split (r ∷ rs) (x ∷ xs) ys all =
    let rest = of_split rs xs ys all.1 in
    (r ∷ rest.0, rest.1, ap (λ qs. r ∷ qs) rest.2, (all.0, rest.3), rest.4)

pub record Parted (rs : List Command) (sent : List (List Marked)) (ys : List Marked) : Type 0 where
  pub parts : List (List Command)
  pub rest : List Command
  pub is : rs ≡ all_in parts ++ rest
  pub each : AreAllOf parts sent
  pub last : AreOf rest ys

pub parted : (rs : List Command) (sent : List (List Marked)) (ys : List Marked) → AreOf rs (all_in sent ++ ys)
    → Parted rs sent ys
parted rs [] ys all = record { parts = []; rest = rs; is = refl; each = tt; last = all }
parted rs (xs ∷ sent) ys all =
    let one = of_split rs xs (all_in sent ++ ys) (subst (AreOf rs) (append_assoc xs (all_in sent) ys) all) in
    let more = parted one.1 sent ys one.4 in
    record {
      parts = one.0 ∷ more.parts;
      rest = more.rest;
      is = one.2 ∙ ap (λ qs. one.0 ++ qs) more.is ∙ sym (append_assoc one.0 (all_in more.parts) more.rest);
      each = (one.3, more.each);
      last = more.last;
    }

of_behind : (n : ℕ) (parts : List (List Command)) (sent : List (List Marked)) → AreAllOf parts sent
    → AreAllOf (drop n parts) (drop n sent)
of_behind zero parts sent all = all
of_behind (suc n) [] [] all = tt
of_behind (suc n) [] (xs ∷ sent) all = absurd all
of_behind (suc n) (rs ∷ parts) [] all = absurd all
of_behind (suc n) (rs ∷ parts) (xs ∷ sent) all = of_behind n parts sent all.1

of_both : (rs qs : List Command) (xs ys : List Marked) → AreOf rs xs → AreOf qs ys → AreOf (rs ++ qs) (xs ++ ys)
of_both [] qs [] ys one two = two
of_both [] qs (x ∷ xs) ys one two = absurd one
of_both (r ∷ rs) qs [] ys one two = absurd one
of_both (r ∷ rs) qs (x ∷ xs) ys one two = (one.0, of_both rs qs xs ys one.1 two)

of_all : (parts : List (List Command)) (sent : List (List Marked)) → AreAllOf parts sent
    → AreOf (all_in parts) (all_in sent)
of_all [] [] all = tt
of_all [] (xs ∷ sent) all = absurd all
of_all (rs ∷ parts) [] all = absurd all
of_all (rs ∷ parts) (xs ∷ sent) all = of_both rs (all_in parts) xs (all_in sent) all.0 (of_all parts sent all.1)

-- the record of a command that is there
pub of_at : (rs : List Command) (xs : List Marked) (r : Command) → AreOf rs xs → Contains rs r → (x : Marked)
    × Contains xs x × IsOf r x
of_at [] xs r all at = nothing_there r at
of_at (q ∷ rs) [] r all at = absurd all
of_at (q ∷ rs) (x ∷ xs) r all at =
    grind (arith, nat_tests, first_or_later q rs r at, at_first x xs, of_at rs xs r all.1, at_later x xs)

-- ---- their works

abbrev pub work_at : Entry → Work
work_at (Opens n) = Say Null
work_at (Runs a) = a.work

abbrev pub work_in : Command → Work
work_in r = work_at r.entry

abbrev works_of : List (List Command) → List (List Work)
works_of parts = map (map work_in) parts

texts_of : (rs : List Command) (xs : List Marked) → AreOf rs xs → payload (map (λ (x : Marked). x.1) xs)
    ≡ flat_map log_text (map work_in rs)
texts_of [] [] all = refl
texts_of [] (x ∷ xs) all = absurd all
texts_of (r ∷ rs) [] all = absurd all
texts_of (r ∷ rs) (x ∷ xs) all = grind (arith, nat_tests, texts_of rs xs all.1)

all_texts : (parts : List (List Command)) (sent : List (List Marked)) → AreAllOf parts sent
    → map payload (map (map (λ (x : Marked). x.1)) sent) ≡ payloads_of (works_of parts)
all_texts [] [] all = refl
all_texts [] (xs ∷ sent) all = absurd all
all_texts (rs ∷ parts) [] all = absurd all
all_texts (rs ∷ parts) (xs ∷ sent) all = λ i. texts_of rs xs all.0 i ∷ all_texts parts sent all.1 i

-- no frame is longer than one may be
abbrev pub AreShort : List (List RecordView) → Type 0
AreShort [] = Unit {0}
AreShort (records ∷ log) = (length (payload records) < 2 ^ 28) × AreShort log

asked_all : (rs : List Command) → ((r : Command) → Contains rs r → IsAsked (work_in r)) → AreAsked (map work_in rs)
asked_all [] all = tt
asked_all (r ∷ rs) all = (all r (at_first r rs), asked_all rs (λ q at. all q (at_later r rs q at)))

logged_all : (parts : List (List Command)) (sent : List (List Marked)) → AreAllOf parts sent
    → AreShort (map (map (λ (x : Marked). x.1)) sent)
    → ((r : Command) → Contains (all_in parts) r → IsAsked (work_in r)) → AreLogged (works_of parts)
logged_all [] [] all short asks = tt
logged_all [] (xs ∷ sent) all short asks = absurd all
logged_all (rs ∷ parts) [] all short asks = absurd all
logged_all (rs ∷ parts) (xs ∷ sent) all short asks = (
  asked_all rs (λ r at. asks r (Contains-append_left rs (all_in parts) r at)),
  short_is_within (map work_in rs) (subst (λ bytes. length bytes < 2 ^ 28) (texts_of rs xs all.0) short.0),
  logged_all parts sent all.1 short.1 (λ r at. asks r (Contains-append_right rs (all_in parts) r at)),
)

works_are : (parts : List (List Command)) → works_in (works_of parts) ≡ map work_in (all_in parts)
works_are [] = refl
works_are (rs ∷ parts) = ap (λ ws. map work_in rs ++ ws) (works_are parts) ∙ sym (map-append work_in rs (all_in parts))

first_works : (n : ℕ) (parts : List (List Command)) → works_in (take n (works_of parts))
    ≡ map work_in (all_in (take n parts))
first_works n parts = ap works_in (take-map (map work_in) n parts) ∙ works_are (take n parts)

-- a logged entry is work of a batch
abbrev IsWork : Entry → Type 0
IsWork e = (a : Asked) × (n : ℕ) × (e ≡ Runs a) × (a.batch ≡ Some n)

work_by : (a : Asked) (batch : Option ℕ) → a.batch ≡ batch → is_logged (Runs a) ≡ true → IsWork (Runs a)
work_by a None is logs = grind (arith, nat_tests)
work_by a (Some n) is logs = (a, n, refl, is)

is_work : (e : Entry) → is_logged e ≡ true → IsWork e
is_work (Opens n) logs = absurd (false≢true logs)
is_work (Runs a) logs = work_by a a.batch refl logs

entries_works : (rs : List Command) (start : Entries) → ((r : Command) → Contains rs r → IsWork r.entry)
    → entries_after (map (λ r. r.entry) rs) start ≡ after_works (map work_in rs) start
entries_works [] start all = refl
entries_works (r ∷ rs) start all =
    let one = all r (at_first r rs) in
    ap (λ e. entries_after (map (λ (c : Command). c.entry) rs) (entry_after e start)) one.2
    ∙ entries_works rs (after_work one.0.work start) (λ q at. all q (at_later r rs q at))
    ∙ ap (λ e. after_works (map work_in rs) (after_work (work_at e) start)) (sym one.2)

-- ---- guesses

-- a batch that was cut off is one of the queue's
pub off_at : (bs : List Batch) (g : ℕ) → has g (off bs) ≡ true → (b : Batch) × Contains bs b × (b.number ≡ g)
off_at bs g is =
    let found = from_map (λ (b : Batch). b.number) (filter (λ (b : Batch). is_refused b.stage) bs) g
    (has_at (off bs) g is) in
    (found.0, (from_filter (λ (b : Batch). is_refused b.stage) bs found.0 found.1).0, found.2)

module _ (first : ℕ) (cm : List Command) (ds : List (Event Entry)) (log : List (List RecordView)) (told : List ℕ)
    (q : QueueView)
    (so : HasFrames first cm ds log told q) where
  abbrev fails : List ℕ
  fails = failed_in ds

  abbrev alive : List Command
  alive = living cm (fails ++ off q.batches)

  alive_at : (r : Command) → Contains alive r → Contains cm r × (is_logged r.entry ≡ true)
  alive_at r at =
      let logs = from_filter (λ (c : Command). is_logged c.entry) (kept (fails ++ off q.batches) cm) r at in
      ((from_filter (λ (c : Command). not (is_struck (fails ++ off q.batches) c)) cm r logs.0).0, logs.1)

  -- a command of a batch that was told as logged depends on none that was cut off and is not decided
  pub stays_alive : (r : Command) (a : Asked) (batch : ℕ) → Contains (kept fails cm) r → r.entry ≡ Runs a
      → a.batch ≡ Some batch → Contains ds (Commit batch) → Contains alive r
  stays_alive r a batch at runs is logged =
      let old = from_filter (λ (c : Command). not (is_struck fails c)) cm r at in
      let none : is_struck (fails ++ off q.batches) r ≡ false =
      false_from_ne_true (is_struck (fails ++ off q.batches) r) (λ struck.
      let found = any_has (λ g. has g (fails ++ off q.batches)) r.rests struck in
      let g = found.0 in
      elim (or_cases (has g fails) (has g (off q.batches))
      (sym (list_any-append (λ t. t == g) fails (off q.batches)) ∙ found.2)) [
        | inl failed ↦ true≢false (sym (has_any (λ h. has h fails) r.rests g found.1 failed)
            ∙ not-true (is_struck fails r) old.1)
        | inr cut ↦
            let b = off_at q.batches g cut in
            let behind = (so.settled batch logged).1 b.0 b.1 in
            let under = so.below r old.0 a batch g runs is found.1 in
            let same = b.2 in omega (arith, behind, under, same)
      ]) in
      let logs : is_logged r.entry ≡ true = ap is_logged runs
      ∙ ap (λ (b : Option ℕ). is_logged (Runs (record a { batch = b }))) is in
      to_filter (λ (c : Command). is_logged c.entry) (kept (fails ++ off q.batches) cm) r
      (to_filter (λ (c : Command). not (is_struck (fails ++ off q.batches) c)) cm r old.0 (ap not none)) logs

  abbrev split : Parted alive so.sent (next_marked q)
  split = parted alive so.sent (next_marked q) so.same

  part_at : (r : Command) → Contains (all_in split.parts) r → Contains alive r
  part_at r at = subst (λ rs. Contains rs r) (sym split.is) (Contains-append_left (all_in split.parts) split.rest r at)

  -- each frame has works that some request asks for
  pub logged_frames : AreShort log → ((r : Command) → Contains cm r → is_logged r.entry ≡ true → IsAsked (work_in r))
      → (works : List (List Work)) × (map payload log ≡ payloads_of works) × AreLogged works
  logged_frames short asks = (
    works_of split.parts,
    ap (map payload) (sym so.sent_are) ∙ all_texts split.parts so.sent split.each,
    logged_all split.parts so.sent split.each (subst AreShort (sym so.sent_are) short)
        (λ r at. let there = alive_at r (part_at r at) in asks r there.0 there.1),
  )

  module _ (n : ℕ) where
    abbrev pub front : List Command
    front = all_in (take n split.parts)

    abbrev back : List Command
    back = all_in (drop n split.parts) ++ split.rest

    both : alive ≡ front ++ back
    both =
        split.is
        ∙ ap (λ ps. all_in ps ++ split.rest) (sym (take-append-drop n split.parts))
        ∙ ap (λ rs. rs ++ split.rest)
        (flat_map-append (λ (rs : List Command). rs) (take n split.parts) (drop n split.parts))
        ∙ append_assoc front (all_in (drop n split.parts)) split.rest

    pub first_entries : take (length front) (map (λ (r : Command). r.entry) alive)
        ≡ map (λ (r : Command). r.entry) front
    first_entries =
        take-map (λ (r : Command). r.entry) (length front) alive
        ∙ ap (λ rs. map (λ (r : Command). r.entry) (take (length front) rs)) both
        ∙ ap (map (λ (r : Command). r.entry)) (take_at front back (length front) refl)

    front_at : (r : Command) → Contains front r → Contains alive r
    front_at r at = subst (λ rs. Contains rs r) (sym both) (Contains-append_left front back r at)

    -- what the first frames say is what the first commands do
    pub restored : (works : List Work) (start : Entries) → AreShort log
        → ((r : Command) → Contains cm r → is_logged r.entry ≡ true → IsAsked (work_in r))
        → SayAll (take n (map payload log)) works
        → after_works works start ≡ entries_after (take (length front) (map (λ (r : Command). r.entry) alive)) start
    restored works start short asks said =
        let texts : map payload log ≡ payloads_of (works_of split.parts) = ap (map payload) (sym so.sent_are)
        ∙ all_texts split.parts so.sent split.each in
        let logged : AreLogged (works_of split.parts) =
        logged_all split.parts so.sent split.each (subst AreShort (sym so.sent_are) short)
        (λ r at. let there = alive_at r (part_at r at) in asks r there.0 there.1) in
        restore n (works_of split.parts) works start logged (subst (λ ps. SayAll (take n ps) works) texts said)
        ∙ ap (λ ws. after_works ws start) (first_works n split.parts)
        ∙ sym (entries_works front start (λ r at. is_work r.entry (alive_at r (front_at r at)).1))
        ∙ ap (λ es. entries_after es start) (sym first_entries)

    -- none of a batch that was told as logged is behind them, where a frame that is not synced is
    none_behind : (k : ℕ) → has (first + k) told ≡ false → k ≤ n → (x : Marked) (batch : ℕ) → batch ≡ x.0
        → Contains ds (Commit batch)
        → Contains (all_in (drop n so.sent) ++ next_marked q) x → ⊥
    none_behind k unsynced upto x batch is logged at =
        let settled = so.settled batch logged in
        elim (Contains-append_cases (all_in (drop n so.sent)) (next_marked q) x at) [
          | inl sent ↦
              let found = numbered_behind first n so.sent x sent in
              let y : Placed = (found.0, x) in
              let later = found.1 in
              elim (Contains-append_cases so.done (flat_map placed q.batches) y
              (subst (λ ys. Contains ys y) so.stand found.2)) [
                | inl done ↦ true≢false
                    (sym (so.on_disk y (first + k) done (omega arith) (omega (arith, later, upto))) ∙ unsynced)
                | inr there ↦
                    let b = from_flat placed q.batches y there in
                    let own = (placed_of b.0 y b.2).1 in
                    let behind = settled.1 b.0 b.1 in omega (arith, own, behind, is)
              ]
          | inr next ↦ elim (Contains-append_cases (flat_map unsent q.batches) (marked q.number q.records) x next) [
            | inl there ↦
                let b = from_flat unsent q.batches x there in
                let own = unsent_of b.0 x b.2 in
                let behind = settled.1 b.0 b.1 in omega (arith, own, behind, is)
            | inr last ↦
                let own : q.number ≡ x.0 = ap (λ (z : Marked). z.0)
                (from_map (λ (r : RecordView). (q.number, r)) q.records x last).2 in
                let behind = settled.0 in omega (arith, own, behind, is)
          ]
        ]

    pub settled_first : (k : ℕ) → has (first + k) told ≡ false → k ≤ n → (a : Asked) (batch : ℕ)
        → Contains (map (λ (r : Command). r.entry) (kept fails cm)) (Runs a)
        → a.batch ≡ Some batch → Contains ds (Commit batch)
        → Contains (take (length front) (map (λ (r : Command). r.entry) alive)) (Runs a)
    settled_first k unsynced upto a batch at is logged =
        let r = from_map (λ (c : Command). c.entry) (kept fails cm) (Runs a) at in
        let lives = stays_alive r.0 a batch r.1 r.2 is logged in
        elim (Contains-append_cases front back r.0 (subst (λ rs. Contains rs r.0) both lives)) [
          | inl here ↦ subst (λ es. Contains es (Runs a)) (sym first_entries)
              (subst (Contains (map (λ (c : Command). c.entry) front)) r.2
              (to_map (λ (c : Command). c.entry) front r.0 here))
          | inr behind ↦
              let all = of_both (all_in (drop n split.parts)) split.rest (all_in (drop n so.sent)) (next_marked q)
              (of_all (drop n split.parts) (drop n so.sent) (of_behind n split.parts so.sent split.each)) split.last in
              let x = of_at back (all_in (drop n so.sent) ++ next_marked q) r.0 all behind in
              let same : batch ≡ x.0.0 =
              same_Some batch x.0.0 (sym is ∙ ap (λ (b : Asked). b.batch) (same_runs a x.2.asked (sym r.2 ∙ x.2.entry)) ∙ x.2.batch) in
              absurd (none_behind k unsynced upto x.0 batch same logged x.1)
        ]
