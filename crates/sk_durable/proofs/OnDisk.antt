-- A batch that is told as logged lies in frames that were told as synced, and its frame has all that it logs.
use Rattle.std.proofs.lemmas.Bool.Decides.{nat_tests}
use Rattle.sk_durable.proofs.Recovered.{of_at}
use Rattle.sk_durable.proofs.Names.{is_some, ◌≡◌, ℕ, suc, ◌+◌, ◌-◌, ◌<◌, ◌≤◌, true, false, cond, not, List, [], ◌∷◌}
use Rattle.sk_durable.proofs.Names.{◌++◌, map, Some, inl, inr, refl, sym, ◌∙◌, ap, subst, arith, slice_get, filter}
use Rattle.sk_durable.proofs.Names.{Contains, option_map, true≢false, Contains-append_cases, Contains-append_left}
use Rattle.sk_durable.proofs.Names.{Contains-append_right, list_any-append, slice_get-map, has, Event, failed_in}
use Rattle.sk_durable.proofs.Names.{is_struck, kept, Batch, Stage, Synced, AreDense, IsBehind, is_kept, is_refused}
use Rattle.sk_durable.proofs.Names.{is_taken, QueueView, RecordView, dense_at, of_all, Logged, log_text, Asked, Entry}
use Rattle.sk_durable.proofs.Names.{Runs, Decides, Serves, carried, told_decided, frames, is_logged, stands, Command}
use Rattle.sk_durable.proofs.Names.{HasDone, LoggedIsOnDisk}
use Rattle.std.specs.Prelude.{flat_map}
use Rattle.sk_batches.specs.declared.queue.Decision.TheVariants as decision
use Rattle.sk_durable.proofs.Contained.{at_first, first_or_later, from_filter, from_flat, from_map, nothing_there}
use Rattle.sk_durable.proofs.Contained.{to_filter, to_map, any_has, has_any, has_at}
use Rattle.sk_durable.proofs.Frames.{in_frame, living, marked, next_marked, numbered, off, placed, unsent, HasFrames}
use Rattle.sk_durable.proofs.Frames.{IsOf, Marked, Placed}
use Rattle.sk_durable.proofs.Queued.{stands_densely, synced_upto}
use Rattle.sk_durable.proofs.Records.{in_frames, oldest_of}
use Rattle.sk_durable.proofs.Served.{between}

-- ---- lists

made_of : {X Y : Type 0} (f : X → Y) (xs : List X) (y : Y) → Contains (map f xs) y → (x : X) × Contains xs x × (y ≡ f x)
made_of f xs y at = let found = from_map f xs y at in (found.0, found.1, sym found.2)

-- what stands before it, and behind it
pub parted_at : {X : Type 0} (xs : List X) (x : X) → Contains xs x
    → (before : List X) × (later : List X) × (xs ≡ before ++ x ∷ later)
parted_at [] x at = nothing_there x at
parted_at (y ∷ xs) x at =
    elim (first_or_later y xs x at) as (λ _. (before : _) × (later : _) × ((y ∷ xs) ≡ before ++ x ∷ later)) [
      | inl same ↦ ([], xs, ap (λ z. z ∷ xs) same)
      | inr later ↦ let r = parted_at xs x later in (y ∷ r.0, r.1, ap (λ zs. y ∷ zs) r.2)
    ]

-- ---- the frame of a record

-- a record that was sent stands in a frame of the log
in_its_frame : (first : ℕ) (sent : List (List Marked)) (y : Placed) → Contains (numbered first sent) y
    → (first ≤ y.0) × ((xs : List Marked) × (slice_get sent (y.0 - first) ≡ Some xs) × Contains xs y.1)
in_its_frame first [] y at = nothing_there y at
in_its_frame first (xs ∷ sent) y at =
    elim (Contains-append_cases (in_frame first xs) (numbered (first + 1) sent) y at) as
    (λ _. (first ≤ y.0) × ((zs : List Marked) × (slice_get (xs ∷ sent) (y.0 - first) ≡ Some zs) × Contains zs y.1)) [
      | inl here ↦
          let found = made_of (λ (x : Marked). (first, x)) xs y here in
          let same : y.0 ≡ first = ap (λ (z : Placed). z.0) found.2 in
          let none : y.0 - first ≡ 0 = omega arith in (
            omega arith,
            (xs, ap (slice_get (xs ∷ sent)) none, subst (Contains xs) (sym (ap (λ (z : Placed). z.1) found.2)) found.1),
          )
      | inr later ↦
          let rest = in_its_frame (first + 1) sent y later in
          let up = rest.0 in
          let one : y.0 - first ≡ suc (y.0 - (first + 1)) = omega arith in (
            omega arith,
            (rest.1.0, ap (slice_get (xs ∷ sent)) one ∙ rest.1.1, rest.1.2),
          )
    ]

numbered_has : (first : ℕ) (sent : List (List Marked)) (x : Marked) → Contains (flat_map (λ xs. xs) sent) x
    → (f : ℕ) × Contains (numbered first sent) (f, x)
numbered_has first [] x at = nothing_there x at
numbered_has first (xs ∷ sent) x at =
    elim (Contains-append_cases xs (flat_map (λ ys. ys) sent) x at) as
    (λ _. (f : ℕ) × Contains (numbered first (xs ∷ sent)) (f, x)) [
      | inl here ↦ (
        first,
        Contains-append_left (in_frame first xs) (numbered (first + 1) sent) (first, x)
            (to_map (λ (z : Marked). (first, z)) xs x here),
      )
      | inr later ↦ let r = numbered_has (first + 1) sent x later in
          (r.0, Contains-append_right (in_frame first xs) (numbered (first + 1) sent) (r.0, x) r.1)
    ]

-- ---- commands and their records

-- its record is of its batch, and has its bytes
same_batch : (r : Command) (x : Marked) (asked : Asked) (n : ℕ) → IsOf r x → r.entry ≡ Runs asked → asked.batch ≡ Some n
    → (x.0 ≡ n) × (x.1.bytes ≡ log_text asked.work)
same_batch r x asked n of runs batch = grind (arith, nat_tests)

logs_it : (r : Command) (asked : Asked) (n : ℕ) → r.entry ≡ Runs asked → asked.batch ≡ Some n → is_logged r.entry ≡ true
logs_it r asked n runs batch = ap is_logged runs ∙ ap is_some batch

-- ---- the oldest batch

synced_kept : (s : Stage) → s ≡ Synced → (is_kept s ≡ false) × (is_refused s ≡ false)
synced_kept s is = (ap is_kept is, ap is_refused is)

module _ (first : ℕ) (commands : List Command) (decides : List (Event Entry)) (log : List (List RecordView))
    (told : List ℕ) (q : QueueView)
    (has_frames : HasFrames first commands decides log told q) (dense : AreDense first q.frame q.number q.batches)
    (b : Batch) (bs : List Batch) (are : q.batches ≡ b ∷ bs) (synced : b.stage ≡ Synced) where
  dense_here : AreDense first q.frame q.number (b ∷ bs)
  dense_here = subst (AreDense first q.frame q.number) are dense

  here : Contains q.batches b
  here = subst (λ (xs : List Batch). Contains xs b) (sym are) (0, omega arith, refl)

  -- it is the one with its number
  only : (d : Batch) → Contains q.batches d → d.number ≡ b.number → d ≡ b
  only d at same =
      grind (
        arith,
        nat_tests,
        first_or_later b bs d (subst (λ (xs : List Batch). Contains xs d) are at),
        of_all (IsBehind b) bs d dense_here.2,
      )

  -- what was cut off and is undecided stands behind it
  behind_off : (g : ℕ) → has g (off q.batches) ≡ true → b.number < g
  behind_off g is =
      let found = contained_off q.batches g is in
      let d = found.0 in
      elim (first_or_later b bs d (subst (λ (xs : List Batch). Contains xs d) are found.1)) as (λ _. b.number < g) [
        | inl same ↦ absurd (true≢false
            (sym found.2 ∙ ap (λ (z : Batch). is_refused z.stage) (sym same) ∙ (synced_kept b.stage synced).1))
        | inr later ↦ let more =
            (of_all (IsBehind b) bs d dense_here.2 later).number in let named = found.3 in omega arith
      ]
    where
      contained_off : (ds : List Batch) (g : ℕ) → has g (off ds) ≡ true
          → (d : Batch) × Contains ds d × (is_refused d.stage ≡ true) × (d.number ≡ g)
      contained_off ds g is =
          let n = has_at (off ds) g is in
          let m = made_of (λ (d : Batch). d.number) (filter (λ (d : Batch). is_refused d.stage) ds) g n in
          let r = from_filter (λ (d : Batch). is_refused d.stage) ds m.0 m.1 in (m.0, r.0, r.1, sym m.2)

  -- a command of it that stands is in the log
  is_living : (r : Command) (asked : Asked) → Contains (kept (failed_in decides) commands) r → r.entry ≡ Runs asked
      → asked.batch ≡ Some b.number
      → Contains (living commands (failed_in decides ++ off q.batches)) r
  is_living r asked at runs batch =
      grind (
        arith,
        nat_tests,
        from_filter (λ (c : Command). not (is_struck (failed_in decides) c)) commands r at,
        to_filter (λ (c : Command). is_logged c.entry) (kept (failed_in decides ++ off q.batches) commands) r,
        off q.batches,
        to_filter (λ (c : Command). not (is_struck (failed_in decides ++ off q.batches) c)) commands r,
        any_has (λ h. has h (failed_in decides ++ off q.batches)) r.rests,
        list_any-append,
        has_any (λ h. has h (failed_in decides)) r.rests,
        behind_off,
        logs_it r asked b.number runs batch,
      )

  -- what is to be sent is of batches behind it
  not_next : (x : Marked) → Contains (next_marked q) x → b.number < x.0
  not_next x at = elim (Contains-append_cases (flat_map unsent q.batches) (marked q.number q.records) x at) as
      (λ _. b.number < x.0) [
        | inl again ↦
            let found = from_flat unsent q.batches x again in
            let d = found.0 in
            elim (is_kept d.stage) as
            (λ t. is_kept d.stage ≡ t → Contains (cond t (marked d.number d.records) []) x → b.number < x.0) [
              | true ↦ λ is has_it.
                  let r = made_of (λ (z : RecordView). (d.number, z)) d.records x has_it in
                  let named : x.0 ≡ d.number = ap (λ (z : Marked). z.0) r.2 in
                  elim (first_or_later b bs d (subst (λ (xs : List Batch). Contains xs d) are found.1)) as
                  (λ _. b.number < x.0) [
                    | inl same ↦ absurd (true≢false
                        (sym is ∙ ap (λ (z : Batch). is_kept z.stage) (sym same) ∙ (synced_kept b.stage synced).0))
                    | inr later ↦ let more = (of_all (IsBehind b) bs d dense_here.2 later).number in omega arith
                  ]
              | false ↦ λ is has_it. nothing_there x has_it
            ] refl found.2
        | inr now ↦
            let r = made_of (λ (z : RecordView). (q.number, z)) q.records x now in
            let named : x.0 ≡ q.number = ap (λ (z : Marked). z.0) r.2 in
            let less = (dense_at first q.frame q.number (b ∷ bs) b dense_here (0, omega arith, refl)).0 in omega arith
      ] where
        none_there : (x : Marked) → Contains [] x → b.number < x.0
        none_there x at = nothing_there x at

  -- a record of it stands in its frame
  its_frame : (y : Placed) → Contains (numbered first has_frames.sent) y → y.1.0 ≡ b.number → y.0 ≡ b.frame
  its_frame y at named = elim
      (Contains-append_cases has_frames.done (flat_map placed q.batches) y
      (subst (λ (ys : List Placed). Contains ys y) has_frames.stand at)) as (λ _. y.0 ≡ b.frame) [
        | inl was ↦ let less = (has_frames.before y was).number b here in absurd (omega arith)
        | inr now ↦
            let found = from_flat placed q.batches y now in
            let d = found.0 in
            elim (is_taken d.stage) as
            (λ t. Contains (cond t (in_frame d.frame (marked d.number d.records)) []) y → y.0 ≡ b.frame) [
              | true ↦ λ has_it.
                  let r = made_of (λ (x : Marked). (d.frame, x)) (marked d.number d.records) y has_it in
                  let s = made_of (λ (z : RecordView). (d.number, z)) d.records r.0 r.1 in
                  let is_number : y.1.0 ≡ d.number = ap (λ (z : Placed). z.1.0) r.2 ∙ ap (λ (z : Marked). z.0) s.2 in
                  ap (λ (z : Placed). z.0) r.2 ∙ ap (λ (z : Batch). z.frame) (only d found.1 (sym is_number ∙ named))
              | false ↦ λ has_it. nothing_there y has_it
            ] found.2
      ] where
        none_there : (y : Placed) → Contains [] y → y.0 ≡ b.frame
        none_there y at = nothing_there y at

  -- its frame has all that it logs
  pub frame_has : (r : Command) (asked : Asked) → Contains (kept (failed_in decides) commands) r
      → r.entry ≡ Runs asked → asked.batch ≡ Some b.number
      → (records : List RecordView) × (slice_get log (b.frame - first) ≡ Some records)
      × Contains (map (λ x. x.bytes) records) (log_text asked.work)
  frame_has r asked at runs batch =
      let found = of_at (living commands (failed_in decides ++ off q.batches)) (flat_map (λ xs. xs) has_frames.sent ++ next_marked q) r has_frames.same (is_living r asked at runs batch) in
      let x = found.0 in
      let same = same_batch r x asked b.number found.2 runs batch in
      elim (Contains-append_cases (flat_map (λ xs. xs) has_frames.sent) (next_marked q) x found.1) as
      (λ _. (records : List RecordView) × (slice_get log (b.frame - first) ≡ Some records)
      × Contains (map (λ x. x.bytes) records) (log_text asked.work)) [
        | inl was ↦
            let y = numbered_has first has_frames.sent x was in
            let at_frame = its_frame (y.0, x) y.1 same.0 in
            let its = (in_its_frame first has_frames.sent (y.0, x) y.1).1 in (
              map (λ (z : Marked). z.1) its.0,
              (λ i. slice_get (sym has_frames.sent_are i) (sym at_frame i - first))
                  ∙ slice_get-map (map (λ (z : Marked). z.1)) has_frames.sent (y.0 - first)
                  ∙ ap (option_map (map (λ (z : Marked). z.1))) its.1,
              subst (Contains (map (λ (z : RecordView). z.bytes) (map (λ (z : Marked). z.1) its.0))) same.1
                  (to_map (λ (z : RecordView). z.bytes) (map (λ (z : Marked). z.1) its.0) x.1
                  (to_map (λ (z : Marked). z.1) its.0 x its.2)),
            )
        | inr now ↦ let more = not_next x now in let named = same.0 in absurd (omega arith)
      ]

-- ---- the law

pub logged_is_on_disk : LoggedIsOnDisk
logged_is_on_disk limits next start cs s done batch logged =
    let parts = parted_at cs (Decides (Logged batch)) logged in
    let before = parts.0 in
    let later = parts.1 in
    let served = between done.first s before (Decides (Logged batch) ∷ later)
    (subst (λ es. Serves done.first es s) parts.2 done.serves) in
    let m = served.0 in
    let q = m.batched.queue in
    let did : HasDone limits next start before m = record { first = done.first; new = done.new; serves = served.1 } in
    let decides = served.2.1.0.0 in
    let oldest = oldest_of m.batched.queue.batches (decision.Logged batch) decides in
    let b = oldest.oldest in
    let dense = (stands_densely limits next start before m did).1 in
    let here = subst (λ (xs : List Batch). Contains xs b) (sym oldest.are) (at_first b oldest.others) in
    let placed = (dense_at next.frame q.frame q.number q.batches b dense here).1 (synced_kept b.stage oldest.staged).0 in
    record {
      before = before;
      later = later;
      at = parts.2;
      frame = b.frame;
      from = placed.from;
      synced_are = λ n from upto.
          synced_upto limits next start before m did b oldest.others n oldest.are oldest.staged from upto;
      has_all = λ asked at is.
          let found = made_of (λ (r : Command). r.entry) (stands before) (Runs asked) at in
          frame_has next.frame (carried before) (told_decided before) (frames next.frame before) _ m.batched.queue
          (in_frames limits next start before m did) dense b oldest.others oldest.are oldest.staged
          found.0 asked found.1 (sym found.2) (is ∙ ap (λ n. Some n) (sym oldest.number));
    }
