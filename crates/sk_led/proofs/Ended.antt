-- What is found of a leadership whose store was wound up.
use Rattle.sk_led.proofs.Names.{take-take, false_from_ne_true, ◌≡◌, ℕ, zero, suc, ◌+◌, ◌-◌, ◌<◌, ◌≤◌, true, false, List}
use Rattle.sk_led.proofs.Names.{[], ◌∷◌, ◌++◌, length, take, map, Some, None, inl, inr, refl, sym, ◌∙◌, ap, subst}
use Rattle.sk_led.proofs.Names.{arith, ◌≢◌, slice_get, true≢false, take-map, has, payload, RecordView, Work, Says}
use Rattle.sk_led.proofs.Names.{SayAll, log_limits, after_works, Entries, Limits, Next, StoreView, Call, Cuts, frames}
use Rattle.sk_led.proofs.Names.{synced, HasDone, IsRecovered, crashes_are_recovered, between, batch_of, owner_of, whole}
use Rattle.sk_led.proofs.Names.{World, HasPut, IsSound, order, AreOf, IsGivenUp, IsLeading, NoneSynced, Move, Moves}
use Rattle.sk_led.proofs.Names.{new_world, HasAll, StoreDoes, Decides, Logged, Contains, nothing_there, AllByRecursion}
use Rattle.sk_led.proofs.Names.{Batch, Stage, Synced, is_kept, at_first, dense_at, oldest_of, queue_decided}
use Rattle.sk_led.proofs.Names.{stands_densely, synced_upto, log_text}
use Rattle.sk_batches.specs.declared.queue.Decision.TheVariants as decision
use Rattle.sk_engine.specs.declared.answer.BatchAnswer.TheVariants as batch
use Rattle.sk_led.proofs.Grows.{first_off, same_payloads}
use Rattle.sk_led.proofs.Late.{IsLate}
use Rattle.sk_led.proofs.Leads.{both_records, decided_upto, found_frames, not_synced, of_at, placed, within, IsPlaced}
use Rattle.sk_led.proofs.Wound.{cut_at, get_of_taken, get_taken, Log}

-- ---- frames without records say nothing

says_nothing : Says log_limits [] []
says_nothing = record { requests = []; splits = refl; taken = tt; closed = refl; works_are = refl }

first_is : (f : List RecordView) (log : Log) → slice_get (f ∷ log) 0 ≡ Some [] → f ≡ []
first_is f log e = cc

say_more : (log : Log) (n m : ℕ) (works : List Work) → n ≤ m → SayAll (take n (map payload log)) works
    → ((i : ℕ) → n ≤ i → i < m → slice_get log i ≡ Some []) → SayAll (take m (map payload log)) works
say_more log zero zero works le said empty = said
say_more [] zero (suc m) works le said empty = said
say_more (f ∷ log) zero (suc m) works le said empty = (
  [],
  [],
  subst (λ rs. Says log_limits (payload rs) [])
      (sym (first_is f log (empty 0 (omega arith) (omega arith)))) says_nothing,
  say_more log zero m [] (omega arith) refl (λ i ge lt. empty (suc i) (omega arith) (omega arith)),
  said,
)
say_more log (suc n) zero works le said empty = absurd (omega arith)
say_more [] (suc n) (suc m) works le said empty = said
say_more (f ∷ log) (suc n) (suc m) works le said empty = (
  said.0,
  said.1,
  said.2,
  say_more log n m said.1 (omega arith) said.3 (λ i ge lt. empty (suc i) (omega arith) (omega arith)),
  said.4,
)

past_end : (log : Log) → slice_get log (length log) ≡ Some [] → ⊥
past_end [] e = let no : None ≡ Some [] = e in cc
past_end (f ∷ log) e = past_end log e

-- ---- what is given up is never there

given_up : (w : World) → IsSound w → (r n : ℕ) → IsGivenUp w r n → (v : List ℕ) → whole w n ≡ Some v → owner_of v ≡ r
    → ⊥
given_up w so r n (inl lost) v here own = (so.over (batch_of r n) lost.0 lost.1 lost.2 lost.3).never v here own
given_up w so r n (inr unsent) v here own =
    let put : HasPut w r n v = subst (λ k. HasPut w k n v) own (so.in_whole n v here) in
    unsent (v, so.tried (batch_of r n) v batch.Done put)

same_front : (k n : ℕ) (xs ys : Log) → n ≤ k → take k xs ≡ take k ys → take n xs ≡ take n ys
same_front k n xs ys le same = sym (take-take n k xs le) ∙ ap (λ (zs : Log). take n zs) same ∙ take-take n k ys le

pub ended_found : (read : List ℕ → List ℕ) (w : World) → IsSound w
    → (r gap : ℕ) (limits : Limits) (next : Next) (start : Entries)
    (leading : List Call) (cut : _) (ds : List Call) (s : StoreView)
    → HasDone limits next start (leading ++ Cuts cut ∷ ds) s
    → IsLeading read w r gap next leading → IsGivenUp w r cut.frame → NoneSynced ds
    → (values : List (List ℕ)) → AreOf w r next.frame values
    → ((u : List ℕ) → whole w (next.frame + length values) ≡ Some u → owner_of u ≢ r)
    → (works : List Work) → SayAll (map read values) works
    → IsRecovered start (leading ++ Cuts cut ∷ ds) s (after_works works start)
ended_found read w so r gap limits next start leading cut ds s done led given tells values are ends works said =
    let first = next.frame in
    let cs = leading ++ Cuts cut ∷ ds in
    let log = frames first cs in
    let n = length values in
    let mid = between done.first s leading (Cuts cut ∷ ds) done.serves in
    let at = cut_at limits next start leading cut ds mid.0 s
    (record { first = done.first; new = done.new; serves = mid.1 }) mid.2 tells in
    let from = at.from in
    let wound = at.wound in
    let bound : n ≤ cut.frame - first = elim (order n (cut.frame - first)) as (λ _. n ≤ cut.frame - first) [
      | inl le ↦ le
      | inr lt ↦
          let v = within values (cut.frame - first) lt in
          let here = of_at w r first values are (cut.frame - first) v.0 v.1 in
          absurd (given_up w so r cut.frame given v.0 (subst (λ k. whole w k ≡ Some v.0) (omega arith) here.0) here.1)
    ] in
    let payloads = same_payloads read values (frames first leading)
    (found_frames read w so r gap next leading led values are) in
    let front : take n (map payload log) ≡ take n (map payload (frames first leading))
    = take-map payload n log ∙ ap (λ (xs : Log). map payload xs)
    (same_front (cut.frame - first) n log (frames first leading) bound wound.front)
    ∙ sym (take-map payload n (frames first leading)) in
    let says : SayAll (take n (map payload log)) works = subst (λ ps. SayAll ps works) (payloads ∙ sym front) said in
    let count = first_off (λ i. has (first + i) (synced cs)) (length log) in
    let off : has (first + count.0) (synced cs) ≡ false
    = elim count.1.2 as (λ _. has (first + count.0) (synced cs) ≡ false) [
      | inl is ↦ is
      | inr all ↦ false_from_ne_true (has (first + count.0) (synced cs)) (λ is.
          let long = wound.long in
          let got = wound.empty (first + count.0) (omega arith) is in
          past_end log (subst (λ k. slice_get log k ≡ Some []) (omega arith) got))
    ] in
    elim (order count.0 n) as (λ _. IsRecovered start cs s (after_works works start)) [
      | inl le ↦ crashes_are_recovered limits next start cs s done count.0 n works
          (record { those = count.1.1; next = off }) le says
      | inr lt ↦
          let here : cut.frame ≡ first + n = elim (order cut.frame (first + n)) as (λ _. cut.frame ≡ first + n) [
            | inl ge ↦ omega arith
            | inr less ↦
                let was = not_synced read w so r gap next leading led n
                (λ i under. wound.below (first + i) (omega arith) (count.1.1 i (omega arith))) ends
                (has (first + n) (synced leading)) refl in
                absurd (true≢false (sym (wound.below (first + n) less (count.1.1 n lt)) ∙ was))
          ] in
          let empty : (i : ℕ) → n ≤ i → i < count.0 → slice_get log i ≡ Some [] = λ i ge under.
          subst (λ k. slice_get log k ≡ Some []) (omega arith)
          (wound.empty (first + i) (omega arith) (count.1.1 i under)) in
          crashes_are_recovered limits next start cs s done count.0 count.0 works
          (record { those = count.1.1; next = off }) (omega arith)
          (say_more log n count.0 works (omega arith) says empty)
    ]

-- ---- what is told as logged once the store is wound up

no_bytes : (records : List RecordView) (text : List ℕ) → records ≡ []
    → Contains (map (λ (x : RecordView). x.bytes) records) text → ⊥
no_bytes records text is at = nothing_there text
    (subst (λ (rs : List RecordView). Contains (map (λ (x : RecordView). x.bytes) rs) text) is at)

logged_parts : (m n : StoreView) (number : ℕ) → StoreDoes m (Decides (Logged number)) n
    → queue_decided m.batched.queue.batches ≡ Some (decision.Logged number)
logged_parts m n number ((decides, commits, queue, begun), is, places) = decides

from_front : (k n : ℕ) (xs ys : Log) (f : List RecordView) → take n xs ≡ take n ys → k < n → slice_get xs k ≡ Some f
    → slice_get ys k ≡ Some f
from_front k n xs ys f same lt e =
    get_of_taken ys k n f (subst (λ zs. slice_get zs k ≡ Some f) same (get_taken xs k n f lt e))

pub ended_logged : (read : List ℕ → List ℕ) (moves : List Move) (w : World) (r gap : ℕ) (limits : Limits) (next : Next)
    (start : Entries)
    (leading : List Call) (cut : _) (xs later : List Call) (cs : List Call) (s : StoreView) (number : ℕ)
    → Moves new_world moves w
    → HasDone limits next start ((leading ++ Cuts cut ∷ xs) ++ Decides (Logged number) ∷ later) s
    → IsLeading read w r gap next leading → NoneSynced xs
    → cs ≡ (leading ++ Cuts cut ∷ xs) ++ Decides (Logged number) ∷ later → (frame : ℕ) → next.frame ≤ frame
    → ((n : ℕ) → next.frame ≤ n → n ≤ frame → has n (synced (leading ++ Cuts cut ∷ xs)) ≡ true)
    → HasAll next.frame (leading ++ Cuts cut ∷ xs) frame number → IsPlaced read w r gap cs number
ended_logged read moves w r gap limits next start leading cut xs later cs s number runs done led tells at frame from told has_all =
    let first = next.frame in
    let before = leading ++ Cuts cut ∷ xs in
    let mid = between done.first s before (Decides (Logged number) ∷ later) done.serves in
    let did : HasDone limits next start before mid.0 = record { first = done.first; new = done.new; serves = mid.1 } in
    let two = between done.first mid.0 leading (Cuts cut ∷ xs) mid.1 in
    let wound_at = cut_at limits next start leading cut xs two.0 mid.0
    (record { first = done.first; new = done.new; serves = two.1 }) two.2 tells in
    let wound = wound_at.wound in
    let bound = wound_at.from in
    let oldest = oldest_of mid.0.batched.queue.batches (decision.Logged number) (logged_parts mid.0 mid.2.0 number mid.2.1) in
    let b = oldest.oldest in
    let late : b.frame < cut.frame
    = (subst (λ bs. AllByRecursion (IsLate cut.frame) bs) oldest.are wound_at.late.each).0.1 oldest.staged in
    let dense = (stands_densely limits next start before mid.0 did).1 in
    let here = subst (λ (bs : List Batch). Contains bs b) (sym oldest.are) (at_first b oldest.others) in
    let low = ((dense_at first mid.0.batched.queue.frame mid.0.batched.queue.number mid.0.batched.queue.batches b dense here).1
    (synced_unkept b.stage oldest.staged)).from in
    elim (order cut.frame frame) as (λ _. IsPlaced read w r gap cs number) [
      | inr lt ↦ placed read moves w r gap next leading cs runs led number before later at frame from
          (decided_upto read w r gap next leading led frame (λ n ge le. wound.below n (omega arith) (told n ge le)))
          (λ asked there is.
          let all = has_all asked there is in (
            all.0,
            from_front (frame - first) (cut.frame - first) (frames first before) (frames first leading) all.0
                wound.front (omega arith) all.1,
            all.2,
          ))
      | inl ge ↦ placed read moves w r gap next leading cs runs led number before later at b.frame low
          (decided_upto read w r gap next leading led b.frame (λ n from_n le. wound.below n (omega arith)
          (synced_upto limits next start before mid.0 did b oldest.others n oldest.are oldest.staged from_n le)))
          (λ asked there is.
          let all = has_all asked there is in
          let none = wound.empty frame ge (told frame from (omega arith)) in
          absurd (no_bytes all.0 (log_text asked.work)
          (both_records all.0 [] (slice_get (frames first before) (frame - first)) all.1 none) all.2))
    ]
  where
    synced_unkept : (t : Stage) → t ≡ Synced → is_kept t ≡ false
    synced_unkept t is = ap is_kept is
