-- What holds of frames and cuts after all that a store did.
use Rattle.sk_crashed.proofs.Names.{◌∙◌, ◌≡◌, ℕ, zero, suc, ◌+◌, ◌-◌, ◌<◌, ◌≤◌, true, false, List, [], ◌∷◌, length, map}
use Rattle.sk_crashed.proofs.Names.{Some, refl, ap, subst, arith, non_zero_u16_get, list_any, length-map, NUMBER_LIMIT}
use Rattle.sk_crashed.proofs.Names.{Batch, Cut, cut_due, first_failed, is_sent, has, cut_between, due_cut, capped}
use Rattle.sk_crashed.proofs.Names.{Entries, Limits, Next, Call, Cuts, Does, frames, synced, AreSynced, HasDone}
use Rattle.sk_crashed.proofs.Names.{StoreView, Marked, queue_led, stands_densely, after_any, in_frames}
use Rattle.sk_crashed.proofs.Tried.{within_both}
use Rattle.sk_crashed.proofs.Untold.{not_next, untold, Untold}
use Rattle.sk_crashed.proofs.Names.{inl, inr, sym, true≢false}
use Rattle.sk_crashed.proofs.Writing.{order, AreWithin, IsWithin}

module _ (limits : Limits) (origin : Next) (start : Entries) where
  -- the next frame has the number behind those of the log
  pub next_frame : (cs : List Call) (s : StoreView) → HasDone limits origin start cs s
      → s.batched.queue.frame ≡ origin.frame + length (frames origin.frame cs)
  next_frame cs s done =
      let so = in_frames limits origin start cs s done in
      let next = so.next in
      let size = ap length so.sent_are in
      let same = length-map so.sent (map (λ (x : Marked). x.1)) in omega (arith, next, size, same)

  -- a cut that is due goes on from a frame of the log
  pub due_within : (cs : List Call) (s : StoreView) → HasDone limits origin start cs s → (cut : Cut)
      → cut_due s.batched.queue ≡ Some cut
      → (origin.frame ≤ cut.frame) × (cut.frame < origin.frame + length (frames origin.frame cs)) × (cut.frame < NUMBER_LIMIT)
  due_within cs s done cut is =
      let q = s.batched.queue in
      let due = due_cut (list_any (λ (b : Batch). is_sent b.stage) q.batches) (first_failed q.batches) cut is in
      let dense = stands_densely limits origin start cs s done in
      let within = cut_between origin.frame q.frame q.number cut q.batches dense.1 due.1 in
      let next = next_frame cs s done in
      let before = within.1 in (within.0, omega (arith, before, next), within.2)

  call_within : (cs : List Call) (m : StoreView) (c : Call) (s : StoreView) → HasDone limits origin start cs m → Does m c s
      → IsWithin origin.frame (frames origin.frame cs) c
  call_within cs m (Cuts cut) s done does =
      let within = due_within cs m done cut does.1 in
      let before = within.1 in (within.0, omega (arith, before))
  call_within cs m c s done does = tt

  pub all_within : (cs : List Call) (s : StoreView) → HasDone limits origin start cs s → AreWithin origin.frame [] cs
  all_within cs s done =
      after_any limits origin start (λ ds m. AreWithin origin.frame [] ds)
      (λ ds m c n had does all. within_both origin.frame ds (c ∷ []) [] all (call_within ds m c n had does, tt))
      [] cs done.first s (record { first = done.first; new = done.new; serves = refl }) done.serves tt

  -- nothing that may still be cut off was told as synced
  pub all_untold : (cs : List Call) (s : StoreView) → HasDone limits origin start cs s → Untold s.batched.queue (synced cs)
  all_untold cs s done =
      let led = queue_led limits origin start cs s done in
      subst (Untold s.batched.queue) led.synced_are
      (untold (capped (non_zero_u16_get limits.in_flight)) limits.undecided origin.frame led.calls s.batched.queue led.last led.runs)

-- ---- how many frames are synced, one after another

record Counted (told : List ℕ) (f : ℕ) : Type 0 where
  count : ℕ
  those : (i : ℕ) → i < count → has (f + i) told ≡ true
  next : has (f + count) told ≡ false

counted_to : (told : List ℕ) (N f : ℕ) → has (f + N) told ≡ false → Counted told f
counted_to told zero f none = record { count = 0; those = λ i wrong. absurd (omega (arith, wrong)); next = none }
counted_to told (suc N) f none =
    elim (has f told) as (λ t. has f told ≡ t → Counted told f) [
      | true ↦ λ here.
          let same : f + suc N ≡ (f + 1) + N = omega arith in
          let rest = counted_to told N (f + 1) (subst (λ n. has n told ≡ false) same none) in
          let last : (f + 1) + rest.count ≡ f + suc rest.count = omega arith in
          record {
            count = suc rest.count;
            those = λ i lt. elim i as (λ i. i < suc rest.count → has (f + i) told ≡ true) [
              | zero ↦ λ _. let at : f ≡ f + 0 = omega arith in subst (λ n. has n told ≡ true) at here
              | suc j ↦ λ lt. let at : (f + 1) + j ≡ f + suc j = omega arith in
                  subst (λ n. has n told ≡ true) at (rest.those j (omega (arith, lt)))
            ] lt;
            next = subst (λ n. has n told ≡ false) last rest.next;
          }
      | false ↦ λ gone.
          let at : f ≡ f + 0 = omega arith in
          record {
            count = 0;
            those = λ i wrong. absurd (omega (arith, wrong));
            next = subst (λ n. has n told ≡ false) at gone;
          }
    ] refl

-- no more than there are
pub few_synced : (limits : Limits) (origin : Next) (start : Entries) (cs : List Call) (s : StoreView) (count : ℕ)
    → HasDone limits origin start cs s → AreSynced origin.frame count cs → count ≤ length (frames origin.frame cs)
few_synced limits origin start cs s count done synced_are =
    let none = subst (λ n. has n (synced cs) ≡ false) (next_frame limits origin start cs s done)
    (not_next s.batched.queue (synced cs) (all_untold limits origin start cs s done)) in
    elim (order (length (frames origin.frame cs)) count) [
      | inl le ↦ le
      | inr lt ↦ absurd (true≢false (sym (synced_are.those (length (frames origin.frame cs)) lt) ∙ none))
    ]

pub are_synced : (limits : Limits) (origin : Next) (start : Entries) (cs : List Call) (s : StoreView)
    → HasDone limits origin start cs s → (count : ℕ) × AreSynced origin.frame count cs
are_synced limits origin start cs s done =
    let none = not_next s.batched.queue (synced cs) (all_untold limits origin start cs s done) in
    let found = counted_to (synced cs) (length (frames origin.frame cs)) origin.frame
    (subst (λ n. has n (synced cs) ≡ false) (next_frame limits origin start cs s done) none) in
    (found.count, record { those = found.those; next = found.next })
