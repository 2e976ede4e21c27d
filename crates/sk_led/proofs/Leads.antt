-- What was told as logged stands in the engine, and what is found of a leadership is what its first commands leave,
-- while it leads.
use Rattle.sk_led.proofs.Names.{none-some, ◌≡◌, ℕ, zero, suc, ◌+◌, ◌-◌, ◌<◌, ◌≤◌, Bool, true, false, List, [], ◌∷◌}
use Rattle.sk_led.proofs.Names.{length, Option, Some, inl, inr, refl, sym, ◌∙◌, ap, subst, arith, ◌≢◌, slice_get, has}
use Rattle.sk_led.proofs.Names.{payload, RecordView, Logged, Decides, frames, synced, map, Limits, Entries, Work}
use Rattle.sk_led.proofs.Names.{after_works, StoreView, Move, Moves, HasDone, IsRecovered, SayAll, Next, Call}
use Rattle.sk_led.proofs.Names.{crashes_are_recovered, batch_of, AreOf, IsInEngine, IsLeading, new_world, owner_of}
use Rattle.sk_led.proofs.Names.{whole, HasDecided, WasSynced, World, HasPut, IsSound, both_there, new_sound, order}
use Rattle.sk_led.proofs.Names.{decided_is_read, decided_stays, run, sent_there, AreUncut, ◌++◌, Asked, Runs, Contains}
use Rattle.sk_led.proofs.Names.{HasAll, entries, stands, log_text}
use Rattle.sk_engine.specs.declared.answer.BatchAnswer.TheVariants as batch
use Rattle.sk_led.proofs.Grows.{first_off, frame_stays, same_payloads, synced_grow}

pub both_records : (x y : List RecordView) (o : Option (List RecordView)) → o ≡ Some x → o ≡ Some y → x ≡ y
both_records x y o e f = let is : Some x ≡ Some y = sym e ∙ f in cc

-- ---- what was told as logged

-- where it stands, which the leadership has decided
abbrev pub IsPlaced : (List ℕ → List ℕ) → World → ℕ → ℕ → List Call → ℕ → Type 0
IsPlaced read w r gap cs number = (it : IsInEngine read w r cs number) × HasDecided w r gap it.number
    × (gap ≤ it.number)

-- the frame of this number has all that commands log which stood then
abbrev pub HasAllOf : ℕ → List Call → List Call → ℕ → ℕ → Type 0
HasAllOf first leading before frame batch = (asked : Asked) → Contains (entries (stands before)) (Runs asked)
    → asked.batch ≡ Some batch
    → (records : List RecordView) × (slice_get (frames first leading) (frame - first) ≡ Some records)
    × Contains (map (λ x. x.bytes) records) (log_text asked.work)

-- So it does where a frame has all that the batch logs, and the leadership has decided it.
pub placed : (read : List ℕ → List ℕ) (moves : List Move) (w : World) (r gap : ℕ) (next : Next) (leading cs : List Call)
    → Moves new_world moves w → IsLeading read w r gap next leading → (number : ℕ) (before later : List Call)
    → cs ≡ before ++ Decides (Logged number) ∷ later → (frame : ℕ) → next.frame ≤ frame → HasDecided w r gap frame
    → HasAllOf next.frame leading before frame number → IsPlaced read w r gap cs number
placed read moves w r gap next leading cs runs led number before later at frame from decided all_of =
    let so = run moves new_world w runs new_sound in
    let low : gap ≤ frame = (let one = led.from in omega arith) in
    let x = sent_there w so r gap frame decided frame low (omega arith) in
    let sent = so.tried (batch_of r frame) x.0 batch.Done x.2 in
    let its = led.sent frame x.0 from sent in
    let positive : 0 < frame = (let one = (so.after r gap (so.served r gap led.serves)).low in omega arith) in (
      record {
        number = frame;
        value = x.0;
        here = x.1;
        own = (so.sends (batch_of r frame) x.0 sent).own;
        stays = λ after m more.
            let stands = decided_stays moves after w m r gap frame frame runs decided more positive (omega arith) in
            stands.later ∙ ap (λ (v : List ℕ). Some v) (both_there stands.value x.0 (whole w frame) stands.here x.1);
        found = λ after m n other found more reads.
            decided_is_read moves after w m n r gap frame other found runs decided more reads;
        before = before;
        later = later;
        at = at;
        has_all = λ asked there is.
            let all = all_of asked there is in
            let same : its.0 ≡ all.0 = both_records its.0 all.0
            (slice_get (frames next.frame leading) (frame - next.frame)) its.1 all.1 in
            (all.0, its.2 ∙ ap (λ rs. payload rs) same, all.2);
      },
      decided,
      low,
    )

-- What is told as synced up to a frame is decided.
pub decided_upto : (read : List ℕ → List ℕ) (w : World) (r gap : ℕ) (next : Next) (leading : List Call)
    → IsLeading read w r gap next leading → (frame : ℕ)
    → ((n : ℕ) → next.frame ≤ n → n ≤ frame → has n (synced leading) ≡ true) → HasDecided w r gap frame
decided_upto read w r gap next leading led frame told = (
  led.serves,
  λ i from le. elim (order next.frame i) as (λ _. WasSynced w (batch_of r i)) [
    | inl ge ↦ led.told i (told i ge le)
    | inr lt ↦ led.head i from lt
  ],
)

-- while it leads
pub leading_logged : (read : List ℕ → List ℕ) (moves : List Move) (w : World) (r gap : ℕ) (next : Next)
    (leading cs : List Call) → Moves new_world moves w → IsLeading read w r gap next leading
    → (number : ℕ) (before later rest : List Call) → leading ≡ before ++ Decides (Logged number) ∷ rest
    → cs ≡ before ++ Decides (Logged number) ∷ later → (frame : ℕ) → next.frame ≤ frame
    → ((n : ℕ) → next.frame ≤ n → n ≤ frame → has n (synced before) ≡ true)
    → HasAll next.frame before frame number → IsPlaced read w r gap cs number
leading_logged read moves w r gap next leading cs runs led number before later rest here at frame from told has_all =
    let uncut = subst (λ ds. AreUncut ds) here led.uncut in
    placed read moves w r gap next leading cs runs led number before later at frame from
    (decided_upto read w r gap next leading led frame
    (λ n ge le. subst (λ ds. has n (synced ds) ≡ true) (sym here)
    (synced_grow n before (Decides (Logged number) ∷ rest) uncut (told n ge le))))
    (λ asked there is.
    let all = has_all asked there is in
    let stays = frame_stays next.frame before (Decides (Logged number) ∷ rest) (frame - next.frame) all.0 uncut all.1 in
    (all.0, subst (λ ds. slice_get (frames next.frame ds) (frame - next.frame) ≡ Some all.0) (sym here) stays, all.2))

-- ---- what is found

pub of_at : (w : World) (r number : ℕ) (values : List (List ℕ)) → AreOf w r number values → (k : ℕ) (v : List ℕ)
    → slice_get values k ≡ Some v
    → (whole w (number + k) ≡ Some v) × (owner_of v ≡ r)
of_at w r number [] are k v e = absurd (none-some v e)
of_at w r number (u ∷ values) are zero v e =
    let is : u ≡ v = cc in (
      subst (λ n. whole w n ≡ Some v) (omega arith) (are.0 ∙ ap (λ (x : List ℕ). Some x) is),
      subst
          (λ x. owner_of x ≡ r) is are.1,
    )
of_at w r number (u ∷ values) are (suc k) v e =
    let later = of_at w r (number + 1) values are.2 k v e in
    (subst (λ n. whole w n ≡ Some v) (omega arith) later.0, later.1)

pub within : (values : List (List ℕ)) (k : ℕ) → k < length values → (v : List ℕ) × (slice_get values k ≡ Some v)
within [] k lt = absurd (omega arith)
within (v ∷ values) zero lt = (v, refl)
within (v ∷ values) (suc k) lt = within values k (omega arith)

-- Where all before a frame were told as synced, and it is not of this leadership, it was not told so.
pub not_synced : (read : List ℕ → List ℕ) (w : World) → IsSound w → (r gap : ℕ) (next : Next) (cs : List Call)
    → IsLeading read w r gap next cs → (count : ℕ)
    → ((i : ℕ) → i < count → has (next.frame + i) (synced cs) ≡ true)
    → ((u : List ℕ) → whole w (next.frame + count) ≡ Some u → owner_of u ≢ r) → (t : Bool)
    → has (next.frame + count) (synced cs) ≡ t → t ≡ false
not_synced read w so r gap next cs led count all ends false e = refl
not_synced read w so r gap next cs led count all ends true e =
    let last = next.frame + count in
    let decided : HasDecided w r gap last = (
      led.serves,
      λ i from le. elim (order next.frame i) as (λ _. WasSynced w (batch_of r i)) [
        | inr lt ↦ led.head i from lt
        | inl ge ↦ led.told i (elim (order last i) as (λ _. has i (synced cs) ≡ true) [
          | inl most ↦ let is : last ≡ i = omega arith in subst (λ n. has n (synced cs) ≡ true) is e
          | inr less ↦ let is : next.frame + (i - next.frame) ≡ i = omega arith in
              subst (λ n. has n (synced cs) ≡ true) is (all (i - next.frame) (omega arith))
        ])
      ],
    ) in
    let low : gap ≤ last = (let one = led.from in omega arith) in
    let x = sent_there w so r gap last decided last low (omega arith) in
    let own = (so.sends (batch_of r last) x.0 (so.tried (batch_of r last) x.0 batch.Done x.2)).own in
    absurd (ends x.0 x.1 own)

-- what is found under a frame's number is that frame
pub found_frames : (read : List ℕ → List ℕ) (w : World) → IsSound w → (r gap : ℕ) (next : Next) (cs : List Call)
    → IsLeading read w r gap next cs
    → (values : List (List ℕ)) → AreOf w r next.frame values → (k : ℕ) (v : List ℕ) → slice_get values k ≡ Some v
    → (records : List RecordView) × (slice_get (frames next.frame cs) k ≡ Some records) × (read v ≡ payload records)
found_frames read w so r gap next cs led values are k v e =
    let first = next.frame in
    let here = of_at w r first values are k v e in
    let put : HasPut w r (first + k) v
    = subst (λ n. HasPut w n (first + k) v) here.1 (so.in_whole (first + k) v here.0) in
    let its = led.sent (first + k) v (omega arith) (so.tried (batch_of r (first + k)) v batch.Done put) in
    (its.0, subst (λ n. slice_get (frames first cs) n ≡ Some its.0) (omega arith) its.1, its.2)

pub leading_found : (read : List ℕ → List ℕ) (w : World) → IsSound w
    → (r gap : ℕ) (limits : Limits) (next : Next) (start : Entries)
    (cs : List Call) (s : StoreView) → HasDone limits next start cs s → IsLeading read w r gap next cs
    → (values : List (List ℕ)) → AreOf w r next.frame values
    → ((u : List ℕ) → whole w (next.frame + length values) ≡ Some u → owner_of u ≢ r)
    → (works : List Work) → SayAll (map read values) works → IsRecovered start cs s (after_works works start)
leading_found read w so r gap limits next start cs s done led values are ends works said =
    let first = next.frame in
    let payloads = same_payloads read values (frames first cs) (found_frames read w so r gap next cs led values are) in
    let count = first_off (λ i. has (first + i) (synced cs)) (length values) in
    let off : has (first + count.0) (synced cs) ≡ false
    = elim count.1.2 as (λ _. has (first + count.0) (synced cs) ≡ false) [
      | inl is ↦ is
      | inr all ↦ not_synced read w so r gap next cs led count.0 count.1.1
          (λ u e. ends u (subst (λ n. whole w (first + n) ≡ Some u) all e)) (has (first + count.0) (synced cs)) refl
    ] in
    crashes_are_recovered limits next start cs s done count.0 (length values) works
    (record { those = count.1.1; next = off }) count.1.0
    (subst (λ ps. SayAll ps works) payloads said)
