-- A store that led, and is wound up, was led.
use Rattle.sk_led.proofs.Names.{◌≡◌, ◌==◌, ◌⊎◌, ℕ, ◌≤◌, Bool, true, false, List, [], ◌∷◌, ◌++◌, map, Some, None, inl}
use Rattle.sk_led.proofs.Names.{inr, refl, sym, ◌∙◌, ap, subst, arith, append_assoc, if◌then◌else◌, eqb-true, Contains}
use Rattle.sk_led.proofs.Names.{Contains-append_cases, at_first, at_later, first_or_later, from_map, nothing_there, has}
use Rattle.sk_led.proofs.Names.{after_take, after_word, awaits, first_failed, is_decided, is_failed, is_kept, is_sent}
use Rattle.sk_led.proofs.Names.{last_in, left, open_batch, send, tell, Batch, Cut, QueueView, Call, Cuts, Decides}
use Rattle.sk_led.proofs.Names.{Draws, Learns, Rests, Sends, Turns, synced_from, Next, StoreView, StoreDoes, Serves}
use Rattle.sk_led.proofs.Names.{World, WasSent, batch_of, AreUncut, IsGivenUp, IsLeading, IsLed, NoneSynced, AreLast}
use Rattle.sk_led.proofs.Names.{WoundUpIsLed, none-some, and_parts}
use Rattle.sk_batches.specs.declared.batch.Stage.TheVariants as stages
use Rattle.sk_batched.specs.declared.batched.Outcome.TheVariants as outcomes
use Rattle.sk_led.proofs.Grows.{frame_stays, synced_split}

-- ---- calls

uncut_on : (xs ys : List Call) → AreUncut xs → AreUncut ys → AreUncut (xs ++ ys)
uncut_on [] ys u v = v
uncut_on (Cuts cut ∷ xs) ys u v = absurd u
uncut_on (x ∷ xs) ys u v = uncut_on xs ys u v

last_none : (cs : List Call) → AreLast cs → NoneSynced cs
last_none [] last = tt
last_none (Sends sealed records ∷ Learns frame stages.Failed ∷ cs) last = last_none cs last.1
last_none (Cuts cut ∷ cs) last = last_none cs last
last_none (Decides outcome ∷ cs) last = last_none cs last
last_none (Turns ∷ cs) last = last_none cs last
last_none (Draws ∷ cs) last = last_none cs last
last_none (Rests ∷ cs) last = last_none cs last
last_none (c ∷ cs) last = absurd last

-- ---- batches that failed

first_of_all : (b : Batch) (bs : List Batch) (c : Cut) (t : Bool) → is_failed b.stage ≡ t
    → ((c : Cut) → first_failed bs ≡ Some c → (b : Batch) × Contains bs b × (is_failed b.stage ≡ true) × (b.frame ≡ c.frame))
    → (if t then Some (record { frame = b.frame; first = b.number; last = last_in b.frame b.number bs }) else first_failed bs) ≡ Some c
    → (x : Batch) × Contains (b ∷ bs) x × (is_failed x.stage ≡ true) × (x.frame ≡ c.frame)
first_of_all b bs c true is later e = (b, at_first b bs, is, (let same : record { frame = b.frame; first = b.number; last = last_in b.frame b.number bs } ≡ c = cc in ap (λ (d : Cut). d.frame) same))
first_of_all b bs c false is later e = let it = later c e in (it.0, at_later b bs it.0 it.1, it.2, it.3)

-- the first is cut off
first_there : (bs : List Batch) (c : Cut) → first_failed bs ≡ Some c
    → (b : Batch) × Contains bs b × (is_failed b.stage ≡ true) × (b.frame ≡ c.frame)
first_there [] c e = absurd (none-some c e)
first_there (b ∷ bs) c e = first_of_all b bs c (is_failed b.stage) refl (λ d is. first_there bs d is) e

due_there : (t : Bool) (bs : List Batch) (c : Cut) → (if t then None else first_failed bs) ≡ Some c
    → (b : Batch) × Contains bs b × (is_failed b.stage ≡ true) × (b.frame ≡ c.frame)
due_there true bs c e = absurd (none-some c e)
due_there false bs c e = first_there bs c e

left_of_one : (b : Batch) (bs : List Batch) (x : Batch) (t : Bool) → Contains (if t then bs else b ∷ bs) x → Contains (b ∷ bs) x
left_of_one b bs x true at = at_later b bs x at
left_of_one b bs x false at = at

left_there : (bs : List Batch) (x : Batch) → Contains (left bs) x → Contains bs x
left_there [] x at = at
left_there (b ∷ bs) x at = left_of_one b bs x (is_decided b.stage) at

-- one that has failed, once a frame was taken and told as failed, is of it, or had failed before
abbrev HadFailed : ℕ → List Batch → Batch → Type 0
HadFailed frame bs x = (x.frame ≡ frame) ⊎ ((y : Batch) × Contains bs y × (is_failed y.stage ≡ true) × (y.frame ≡ x.frame))

tell_frame : (frame : ℕ) (b : Batch) (t : Bool) → (if t then record b { stage = stages.Failed } else b).frame ≡ b.frame
tell_frame frame b true = refl
tell_frame frame b false = refl

of_awaited : (frame : ℕ) (bs : List Batch) (y : Batch) → Contains bs y → (t : Bool) → awaits frame y ≡ t
    → is_failed (if t then record y { stage = stages.Failed } else y).stage ≡ true
    → HadFailed frame bs (if t then record y { stage = stages.Failed } else y)
of_awaited frame bs y at true e is = inl (eqb-true y.frame frame (and_parts (is_sent y.stage) (y.frame == frame) e).1)
of_awaited frame bs y at false e is = inr (y, at, is, refl)

told_of : (frame : ℕ) (bs : List Batch) (y : Batch) → Contains bs y → (kept : Bool)
    → is_failed (tell frame stages.Failed (if kept then record y { frame = frame; stage = stages.Sent } else y)).stage ≡ true
    → HadFailed frame bs (tell frame stages.Failed (if kept then record y { frame = frame; stage = stages.Sent } else y))
told_of frame bs y at true is = inl (tell_frame frame (record y { frame = frame; stage = stages.Sent }) _)
told_of frame bs y at false is = of_awaited frame bs y at (awaits frame y) refl is

was_failed : (frame : ℕ) (bs : List Batch) (o x : Batch) → o.frame ≡ frame
    → Contains (map (tell frame stages.Failed) (map (send frame) bs ++ o ∷ [])) x → is_failed x.stage ≡ true → HadFailed frame bs x
was_failed frame bs o x same at is =
    let told = from_map (tell frame stages.Failed) (map (send frame) bs ++ o ∷ []) x at in
    elim (Contains-append_cases (map (send frame) bs) (o ∷ []) told.0 told.1) as (λ _. HadFailed frame bs x) [
      | inl among ↦ let sent = from_map (send frame) bs told.0 among in
          let goes : tell frame stages.Failed (send frame sent.0) ≡ x = ap (λ b. tell frame stages.Failed b) sent.2 ∙ told.2 in
          subst (λ b. HadFailed frame bs b) goes
          (told_of frame bs sent.0 sent.1 (is_kept sent.0.stage) (subst (λ (b : Batch). is_failed b.stage ≡ true) (sym goes) is))
      | inr last ↦ elim (first_or_later o [] told.0 last) as (λ _. HadFailed frame bs x) [
        | inl this ↦ inl (ap (λ (b : Batch). b.frame) (sym told.2) ∙ tell_frame frame told.0 _ ∙ ap (λ (b : Batch). b.frame) (sym this) ∙ same)
        | inr none ↦ nothing_there told.0 none
      ]
    ]

-- ---- a leadership's store

module _ (read : List ℕ → List ℕ) (w : World) (r gap : ℕ) (next : Next) (from : ℕ)
    (unsent : (n : ℕ) → from ≤ n → WasSent w (batch_of r n) → ⊥) where
  -- each frame that failed is given up, and nothing was sent under the numbers that are not taken
  pub record AreGivenUp (s : StoreView) : Type 0 where
    pub each : (b : Batch) → Contains s.batched.queue.batches b → is_failed b.stage ≡ true → IsGivenUp w r b.frame
    pub frame : from ≤ s.batched.queue.frame

  same_given : (a b : StoreView) → b.batched.queue ≡ a.batched.queue → AreGivenUp a → AreGivenUp b
  same_given a b e given = record {
    each = subst (λ (q : QueueView). (x : Batch) → Contains q.batches x → is_failed x.stage ≡ true → IsGivenUp w r x.frame) (sym e) given.each;
    frame = subst (λ (q : QueueView). from ≤ q.frame) (sym e) given.frame;
  }

  left_given : (a b : StoreView) → b.batched.queue ≡ record a.batched.queue { batches = left a.batched.queue.batches } → AreGivenUp a → AreGivenUp b
  left_given a b e given = record {
    each = subst (λ (q : QueueView). (x : Batch) → Contains q.batches x → is_failed x.stage ≡ true → IsGivenUp w r x.frame) (sym e)
        (λ x at is. given.each x (left_there a.batched.queue.batches x at) is);
    frame = subst (λ (q : QueueView). from ≤ q.frame) (sym e) given.frame;
  }

  decided_given : (a b : StoreView) (outcome : _) → StoreDoes a (Decides outcome) b → AreGivenUp a → AreGivenUp b
  decided_given a b (outcomes.Logged n) does given = left_given a b does.0.2 given
  decided_given a b (outcomes.Refused n keys) does given = left_given a b does.0.3 given

  -- a frame that is taken and told as failed was never sent
  failed_given : (a b : StoreView) (q : QueueView) → q ≡ after_take a.batched.queue
      → b.batched.queue ≡ after_word a.batched.queue.frame stages.Failed q → AreGivenUp a → AreGivenUp b
  failed_given a b q taken told given =
      let all : b.batched.queue ≡ after_word a.batched.queue.frame stages.Failed (after_take a.batched.queue) =
      told ∙ ap (λ (q : QueueView). after_word a.batched.queue.frame stages.Failed q) taken in
      let here : (x : Batch) → HadFailed a.batched.queue.frame a.batched.queue.batches x → IsGivenUp w r x.frame = λ x had.
      elim had as (λ _. IsGivenUp w r x.frame) [
        | inl this ↦ inr (unsent x.frame (let f = given.frame in omega (arith, f, this)))
        | inr before ↦ subst (λ n. IsGivenUp w r n) before.3 (given.each before.0 before.1 before.2)
      ] in record {
        each = subst (λ (q : QueueView). (x : Batch) → Contains q.batches x → is_failed x.stage ≡ true → IsGivenUp w r x.frame) (sym all)
            (λ x at is. here x (was_failed a.batched.queue.frame a.batched.queue.batches (open_batch a.batched.queue) x refl at is));
        frame = subst (λ (q : QueueView). from ≤ q.frame) (sym all) (let f = given.frame in omega (arith, f));
      }

  -- it leads on, where no cut is made and nothing is told as synced
  leads_on : (xs ys : List Call) → AreUncut ys → ((told : List ℕ) → synced_from told ys ≡ told) → IsLeading read w r gap next xs
      → IsLeading read w r gap next (xs ++ ys)
  leads_on xs ys uncut same lead =
      let all = uncut_on xs ys lead.uncut uncut in record {
        serves = lead.serves;
        from = lead.from;
        head = lead.head;
        sent = λ n value le at. let it = lead.sent n value le at in (it.0, frame_stays next.frame xs ys _ it.0 all it.1, it.2);
        told = λ n is. lead.told n (subst (λ ns. has n ns ≡ true) (synced_split [] xs ys ∙ same (synced_from [] xs)) is);
        uncut = all;
      }

  joined : (xs ys ds : List Call) → IsLed read w r gap next ((xs ++ ys) ++ ds) → IsLed read w r gap next (xs ++ (ys ++ ds))
  joined xs ys ds led = subst (λ cs. IsLed read w r gap next cs) (append_assoc xs ys ds) led

  pub wound : (xs ds : List Call) (a b : StoreView) → IsLeading read w r gap next xs → AreGivenUp a → Serves a ds b → AreLast ds
      → IsLed read w r gap next (xs ++ ds)
  wound xs [] a b lead given serves last = record { leading = xs; ending = []; at = refl; leads = lead; ends = tt }
  wound xs (Sends sealed records ∷ Learns frame stages.Failed ∷ ds) a b lead given serves last =
      let taken = serves.1.2.3 in
      let same : frame ≡ a.batched.queue.frame = last.0 ∙ ap (λ s. s.frame) taken.1 in
      let told = subst (λ n. serves.2.0.batched.queue ≡ after_word n stages.Failed serves.0.batched.queue) same
      (ap (λ (s : StoreView). s.batched.queue) serves.2.1.2) in
      let ys = Sends sealed records ∷ Learns frame stages.Failed ∷ [] in
      joined xs ys ds (wound (xs ++ ys) ds serves.2.0 b (leads_on xs ys tt (λ ns. refl) lead)
      (failed_given a serves.2.0 serves.0.batched.queue taken.2 told given) serves.2.2 last.1)
  wound xs (Cuts cut ∷ ds) a b lead given serves last =
      let it = due_there _ a.batched.queue.batches cut serves.1.1 in record {
        leading = xs;
        ending = Cuts cut ∷ ds;
        at = refl;
        leads = lead;
        ends = (subst (λ n. IsGivenUp w r n) it.3 (given.each it.0 it.1 it.2), last_none ds last);
      }
  wound xs (Decides outcome ∷ ds) a b lead given serves last =
      let ys = Decides outcome ∷ [] in
      joined xs ys ds (wound (xs ++ ys) ds serves.0 b (leads_on xs ys tt (λ ns. refl) lead) (decided_given a serves.0 outcome serves.1 given)
      serves.2 last)
  wound xs (Turns ∷ ds) a b lead given serves last =
      let ys = Turns ∷ [] in
      joined xs ys ds (wound (xs ++ ys) ds serves.0 b (leads_on xs ys tt (λ ns. refl) lead)
      (same_given a serves.0 (ap (λ (s : StoreView). s.batched.queue) serves.1.2) given) serves.2 last)
  wound xs (Draws ∷ ds) a b lead given serves last =
      let ys = Draws ∷ [] in
      joined xs ys ds (wound (xs ++ ys) ds serves.0 b (leads_on xs ys tt (λ ns. refl) lead) (same_given a serves.0 serves.1.1.1 given)
      serves.2 last)
  wound xs (Rests ∷ ds) a b lead given serves last =
      let ys = Rests ∷ [] in
      joined xs ys ds (wound (xs ++ ys) ds serves.0 b (leads_on xs ys tt (λ ns. refl) lead) (same_given a serves.0 serves.1.0.queue given)
      serves.2 last)
  wound xs (c ∷ ds) a b lead given serves last = absurd last

pub wound_up_is_led : WoundUpIsLed
wound_up_is_led read w r gap limits next start cs a b done lead failed unsent ds serves last =
    wound read w r gap next a.batched.queue.frame unsent cs ds a b lead (record { each = failed; frame = omega arith }) serves last
