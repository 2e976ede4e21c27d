-- Each move leaves what is so of an engine and its hosts.
use Rattle.sk_engine.proofs.Names.{◌≡◌, ◌==◌, ℕ, suc, ◌<◌, ◌≤◌, Bool, true, false, cond, not, List, ◌∷◌, Option, Some}
use Rattle.sk_engine.proofs.Names.{None, inl, inr, refl, sym, ◌∙◌, ap, subst, arith, ◌⊎◌, nat_le, nat_lt, is_none}
use Rattle.sk_engine.proofs.Names.{if◌then◌else◌, eqb-true, eqb-false, eq-eqb, leb-false, le-leb, ltb-true, lt-ltb}
use Rattle.sk_engine.proofs.Names.{BatchSeen, FenceSeen, Synced, Lost, Serves, Batch, Fence, leads, held_of, batch_told}
use Rattle.sk_engine.proofs.Names.{fence_told, with_entry, without_from, without_to, may_put, may_fence, may_cut, Has}
use Rattle.sk_engine.proofs.Names.{Sent, BatchTry, FenceTry, World, new_world, batch_of, fence_of, owner_of, whole}
use Rattle.sk_engine.proofs.Names.{HasDecided, IsGap, MaySend, Move, Leads, Ends, Reads, Fences, Sends, Tries, Cuts}
use Rattle.sk_engine.proofs.Names.{Happens, and_parts, not-true, cond-true, cond-false, lt-leb, le-ltb, ne_eqb}
use Rattle.sk_engine.proofs.Names.{cases_eq, cases_lt, none-some, ⊎_elim, Needs, after_move}
use Rattle.sk_engine.specs.declared.answer.BatchAnswer.TheVariants as batch
use Rattle.sk_engine.specs.declared.answer.FenceAnswer.TheVariants as fence
use Rattle.sk_engine.proofs.Tests.{led, unled, none, mine, is_mine, told_synced, told_lost, told_serves, whole_behind, whole_cut}
use Rattle.sk_engine.proofs.Sound.{IsThere, IsDense, HasFenced, HasPut, AtGap, AfterFence, AsSent, IsOver, IsSound}

pub order : (a b : ℕ) → (a ≤ b) ⊎ (b < a)
order a b = ⊎_elim inr inl (cases_lt b a)

pub both_there : (x y : List ℕ) (o : Option (List ℕ)) → o ≡ Some x → o ≡ Some y → x ≡ y
both_there x y o e f = let is : Some x ≡ Some y = sym e ∙ f in cc

-- nothing stands there and something does
pub absent_there : (o : Option (List ℕ)) → o ≡ None → IsThere o → ⊥
absent_there o e t = none-some t.0 (sym e ∙ t.1)

-- what holds of one more, and of each that was there, holds of each that is there then
one_more : {A : Type 0} (P : A → Type 0) (x y : A) (ys : List A) → Has x (y ∷ ys) → P y → (Has x ys → P x) → P x
one_more P x y ys (inl is) new old = subst P (sym is) new
one_more P x y ys (inr has) new old = old has

-- what is not that one was there
was_there : {A : Type 0} (x y : A) (ys : List A) → Has x (y ∷ ys) → (x ≡ y → ⊥) → Has x ys
was_there x y ys (inl is) other = absurd (other is)
was_there x y ys (inr has) other = has

log_by : (log : Option (List ℕ)) (u : List ℕ) (t : Bool) → cond t log None ≡ Some u → log ≡ Some u
log_by log u true e = e
log_by log u false e = absurd (none-some u e)

log_behind_by : (log : Option (List ℕ)) (u : List ℕ) (t : Bool) → cond t None log ≡ Some u → log ≡ Some u
log_behind_by log u true e = absurd (none-some u e)
log_behind_by log u false e = e

nothing_by : (t : Bool) (x y : Option (List ℕ)) (v : List ℕ) → x ≡ None → y ≡ None → cond t x y ≡ Some v → ⊥
nothing_by true x y v first last e = none-some v (sym first ∙ e)
nothing_by false x y v first last e = none-some v (sym last ∙ e)

nothing_whole : (i : ℕ) (v : List ℕ) → whole new_world i ≡ Some v → ⊥
nothing_whole i v e = nothing_by (nat_le i 0) (new_world.kept i) (new_world.engine.log i) v refl refl e

module _ (w : World) (so : IsSound w) where
  -- who put what is there fenced before
  pub owner_under : (i : ℕ) (x : List ℕ) → whole w i ≡ Some x → owner_of x ≤ w.engine.fence
  owner_under i x e =
      let was : HasPut w (owner_of x) i x = so.in_whole i x e in
      let sent = so.tried (batch_of (owner_of x) i) x batch.Done was in
      let sending = so.sends (batch_of (owner_of x) i) x sent in
      (so.after (owner_of x) sending.gap sending.fenced).under

  -- ---- leaderships

  led_sound : (leader : Option ℕ) (newest : ℕ) → w.engine.newest ≤ newest
      → ((s : ℕ) → leader ≡ Some s → (s ≡ newest) × (w.engine.newest < s))
      → IsSound (record w { engine = record w.engine { leader = leader; newest = newest } })
  led_sound leader newest le new = record {
    led = λ s e. let more = (new s e).1 in ((new s e).0, omega arith);
    fence_led = let old = so.fence_led in omega arith;
    read_led = λ s g h. let old = so.read_led s g h in omega arith;
    read_once = so.read_once;
    gap = λ s g h lower is. let old = so.read_led s g h in so.gap s g h lower (omega arith);
    after = so.after;
    fence_done = so.fence_done;
    served = so.served;
    tried_fence = so.tried_fence;
    cut = so.cut;
    in_log = so.in_log;
    in_whole = so.in_whole;
    sends = so.sends;
    same = so.same;
    tried = so.tried;
    synced = so.synced;
    put = so.put;
    firm = so.firm;
    rising = so.rising;
    over = λ b v a h t. let old = so.over b v a h t in record {
      led = let led = old.led in omega arith;
      ended = λ e. let more = (new b.leadership e).1 in let led = old.led in omega arith;
      never = old.never;
    };
  }

  -- ---- a read

  pub at_gap : (g : ℕ) → IsGap w.engine g → AtGap w.engine.snap (whole w) g
  at_gap g gap = record {
    behind = gap.behind;
    absent = whole_behind w g gap.behind ∙ gap.absent;
    dense = λ i low lt. elim (order i w.engine.snap) as (λ _. IsThere (whole w i)) [
      | inl le ↦ so.cut i low le
      | inr more ↦ let there = gap.before i more lt in (there.0, whole_behind w i more ∙ there.1)
    ];
  }

  reads_sound : (r g : ℕ) → r ≤ w.engine.newest → ((other : ℕ) → Has (fence_of r other) w.reads → ⊥) → IsGap w.engine g
      → IsSound (record w { reads = fence_of r g ∷ w.reads })
  reads_sound r g le first gap = record {
    led = so.led;
    fence_led = so.fence_led;
    read_led = λ s k h. one_more (λ (f : Fence). f.leadership ≤ w.engine.newest) (fence_of s k) (fence_of r g) w.reads h le (λ old. so.read_led s k old);
    read_once = λ s k l h i. one_more (λ (f : Fence). Has (fence_of f.leadership l) (fence_of r g ∷ w.reads) → f.gap ≡ l) (fence_of s k) (fence_of r g) w.reads h
        (λ j. one_more (λ (f : Fence). f.leadership ≡ r → g ≡ f.gap) (fence_of r l) (fence_of r g) w.reads j (λ _. refl) (λ old _. absurd (first l old)) refl)
        (λ old j. one_more (λ (f : Fence). Has (fence_of f.leadership k) w.reads → k ≡ f.gap) (fence_of s l) (fence_of r g) w.reads j
        (λ its. absurd (first k its)) (λ older its. so.read_once s k l its older) old) i;
    gap = λ s k h lower is. one_more (λ (f : Fence). w.engine.fence < f.leadership → f.leadership ≡ w.engine.newest → AtGap w.engine.snap (whole w) f.gap)
        (fence_of s k) (fence_of r g) w.reads h (λ _ _. at_gap g gap) (λ old. so.gap s k old) lower is;
    after = λ s k h. let old = so.after s k h in
        record { read = inr old.read; under = old.under; low = old.low; dense = old.dense; own = old.own };
    fence_done = so.fence_done;
    served = so.served;
    tried_fence = λ t h. inr (so.tried_fence t h);
    cut = so.cut;
    in_log = so.in_log;
    in_whole = so.in_whole;
    sends = so.sends;
    same = so.same;
    tried = so.tried;
    synced = so.synced;
    put = so.put;
    firm = so.firm;
    rising = so.rising;
    over = so.over;
  }

  -- ---- a batch is sent

  sends_sound : (b : Batch) (v : List ℕ) → MaySend w b v → IsSound (record w { sent = record { batch = b; value = v } ∷ w.sent })
  sends_sound b v may = record {
    led = so.led;
    fence_led = so.fence_led;
    read_led = so.read_led;
    read_once = so.read_once;
    gap = so.gap;
    after = so.after;
    fence_done = so.fence_done;
    served = so.served;
    tried_fence = so.tried_fence;
    cut = so.cut;
    in_log = so.in_log;
    in_whole = so.in_whole;
    sends = λ c u h. one_more (λ (s : Sent). AsSent w.fences s.batch s.value) (record { batch = c; value = u }) (record { batch = b; value = v }) w.sent h
        (record { own = may.own; gap = may.gap; fenced = so.served b.leadership may.gap may.serves; behind = may.behind })
        (λ old. so.sends c u old);
    same = λ c x y h i. elim h as (λ _. x ≡ y) [
      | inl is ↦ elim i as (λ _. x ≡ y) [
        | inl it ↦ ap (λ (s : Sent). s.value) is ∙ sym (ap (λ (s : Sent). s.value) it)
        | inr old ↦ ap (λ (s : Sent). s.value) is
            ∙ sym (may.same y (subst (λ d. Has (record { batch = d; value = y }) w.sent) (ap (λ (s : Sent). s.batch) is) old))
      ]
      | inr old ↦ elim i as (λ _. x ≡ y) [
        | inl it ↦ may.same x (subst (λ d. Has (record { batch = d; value = x }) w.sent) (ap (λ (s : Sent). s.batch) it) old)
            ∙ sym (ap (λ (s : Sent). s.value) it)
        | inr older ↦ so.same c x y old older
      ]
    ];
    tried = λ c u a h. inr (so.tried c u a h);
    synced = so.synced;
    put = so.put;
    firm = so.firm;
    rising = so.rising;
    over = so.over;
  }

  -- ---- a batch is not put

  module _ (b : Batch) (v : List ℕ) (sent : Has (record { batch = b; value = v }) w.sent) where
    abbrev seen : BatchSeen
    seen = record { leader = w.engine.leader; held = held_of v (w.engine.log b.number); snap = w.engine.snap }

    abbrev not_put : World
    not_put = record w { batches = record { batch = b; value = v; answer = batch.Not seen } ∷ w.batches }

    put_before : (r n : ℕ) (u : List ℕ) → HasPut not_put r n u → HasPut w r n u
    put_before r n u h = was_there (record { batch = batch_of r n; value = u; answer = batch.Done }) (record { batch = b; value = v; answer = batch.Not seen })
        w.batches h (λ is. cc (ap (λ (t : BatchTry). t.answer) is))

    not_put_synced : batch_told b (batch.Not seen) ≡ Synced b.number → HasPut w b.leadership b.number v
    not_put_synced told =
        let is_held = told_synced b.number (held_of v (w.engine.log b.number)) (leads b.leadership w.engine.leader) (nat_le b.number w.engine.snap) told in
        subst (λ r. HasPut w r b.number v) (so.sends b v sent).own (so.in_log b.number v (mine v (w.engine.log b.number) is_held))

    led_before : b.leadership ≤ w.engine.newest
    led_before =
        let sending = so.sends b v sent in
        let under = (so.after b.leadership sending.gap sending.fenced).under in
        let led = so.fence_led in
        omega arith

    not_put_lost : batch_told b (batch.Not seen) ≡ Lost b.number → IsOver w.engine.leader w.engine.newest (whole w) b
    not_put_lost told =
        let lost = told_lost b.number (held_of v (w.engine.log b.number)) (leads b.leadership w.engine.leader) (nat_le b.number w.engine.snap) told in
        let behind : w.engine.snap < b.number = leb-false b.number w.engine.snap lost.uncut in
        record {
          led = led_before;
          ended = unled b.leadership w.engine.leader lost.ended;
          never = λ x e own.
              let there : w.engine.log b.number ≡ Some x = sym (whole_behind w b.number behind) ∙ e in
              let was : HasPut w b.leadership b.number x = subst (λ r. HasPut w r b.number x) own (so.in_log b.number x there) in
              let is : x ≡ v = so.same b x v (so.tried b x batch.Done was) sent in
              lost.other (ap (λ o. held_of v o) (there ∙ ap (λ (l : List ℕ). Some l) is) ∙ is_mine v);
        }

    not_put_sound : IsSound not_put
    not_put_sound = record {
      led = so.led;
      fence_led = so.fence_led;
      read_led = so.read_led;
      read_once = so.read_once;
      gap = so.gap;
      after = so.after;
      fence_done = so.fence_done;
      served = so.served;
      tried_fence = so.tried_fence;
      cut = so.cut;
      in_log = λ i u e. inr (so.in_log i u e);
      in_whole = λ i u e. inr (so.in_whole i u e);
      sends = so.sends;
      same = so.same;
      tried = λ c u a h. one_more (λ (t : BatchTry). Has (record { batch = t.batch; value = t.value }) w.sent) (record { batch = c; value = u; answer = a })
          (record { batch = b; value = v; answer = batch.Not seen }) w.batches h sent (λ old. so.tried c u a old);
      synced = λ c u a h. one_more (λ (t : BatchTry). batch_told t.batch t.answer ≡ Synced t.batch.number → HasPut not_put t.batch.leadership t.batch.number t.value)
          (record { batch = c; value = u; answer = a }) (record { batch = b; value = v; answer = batch.Not seen }) w.batches h
          (λ told. inr (not_put_synced told)) (λ old told. inr (so.synced c u a old told));
      put = λ n u h. so.put n u (put_before w.engine.fence n u h);
      firm = λ r g n f all i u ge le h.
          so.firm r g n f (λ j a c. let x = all j a c in (x.0, put_before r j x.0 x.1)) i u ge le (put_before r i u h);
      rising = so.rising;
      over = λ c u a h. one_more (λ (t : BatchTry). batch_told t.batch t.answer ≡ Lost t.batch.number → IsOver w.engine.leader w.engine.newest (whole w) t.batch)
          (record { batch = c; value = u; answer = a }) (record { batch = b; value = v; answer = batch.Not seen }) w.batches h not_put_lost (λ old. so.over c u a old);
    }

  -- ---- a batch is put

  -- one number more has bytes, or none where the log was cut so far
  abbrev pub put_world : Batch → List ℕ → World
  put_world b v = record w {
    engine = record w.engine { log = with_entry b.number v w.engine.log };
    batches = record { batch = b; value = v; answer = batch.Done } ∷ w.batches;
  }

  pub record IsNew (b : Batch) (v : List ℕ) (i : ℕ) : Type 0 where
    pub here : i ≡ b.number
    pub behind : w.engine.snap < i
    pub value : whole (put_world b v) i ≡ Some v
    pub absent : whole w i ≡ None

  pub record IsAsBefore (b : Batch) (v : List ℕ) (i : ℕ) : Type 0 where
    pub before : whole (put_world b v) i ≡ whole w i
    pub cut : i ≡ b.number → i ≤ w.engine.snap

  pub put_cases : (b : Batch) (v : List ℕ) → w.engine.log b.number ≡ None → (i : ℕ) → IsAsBefore b v i ⊎ IsNew b v i
  put_cases b v absent i =
      let m = put_world b v in
      elim (order i w.engine.snap) as (λ _. IsAsBefore b v i ⊎ IsNew b v i) [
        | inl le ↦ inl (record { before = whole_cut m i le ∙ sym (whole_cut w i le); cut = λ _. le })
        | inr more ↦ elim (cases_eq i b.number) as (λ _. IsAsBefore b v i ⊎ IsNew b v i) [
          | inl is ↦ inr (record {
            here = is;
            behind = more;
            value = whole_behind m i more ∙ cond-true (i == b.number) (Some v) (w.engine.log i) (eq-eqb i b.number is);
            absent = whole_behind w i more ∙ (ap (λ n. w.engine.log n) is ∙ absent);
          })
          | inr isnt ↦ inl (record {
            before = whole_behind m i more ∙ (cond-false (i == b.number) (Some v) (w.engine.log i) (ne_eqb i b.number isnt) ∙ sym (whole_behind w i more));
            cut = λ is. absurd (isnt is);
          })
        ]
      ]

  module _ (b : Batch) (v : List ℕ) (sent : Has (record { batch = b; value = v }) w.sent)
      (leader : w.engine.leader ≡ Some b.leadership) (absent : w.engine.log b.number ≡ None) where
    abbrev as_sent : AsSent w.fences b v
    as_sent = so.sends b v sent

    fenced : AfterFence w.reads w.engine.fence (whole w) b.leadership as_sent.gap
    fenced = so.after b.leadership as_sent.gap as_sent.fenced

    is_fence : b.leadership ≡ w.engine.fence
    is_fence =
        let newest = (so.led b.leadership leader).0 in
        let under = (so.after b.leadership (so.sends b v sent).gap (so.sends b v sent).fenced).under in
        let most = so.fence_led in
        omega arith

    -- what is there stays
    kept_there : (i : ℕ) (x : List ℕ) → whole w i ≡ Some x → whole (put_world b v) i ≡ Some x
    kept_there i x e = elim (put_cases b v absent i) as (λ _. whole (put_world b v) i ≡ Some x) [
      | inl old ↦ old.before ∙ e
      | inr new ↦ absurd (absent_there (whole w i) new.absent (x, e))
    ]

    all_there : (i : ℕ) → IsThere (whole w i) → IsThere (whole (put_world b v) i)
    all_there i t = (t.0, kept_there i t.0 t.1)

    -- and nothing else comes
    back : (i : ℕ) (x : List ℕ) → whole (put_world b v) i ≡ Some x → (whole w i ≡ Some x) ⊎ ((i ≡ b.number) × (x ≡ v))
    back i x e = elim (put_cases b v absent i) as (λ _. (whole w i ≡ Some x) ⊎ ((i ≡ b.number) × (x ≡ v))) [
      | inl old ↦ inl (sym old.before ∙ e)
      | inr new ↦ inr (new.here, both_there x v (whole (put_world b v) i) e new.value)
    ]

    own_value : owner_of v ≡ b.leadership
    own_value = (so.sends b v sent).own

    was_put : (i : ℕ) (x : List ℕ) → i ≡ b.number → x ≡ v → HasPut (put_world b v) (owner_of x) i x
    was_put i x here is =
        let first : HasPut (put_world b v) b.leadership b.number v = inl refl in
        subst (λ n. HasPut (put_world b v) (owner_of x) n x) (sym here)
        (subst (λ y. HasPut (put_world b v) (owner_of y) b.number y) (sym is)
        (subst (λ r. HasPut (put_world b v) r b.number v) (sym own_value) first))

    -- it stands there then, also where the log was cut so far
    stands : whole (put_world b v) b.number ≡ Some v
    stands = elim (put_cases b v absent b.number) as (λ _. whole (put_world b v) b.number ≡ Some v) [
      | inr new ↦ new.value
      | inl old ↦
          let sending = so.sends b v sent in
          let after = so.after b.leadership sending.gap sending.fenced in
          let low : 0 < b.number = (let one = after.low in let two = sending.behind in omega arith) in
          let there : IsThere (whole w b.number) = so.cut b.number low (old.cut refl) in
          let above : b.leadership ≤ owner_of there.0 = after.own b.number there.0 sending.behind there.1 in
          let under : owner_of there.0 ≤ w.engine.fence = owner_under b.number there.0 there.1 in
          let fence_is = is_fence in
          let own : owner_of there.0 ≡ b.leadership = omega arith in
          let was : HasPut w b.leadership b.number there.0 = subst (λ r. HasPut w r b.number there.0) own (so.in_whole b.number there.0 there.1) in
          let is : there.0 ≡ v = so.same b there.0 v (so.tried b there.0 batch.Done was) sent in
          old.before ∙ (there.1 ∙ ap (λ (l : List ℕ). Some l) is)
    ]

    in_log_then : (i : ℕ) (u : List ℕ) (t : Bool) → (i == b.number) ≡ t → cond t (Some v) (w.engine.log i) ≡ Some u
        → HasPut (put_world b v) (owner_of u) i u
    in_log_then i u true e is = was_put i u (eqb-true i b.number e) (both_there u v (Some v) is refl)
    in_log_then i u false e is = inr (so.in_log i u is)

    put_then : (n : ℕ) (u : List ℕ) → HasPut (put_world b v) w.engine.fence n u → whole (put_world b v) n ≡ Some u
    put_then n u h = one_more (λ (t : BatchTry). whole (put_world b v) t.batch.number ≡ Some t.value)
        (record { batch = batch_of w.engine.fence n; value = u; answer = batch.Done }) (record { batch = b; value = v; answer = batch.Done })
        w.batches h stands (λ old. kept_there n u (so.put n u old))

    -- what another leadership put it put before
    other_before : (r i : ℕ) (u : List ℕ) → (r ≡ w.engine.fence → ⊥) → HasPut (put_world b v) r i u → HasPut w r i u
    other_before r i u other h = was_there (record { batch = batch_of r i; value = u; answer = batch.Done }) (record { batch = b; value = v; answer = batch.Done })
        w.batches h (λ is. other (ap (λ (t : BatchTry). t.batch.leadership) is ∙ is_fence))

    put_firm : (r g n : ℕ) → HasFenced w r g → ((i : ℕ) → g ≤ i → i ≤ n → (x : List ℕ) × HasPut (put_world b v) r i x)
        → (i : ℕ) (u : List ℕ) → g ≤ i → i ≤ n → HasPut (put_world b v) r i u → whole (put_world b v) i ≡ Some u
    put_firm r g n f all i u ge le h = elim (cases_eq r w.engine.fence) as (λ _. whole (put_world b v) i ≡ Some u) [
      | inl is ↦ put_then i u (subst (λ k. HasPut (put_world b v) k i u) is h)
      | inr other ↦ kept_there i u (so.firm r g n f
          (λ j a c. let x = all j a c in (x.0, other_before r j x.0 other x.1)) i u ge le (other_before r i u other h))
    ]

    own_of_new : (x : List ℕ) → x ≡ v → owner_of x ≡ b.leadership
    own_of_new x is = ap (λ y. owner_of y) is ∙ own_value

    put_rising : (i j : ℕ) (x y : List ℕ) → i ≤ j → whole (put_world b v) i ≡ Some x → whole (put_world b v) j ≡ Some y
        → owner_of x ≤ owner_of y
    put_rising i j x y le e f = elim (back i x e) as (λ _. owner_of x ≤ owner_of y) [
      | inl was ↦ elim (back j y f) as (λ _. owner_of x ≤ owner_of y) [
        | inl too ↦ so.rising i j x y le was too
        | inr new ↦ let under = owner_under i x was in let own = own_of_new y new.1 in let fence_is = is_fence in omega arith
      ]
      | inr new ↦ elim (back j y f) as (λ _. owner_of x ≤ owner_of y) [
        | inl was ↦
            let sending = so.sends b v sent in
            let from = sending.behind in
            let here = new.0 in
            let behind : sending.gap ≤ j = omega arith in
            let above = (so.after b.leadership sending.gap sending.fenced).own j y behind was in
            let own = own_of_new x new.1 in
            omega arith
        | inr too ↦ let own = own_of_new x new.1 in let own_too = own_of_new y too.1 in omega arith
      ]
    ]

    put_sound : IsSound (put_world b v)
    put_sound = record {
      led = so.led;
      fence_led = so.fence_led;
      read_led = so.read_led;
      read_once = so.read_once;
      gap = λ s k h lower is. let newest = (so.led b.leadership leader).0 in let fence_is = is_fence in absurd (omega arith);
      after = λ s k h. let old = so.after s k h in record {
        read = old.read;
        under = old.under;
        low = old.low;
        dense = λ i low lt. all_there i (old.dense i low lt);
        own = λ i u ge e. elim (back i u e) as (λ _. s ≤ owner_of u) [
          | inl was ↦ old.own i u ge was
          | inr new ↦ let own = own_of_new u new.1 in let under = old.under in let fence_is = is_fence in omega arith
        ];
      };
      fence_done = so.fence_done;
      served = so.served;
      tried_fence = so.tried_fence;
      cut = λ i low le. all_there i (so.cut i low le);
      in_log = λ i u e. in_log_then i u (i == b.number) refl e;
      in_whole = λ i u e. elim (back i u e) as (λ _. HasPut (put_world b v) (owner_of u) i u) [
        | inl was ↦ inr (so.in_whole i u was)
        | inr new ↦ was_put i u new.0 new.1
      ];
      sends = so.sends;
      same = so.same;
      tried = λ c u a h. one_more (λ (t : BatchTry). Has (record { batch = t.batch; value = t.value }) w.sent) (record { batch = c; value = u; answer = a })
          (record { batch = b; value = v; answer = batch.Done }) w.batches h sent (λ old. so.tried c u a old);
      synced = λ c u a h told. one_more (λ (t : BatchTry). HasPut (put_world b v) t.batch.leadership t.batch.number t.value) (record { batch = c; value = u; answer = a })
          (record { batch = b; value = v; answer = batch.Done }) w.batches h (inl refl) (λ old. inr (so.synced c u a old told));
      put = put_then;
      firm = put_firm;
      rising = put_rising;
      over = λ c u a h told. elim h as (λ _. IsOver w.engine.leader w.engine.newest (whole (put_world b v)) c) [
        | inl is ↦ absurd (subst (λ (t : BatchTry). batch_told t.batch t.answer ≡ Lost t.batch.number → ⊥) (sym is)
            (λ it. cc) told)
        | inr old ↦ let o = so.over c u a old told in record {
          led = o.led;
          ended = o.ended;
          never = λ x e own. elim (back c.number x e) as (λ _. ⊥) [
            | inl was ↦ o.never x was own
            | inr new ↦ o.ended (leader ∙ ap (λ (n : ℕ). Some n) (sym (own_of_new x new.1) ∙ own))
          ];
        }
      ];
    }

  -- ---- a fence is not carried out

  module _ (f : Fence) (read : Has f w.reads) where
    abbrev unfenced : FenceSeen
    unfenced = record { leader = w.engine.leader; fence = w.engine.fence }

    abbrev not_fenced : World
    not_fenced = record w { fences = record { fence = f; answer = fence.Not unfenced } ∷ w.fences }

    fenced_before : (r g : ℕ) → HasFenced not_fenced r g → HasFenced w r g
    fenced_before r g h = was_there (record { fence = fence_of r g; answer = fence.Done }) (record { fence = f; answer = fence.Not unfenced }) w.fences h
        (λ is. cc (ap (λ (t : FenceTry). t.answer) is))

    was_fenced : fence_told f (fence.Not unfenced) ≡ Serves → HasFenced w f.leadership f.gap
    was_fenced told =
        let is = told_serves (leads f.leadership w.engine.leader) (w.engine.fence == f.leadership) told in
        let low = (so.led f.leadership (led f.leadership w.engine.leader is.0)).1 in
        let fence_at : w.engine.fence ≡ f.leadership = eqb-true w.engine.fence f.leadership is.1 in
        let done = so.fence_done (subst (λ n. 0 < n) (sym fence_at) low) in
        let there : HasFenced w f.leadership done.0 = subst (λ n. HasFenced w n done.0) fence_at done.1 in
        let same : done.0 ≡ f.gap = so.read_once f.leadership done.0 f.gap (so.after f.leadership done.0 there).read read in
        subst (λ g. HasFenced w f.leadership g) same there

    not_fenced_sound : IsSound not_fenced
    not_fenced_sound = record {
      led = so.led;
      fence_led = so.fence_led;
      read_led = so.read_led;
      read_once = so.read_once;
      gap = so.gap;
      after = λ r g h. so.after r g (fenced_before r g h);
      fence_done = λ low. let done = so.fence_done low in (done.0, inr done.1);
      served = λ r g s. elim s.1 as (λ _. HasFenced not_fenced r g) [
        | inl is ↦ subst (λ (t : FenceTry). fence_told t.fence t.answer ≡ Serves → HasFenced not_fenced t.fence.leadership t.fence.gap)
            (sym is) (λ told. inr (was_fenced told)) s.2
        | inr old ↦ inr (so.served r g (s.0, old, s.2))
      ];
      tried_fence = λ t h. one_more (λ (x : FenceTry). Has x.fence w.reads) t (record { fence = f; answer = fence.Not unfenced }) w.fences h read (λ old. so.tried_fence t old);
      cut = so.cut;
      in_log = so.in_log;
      in_whole = so.in_whole;
      sends = λ b v h. let old = so.sends b v h in
          record { own = old.own; gap = old.gap; fenced = inr old.fenced; behind = old.behind };
      same = so.same;
      tried = so.tried;
      synced = so.synced;
      put = so.put;
      firm = λ r g n h all i u ge le p. so.firm r g n (fenced_before r g h) all i u ge le p;
      rising = so.rising;
      over = so.over;
    }

  -- ---- a fence is carried out

  abbrev pub fence_world : Fence → World
  fence_world f = record w {
    engine = record w.engine { fence = f.leadership; log = without_from f.gap w.engine.log };
    fences = record { fence = f; answer = fence.Done } ∷ w.fences;
  }

  -- before the gap all is as it was, and from there on nothing is left
  pub fence_keeps : (f : Fence) (i : ℕ) → i < f.gap → whole (fence_world f) i ≡ whole w i
  fence_keeps f i lt = let m = fence_world f in elim (order i w.engine.snap) as (λ _. whole m i ≡ whole w i) [
    | inl le ↦ whole_cut m i le ∙ sym (whole_cut w i le)
    | inr more ↦ whole_behind m i more ∙ (cond-true (nat_lt i f.gap) (w.engine.log i) None (lt-ltb i f.gap lt) ∙ sym (whole_behind w i more))
  ]

  pub fence_ends : (f : Fence) (i : ℕ) → w.engine.snap < f.gap → f.gap ≤ i → whole (fence_world f) i ≡ None
  fence_ends f i behind ge =
      let more : w.engine.snap < i = omega arith in
      whole_behind (fence_world f) i more ∙ cond-false (nat_lt i f.gap) (w.engine.log i) None (le-ltb i f.gap ge)

  module _ (f : Fence) (read : Has f w.reads) (leader : w.engine.leader ≡ Some f.leadership)
      (unfenced_yet : w.engine.fence ≡ f.leadership → ⊥) where
    newer : w.engine.fence < f.leadership
    newer = let newest = (so.led f.leadership leader).0 in let most = so.fence_led in
        elim (order f.leadership w.engine.fence) as (λ _. w.engine.fence < f.leadership) [
          | inl le ↦ absurd (unfenced_yet (omega arith))
          | inr lt ↦ lt
        ]

    pub at_end : AtGap w.engine.snap (whole w) f.gap
    at_end = so.gap f.leadership f.gap read newer (so.led f.leadership leader).0

    back_before : (i : ℕ) (x : List ℕ) → whole (fence_world f) i ≡ Some x → (i < f.gap) × (whole w i ≡ Some x)
    back_before i x e = elim (order f.gap i) as (λ _. (i < f.gap) × (whole w i ≡ Some x)) [
      | inl ge ↦ absurd (absent_there (whole (fence_world f) i) (fence_ends f i at_end.behind ge) (x, e))
      | inr lt ↦ (lt, sym (fence_keeps f i lt) ∙ e)
    ]

    kept_before : (i : ℕ) → i < f.gap → IsThere (whole w i) → IsThere (whole (fence_world f) i)
    kept_before i lt t = (t.0, fence_keeps f i lt ∙ t.1)

    -- what is dense ends before the gap
    pub dense_before : (n : ℕ) → IsDense (whole w) n → n ≤ f.gap
    dense_before n dense = elim (order n f.gap) as (λ _. n ≤ f.gap) [
      | inl le ↦ le
      | inr lt ↦ absurd (absent_there (whole w f.gap) at_end.absent (dense f.gap (let behind = at_end.behind in omega arith) lt))
    ]

    none_sent : (r n : ℕ) (u : List ℕ) → HasPut w r n u → r ≡ f.leadership → ⊥
    none_sent r n u h is =
        let sending = so.sends (batch_of r n) u (so.tried (batch_of r n) u batch.Done h) in
        let under = (so.after r sending.gap sending.fenced).under in
        let lt = newer in
        omega arith

    -- what a leadership that fenced before put without a gap is before this gap
    put_before_gap : (r g n : ℕ) → HasFenced w r g → ((i : ℕ) → g ≤ i → i ≤ n → (x : List ℕ) × HasPut w r i x) → (i : ℕ) → g ≤ i → i ≤ n
        → i < f.gap
    put_before_gap r g n h all i ge le =
        let after = so.after r g h in
        let dense : IsDense (whole w) (suc i) = λ j low lt. elim (order g j) as (λ _. IsThere (whole w j)) [
          | inl from ↦ let within : j ≤ n = omega arith in let x = all j from within in (x.0, so.firm r g n h all j x.0 from within x.1)
          | inr less ↦ after.dense j low less
        ] in
        let bound = dense_before (suc i) dense in
        omega arith

    fence_sound : IsSound (fence_world f)
    fence_sound = record {
      led = so.led;
      fence_led = let newest = (so.led f.leadership leader).0 in omega arith;
      read_led = so.read_led;
      read_once = so.read_once;
      gap = λ s k h lower is. let newest = (so.led f.leadership leader).0 in absurd (omega arith);
      after = λ r g h. elim h as (λ _. AfterFence w.reads f.leadership (whole (fence_world f)) r g) [
        | inl is ↦ subst (λ (t : FenceTry). AfterFence w.reads f.leadership (whole (fence_world f)) t.fence.leadership t.fence.gap) (sym is)
            (record {
              read = read;
              under = omega arith;
              low = let behind = at_end.behind in omega arith;
              dense = λ i low lt. kept_before i lt (at_end.dense i low lt);
              own = λ i u ge e. let b = back_before i u e in let lt = b.0 in absurd (omega arith);
            })
        | inr old ↦
            let after = so.after r g old in
            let bound = dense_before g after.dense in
            record {
              read = after.read;
              under = let under = after.under in let lt = newer in omega arith;
              low = after.low;
              dense = λ i low lt. kept_before i (omega arith) (after.dense i low lt);
              own = λ i u ge e. after.own i u ge (back_before i u e).1;
            }
      ];
      fence_done = λ low. (f.gap, inl refl);
      served = λ r g s. elim s.1 as (λ _. HasFenced (fence_world f) r g) [
        | inl is ↦ inl (ap (λ (t : FenceTry). record t { answer = fence.Done }) is)
        | inr old ↦ inr (so.served r g (s.0, old, s.2))
      ];
      tried_fence = λ t h. one_more (λ (x : FenceTry). Has x.fence w.reads) t (record { fence = f; answer = fence.Done }) w.fences h read (λ old. so.tried_fence t old);
      cut = λ i low le. kept_before i (let behind = at_end.behind in omega arith) (so.cut i low le);
      in_log = λ i u e. so.in_log i u (log_by (w.engine.log i) u (nat_lt i f.gap) e);
      in_whole = λ i u e. so.in_whole i u (back_before i u e).1;
      sends = λ b v h. let old = so.sends b v h in
          record { own = old.own; gap = old.gap; fenced = inr old.fenced; behind = old.behind };
      same = so.same;
      tried = so.tried;
      synced = so.synced;
      put = λ n u h. absurd (none_sent f.leadership n u h refl);
      firm = λ r g n h all i u ge le p. elim h as (λ _. whole (fence_world f) i ≡ Some u) [
        | inl is ↦ absurd (none_sent r i u p (ap (λ (t : FenceTry). t.fence.leadership) is))
        | inr old ↦ fence_keeps f i (put_before_gap r g n old all i ge le) ∙ so.firm r g n old all i u ge le p
      ];
      rising = λ i j x y le e h. so.rising i j x y le (back_before i x e).1 (back_before j y h).1;
      over = λ c u a h told. let o = so.over c u a h told in record {
        led = o.led;
        ended = o.ended;
        never = λ x e own. o.never x (back_before c.number x e).1 own;
      };
    }

  -- ---- a cut

  abbrev pub cut_world : ℕ → World
  cut_world last = record w {
    engine = record w.engine { log = without_to last w.engine.log; snap = last };
    kept = λ i. if nat_le i last then whole w i else w.kept i;
  }

  -- nothing that is whole changes
  pub cut_keeps : (last i : ℕ) → w.engine.snap < last → whole (cut_world last) i ≡ whole w i
  cut_keeps last i lt = let m = cut_world last in elim (order i last) as (λ _. whole m i ≡ whole w i) [
    | inl le ↦ whole_cut m i le ∙ cond-true (nat_le i last) (whole w i) (w.kept i) (le-leb i last le)
    | inr more ↦
        let behind : w.engine.snap < i = omega arith in
        whole_behind m i more ∙ (cond-false (nat_le i last) None (w.engine.log i) (lt-leb i last more) ∙ sym (whole_behind w i behind))
  ]

  module _ (r g last : ℕ) (decided : HasDecided w r g last) (leader : w.engine.leader ≡ Some r) (lt : w.engine.snap < last) where
    same_whole : (i : ℕ) → whole (cut_world last) i ≡ whole w i
    same_whole i = cut_keeps last i lt

    all_same : (i : ℕ) → IsThere (whole w i) → IsThere (whole (cut_world last) i)
    all_same i t = (t.0, same_whole i ∙ t.1)

    cut_fence : r ≡ w.engine.fence
    cut_fence =
        let newest = (so.led r leader).0 in
        let under = (so.after r g (so.served r g decided.0)).under in
        let most = so.fence_led in
        omega arith

    decided_there : (i : ℕ) → 0 < i → i ≤ last → IsThere (whole w i)
    decided_there i low le = elim (order g i) as (λ _. IsThere (whole w i)) [
      | inr less ↦ (so.after r g (so.served r g decided.0)).dense i low less
      | inl from ↦
          let told = decided.1 i from le in
          let was : HasPut w r i told.0 = so.synced (batch_of r i) told.0 told.1 told.2 told.3 in
          (told.0, so.put i told.0 (subst (λ k. HasPut w k i told.0) cut_fence was))
    ]

    cut_sound : IsSound (cut_world last)
    cut_sound = record {
      led = so.led;
      fence_led = so.fence_led;
      read_led = so.read_led;
      read_once = so.read_once;
      gap = λ s k h lower is. let newest = (so.led r leader).0 in let at_fence = cut_fence in absurd (omega arith);
      after = λ s k h. let old = so.after s k h in record {
        read = old.read;
        under = old.under;
        low = old.low;
        dense = λ i low less. all_same i (old.dense i low less);
        own = λ i u ge e. old.own i u ge (sym (same_whole i) ∙ e);
      };
      fence_done = so.fence_done;
      served = so.served;
      tried_fence = so.tried_fence;
      cut = λ i low le. all_same i (decided_there i low le);
      in_log = λ i u e. so.in_log i u (log_behind_by (w.engine.log i) u (nat_le i last) e);
      in_whole = λ i u e. so.in_whole i u (sym (same_whole i) ∙ e);
      sends = so.sends;
      same = so.same;
      tried = so.tried;
      synced = so.synced;
      put = λ n u h. same_whole n ∙ so.put n u h;
      firm = λ s k n h all i u ge le p. same_whole i ∙ so.firm s k n h all i u ge le p;
      rising = λ i j x y le e h. so.rising i j x y le (sym (same_whole i) ∙ e) (sym (same_whole j) ∙ h);
      over = λ c u a h told. let o = so.over c u a h told in record {
        led = o.led;
        ended = o.ended;
        never = λ x e own. o.never x (sym (same_whole c.number) ∙ e) own;
      };
    }

  -- ---- each move

  tries_sound : (b : Batch) (v : List ℕ) → Has (record { batch = b; value = v }) w.sent → (t : Bool) → may_put w.engine b ≡ t
      → IsSound (record w {
        engine = cond t (record w.engine { log = with_entry b.number v w.engine.log }) w.engine;
        batches = record {
          batch = b;
          value = v;
          answer = cond t batch.Done (batch.Not (record { leader = w.engine.leader; held = held_of v (w.engine.log b.number); snap = w.engine.snap }));
        } ∷ w.batches;
      })
  tries_sound b v sent true e =
      let may = and_parts (leads b.leadership w.engine.leader) (is_none (w.engine.log b.number)) e in
      put_sound b v sent (led b.leadership w.engine.leader may.0) (none (w.engine.log b.number) may.1)
  tries_sound b v sent false e = not_put_sound b v sent

  fences_sound : (f : Fence) → Has f w.reads → (t : Bool) → may_fence w.engine f ≡ t
      → IsSound (record w {
        engine = cond t (record w.engine { fence = f.leadership; log = without_from f.gap w.engine.log }) w.engine;
        fences = record { fence = f; answer = cond t fence.Done (fence.Not (record { leader = w.engine.leader; fence = w.engine.fence })) } ∷ w.fences;
      })
  fences_sound f read true e =
      let may = and_parts (leads f.leadership w.engine.leader) (not (w.engine.fence == f.leadership)) e in
      fence_sound f read (led f.leadership w.engine.leader may.0) (eqb-false w.engine.fence f.leadership (not-true (w.engine.fence == f.leadership) may.1))
  fences_sound f read false e = not_fenced_sound f read

  cuts_sound : (r g last : ℕ) → HasDecided w r g last → (t : Bool) → may_cut w.engine r last ≡ t
      → IsSound (record w {
        engine = cond t (record w.engine { log = without_to last w.engine.log; snap = last }) w.engine;
        kept = cond t (λ i. if nat_le i last then whole w i else w.kept i) w.kept;
      })
  cuts_sound r g last decided true e =
      let may = and_parts (leads r w.engine.leader) (nat_lt w.engine.snap last) e in
      cut_sound r g last decided (led r w.engine.leader may.0) (ltb-true w.engine.snap last may.1)
  cuts_sound r g last decided false e = so

move_sound : (w : World) → IsSound w → (c : Move) → Needs w c → IsSound (after_move w c)
move_sound w so (Leads r) needs = let lt = needs.1 in
    led_sound w so (Some r) r (omega arith) (λ s e. let is : r ≡ s = cc in (sym is, omega arith))
move_sound w so Ends needs = led_sound w so None w.engine.newest (omega arith) (λ s e. absurd (none-some s e))
move_sound w so (Reads r g) needs = reads_sound w so r g needs.0 needs.1 needs.2
move_sound w so (Fences f) read = fences_sound w so f read (may_fence w.engine f) refl
move_sound w so (Sends b v) may = sends_sound w so b v may
move_sound w so (Tries b v) sent = tries_sound w so b v sent (may_put w.engine b) refl
move_sound w so (Cuts r g last) decided = cuts_sound w so r g last decided (may_cut w.engine r last) refl

pub step : (w : World) (c : Move) (m : World) → IsSound w → Happens w c m → IsSound m
step w c m so h = subst (λ x. IsSound x) (sym h.1) (move_sound w so c h.0)

pub new_sound : IsSound new_world
new_sound = record {
  led = λ r e. absurd (none-some r e);
  fence_led = omega arith;
  read_led = λ r g h. absurd h;
  read_once = λ r g h one two. absurd one;
  gap = λ r g h lower is. absurd h;
  after = λ r g h. absurd h;
  fence_done = λ low. absurd (omega arith);
  served = λ r g s. absurd s.1;
  tried_fence = λ t h. absurd h;
  cut = λ i low le. absurd (omega arith);
  in_log = λ i v e. absurd (none-some v e);
  in_whole = λ i v e. absurd (nothing_whole i v e);
  sends = λ b v h. absurd h;
  same = λ b v u h k. absurd h;
  tried = λ b v a h. absurd h;
  synced = λ b v a h told. absurd h;
  put = λ n v h. absurd h;
  firm = λ r g n h all i u ge le p. absurd h;
  rising = λ i j v u le e f. absurd (nothing_whole i v e);
  over = λ b v a h told. absurd h;
}
