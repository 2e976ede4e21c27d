-- What holds of all that was decided, lost and still held, after any moves.
use Rattle.sk_engine.proofs.Names.{◌≡◌, ℕ, suc, ◌<◌, ◌≤◌, Bool, true, false, cond, List, [], ◌∷◌, Option, Some, inl}
use Rattle.sk_engine.proofs.Names.{inr, refl, sym, ◌∙◌, ap, subst, arith, nat_le, if◌then◌else◌, eqb-false, ltb-true}
use Rattle.sk_engine.proofs.Names.{BatchAnswer, Batch, Fence, Still, Over, leads, with_entry, without_from, without_to}
use Rattle.sk_engine.proofs.Names.{may_put, may_fence, may_cut, batch_answer, fence_answer, Has, BatchTry, FenceTry}
use Rattle.sk_engine.proofs.Names.{World, new_world, batch_of, owner_of, whole, WasLost, HasDecided, Move, ServesFrom}
use Rattle.sk_engine.proofs.Names.{Fences, Tries, Cuts, Happens, Runs, DecidedStays, DecidedIsSent, DecidedIsRead}
use Rattle.sk_engine.proofs.Names.{LostIsNeverFound, StillHasAll, and_parts, not-true, Needs, after_move}
use Rattle.sk_engine.specs.declared.answer.BatchAnswer.TheVariants as batch
use Rattle.sk_engine.proofs.Tests.{led, none}
use Rattle.sk_engine.proofs.Sound.{IsThere, IsDense, HasPut, IsSound}
use Rattle.sk_engine.proofs.Steps.{order, absent_there, put_cases, fence_keeps, dense_before, cut_keeps, at_gap, step, new_sound}

-- ---- what is dense stays

tries_keep : (w : World) → IsSound w → (b : Batch) (v : List ℕ) (t : Bool) → may_put w.engine b ≡ t → (answer : BatchAnswer) (i : ℕ) → IsThere (whole w i)
    → whole (record w {
      engine = cond t (record w.engine { log = with_entry b.number v w.engine.log }) w.engine;
      batches = record { batch = b; value = v; answer = answer } ∷ w.batches;
    }) i ≡ whole w i
tries_keep w so b v true e answer i there =
    let absent = none (w.engine.log b.number) (and_parts _ _ e).1 in
    elim (put_cases w so b v absent i) [ inl old ↦ old.before | inr new ↦ absurd (absent_there (whole w i) new.absent there) ]
tries_keep w so b v false e answer i there = refl

fences_keep : (w : World) → IsSound w → (f : Fence) → Has f w.reads → (t : Bool) → may_fence w.engine f ≡ t → (tries : List FenceTry)
    → (n : ℕ) → IsDense (whole w) n → (i : ℕ) → i < n
    → whole (record w { engine = cond t (record w.engine { fence = f.leadership; log = without_from f.gap w.engine.log }) w.engine; fences = tries }) i ≡ whole w i
fences_keep w so f read true e tries n dense i lt =
    let may = and_parts _ _ e in
    let leader = led f.leadership w.engine.leader may.0 in
    let unfenced = eqb-false w.engine.fence f.leadership (not-true _ may.1) in
    let bound : n ≤ f.gap = dense_before w so f read leader unfenced n dense in
    fence_keeps w so f i (omega arith)
fences_keep w so f read false e tries n dense i lt = refl

cuts_keep : (w : World) → IsSound w → (r last : ℕ) (t : Bool) → may_cut w.engine r last ≡ t → (i : ℕ)
    → whole (record w {
      engine = cond t (record w.engine { log = without_to last w.engine.log; snap = last }) w.engine;
      kept = cond t (λ i. if nat_le i last then whole w i else w.kept i) w.kept;
    }) i ≡ whole w i
cuts_keep w so r last true e i = cut_keeps w so last i (ltb-true w.engine.snap last (and_parts _ _ e).1)
cuts_keep w so r last false e i = refl

move_keeps : (w : World) → IsSound w → (c : Move) → Needs w c → (n : ℕ) → IsDense (whole w) n → (i : ℕ) → 0 < i → i < n
    → whole (after_move w c) i ≡ whole w i
move_keeps w so (Fences f) read n dense i low lt =
    fences_keep w so f read (may_fence w.engine f) refl (record { fence = f; answer = fence_answer w.engine f } ∷ w.fences) n dense i lt
move_keeps w so (Tries b v) sent n dense i low lt = tries_keep w so b v (may_put w.engine b) refl (batch_answer w.engine b v) i (dense i low lt)
move_keeps w so (Cuts r g last) decided n dense i low lt = cuts_keep w so r last (may_cut w.engine r last) refl i
move_keeps w so c needs n dense i low lt = refl

keeps : (w : World) (c : Move) (m : World) → IsSound w → Happens w c m → (n : ℕ) → IsDense (whole w) n → (i : ℕ) → 0 < i → i < n
    → whole m i ≡ whole w i
keeps w c m so h n dense i low lt = ap (λ x. whole x i) h.1 ∙ move_keeps w so c h.0 n dense i low lt

-- ---- what was answered stays answered

pub more_batches : (w : World) (c : Move) (m : World) → Happens w c m → (t : BatchTry) → Has t w.batches → Has t m.batches
more_batches w (Tries b v) m h t was = subst (λ x. Has t x.batches) (sym h.1) (inr was)
more_batches w c m h t was = subst (λ x. Has t x.batches) (sym h.1) was

pub more_fences : (w : World) (c : Move) (m : World) → Happens w c m → (t : FenceTry) → Has t w.fences → Has t m.fences
more_fences w (Fences f) m h t was = subst (λ x. Has t x.fences) (sym h.1) (inr was)
more_fences w c m h t was = subst (λ x. Has t x.fences) (sym h.1) was

-- ---- over runs

pub run : (cs : List Move) (w m : World) → Runs w cs m → IsSound w → IsSound m
run [] w m r so = subst (λ x. IsSound x) r so
run (c ∷ cs) w m r so = run cs r.0 m r.2 (step w c r.0 so r.1)

dense_later : (cs : List Move) (w m : World) → Runs w cs m → IsSound w → (n : ℕ) → IsDense (whole w) n → (i : ℕ) → 0 < i → i < n
    → whole m i ≡ whole w i
dense_later [] w m r so n dense i low lt = ap (λ x. whole x i) (sym r)
dense_later (c ∷ cs) w m r so n dense i low lt =
    let same : (j : ℕ) → 0 < j → j < n → whole r.0 j ≡ whole w j = λ j one two. keeps w c r.0 so r.1 n dense j one two in
    dense_later cs r.0 m r.2 (step w c r.0 so r.1) n (λ j one two. let there = dense j one two in (there.0, same j one two ∙ there.1)) i low lt
    ∙ same i low lt

lost_later : (cs : List Move) (w m : World) → Runs w cs m → (b : Batch) → WasLost w b → WasLost m b
lost_later [] w m r b lost = subst (λ x. WasLost x b) r lost
lost_later (c ∷ cs) w m r b lost =
    lost_later cs r.0 m r.2 b (lost.0, lost.1, more_batches w c r.0 r.1 (record { batch = b; value = lost.0; answer = lost.1 }) lost.2, lost.3)

-- ---- what was decided

module _ (w : World) (so : IsSound w) (r g last : ℕ) (decided : HasDecided w r g last) where
  all_put : (i : ℕ) → g ≤ i → i ≤ last → (v : List ℕ) × HasPut w r i v
  all_put i from le = let told = decided.1 i from le in (told.0, so.synced (batch_of r i) told.0 told.1 told.2 told.3)

  -- one that was put stands there
  pub sent_there : (i : ℕ) → g ≤ i → i ≤ last → (v : List ℕ) × (whole w i ≡ Some v) × HasPut w r i v
  sent_there i from le =
      let x = all_put i from le in
      (x.0, so.firm r g last (so.served r g decided.0) all_put i x.0 from le x.1, x.1)

  dense : IsDense (whole w) (suc last)
  dense i low lt = elim (order g i) as (λ _. IsThere (whole w i)) [
    | inl from ↦ let x = sent_there i from (omega arith) in (x.0, x.1)
    | inr less ↦ (so.after r g (so.served r g decided.0)).dense i low less
  ]

pub decided_stays : DecidedStays
decided_stays before after w m r g last number runs decided more low le =
    let so = run before new_world w runs new_sound in
    let there = dense w so r g last decided number low (omega arith) in
    record {
      value = there.0;
      here = there.1;
      later = dense_later after w m more so (suc last) (dense w so r g last decided) number low (omega arith) ∙ there.1;
    }

pub decided_is_sent : DecidedIsSent
decided_is_sent moves w r g last number runs decided from le =
    let so = run moves new_world w runs new_sound in
    let x = sent_there w so r g last decided number from le in
    (x.0, x.1, so.tried (batch_of r number) x.0 batch.Done x.2)

pub decided_is_read : DecidedIsRead
decided_is_read before after w m n r g last other found runs decided more reads =
    let so = run before new_world w runs new_sound in
    let later = run after w m more so in
    let gap = at_gap m later found reads.0.2 in
    elim (order found last) as (λ _. last < found) [
      | inr lt ↦ lt
      | inl le ↦
          let behind = gap.behind in
          let low : 0 < found = omega arith in
          let there = dense w so r g last decided found low (omega arith) in
          absurd (absent_there (whole m found) gap.absent
          (there.0, dense_later after w m more so (suc last) (dense w so r g last decided) found low (omega arith) ∙ there.1))
    ]

-- ---- what was lost

pub lost_is_never_found : LostIsNeverFound
lost_is_never_found before after w m r lost number value runs was more le found own =
    let so = run before new_world w runs new_sound in
    let later = run after w m more so in
    let late = lost_later after w m more (batch_of r lost) was in
    let over = later.over (batch_of r lost) late.0 late.1 late.2 late.3 in
    let sending = later.sends (batch_of r lost) late.0 (later.tried (batch_of r lost) late.0 late.1 late.2) in
    let fenced = later.after r sending.gap sending.fenced in
    let low : 0 < lost = (let one = fenced.low in let two = sending.behind in omega arith) in
    let there = found.before lost low le in
    let least : r ≤ owner_of there.0 = fenced.own lost there.0 sending.behind there.1 in
    let most : owner_of there.0 ≤ owner_of value = later.rising lost number there.0 value le there.1 found.here in
    over.never there.0 there.1 (omega arith)

-- ---- what still holds

pub still_led : (r : ℕ) (k : ℕ) (o : Option ℕ) (t : Bool) → leads r o ≡ t → cond t (Still k) Over ≡ Still k → t ≡ true
still_led r k o true e told = refl
still_led r k o false e told = absurd (let no : Over ≡ Still k = told in cc)

-- what holds while the leader is of a leadership that serves
pub newest_found : (w : World) → IsSound w → (r gap other from last : ℕ) → ServesFrom w r gap → w.engine.leader ≡ Some r → HasDecided w other from last
    → from ≤ last → (other ≡ r → ⊥) → last < gap
newest_found w so r gap other from last serves leader decided ordered differs =
    let newest = (so.led r leader).0 in
    let fenced = so.after r gap (so.served r gap serves) in
    let under : other ≤ w.engine.fence = (so.after other from (so.served other from decided.0)).under in
    let most = so.fence_led in
    elim (order gap last) as (λ _. last < gap) [
      | inr lt ↦ lt
      | inl le ↦
          let x = sent_there w so other from last decided last ordered (omega arith) in
          let own : owner_of x.0 ≡ other = (so.sends (batch_of other last) x.0 (so.tried (batch_of other last) x.0 batch.Done x.2)).own in
          let above : r ≤ owner_of x.0 = fenced.own last x.0 le x.1 in
          absurd (differs (omega arith))
    ]

pub still_has_all : StillHasAll
still_has_all moves w round gap other from last runs serves told decided ordered differs =
    let so = run moves new_world w runs new_sound in
    let r = round.leadership in
    let leader = led r w.engine.leader (still_led r round.number w.engine.leader (leads r w.engine.leader) refl told) in
    newest_found w so r gap other from last serves leader decided ordered differs
