-- Behind a cut all that still waits for a word of the host is in later frames, and what was told as synced in earlier
-- ones.
use Rattle.sk_led.proofs.Names.{failed_unkept, ◌≡◌, ℕ, suc, ◌+◌, ◌<◌, ◌≤◌, Bool, true, false, List, [], ◌∷◌, refl, sym}
use Rattle.sk_led.proofs.Names.{ap, subst, arith, ◌==◌, cond, Some, None, map, nat_lt, list_any, AllByRecursion}
use Rattle.sk_led.proofs.Names.{Contains, ltb-true, ltb-false, NUMBER_LIMIT, Stage, Kept, Sent, Synced, Failed, Refused}
use Rattle.sk_led.proofs.Names.{Batch, Cut, after_cut, awaits, cut_due, cut_off, first_failed, is_decided, is_failed}
use Rattle.sk_led.proofs.Names.{is_kept, is_sent, last_in, left, open_batch, past, send, tell, QueueView}
use Rattle.sk_led.proofs.Names.{kept_records_of, AreDense, IsAtCut, IsRange, all_mapped, all_pushed, dense_at, ◌∙◌}
use Rattle.sk_led.proofs.Names.{decided_synced, filter, and_parts, false≢true}
use Rattle.sk_batches.specs.Runs.{story_after, Appends, Call, Cuts, Decides, Fails, Happens, Runs, Stops, Story, Syncs}
use Rattle.sk_batches.specs.Runs.{Takes, Withdraws}

abbrev pub waits : Stage → Bool
waits Sent = true
waits Failed = true
waits other = false

abbrev pub IsLate : ℕ → Batch → Type 0
IsLate c b = (waits b.stage ≡ true → c < b.frame) × (b.stage ≡ Synced → b.frame < c)

pub record AreLate (c : ℕ) (q : QueueView) : Type 0 where
  pub each : AllByRecursion (IsLate c) q.batches
  pub next : c < q.frame

sent_waits : (s : Stage) → is_sent s ≡ true → waits s ≡ true
sent_waits Sent e = refl
sent_waits s e = absurd (false≢true e)

failed_waits : (s : Stage) → is_failed s ≡ true → waits s ≡ true
failed_waits Failed e = refl
failed_waits s e = absurd (false≢true e)

-- ---- each call of the queue

late_sent : (c next : ℕ) → c < next → (b : Batch) → IsLate c b → IsLate c (send next b)
late_sent c next lt b late = elim (is_kept b.stage) as
    (λ t. IsLate c (cond t (record b { frame = next; stage = Sent }) b)) [
      | true ↦ (λ w. lt, λ is. cc)
      | false ↦ late
    ]

late_told : (c frame : ℕ) (b : Batch) → IsLate c b → IsLate c (tell frame Failed b)
late_told c frame b late = elim (awaits frame b) as
    (λ t. awaits frame b ≡ t → IsLate c (cond t (record b { stage = Failed }) b)) [
      | true ↦ λ e. (
        λ w. late.0 (sent_waits b.stage ((and_parts (is_sent b.stage) (b.frame == frame) e).0)),
        λ is. cc,
      )
      | false ↦ λ e. late
    ] refl

late_left : (c : ℕ) (bs : List Batch) → AllByRecursion (IsLate c) bs → AllByRecursion (IsLate c) (left bs)
late_left c [] late = tt
late_left c (b ∷ bs) late = elim (is_decided b.stage) as
    (λ t. AllByRecursion (IsLate c) (cond t bs (b ∷ bs))) [ true ↦ late.1 | false ↦ late ]

-- a batch of the frame that is cut off, and one behind it
abbrev refused : Batch → Batch
refused b = record b { stage = Refused }

abbrev again : Cut → Batch → Batch
again cut b = record b { stage = Kept; records = kept_records_of cut.first cut.last b.records }

late_off : (c : ℕ) (cut : Cut) (b : Batch) (here : Bool) → IsLate c (cond here (refused b) (again cut b))
late_off c cut b true = (λ w. absurd (false≢true w), λ is. cc)
late_off c cut b false = (λ w. absurd (false≢true w), λ is. cc)

late_cut : (c : ℕ) (cut : Cut) (b : Batch) → IsLate c b → IsLate c (cut_off cut b)
late_cut c cut b late = elim (nat_lt b.frame cut.frame) as
    (λ t. IsLate c (cond t b (cond (b.frame == cut.frame) (refused b) (again cut b))))
    [ true ↦ late | false ↦ late_off c cut b (b.frame == cut.frame) ]

no_failed : {X : Type 0} (cut : Cut) → None ≡ Some cut → X
no_failed cut e = cc

late_failed : (c : ℕ) (cut : Cut) (bs : List Batch) → AllByRecursion (IsLate c) bs → first_failed bs ≡ Some cut
    → c < cut.frame
late_failed c cut [] late e = no_failed cut e
late_failed c cut (b ∷ bs) late e = elim (is_failed b.stage) as (λ t. is_failed b.stage ≡ t
    → cond t (Some (record { frame = b.frame; first = b.number; last = last_in b.frame b.number bs }))
    (first_failed bs) ≡ Some cut
    → c < cut.frame) [
      | true ↦ λ f is. let lt = late.0.0 (failed_waits b.stage f) in
          let same : b.frame ≡ cut.frame = cc in omega arith
      | false ↦ λ f is. late_failed c cut bs late.1 is
    ] refl e

-- the cut that is due is behind
pub late_due : (c : ℕ) (cut : Cut) (q : QueueView) → AllByRecursion (IsLate c) q.batches → cut_due q ≡ Some cut
    → c < cut.frame
late_due c cut q late e = elim (list_any (λ (b : Batch). is_sent b.stage) q.batches) as
    (λ t. cond t None (first_failed q.batches) ≡ Some cut → c < cut.frame) [
      | true ↦ λ is. no_failed cut is
      | false ↦ λ is. late_failed c cut q.batches late is
    ] e

past_behind : (c frame : ℕ) → c < frame → c < past frame
past_behind c frame lt = elim (nat_lt frame NUMBER_LIMIT) as (λ t. c < cond t (frame + 1) frame)
    [ true ↦ omega arith | false ↦ lt ]

abbrev is_sync : Call → Bool
is_sync (Syncs frame) = true
is_sync other = false

late_step : (c : ℕ) (q : QueueView) (call : Call) (m : QueueView) → Happens q call m → is_sync call ≡ false
    → AreLate c q
    → AreLate c m
late_step c q (Appends added) m does quiet so =
    subst (λ (x : QueueView). AreLate c x) (sym does) (record { each = so.each; next = so.next })
late_step c q Withdraws m does quiet so =
    subst (λ (x : QueueView). AreLate c x) (sym does) (record { each = so.each; next = so.next })
late_step c q Stops m does quiet so =
    subst (λ (x : QueueView). AreLate c x) (sym does) (record { each = so.each; next = so.next })
late_step c q Takes m does quiet so = subst (λ (x : QueueView). AreLate c x) (sym does.1) (record {
  each = all_pushed (IsLate c) (map (send q.frame) q.batches) (open_batch q)
      (all_mapped (send q.frame) (IsLate c) (IsLate c) (late_sent c q.frame so.next) q.batches so.each)
      (λ w. so.next, λ is. cc);
  next = let lt = so.next in omega arith;
})
late_step c q (Syncs frame) m does quiet so = absurd (false≢true (sym quiet))
late_step c q (Fails frame) m does quiet so = subst (λ (x : QueueView). AreLate c x) (sym does.1) (record {
  each = all_mapped (tell frame Failed) (IsLate c) (IsLate c) (late_told c frame) q.batches so.each;
  next = so.next;
})
late_step c q Decides m does quiet so = subst (λ (x : QueueView). AreLate c x) (sym does)
    (record { each = late_left c q.batches so.each; next = so.next })
late_step c q (Cuts cut) m does quiet so = subst (λ (x : QueueView). AreLate c x) (sym does.1) (record {
  each = all_mapped (cut_off cut) (IsLate c) (IsLate c) (late_cut c cut) q.batches so.each;
  next = past_behind c cut.frame (late_due c cut q so.each does.0);
})

pub late_once : (c : ℕ) (cut : Cut) (q : QueueView) → cut_due q ≡ Some cut → AreLate c q → AreLate c (after_cut cut q)
late_once c cut q due so = late_step c q (Cuts cut) (after_cut cut q) (due, refl) refl so

-- where a frame was told as synced, or cut off, some are told so for ever
grown : (calls : List Call) (q m : QueueView) (story last : Story) → Runs q story calls m last
    → (n : ℕ) (ns : List ℕ) → story.synced ≡ n ∷ ns → last.synced ≡ [] → ⊥
grown [] q m story last runs n ns is none =
    let e : n ∷ ns ≡ [] = sym is ∙ ap (λ (x : Story). x.synced) runs.1 ∙ none in cc
grown (Syncs frame ∷ calls) q m story last runs n ns is none =
    grown calls runs.0 m (story_after q (Syncs frame) story) last runs.2 frame story.synced refl none
grown (Decides ∷ calls) q m story last runs n ns is none =
    grown calls runs.0 m (story_after q Decides story) last runs.2 n ns (decided_synced q.batches story ∙ is) none
grown (Cuts cut ∷ calls) q m story last runs n ns is none =
    grown calls runs.0 m (story_after q (Cuts cut) story) last runs.2 cut.frame
    (filter (λ frame. nat_lt frame cut.frame) story.synced) refl none
grown (call ∷ calls) q m story last runs n ns is none =
    grown calls runs.0 m (story_after q call story) last runs.2 n ns is none

pub late_run : (c : ℕ) (calls : List Call) (q m : QueueView) (story last : Story) → Runs q story calls m last
    → last.synced ≡ [] → AreLate c q → AreLate c m
late_run c [] q m story last runs none so = subst (λ (x : QueueView). AreLate c x) runs.0 so
late_run c (Syncs frame ∷ calls) q m story last runs none so = absurd
    (grown calls runs.0 m (story_after q (Syncs frame) story) last runs.2 frame story.synced refl none)
late_run c (call ∷ calls) q m story last runs none so =
    late_run c calls runs.0 m (story_after q call story) last runs.2 none (late_step c q call runs.0 runs.1 refl so)

-- ---- the first cut

decided_waits : {X : Type 0} (s : Stage) → is_decided s ≡ true → waits s ≡ true → X
decided_waits Synced e w = absurd (false≢true w)
decided_waits Refused e w = absurd (false≢true w)
decided_waits s e w = absurd (false≢true e)

-- one that stands where a cut is due, is decided or taken away
late_behind : (cut : Cut) (b : Batch) → IsAtCut cut b → IsLate cut.frame (cut_off cut b)
late_behind cut b at = elim (nat_lt b.frame cut.frame) as (λ t. nat_lt b.frame cut.frame ≡ t
    → IsLate cut.frame (cond t b (cond (b.frame == cut.frame) (refused b) (again cut b)))) [
      | true ↦ λ e. (
        λ w. decided_waits b.stage (at.earlier (ltb-true b.frame cut.frame e)).0 w,
        λ is. ltb-true b.frame cut.frame e,
      )
      | false ↦ λ e. late_off cut.frame cut b (b.frame == cut.frame)
    ] refl

-- a batch of the frame that is cut off
pub record HasFailed (cut : Cut) (bs : List Batch) : Type 0 where
  pub batch : Batch
  pub here : Contains bs batch
  pub frame : batch.frame ≡ cut.frame
  pub failed : is_failed batch.stage ≡ true

pub failed_here : (cut : Cut) (bs : List Batch) → first_failed bs ≡ Some cut → HasFailed cut bs
failed_here cut [] e = no_failed cut e
failed_here cut (b ∷ bs) e = elim (is_failed b.stage) as (λ t. is_failed b.stage ≡ t
    → cond t (Some (record { frame = b.frame; first = b.number; last = last_in b.frame b.number bs }))
    (first_failed bs) ≡ Some cut
    → HasFailed cut (b ∷ bs)) [
      | true ↦ λ f is. record { batch = b; here = (0, omega arith, refl); frame = cc; failed = f }
      | false ↦ λ f is. let more = failed_here cut bs is in let at = more.here in
          record {
            batch = more.batch;
            here = (suc at.0, let lt = at.1 in omega arith, at.2);
            frame
                = more.frame;
            failed = more.failed;
          }
    ] refl e

pub due_here : (cut : Cut) (q : QueueView) → cut_due q ≡ Some cut → HasFailed cut q.batches
due_here cut q e = elim (list_any (λ (b : Batch). is_sent b.stage) q.batches) as
    (λ t. cond t None (first_failed q.batches) ≡ Some cut → HasFailed cut q.batches) [
      | true ↦ λ is. no_failed cut is
      | false ↦ λ is. failed_here cut q.batches is
    ] e

-- the frame of the cut stands in the log
pub due_between : (first : ℕ) (cut : Cut) (q : QueueView) → AreDense first q.frame q.number q.batches
    → cut_due q ≡ Some cut
    → (first ≤ cut.frame) × (cut.frame < q.frame) × (cut.frame < NUMBER_LIMIT)
due_between first cut q dense e =
    let at = due_here cut q e in
    let b = (dense_at first q.frame q.number q.batches at.batch dense at.here).1
    (failed_unkept at.batch.stage at.failed) in
    let same = at.frame in
    let one = b.from in
    let two = b.before in
    let three = b.numbered in
    (omega arith, omega arith, subst (λ n. n < NUMBER_LIMIT) same three)

past_is : (frame : ℕ) → frame < NUMBER_LIMIT → frame < past frame
past_is frame lt = elim (nat_lt frame NUMBER_LIMIT) as
    (λ t. nat_lt frame NUMBER_LIMIT ≡ t → frame < cond t (frame + 1) frame) [
      | true ↦ λ e. omega arith
      | false ↦ λ e. let ge
          = ltb-false frame NUMBER_LIMIT e in absurd (over frame NUMBER_LIMIT ge lt)
    ] refl
  where
    over : (a b : ℕ) → b ≤ a → a < b → ⊥
    over a b ge lt = omega arith

pub late_first : (first : ℕ) (cut : Cut) (q : QueueView) → AreDense first q.frame q.number q.batches
    → cut_due q ≡ Some cut
    → IsRange cut q.batches → AreLate cut.frame (after_cut cut q)
late_first first cut q dense due range = record {
  each = all_mapped (cut_off cut) (IsAtCut cut) (IsLate cut.frame) (late_behind cut) q.batches range.each;
  next = past_is cut.frame (due_between first cut q dense due).2;
}
