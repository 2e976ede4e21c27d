-- Each batch stands where its frame is in the log, and what is told as logged stands behind nothing that is not synced.
use Rattle.std.proofs.lemmas.Bool.Decides.{nat_tests}
use Rattle.sk_batches.proofs.Names.{same_Some, AllByRecursion, and_right, none-some, ◌≡◌, ltb, ℕ, ◌+◌, ◌<◌, ◌≤◌, Bool}
use Rattle.sk_batches.proofs.Names.{true, false, cond, ◌&&◌, List, [], ◌∷◌, ◌++◌, map, Option, Some, None, inl, inr}
use Rattle.sk_batches.proofs.Names.{refl, sym, ◌∙◌, ap, subst, arith, ◌⊎◌, ◌==◌, nat_lt, filter, list_any, true≢false}
use Rattle.sk_batches.proofs.Names.{false≢true, eqb-true, eq-eqb, or_left, or_right, lt-ltb, Stage, Kept, Sent}
use Rattle.sk_batches.proofs.Names.{Synced, Failed, Refused, Batch, Cut, RecordView, kept, QueueView, send, tell}
use Rattle.sk_batches.proofs.Names.{awaits, cut_off, first_failed, last_in, is_kept, is_sent, is_failed, is_decided}
use Rattle.sk_batches.proofs.Names.{kept_records, left, past, Call, Appends, Withdraws, Takes, Syncs, Fails, Decides}
use Rattle.sk_batches.proofs.Names.{Cuts, Stops, Happens, Runs, Story, story_after, synced_after, with_decided}
use Rattle.sk_batches.proofs.Names.{with_oldest, has, LogsWhatIsSynced, NoneIsKept, NUMBER_LIMIT, and_parts, and_from}

-- ---- tests

pub sent_undecided : (s : Stage) → is_sent s ≡ true → is_decided s ≡ false
sent_undecided Synced e = absurd (false≢true e)
sent_undecided Refused e = absurd (false≢true e)
sent_undecided s e = refl

pub sent_unkept : (s : Stage) → is_sent s ≡ true → is_kept s ≡ false
sent_unkept Kept e = absurd (false≢true e)
sent_unkept s e = refl

decided_unkept : (s : Stage) → is_decided s ≡ true → is_kept s ≡ false
decided_unkept Kept e = absurd (false≢true e)
decided_unkept s e = refl

pub failed_undecided : (s : Stage) → is_failed s ≡ true → is_decided s ≡ false
failed_undecided Synced e = absurd (false≢true e)
failed_undecided Refused e = absurd (false≢true e)
failed_undecided s e = refl

pub failed_unkept : (s : Stage) → is_failed s ≡ true → is_kept s ≡ false
failed_unkept Kept e = absurd (false≢true e)
failed_unkept s e = refl

pub kept_unfailed : (s : Stage) → is_kept s ≡ true → is_failed s ≡ false
kept_unfailed Failed e = absurd (false≢true e)
kept_unfailed s e = refl

-- what is not to be sent again, not waited for and not failed is decided
pub else_decided : (s : Stage) → is_kept s ≡ false → is_sent s ≡ false → is_failed s ≡ false → is_decided s ≡ true
else_decided Kept a b c = absurd (true≢false a)
else_decided Sent a b c = absurd (true≢false b)
else_decided Failed a b c = absurd (true≢false c)
else_decided s a b c = refl

-- ---- frames that are synced

-- all from f up to n
record AllTold (synced : List ℕ) (f n : ℕ) : Type 0 where
  pub least : f ≤ n
  pub told : (k : ℕ) → f ≤ k → k < n → has k synced ≡ true

none_told : (synced : List ℕ) (f : ℕ) → AllTold synced f f
none_told synced f = record { least = omega arith; told = λ k a b. absurd (omega arith) }

join : (synced : List ℕ) (a b c : ℕ) → AllTold synced a b → AllTold synced b c → AllTold synced a c
join synced a b c x y = grind (arith, nat_tests, ltb)

one_told : (synced : List ℕ) (f n : ℕ) → AllTold synced f n → has n synced ≡ true → AllTold synced f (n + 1)
one_told synced f n x here = grind (arith, nat_tests, ltb)

more_told : (synced more : List ℕ) (f n : ℕ) → ((k : ℕ) → k < n → has k synced ≡ true → has k more ≡ true) → AllTold synced f n → AllTold more f n
more_told synced more f n grows x = record { least = x.least; told = λ k le lt. grows k lt (x.told k le lt) }

-- those below a frame stay
pub stays_below : (frame k : ℕ) (ns : List ℕ) → k < frame → has k ns ≡ true → has k (filter (λ n. nat_lt n frame) ns) ≡ true
stays_below frame k [] lt here = here
stays_below frame k (n ∷ ns) lt here = grind (arith, nat_tests, stays_below frame k ns lt)

-- ---- the batches in the log

abbrev Before : Type 0
Before = Option (ℕ × Stage)

abbrev no_batch : Before
no_batch = None

-- the frame is the next, but for cuts, or that of the batch before, as far as that one; and it is synced where it is decided
record IsPlaced (synced : List ℕ) (f : ℕ) (prev : Before) (frame : ℕ) (stage : Stage) : Type 0 where
  pub small : frame < NUMBER_LIMIT
  pub place : AllTold synced f frame ⊎ (prev ≡ Some (frame, stage))
  pub told : is_decided stage ≡ true → has frame synced ≡ true

abbrev AllKept : List Batch → Type 0
AllKept = AllByRecursion (λ b. is_kept b.stage ≡ true)

-- from frame f on, behind a batch, where all before are decided or not: each batch is placed, up to those that are to be sent again
abbrev InLog : List ℕ → ℕ → Before → Bool → List Batch → ℕ → Type 0
InLog synced f prev calm [] next = AllTold synced f next
InLog synced f prev calm (b ∷ bs) next =
    (is_kept b.stage ≡ false → IsPlaced synced f prev b.frame b.stage × InLog synced (b.frame + 1) (Some (b.frame, b.stage)) (calm && is_decided b.stage) bs next)
    × (is_kept b.stage ≡ true → (calm ≡ true) × AllTold synced f next × AllKept bs)

-- ---- a frame is taken

module _ (synced : List ℕ) (number next : ℕ) (records : List RecordView) (small : next < NUMBER_LIMIT) where
  abbrev opened : Batch
  opened = record { number = number; frame = next; stage = Sent; records = records }

  undecided : {P : Type 0} → is_decided Sent ≡ true → P
  undecided e = absurd (false≢true e)

  unkept : {P : Type 0} → is_kept Sent ≡ true → P
  unkept e = absurd (false≢true e)

  sent_behind : (calm : Bool) (bs : List Batch) → AllKept bs → InLog synced (next + 1) (Some (next, Sent)) calm (map (send next) bs ++ opened ∷ []) (next + 1)
  sent_behind calm [] all = (λ _. (record { small = small; place = inr refl; told = undecided }, none_told synced (next + 1)), unkept)
  sent_behind calm (b ∷ bs) all = grind (arith, nat_tests, undecided, sent_behind (calm && false) bs all.1, unkept)

  taken : (f : ℕ) (prev : Before) (calm : Bool) (bs : List Batch) → InLog synced f prev calm bs next → InLog synced f prev calm (map (send next) bs ++ opened ∷ []) (next + 1)
  taken f prev calm [] so = (λ _. (record { small = small; place = inl so; told = undecided }, none_told synced (next + 1)), unkept)
  taken f prev calm (b ∷ bs) so =
      let one = taken (b.frame + 1) (Some (b.frame, b.stage)) (calm && is_decided b.stage) bs in
      grind (arith, nat_tests, undecided, sent_behind (calm && false) bs, unkept, one)

-- ---- a frame is told of

abbrev told_before : ℕ → Stage → Before → Before
told_before frame stage None = None
told_before frame stage (Some x) = Some (x.0, cond (is_sent x.1 && (x.0 == frame)) stage x.1)

kept_told : (frame : ℕ) (stage : Stage) (bs : List Batch) → AllKept bs → AllKept (map (tell frame stage) bs)
kept_told frame stage [] all = all
kept_told frame stage (b ∷ bs) all = grind (arith, nat_tests, sent_unkept b.stage, kept_told frame stage bs all.1)

module _ (synced more : List ℕ) (frame : ℕ) (stage : Stage) (grows : (k : ℕ) → has k synced ≡ true → has k more ≡ true) (unkept : is_kept stage ≡ false)
    (now : is_decided stage ≡ true → has frame more ≡ true) where
  told : (f : ℕ) (prev : Before) (calm calmer : Bool) (bs : List Batch) (next : ℕ) → (calm ≡ true → calmer ≡ true) → InLog synced f prev calm bs next
      → InLog more f (told_before frame stage prev) calmer (map (tell frame stage) bs) next
  told f prev calm calmer [] next calms so = more_told synced more f next (λ k lt. grows k) so
  told f prev calm calmer (b ∷ bs) next calms so =
      elim (awaits frame b) as (λ t. awaits frame b ≡ t → InLog more f (told_before frame stage prev) calmer (cond t (record b { stage = stage }) b ∷ map (tell frame stage) bs) next) [
        | true ↦ λ is.
            let sent = (and_parts (is_sent b.stage) (b.frame == frame) is).0 in
            let same = eqb-true b.frame frame (and_parts (is_sent b.stage) (b.frame == frame) is).1 in
            let old = so.0 (sent_unkept b.stage sent) in
            let changes : cond (is_sent b.stage && (b.frame == frame)) stage b.stage ≡ stage = ap (λ t. cond t stage b.stage) is in (
              λ _. (
                record {
                  small = old.0.small;
                  place = elim old.0.place as (λ _. AllTold more f b.frame ⊎ (told_before frame stage prev ≡ Some (b.frame, stage))) [
                    | inl all ↦ inl (more_told synced more f b.frame (λ k lt. grows k) all)
                    | inr was ↦ inr (ap (told_before frame stage) was ∙ ap (λ (s : Stage). Some (b.frame, s)) changes)
                  ];
                  told = λ e. subst (λ n. has n more ≡ true) (sym same) (now e);
                },
                subst (λ s. InLog more (b.frame + 1) (Some (b.frame, s)) (calmer && is_decided stage) (map (tell frame stage) bs) next) changes
                    (told (b.frame + 1) (Some (b.frame, b.stage)) (calm && is_decided b.stage) (calmer && is_decided stage) bs next
                    (λ e. absurd (true≢false (sym (and_parts calm (is_decided b.stage) e).1 ∙ sent_undecided b.stage sent))) old.1),
              ),
              λ e. absurd (true≢false (sym e ∙ unkept)),
            )
        | false ↦ λ is.
            let stays : cond (is_sent b.stage && (b.frame == frame)) stage b.stage ≡ b.stage = ap (λ t. cond t stage b.stage) is in (
              λ n.
                  let old = so.0 n in (
                    record {
                      small = old.0.small;
                      place = elim old.0.place as (λ _. AllTold more f b.frame ⊎ (told_before frame stage prev ≡ Some (b.frame, b.stage))) [
                        | inl all ↦ inl (more_told synced more f b.frame (λ k lt. grows k) all)
                        | inr was ↦ inr (ap (told_before frame stage) was ∙ ap (λ (s : Stage). Some (b.frame, s)) stays)
                      ];
                      told = λ e. grows b.frame (old.0.told e);
                    },
                    subst (λ s. InLog more (b.frame + 1) (Some (b.frame, s)) (calmer && is_decided b.stage) (map (tell frame stage) bs) next) stays
                        (told (b.frame + 1) (Some (b.frame, b.stage)) (calm && is_decided b.stage) (calmer && is_decided b.stage) bs next
                        (λ e. and_from calmer (is_decided b.stage) (calms (and_parts calm (is_decided b.stage) e).0) (and_parts calm (is_decided b.stage) e).1) old.1),
                  ),
              λ k. (calms (so.1 k).0, more_told synced more f next (λ k lt. grows k) (so.1 k).1, kept_told frame stage bs (so.1 k).2),
            )
      ] refl

-- ---- the oldest is let go of

lower : (synced : List ℕ) (first p : ℕ) (stage : Stage) (calm : Bool) (bs : List Batch) (next : ℕ) → first ≤ p → AllTold synced first (p + 1)
    → InLog synced (p + 1) (Some (p, stage)) calm bs next → InLog synced first None calm bs next
lower synced first p stage calm [] next le all so = join synced first (p + 1) next all so
lower synced first p stage calm (b ∷ bs) next le all so = (
  λ n.
      let old = so.0 n in (
        record {
          small = old.0.small;
          place = elim old.0.place as (λ _. AllTold synced first b.frame ⊎ (no_batch ≡ Some (b.frame, b.stage))) [
            | inl more ↦ inl (join synced first (p + 1) b.frame all more)
            | inr was ↦ let same : p ≡ b.frame = ap (λ (x : ℕ × Stage). x.0) (same_Some _ _ was) in inl (record { least = omega arith; told = λ k a c. all.told k a (omega arith) })
          ];
          told = old.0.told;
        },
        old.1,
      ),
  λ k. ((so.1 k).0, join synced first (p + 1) next all (so.1 k).1, (so.1 k).2),
)

-- where the oldest is decided, all frames up to its are synced
oldest_told : (synced : List ℕ) (first frame : ℕ) (stage : Stage) → IsPlaced synced first None frame stage → is_decided stage ≡ true → AllTold synced first (frame + 1)
oldest_told synced first frame stage placed is = grind (arith, nat_tests, one_told synced first frame)

popped : (synced : List ℕ) (first : ℕ) (bs : List Batch) (next : ℕ) → InLog synced first None true bs next → InLog synced first None true (left bs) next
popped synced first [] next so = so
popped synced first (b ∷ bs) next so =
    let one = lower synced first b.frame b.stage true bs next in
    grind (arith, nat_tests, decided_unkept b.stage, oldest_told synced first b.frame b.stage, one)

-- ---- a cut

module _ (synced : List ℕ) (c : Cut) (small : c.frame < NUMBER_LIMIT) where
  abbrev cut_synced : List ℕ
  cut_synced = synced_after c synced

  the_cut : (n : ℕ) → n ≡ c.frame → has n cut_synced ≡ true
  the_cut n same = or_left (c.frame == n) (has n (filter (λ m. nat_lt m c.frame) synced)) (eq-eqb c.frame n (sym same))

  earlier : (k n : ℕ) → n ≤ c.frame → k < n → has k synced ≡ true → has k cut_synced ≡ true
  earlier k n le lt here = or_right (c.frame == k) (has k (filter (λ m. nat_lt m c.frame) synced)) (stays_below c.frame k synced (omega arith) here)

  past_cut : past c.frame ≡ c.frame + 1
  past_cut = ap (λ t. cond t (c.frame + 1) c.frame) (lt-ltb c.frame NUMBER_LIMIT small)

  behind_cut : AllTold cut_synced (c.frame + 1) (past c.frame)
  behind_cut = subst (λ n. AllTold cut_synced (c.frame + 1) n) (sym past_cut) (none_told cut_synced (c.frame + 1))

  abbrev kept_batch : Batch → Batch
  kept_batch b = record b { stage = Kept; records = kept c.first c.last b.records }

  cut_kept : (b : Batch) → c.frame < b.frame → cut_off c b ≡ kept_batch b
  cut_kept b lt = grind (arith, nat_tests, ltb b.frame c.frame)

  cut_refused : (b : Batch) → b.frame ≡ c.frame → cut_off c b ≡ record b { stage = Refused }
  cut_refused b same = grind (arith, nat_tests, ltb b.frame c.frame)

  cut_stays : (b : Batch) → b.frame < c.frame → cut_off c b ≡ b
  cut_stays b lt = ap (λ t. cond t b (cond (b.frame == c.frame) (record b { stage = Refused }) (kept_batch b))) (lt-ltb b.frame c.frame lt)

  -- where a batch stands behind one of frame p
  no_earlier : (p frame : ℕ) (before stage : Stage) → IsPlaced synced (p + 1) (Some (p, before)) frame stage → p ≤ frame
  no_earlier p frame before stage placed = grind (arith, nat_tests)

  rest_kept : (p : ℕ) (before : Stage) (calm : Bool) (bs : List Batch) (next : ℕ) → calm ≡ false → c.frame < p → InLog synced (p + 1) (Some (p, before)) calm bs next
      → AllKept (map (cut_off c) bs)
  rest_kept p before calm [] next rough lt so = tt
  rest_kept p before calm (b ∷ bs) next rough lt so =
      let one = rest_kept b.frame b.stage (calm && is_decided b.stage) bs next (ap (λ t. t && is_decided b.stage) rough)
      in
      grind (arith, nat_tests, no_earlier p b.frame before b.stage, cut_kept b, one)

  -- what stands behind a batch of the frame that is cut off
  cut_behind : (before : Stage) (calm calmer : Bool) (bs : List Batch) (next : ℕ) → calm ≡ false → calmer ≡ true → InLog synced (c.frame + 1) (Some (c.frame, before)) calm bs next
      → InLog cut_synced (c.frame + 1) (Some (c.frame, Refused)) calmer (map (cut_off c) bs) (past c.frame)
  cut_behind before calm calmer [] next rough calms so = behind_cut
  cut_behind before calm calmer (b ∷ bs) next rough calms so =
      let one = no_earlier c.frame b.frame before b.stage in
      let two = cut_behind b.stage (calm && is_decided b.stage) (calmer && true) bs next in
      let three = rest_kept b.frame b.stage (calm && is_decided b.stage) bs next in
      grind (arith, nat_tests, one, two, cut_refused b, the_cut b.frame, cut_kept b, behind_cut, three)

pub kept_unfailing : (bs : List Batch) → AllKept bs → first_failed bs ≡ None
kept_unfailing [] all = refl
kept_unfailing (b ∷ bs) all = grind (arith, nat_tests, kept_unfailed b.stage all.0, kept_unfailing bs all.1)

-- the batch before is of the frame before, and decided
abbrev Follows : ℕ → Before → Type 0
Follows f None = Unit {0}
Follows f (Some x) = (f ≡ x.0 + 1) × (is_decided x.1 ≡ true)

followed : (f : ℕ) (prev : Before) (x : ℕ × Stage) → prev ≡ Some x → Follows f prev → (f ≡ x.0 + 1) × (is_decided x.1 ≡ true)
followed f prev x same so = subst (Follows f) same so

record IsCut (synced : List ℕ) (c : Cut) (f : ℕ) (prev : Before) (calmer : Bool) (bs : List Batch) : Type 0 where
  pub least : f ≤ c.frame
  pub small : c.frame < NUMBER_LIMIT
  pub placed : InLog (synced_after c synced) f prev calmer (map (cut_off c) bs) (past c.frame)

module _ (synced : List ℕ) (c : Cut) where
  -- the failed one is the first of its frame
  cut_here : (f : ℕ) (prev : Before) (calm calmer : Bool) (b : Batch) (bs : List Batch) (next : ℕ) → b.frame ≡ c.frame → is_failed b.stage ≡ true → calmer ≡ true → Follows f prev
      → IsPlaced synced f prev b.frame b.stage → InLog synced (b.frame + 1) (Some (b.frame, b.stage)) (calm && is_decided b.stage) bs next → IsCut synced c f prev calmer (b ∷ bs)
  cut_here f prev calm calmer b bs next same fails calms follows placed behind =
      let small : c.frame < NUMBER_LIMIT = subst (λ n. n < NUMBER_LIMIT) same placed.small in
      let all : AllTold synced f b.frame = elim placed.place as (λ _. AllTold synced f b.frame) [
        | inl all ↦ all
        | inr was ↦ absurd (true≢false (sym (followed f prev (b.frame, b.stage) was follows).1 ∙ failed_undecided b.stage fails))
      ] in
      let rough = and_right calm (is_decided b.stage) (failed_undecided b.stage fails) in
      let rest = cut_behind synced c small b.stage (calm && is_decided b.stage) (calmer && true) bs next rough (and_from calmer true calms refl)
      (subst (λ n. InLog synced (n + 1) (Some (n, b.stage)) (calm && is_decided b.stage) bs next) same behind) in
      record {
        least = subst (λ n. f ≤ n) same all.least;
        small = small;
        placed = subst (λ (x : Batch). InLog (synced_after c synced) f prev calmer (x ∷ map (cut_off c) bs) (past c.frame)) (sym (cut_refused synced c small b same)) (
          λ _. (
            record {
              small = placed.small;
              place = inl (more_told synced (synced_after c synced) f b.frame (λ k lt. earlier synced c small k b.frame (subst (λ n. b.frame ≤ n) same (omega arith)) lt) all);
              told = λ _. the_cut synced c small b.frame same;
            },
            subst (λ n. InLog (synced_after c synced) (n + 1) (Some (n, Refused)) (calmer && true) (map (cut_off c) bs) (past c.frame)) (sym same) rest,
          ),
          λ e. absurd (false≢true e),
        );
      }

  -- one before it is decided, and stays
  cut_later : (f : ℕ) (prev : Before) (calmer : Bool) (b : Batch) (bs : List Batch) → is_kept b.stage ≡ false → Follows f prev → IsPlaced synced f prev b.frame b.stage
      → IsCut synced c (b.frame + 1) (Some (b.frame, b.stage)) (calmer && is_decided b.stage) bs → IsCut synced c f prev calmer (b ∷ bs)
  cut_later f prev calmer b bs unkept follows placed later =
      let small = later.small in
      let one = later.least in
      let lt : b.frame < c.frame = omega arith in
      let least : f ≤ c.frame = elim placed.place as (λ _. f ≤ c.frame) [
        | inl all ↦ let two = all.least in omega arith
        | inr was ↦ let two = (followed f prev (b.frame, b.stage) was follows).0 in omega arith
      ] in
      record {
        least = least;
        small = small;
        placed = subst (λ (x : Batch). InLog (synced_after c synced) f prev calmer (x ∷ map (cut_off c) bs) (past c.frame)) (sym (cut_stays synced c small b lt)) (
          λ _. (
            record {
              small = placed.small;
              place = elim placed.place as (λ _. AllTold (synced_after c synced) f b.frame ⊎ (prev ≡ Some (b.frame, b.stage))) [
                | inl all ↦ inl (more_told synced (synced_after c synced) f b.frame (λ k less. earlier synced c small k b.frame (omega arith) less) all)
                | inr was ↦ inr was
              ];
              told = λ e. earlier synced c small b.frame c.frame (omega arith) lt (placed.told e);
            },
            later.placed,
          ),
          λ e. absurd (true≢false (sym e ∙ unkept)),
        );
      }

  cut_all : (f : ℕ) (prev : Before) (calm calmer : Bool) (bs : List Batch) (next : ℕ) → calmer ≡ true → Follows f prev → InLog synced f prev calm bs next
      → list_any (λ (b : Batch). is_sent b.stage) bs ≡ false → first_failed bs ≡ Some c → IsCut synced c f prev calmer bs
  cut_all f prev calm calmer [] next calms follows so none is = absurd (none-some c is)
  cut_all f prev calm calmer (b ∷ bs) next calms follows so none is =
      let one = cut_here f prev calm calmer b bs next in
      let two = cut_later f prev calmer b bs in
      let three = cut_all (b.frame + 1) (Some (b.frame, b.stage)) (calm && is_decided b.stage) (calmer && is_decided
      b.stage) bs next in
      grind (arith, nat_tests, failed_unkept b.stage, one, kept_unfailing bs, else_decided b.stage, two, three)

-- ---- any calls

oldest_synced : (stage : Stage) (b : Batch) (s : Story) → (with_oldest stage b s).synced ≡ s.synced
oldest_synced Kept b s = refl
oldest_synced stage b s = refl

pub decided_synced : (bs : List Batch) (s : Story) → (with_decided bs s).synced ≡ s.synced
decided_synced [] s = refl
decided_synced (b ∷ bs) s = oldest_synced b.stage b s

abbrev AreLogged : ℕ → QueueView → Story → Type 0
AreLogged first q s = InLog s.synced first None true q.batches q.frame

pub due_cut : (sent : Bool) (found : Option Cut) (c : Cut) → cond sent None found ≡ Some c → (sent ≡ false) × (found ≡ Some c)
due_cut true found c is = absurd (none-some c is)
due_cut false found c is = (refl, is)

step : (first : ℕ) (q : QueueView) (s : Story) (c : Call) (m : QueueView) → Happens q c m → AreLogged first q s → AreLogged first m (story_after q c s)
step first q s (Appends added) m h so = subst (λ x. AreLogged first x (story_after q (Appends added) s)) (sym h) so
step first q s Withdraws m h so = subst (λ x. AreLogged first x (story_after q Withdraws s)) (sym h) so
step first q s Takes m h so = subst (λ x. AreLogged first x s) (sym h.1) (taken s.synced q.number q.frame q.records h.0 first None true q.batches so)
step first q s (Syncs frame) m h so =
    subst (λ x. AreLogged first x (story_after q (Syncs frame) s)) (sym h.1)
    (told s.synced (frame ∷ s.synced) frame Synced (λ k here. or_right (frame == k) (has k s.synced) here) refl (λ _. or_left (frame == frame) (has frame s.synced) (eq-eqb frame frame refl)) first None true true q.batches q.frame (λ e. e) so)
step first q s (Fails frame) m h so =
    subst (λ x. AreLogged first x s) (sym h.1)
    (told s.synced s.synced frame Failed (λ k here. here) refl (λ e. absurd (false≢true e)) first None true true q.batches q.frame (λ e. e) so)
step first q s Decides m h so =
    grind (arith, nat_tests, decided_synced q.batches s, popped s.synced first q.batches q.frame so)
step first q s (Cuts cut) m h so =
    let one = due_cut (list_any (λ (b : Batch). is_sent b.stage) q.batches) (first_failed q.batches) cut h.0 in
    grind (arith, nat_tests, one, cut_all s.synced cut first None true true q.batches q.frame refl tt so)
step first q s Stops m h so = subst (λ x. AreLogged first x s) (sym h) so

run : (first : ℕ) (cs : List Call) (q : QueueView) (s : Story) (last : QueueView) (told : Story) → Runs q s cs last told → AreLogged first q s → AreLogged first last told
run first [] q s last told r so = subst (λ x. AreLogged first x told) r.0 (subst (λ t. AreLogged first q t) r.1 so)
run first (c ∷ cs) q s last told r so = run first cs r.0 (story_after q c s) last told r.2 (step first q s c r.0 r.1 so)

pub logs_what_is_synced : LogsWhatIsSynced
logs_what_is_synced most most_bytes frame cs q s b bs n runs oldest synced from upto =
    grind (arith, nat_tests, run frame cs, none_told [] frame, oldest_told s.synced frame b.frame b.stage)

-- ---- none is to be sent again where a cut is due

none_of : (b : Batch) (bs : List Batch) → is_kept b.stage ≡ false → kept_records bs ≡ [] → kept_records (b ∷ bs) ≡ []
none_of b bs unkept rest = ap (λ t. cond t b.records [] ++ kept_records bs) unkept ∙ rest

-- behind one that is not decided
rough_none : (synced : List ℕ) (f : ℕ) (prev : Before) (bs : List Batch) (next : ℕ) → InLog synced f prev false bs next → kept_records bs ≡ []
rough_none synced f prev [] next so = refl
rough_none synced f prev (b ∷ bs) next so =
    grind (arith, nat_tests, none_of b bs, rough_none synced (b.frame + 1) (Some (b.frame, b.stage)) bs next)

unkept_at_cut : (synced : List ℕ) (f : ℕ) (prev : Before) (calm : Bool) (bs : List Batch) (next : ℕ) (c : Cut) → InLog synced f prev calm bs next
    → first_failed bs ≡ Some c → kept_records bs ≡ []
unkept_at_cut synced f prev calm [] next c so is = absurd (none-some c is)
unkept_at_cut synced f prev calm (b ∷ bs) next c so is =
    let found : Cut = record { frame = b.frame; first = b.number; last = last_in b.frame b.number bs } in
    elim (is_failed b.stage) as (λ t. is_failed b.stage ≡ t → cond t (Some found) (first_failed bs) ≡ Some c → kept_records (b ∷ bs) ≡ []) [
      | true ↦ λ fails here.
          let unkept = failed_unkept b.stage fails in
          none_of b bs unkept
          (rough_none synced (b.frame + 1) (Some (b.frame, b.stage)) bs next
          (subst (λ t. InLog synced (b.frame + 1) (Some (b.frame, b.stage)) t bs next) (and_right calm (is_decided b.stage) (failed_undecided b.stage fails)) (so.0 unkept).1))
      | false ↦ λ stands later.
          elim (is_kept b.stage) as (λ t. is_kept b.stage ≡ t → kept_records (b ∷ bs) ≡ []) [
            | true ↦ λ k. absurd (none-some c (sym (kept_unfailing bs (so.1 k).2) ∙ later))
            | false ↦ λ n. none_of b bs n (unkept_at_cut synced (b.frame + 1) (Some (b.frame, b.stage)) (calm && is_decided b.stage) bs next c (so.0 n).1 later)
          ] refl
    ] refl is

pub none_is_kept : NoneIsKept
none_is_kept most most_bytes frame cs q s c runs due =
    let so = run frame cs _ _ q s runs (none_told [] frame) in
    let parts = due_cut (list_any (λ (b : Batch). is_sent b.stage) q.batches) (first_failed q.batches) c due in
    unkept_at_cut s.synced frame None true q.batches q.frame c so parts.1
