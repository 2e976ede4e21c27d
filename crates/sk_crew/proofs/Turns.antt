-- A worker in its rounds: how many turns it began, and whether each turn of a round was answered `Ended`.
use Rattle.sk_crew.proofs.Names.{same_Some, ◌⊎◌, ◌<◌, ◌≤◌, ℕ, zero, suc, ◌+◌, ◌*◌, ◌^◌, Bool, true, false, ◌&&◌, nat_lt}
use Rattle.sk_crew.proofs.Names.{List, [], ◌∷◌, ◌++◌, length, Result, Ok, Err, Some, None, slice_get, option_and_then}
use Rattle.sk_crew.proofs.Names.{if◌then◌else◌, inl, inr, refl, sym, ap, ◌∙◌, subst, arith, Contains, unary_clauses}
use Rattle.sk_crew.proofs.Names.{lt_of_mul-lt-mul_left, ltb-true, ltb-false, leb-true, leb-false, sum_by-append}
use Rattle.sk_crew.proofs.Names.{Contains-push, Contains-push_cases, Contains-append_left, Contains-append_cases}
use Rattle.sk_crew.proofs.Names.{append_assoc, append-nil, slice_get_within, Refusal, HandIn, Turn, Answered, Turned}
use Rattle.sk_crew.proofs.Names.{HandedIn, Receipt, WorkerView, Told, TurnTold, made, entry, receipt, begins_turn}
use Rattle.sk_crew.proofs.Names.{next_turn, Rounds, fresh, due, after, is_ended, RunsAhead, TakesTurn, turn_count}
use Rattle.sk_crew.proofs.Names.{turns_of, HasTurn, AllEnded, IsOver, TookTurns}
use Rattle.std.specs.Prelude.{◌≡◌}
use Rattle.sk_plain.specs.declared.refusal.Refusal.TheVariants as refusals
use Rattle.sk_workers.specs.declared.entry.DeskCall.TheVariants as calls

-- ---- receipts of a round

no_member : {A : Type 0} (x : A) → Contains [] x → ⊥
no_member x h = let lt = h.1 in omega arith

none_ended : AllEnded []
none_ended r pid there is = absurd (no_member r there)

-- among some last receipts each turn was answered `Ended`, and each of the worker's processes at its first k places has a turn
abbrev pub Ends : ℕ → ℕ → List ℕ → ℕ → List Receipt → Type 0
Ends workers number processes k rs =
    (before : List Receipt) × (last : List Receipt) × (rs ≡ before ++ last) × AllEnded last
    × ((j pid : ℕ) → j < k → slice_get processes (number + workers * j) ≡ Some pid → HasTurn last pid)

none_yet : (workers number : ℕ) (processes : List ℕ) (rs : List Receipt) → Ends workers number processes 0 rs
none_yet workers number processes rs = (rs, [], sym (append-nil rs), none_ended, λ j pid lt. absurd (omega (arith, lt)))

-- with other receipts behind them, of which none is for a turn that was not answered so
pub ends_more : (workers number : ℕ) (processes : List ℕ) (k : ℕ) (rs more : List Receipt) → AllEnded more → Ends workers number processes k rs
    → Ends workers number processes k (rs ++ more)
ends_more workers number processes k rs more ended so = (
  so.0,
  so.1 ++ more,
  ap (λ (xs : List Receipt). xs ++ more) so.2 ∙ append_assoc so.0 so.1 more,
  λ r pid there is. elim (Contains-append_cases so.1 more r there) [ inl old ↦ so.3 r pid old is | inr new ↦ ended r pid new is ],
  λ j pid lt at. (let has = so.4 j pid lt at in (has.0, Contains-append_left so.1 more has.0 has.1, has.2)),
)

one_more : (r x : Receipt) → Contains (r ∷ []) x → r ≡ x
one_more r x there = elim (Contains-push_cases [] r x there) [ inl old ↦ absurd (no_member x old) | inr is ↦ is ]

-- a hand-in is no turn
hand_in_ended : (place : ℕ) (worker pid count : ℕ) (answer : Answered) (taken : ℕ) → AllEnded (receipt place (entry worker (calls.HandIn pid count) answer taken) ∷ [])
hand_in_ended place worker pid count answer taken r other there is =
    let same = one_more (receipt place (entry worker (calls.HandIn pid count) answer taken)) r there in
    absurd (let no : calls.HandIn pid count ≡ calls.Turn other = ap (λ (x : Receipt). x.entry.call) same ∙ is in cc)

turn_ended : (place : ℕ) (worker pid : ℕ) (taken : ℕ) → AllEnded (receipt place (entry worker (calls.Turn pid) (Turned (Err refusals.Ended)) taken) ∷ [])
turn_ended place worker pid taken r other there is =
    let same = one_more (receipt place (entry worker (calls.Turn pid) (Turned (Err refusals.Ended)) taken)) r there in
    ap (λ (x : Receipt). x.entry.answer) (sym same)

ahead_ends : (workers number : ℕ) (processes : List ℕ) (k n pid : ℕ) (w v : WorkerView) → RunsAhead n pid w v
    → Ends workers number processes k w.receipts → Ends workers number processes k v.receipts
ahead_ends workers number processes k n pid w v (inl same) so = subst (λ (x : WorkerView). Ends workers number processes k x.receipts) (sym same) so
ahead_ends workers number processes k n pid w v (inr ran) so =
    let told = ran.4 in
    subst (λ (x : WorkerView). Ends workers number processes k x.receipts) (sym told.3)
    (ends_more workers number processes k w.receipts _ (hand_in_ended told.1 w.number pid ran.0 (HandedIn ran.1) told.2) so)

below : (j k : ℕ) → j < suc k → (j < k) ⊎ (j ≡ k)
below j k lt = elim (nat_lt j k) as (λ b. nat_lt j k ≡ b → (j < k) ⊎ (j ≡ k)) [
  | true ↦ λ is. inl (ltb-true j k is)
  | false ↦ λ is. inr (omega (arith, ltb-false j k is, lt))
] refl

-- a turn of the process at the next place, answered `Ended`
turn_ends : (workers number : ℕ) (processes : List ℕ) (k pid : ℕ) (v w' : WorkerView) → slice_get processes (number + workers * k) ≡ Some pid
    → Told v (calls.Turn pid) (Turned (Err refusals.Ended)) w' → Ends workers number processes k v.receipts → Ends workers number processes (suc k) w'.receipts
unfolding ends_more
turn_ends workers number processes k pid v w' at told so =
    let new = receipt told.1 (entry v.number (calls.Turn pid) (Turned (Err refusals.Ended)) told.2) in
    let more = ends_more workers number processes k v.receipts (new ∷ []) (turn_ended told.1 v.number pid told.2) so in
    subst (λ (x : WorkerView). Ends workers number processes (suc k) x.receipts) (sym told.3) (
      so.0,
      so.1 ++ new ∷ [],
      more.2,
      more.3,
      λ j other lt there. elim (below j k lt) [
        | inl before ↦ more.4 j other before there
        | inr is ↦ (new, Contains-push so.1 new, ap calls.Turn (same_Some pid other (sym at ∙ ap (λ i. slice_get processes (number + workers * i)) (sym is) ∙ there)))
      ],
    )

ended_why : (why : Refusal) → is_ended (Err why) ≡ true → why ≡ refusals.Ended
ended_why refusals.Ended is = refl
ended_why s is = absurd (cc)

ended_answer : (answer : Result Turn Refusal) → is_ended answer ≡ true → answer ≡ Err refusals.Ended
ended_answer (Ok turn) is = absurd (cc)
ended_answer (Err why) is = ap (λ (w : Refusal). Err w) (ended_why why is)

-- a turn that was answered `Ended` has its receipt
told_ended : (answer : Result Turn Refusal) (v : WorkerView) (pid : ℕ) (w' : WorkerView) → is_ended answer ≡ true → TurnTold answer v pid w'
    → Told v (calls.Turn pid) (Turned (Err refusals.Ended)) w'
told_ended answer v pid w' is (inl none) = absurd (let no : Err refusals.Memory ≡ Err refusals.Ended = sym none.0 ∙ ended_answer answer is in cc)
told_ended answer v pid w' is (inr told) = subst (λ (a : Result Turn Refusal). Told v (calls.Turn pid) (Turned a) w') (ended_answer answer is) told

-- ---- a worker in its rounds

pub record Goes (workers : ℕ) (processes : List ℕ) (number : ℕ) (r : Rounds) (w : WorkerView) : Type 0 where
  pub same : w.number ≡ number
  pub first : r.first ≡ number
  pub step : r.step ≡ workers
  pub count : r.count ≡ length processes
  pub round : ℕ
  pub at : r.at ≡ number + workers * round
  pub within : r.is_over ≡ false → r.at < r.count
  pub ends : r.is_ended ≡ true → Ends workers number processes round w.receipts
  pub over : r.is_over ≡ true → IsOver workers processes w

pub begins : (workers number count : ℕ) (processes : List ℕ) (w : WorkerView) → w.number ≡ number → count ≡ length processes
    → Goes workers processes number (fresh number workers count) w
begins workers number count processes w same many = record {
  same = same;
  first = refl;
  step = refl;
  count = many;
  round = 0;
  at = omega arith;
  within = λ begun. leb-false count number begun;
  ends = λ ended. none_yet workers number processes w.receipts;
  over = λ is. record {
    before = w.receipts;
    last = [];
    whole = sym (append-nil w.receipts);
    ended = none_ended;
    each = λ pid its.
        (let inside = slice_get_within processes (w.number + workers * its.0) pid its.1 in
        absurd (omega (arith, leb-true count number is, inside, many, same)));
  };
}

pub begins_as : (workers number count m : ℕ) (processes : List ℕ) (r : Rounds) (w : WorkerView) → r ≡ fresh m workers count → m ≡ number → w.number ≡ number
    → count ≡ length processes → Goes workers processes number r w
begins_as workers number count m processes r w is own same many =
    subst (λ (x : Rounds). Goes workers processes number x w) (sym (is ∙ ap (λ k. fresh k workers count) own)) (begins workers number count processes w same many)

further : (number workers round at step : ℕ) → step ≡ workers → at ≡ number + workers * round → at + step ≡ number + workers * suc round
further number workers round at step by is = simp unary_clauses (omega (arith, by, is))

inside_rounds : (number workers j round count at step : ℕ) → number + workers * j < count → count ≤ at + step → at + step ≡ number + workers * suc round → j < suc round
inside_rounds number workers j round count at step low high is =
    let lt : workers * j < workers * suc round = omega (arith, low, high, is) in
    lt_of_mul-lt-mul_left workers lt

-- behind the last place of a round in which each turn was answered `Ended` the rounds are over
over_now : (workers number round : ℕ) (processes : List ℕ) (at step count : ℕ) (w : WorkerView) → w.number ≡ number → count ≡ length processes
    → at + step ≡ number + workers * suc round → count ≤ at + step → Ends workers number processes (suc round) w.receipts → IsOver workers processes w
over_now workers number round processes at step count w same many is high so = record {
  before = so.0;
  last = so.1;
  whole = so.2;
  ended = so.3;
  each = λ pid its.
      (let there = subst (λ n. slice_get processes (n + workers * its.0) ≡ Some pid) same its.1 in
      let low : number + workers * its.0 < count = omega (arith, many, slice_get_within processes (number + workers * its.0) pid there) in
      so.4 its.0 pid (inside_rounds number workers its.0 round count at step low high is) there);
}

both_left : (a b : Bool) → (a && b) ≡ true → a ≡ true
both_left true b is = refl
both_left false b is = is

both_right : (a b : Bool) → (a && b) ≡ true → b ≡ true
both_right true b is = is
both_right false b is = absurd (cc)

-- after a turn of the process that is due
pub goes_on : (workers number n pid : ℕ) (processes : List ℕ) (r : Rounds) (answer : Result Turn Refusal) (w w' : WorkerView)
    → Goes workers processes number r w → r.is_over ≡ false → slice_get processes r.at ≡ Some pid → TakesTurn n answer w pid w' → w'.number ≡ w.number
    → Goes workers processes number (after (is_ended answer) r) w'
goes_on workers number n pid processes r answer w w' is not_over due took number_is =
    let e = is_ended answer in
    let next : r.at + r.step ≡ number + workers * suc is.round = further number workers is.round r.at r.step is.step is.at in
    let its : slice_get processes (number + workers * is.round) ≡ Some pid = ap (slice_get processes) (sym is.at) ∙ due in
    let ends : (r.is_ended && e) ≡ true → Ends workers number processes (suc is.round) w'.receipts = λ both.
    turn_ends workers number processes is.round pid took.0 w' its (told_ended answer took.0 pid w' (both_right r.is_ended e both) took.2)
    (ahead_ends workers number processes is.round n pid (begins_turn w) took.0 took.1 (is.ends (both_left r.is_ended e both))) in
    elim (nat_lt (r.at + r.step) r.count) as (λ (b : Bool). nat_lt (r.at + r.step) r.count ≡ b → Goes workers processes number (if b then record r { at = r.at + r.step; is_ended = r.is_ended && e } else record r { at = r.first; is_ended = true; is_over = r.is_ended && e }) w') [
      | true ↦ λ fits. record {
        same = number_is ∙ is.same;
        first = is.first;
        step = is.step;
        count = is.count;
        round = suc is.round;
        at = next;
        within = λ _. ltb-true (r.at + r.step) r.count fits;
        ends = ends;
        over = λ over. absurd (let no : false ≡ true = sym not_over ∙ over in cc);
      }
      | false ↦ λ ends_here. record {
        same = number_is ∙ is.same;
        first = is.first;
        step = is.step;
        count = is.count;
        round = 0;
        at = omega (arith, is.first);
        within = λ _. omega (arith, is.within not_over, is.at, is.first);
        ends = λ _. none_yet workers number processes w'.receipts;
        over = λ both. over_now workers number is.round processes r.at r.step r.count w' (number_is ∙ is.same) is.count next (ltb-false (r.at + r.step) r.count ends_here) (ends both);
      }
    ] refl

is_none : (processes : List ℕ) (at : ℕ) → at < length processes → slice_get processes at ≡ None → ⊥
is_none [] at lt none = absurd (omega (arith, lt))
is_none (p ∷ ps) zero lt none = cc
is_none (p ∷ ps) (suc at) lt none = is_none ps at (omega (arith, lt)) none

over_at : (processes : List ℕ) (at count : ℕ) (over : Bool) → count ≡ length processes → (over ≡ false → at < count)
    → option_and_then (slice_get processes) (if over then None else Some at) ≡ None → over ≡ true
over_at processes at count true many within none = refl
over_at processes at count false many within none = absurd (is_none processes at (omega (arith, many, within refl)) none)

-- where no turn is due the rounds are over
pub none_due : (workers number : ℕ) (processes : List ℕ) (r : Rounds) (w : WorkerView) → Goes workers processes number r w
    → option_and_then (slice_get processes) (due r) ≡ None → IsOver workers processes w
none_due workers number processes r w is none = is.over (over_at processes r.at r.count r.is_over is.count is.within none)

-- ---- the turns that were begun

abbrev pub count_of : Receipt → ℕ
count_of r = turn_count r.entry.call

turns_push : (rs : List Receipt) (r : Receipt) → turns_of (rs ++ r ∷ []) ≡ turns_of rs + count_of r
turns_push rs r = omega (arith, sum_by-append count_of rs (r ∷ []))

ahead_begins : (n pid : ℕ) (w v : WorkerView) → RunsAhead n pid w v → (v.turns ≡ w.turns) × (turns_of v.receipts ≡ turns_of w.receipts)
ahead_begins n pid w v (inl same) = (ap (λ (x : WorkerView). x.turns) same, ap (λ (x : WorkerView). turns_of x.receipts) same)
ahead_begins n pid w v (inr ran) =
    let told = ran.4 in
    let new = receipt told.1 (entry w.number (calls.HandIn pid ran.0) (HandedIn ran.1) told.2) in
    (ap (λ (x : WorkerView). x.turns) told.3, ap (λ (x : WorkerView). turns_of x.receipts) told.3 ∙ turns_push w.receipts new ∙ omega arith)

told_begins : (answer : Result Turn Refusal) (v : WorkerView) (pid : ℕ) (w' : WorkerView) → TurnTold answer v pid w'
    → (w'.turns ≡ v.turns) × (turns_of w'.receipts ≤ turns_of v.receipts + 1)
told_begins answer v pid w' (inl none) = (ap (λ (x : WorkerView). x.turns) none.1, omega (arith, ap (λ (x : WorkerView). turns_of x.receipts) none.1))
told_begins answer v pid w' (inr told) =
    let new = receipt told.1 (entry v.number (calls.Turn pid) (Turned answer) told.2) in
    (ap (λ (x : WorkerView). x.turns) told.3, omega (arith, ap (λ (x : WorkerView). turns_of x.receipts) told.3, turns_push v.receipts new))

next_is : (turns : ℕ) (b : Bool) → nat_lt (turns + 1) (2 ^ 64) ≡ b → turns < 2 ^ 32 → (if b then turns + 1 else turns) ≡ turns + 1
next_is turns true is low = refl
next_is turns false is low = absurd (omega (arith, ltb-false (turns + 1) (2 ^ 64) is, low))

-- a turn more is begun, and it has at most one receipt
pub begins_one : (n pid : ℕ) (answer : Result Turn Refusal) (w w' : WorkerView) → w.turns < 2 ^ 32 → TakesTurn n answer w pid w'
    → (w'.turns ≡ w.turns + 1) × (turns_of w'.receipts ≤ turns_of w.receipts + 1)
begins_one n pid answer w w' low took =
    let ahead = ahead_begins n pid (begins_turn w) took.0 took.1 in
    let told = told_begins answer took.0 pid w' took.2 in
    let next : next_turn w.turns ≡ w.turns + 1 = next_is w.turns (nat_lt (w.turns + 1) (2 ^ 64)) refl low in
    (told.0 ∙ ahead.0 ∙ next, omega (arith, told.1, ahead.1))

-- so many turns were begun by a worker that was new
pub record HasBegun (turns : ℕ) (w : WorkerView) : Type 0 where
  pub begun : w.turns ≡ turns
  pub told : turns_of w.receipts ≤ turns

pub new_begun : (w v : WorkerView) → v ≡ w → w ≡ made w.number → HasBegun 0 v
new_begun w v same new = subst (HasBegun 0) (sym (same ∙ new)) (record { begun = refl; told = omega arith })

pub begun_one : (n pid turns : ℕ) (answer : Result Turn Refusal) (w w' : WorkerView) → turns < 2 ^ 32 → TakesTurn n answer w pid w'
    → HasBegun turns w → HasBegun (turns + 1) w'
begun_one n pid turns answer w w' low took is =
    let one = begins_one n pid answer w w' (omega (arith, low, is.begun)) took in
    record { begun = omega (arith, one.0, is.begun); told = omega (arith, one.1, is.told) }

pub all_begun : (workers turns : ℕ) (processes : List ℕ) (w : WorkerView) → HasBegun turns w → TookTurns workers turns processes w
all_begun workers turns processes w is = record { most = omega (arith, is.begun); begun = inl is.begun; told = omega (arith, is.told, is.begun) }

pub over_begun : (workers number turns most : ℕ) (processes : List ℕ) (r : Rounds) (w : WorkerView) → turns ≤ most → HasBegun turns w
    → Goes workers processes number r w → option_and_then (slice_get processes) (due r) ≡ None → TookTurns workers most processes w
over_begun workers number turns most processes r w low is goes none =
    record { most = omega (arith, low, is.begun); begun = inr (none_due workers number processes r w goes none); told = omega (arith, is.told, is.begun) }
