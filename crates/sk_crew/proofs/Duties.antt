-- Each call of a worker is its own to make.
use Rattle.sk_crew.proofs.Names.{◌⊎◌, ℕ, zero, suc, ◌+◌, List, [], ◌∷◌, ◌++◌, length, take, Result, Some, slice_get}
use Rattle.sk_crew.proofs.Names.{inl, inr, refl, sym, ap, ◌∙◌, subst, arith, Contains, sum_by-append, Contains-push}
use Rattle.sk_crew.proofs.Names.{Contains-push_cases, Contains-append_left, Contains-append_right}
use Rattle.sk_crew.proofs.Names.{Contains-append_cases, slice_get-get_or, take-append-drop, map-append, append_assoc}
use Rattle.sk_crew.proofs.Names.{append-nil, drop, KernelView, OpeningView, opening_of, DeskView, opened_at, DeskCall}
use Rattle.sk_crew.proofs.Names.{Answered, Turned, Receipt, HistoryEntry, WorkerView, SharedView, Runs, Told, TurnTold}
use Rattle.sk_crew.proofs.Names.{AreFresh, made, entry, receipt, numbers, begins_turn, IsClosed, CrewFault, Memory}
use Rattle.sk_crew.proofs.Names.{Close, start_of, IsCrewed, IsRefused, HasCause, Rounds, Refusal, Turn, RunsAhead}
use Rattle.sk_crew.proofs.Names.{TakesTurn, CrewPlan, IsOf, turn_count, turns_of, AllEnded, IsOver, TookTurns}
use Rattle.sk_crew.proofs.Names.{processes_of, IsDuty, KeepsTo, AllKeepTo, AllTookTurns, IsReply, OnlyReplies, IsNew}
use Rattle.sk_crew.proofs.Names.{AreNew, WorksOn, LeadsOn, AllWorkOn, AreNumbered}
use Rattle.std.specs.Prelude.{◌≡◌}
use Rattle.sk_workers.specs.declared.entry.DeskCall.TheVariants as calls
use Rattle.sk_crew.proofs.Turns.{Goes, HasBegun, ends_more, count_of}

-- ---- receipts

pub told_keeps : (plan : CrewPlan) (processes : List ℕ) (w w' : WorkerView) (call : DeskCall) (answer : Answered) → Told w call answer w'
    → IsDuty plan processes w.number call → KeepsTo plan processes w → KeepsTo plan processes w'
told_keeps plan processes w w' call answer told duty keeps =
    let new = receipt told.1 (entry w.number call answer told.2) in
    subst (KeepsTo plan processes) (sym told.3) (λ r there. elim (Contains-push_cases w.receipts new r there) [
      | inl before ↦ keeps r before
      | inr is ↦ subst (λ (x : Receipt). IsDuty plan processes w.number x.entry.call) is duty
    ])

no_member : {A : Type 0} (x : A) → Contains [] x → ⊥
no_member x h = let lt = h.1 in omega arith

pub told_reply : (w w' : WorkerView) (call : DeskCall) (answer : Answered) → Told w call answer w' → IsReply call → OnlyReplies w w'
told_reply w w' call answer told is_reply =
    let new = receipt told.1 (entry w.number call answer told.2) in (
      new ∷ [],
      told.3,
      λ r there. elim (Contains-push_cases [] new r there) [
        | inl before ↦ absurd (no_member r before)
        | inr is ↦ subst (λ (x : Receipt). IsReply x.entry.call) is is_reply
      ],
    )

pub no_call : (w : WorkerView) → OnlyReplies w w
no_call w = ([], (λ i. record w { receipts = sym (append-nil w.receipts) i }), λ r there. absurd (no_member r there))

pub one_and_more : (w v u : WorkerView) → OnlyReplies w v → OnlyReplies v u → OnlyReplies w u
one_and_more w v u one more =
    let receipts : v.receipts ++ more.0 ≡ w.receipts ++ (one.0 ++ more.0) = ap (λ (x : WorkerView). x.receipts ++ more.0) one.1 ∙ append_assoc w.receipts one.0 more.0 in
    let same : record v { receipts = v.receipts ++ more.0 } ≡ record w { receipts = w.receipts ++ (one.0 ++ more.0) } = (λ i. record {
      number = (one.1 i).number;
      turns = (one.1 i).turns;
      receipts = receipts i;
    }) in (
      one.0 ++ more.0,
      more.1 ∙ same,
      λ r there. elim (Contains-append_cases one.0 more.0 r there) [ inl before ↦ one.2 r before | inr later ↦ more.2 r later ],
    )

reply_duty : (plan : CrewPlan) (processes : List ℕ) (number : ℕ) (call : DeskCall) → number ≡ 0 → IsReply call → IsDuty plan processes number call
reply_duty plan processes number (calls.Reply reply) first is = first
reply_duty plan processes number s first is = absurd is

pub replies_keep : (plan : CrewPlan) (processes : List ℕ) (w w' : WorkerView) → w.number ≡ 0 → OnlyReplies w w'
    → KeepsTo plan processes w → KeepsTo plan processes w'
replies_keep plan processes w w' first only keeps =
    subst (KeepsTo plan processes) (sym only.1) (λ r there. elim (Contains-append_cases w.receipts only.0 r there) [
      | inl before ↦ keeps r before
      | inr new ↦ reply_duty plan processes w.number r.entry.call first (only.2 r new)
    ])

pub ahead_keeps : (plan : CrewPlan) (processes : List ℕ) (pid : ℕ) (w w' : WorkerView) → RunsAhead plan.ahead pid w w' → IsOf plan.workers w.number processes pid
    → KeepsTo plan processes w → KeepsTo plan processes w'
ahead_keeps plan processes pid w w' (inl same) its keeps = subst (KeepsTo plan processes) (sym same) keeps
ahead_keeps plan processes pid w w' (inr ran) its keeps = told_keeps plan processes w w' _ _ ran.4 (its, ran.2, ran.3) keeps

-- ---- all workers

all_push : (P : WorkerView → Type 0) (ws : List WorkerView) (w : WorkerView) → ((v : WorkerView) → Contains ws v → P v) → P w
    → (v : WorkerView) → Contains (ws ++ w ∷ []) v → P v
all_push P ws w all one v there = elim (Contains-push_cases ws w v there) [ inl before ↦ all v before | inr is ↦ subst P is one ]

all_last : (P Q : WorkerView → Type 0) (ws rest all : List WorkerView) (last one : WorkerView) → ws ≡ rest ++ last ∷ []
    → (P last → Q one) → (((w : WorkerView) → Contains rest w → P w) → (w : WorkerView) → Contains all w → Q w)
    → ((w : WorkerView) → Contains ws w → P w) → (w : WorkerView) → Contains (all ++ one ∷ []) w → Q w
all_last P Q ws rest all last one is its others were =
    let in_all : (w : WorkerView) → Contains (rest ++ last ∷ []) w → P w = λ w there. were w (subst (λ (xs : List WorkerView). Contains xs w) (sym is) there) in
    all_push Q all one (others (λ w there. in_all w (Contains-append_left rest (last ∷ []) w there))) (its (in_all last (Contains-push rest last)))

numbers_back : (ws rest back all : List WorkerView) (last one : WorkerView) → ws ≡ rest ++ last ∷ [] → back ≡ all ++ one ∷ []
    → one.number ≡ last.number → numbers all ≡ numbers rest → numbers back ≡ numbers ws
numbers_back ws rest back all last one is is_back same others =
    let number : WorkerView → ℕ = λ w. w.number in
    let apart : numbers all ++ one.number ∷ [] ≡ numbers rest ++ last.number ∷ [] = λ i. others i ++ same i ∷ [] in
    ap numbers is_back ∙ map-append number all (one ∷ []) ∙ apart ∙ sym (map-append number rest (last ∷ [])) ∙ sym (ap numbers is)

-- the last worker and those before it come back in their order
pub all_work_on : (plan : CrewPlan) (processes : List ℕ) (ws rest back all : List WorkerView) (last one : WorkerView)
    → ws ≡ rest ++ last ∷ [] → back ≡ all ++ one ∷ [] → WorksOn plan processes last one → AllWorkOn plan processes rest all
    → AllWorkOn plan processes ws back
all_work_on plan processes ws rest back all last one is is_back its others = (
  numbers_back ws rest back all last one is is_back its.0 others.0,
  λ keep. subst (AllKeepTo plan processes) (sym is_back) (all_last (KeepsTo plan processes) (KeepsTo plan processes) ws rest all last one is its.1 others.1 keep),
  λ new. subst (AllTookTurns plan processes) (sym is_back)
      (all_last IsNew (TookTurns plan.workers plan.turns processes) ws rest all last one is its.2 others.2 new),
)

-- no worker is there of none
pub none_work_on : (plan : CrewPlan) (processes : List ℕ) (ws : List WorkerView) → ws ≡ [] → AllTookTurns plan processes ws
none_work_on plan processes ws none w there = absurd (no_member w (subst (λ (xs : List WorkerView). Contains xs w) none there))

both_all : (P : WorkerView → Type 0) (ws vs : List WorkerView) → ((w : WorkerView) → Contains ws w → P w) → ((w : WorkerView) → Contains vs w → P w)
    → (w : WorkerView) → Contains (ws ++ vs) w → P w
both_all P ws vs one more w there = elim (Contains-append_cases ws vs w there) [ inl before ↦ one w before | inr later ↦ more w later ]

pub fresh_new : (n : ℕ) (ws : List WorkerView) → AreFresh n ws → AreNew ws
fresh_new n ws are w there =
    let at : slice_get ws there.0 ≡ Some w = slice_get-get_or ws there.0 w there.1 ∙ ap Some there.2 in
    let is = are.1 there.0 w at in
    is ∙ ap made (sym (ap (λ (x : WorkerView). x.number) is))

pub fresh_keep : (n : ℕ) (plan : CrewPlan) (processes : List ℕ) (ws : List WorkerView) → AreFresh n ws → AllKeepTo plan processes ws
fresh_keep n plan processes ws are w there r inside =
    let at : slice_get ws there.0 ≡ Some w = slice_get-get_or ws there.0 w there.1 ∙ ap Some there.2 in
    let is = are.1 there.0 w at in
    absurd (no_member r (subst (λ (x : WorkerView). Contains x.receipts r) is inside))

at_number : (ws us : List WorkerView) (i : ℕ) (v : WorkerView) → numbers ws ≡ numbers us → slice_get ws i ≡ Some v → (u : WorkerView) × (slice_get us i ≡ Some u) × (v.number ≡ u.number)
at_number [] us i v e at = absurd (cc)
at_number (w ∷ ws) [] i v e at = absurd (cc)
at_number (w ∷ ws) (u ∷ us) zero v e at = (u, refl, cc)
at_number (w ∷ ws) (u ∷ us) (suc i) v e at = at_number ws us i v (cc) at

same_length : (ws us : List WorkerView) → numbers ws ≡ numbers us → length ws ≡ length us
same_length [] [] e = refl
same_length [] (u ∷ us) e = cc
same_length (w ∷ ws) [] e = cc
same_length (w ∷ ws) (u ∷ us) e = ap suc (same_length ws us (cc))

-- those that come back for fresh workers are numbered as these
pub back_numbered : (n : ℕ) (ws us : List WorkerView) → AreFresh n us → numbers ws ≡ numbers us → AreNumbered n ws
back_numbered n ws us are same = (
  same_length ws us same ∙ are.0,
  λ i w at. (let u = at_number ws us i w same at in u.2 ∙ ap (λ (x : WorkerView). x.number) (are.1 i u.0 u.1)),
)

-- ---- calls of a worker

pub replied : {P : Type 0} (w w' : WorkerView) (call : DeskCall) (answer : Answered) → IsReply call → (P × (w' ≡ w)) ⊎ Told w call answer w' → OnlyReplies w w'
replied w w' call answer is (inl none) = subst (OnlyReplies w) (sym none.1) (no_call w)
replied w w' call answer is (inr told) = told_reply w w' call answer told is

pub ahead_number : (n pid : ℕ) (w w' : WorkerView) → RunsAhead n pid w w' → w'.number ≡ w.number
ahead_number n pid w w' (inl same) = ap (λ (x : WorkerView). x.number) same
ahead_number n pid w w' (inr ran) = ap (λ (x : WorkerView). x.number) ran.4.3

told_number : (answer : Result Turn Refusal) (w : WorkerView) (pid : ℕ) (w' : WorkerView) → TurnTold answer w pid w' → w'.number ≡ w.number
told_number answer w pid w' (inl none) = ap (λ (x : WorkerView). x.number) none.1
told_number answer w pid w' (inr told) = ap (λ (x : WorkerView). x.number) told.3

pub turn_number : (n : ℕ) (answer : Result Turn Refusal) (w : WorkerView) (pid : ℕ) (w' : WorkerView) → TakesTurn n answer w pid w' → w'.number ≡ w.number
turn_number n answer w pid w' took = told_number answer took.0 pid w' took.2 ∙ ahead_number n pid (begins_turn w) took.0 took.1

no_turn : (call : DeskCall) → IsReply call → turn_count call ≡ 0
no_turn (calls.Turn pid) is = absurd is
no_turn s is = refl

reply_ended : (call : DeskCall) (pid : ℕ) → IsReply call → call ≡ calls.Turn pid → ⊥
reply_ended (calls.Reply reply) pid is same = cc
reply_ended s pid is same = absurd is

replies_ended : (rs : List Receipt) → ((r : Receipt) → Contains rs r → IsReply r.entry.call) → AllEnded rs
replies_ended rs all r pid there is = absurd (reply_ended r.entry.call pid (all r there) is)

over_more : (workers : ℕ) (processes : List ℕ) (w : WorkerView) (more : List Receipt) → AllEnded more → IsOver workers processes w
    → IsOver workers processes (record w { receipts = w.receipts ++ more })
over_more workers processes w more ended is = record {
  before = is.before;
  last = is.last ++ more;
  whole = ap (λ (xs : List Receipt). xs ++ more) is.whole ∙ append_assoc is.before is.last more;
  ended = λ r pid there same. elim (Contains-append_cases is.last more r there) [ inl old ↦ is.ended r pid old same | inr new ↦ ended r pid new same ];
  each = λ pid its. (let has = is.each pid its in (has.0, Contains-append_left is.last more has.0 has.1, has.2));
}

took_more : (workers turns : ℕ) (processes : List ℕ) (w : WorkerView) (more : List Receipt) → AllEnded more → (w.turns ≡ turns) ⊎ IsOver workers processes w
    → (w.turns ≡ turns) ⊎ IsOver workers processes (record w { receipts = w.receipts ++ more })
took_more workers turns processes w more ended (inl all) = inl all
took_more workers turns processes w more ended (inr over) = inr (over_more workers processes w more ended over)

turn_keeps : (plan : CrewPlan) (processes : List ℕ) (answer : Result Turn Refusal) (w : WorkerView) (pid : ℕ) (w' : WorkerView) → TurnTold answer w pid w'
    → IsOf plan.workers w.number processes pid → KeepsTo plan processes w → KeepsTo plan processes w'
turn_keeps plan processes answer w pid w' (inl none) its keeps = subst (KeepsTo plan processes) (sym none.1) keeps
turn_keeps plan processes answer w pid w' (inr told) its keeps = told_keeps plan processes w w' (calls.Turn pid) (Turned answer) told its keeps

-- a worker runs ahead and takes the turn that is due
pub round_keeps : (plan : CrewPlan) (processes : List ℕ) (number pid : ℕ) (r : Rounds) (answer : Result Turn Refusal) (w w' : WorkerView)
    → Goes plan.workers processes number r w → slice_get processes r.at ≡ Some pid → TakesTurn plan.ahead answer w pid w'
    → KeepsTo plan processes w → KeepsTo plan processes w'
round_keeps plan processes number pid r answer w w' goes due took keeps =
    let its : IsOf plan.workers number processes pid = (goes.round, ap (slice_get processes) (sym goes.at) ∙ due) in
    let own : IsOf plan.workers w.number processes pid = subst (λ m. IsOf plan.workers m processes pid) (sym goes.same) its in
    turn_keeps plan processes answer took.0 pid w' took.2
    (subst (λ m. IsOf plan.workers m processes pid) (sym (ahead_number plan.ahead pid (begins_turn w) took.0 took.1)) own)
    (ahead_keeps plan processes pid (begins_turn w) took.0 took.1 own keeps)

-- replies that are carried between two turns change nothing of the rounds
pub replies_go : (workers number : ℕ) (processes : List ℕ) (r : Rounds) (w w' : WorkerView) → OnlyReplies w w' → Goes workers processes number r w → Goes workers processes number r w'
replies_go workers number processes r w w' only goes = subst (Goes workers processes number r) (sym only.1) (record {
  same = goes.same;
  first = goes.first;
  step = goes.step;
  count = goes.count;
  round = goes.round;
  at = goes.at;
  within = goes.within;
  ends = λ ended. ends_more workers number processes goes.round w.receipts only.0 (replies_ended only.0 only.2) (goes.ends ended);
  over = λ over. over_more workers processes w only.0 (replies_ended only.0 only.2) (goes.over over);
})

no_turns : (rs : List Receipt) → ((r : Receipt) → Contains rs r → IsReply r.entry.call) → turns_of rs ≡ 0
no_turns [] all = refl
no_turns (r ∷ rs) all =
    let one : count_of r ≡ 0 = no_turn r.entry.call (all r (Contains-append_left (r ∷ []) rs r (Contains-push [] r))) in
    let more : turns_of rs ≡ 0 = no_turns rs (λ x there. all x (Contains-append_right (r ∷ []) rs x there)) in
    let both : turns_of (r ∷ rs) ≡ turns_of (r ∷ []) + turns_of rs = sum_by-append count_of (r ∷ []) rs in
    let single : turns_of (r ∷ []) ≡ 0 + count_of r = refl in
    omega (arith, one, more, both, single)

-- nor of the turns that were begun
pub replies_begun : (turns : ℕ) (w w' : WorkerView) → OnlyReplies w w' → HasBegun turns w → HasBegun turns w'
replies_begun turns w w' only is = subst (HasBegun turns) (sym only.1) (record {
  begun = is.begun;
  told = omega (arith, is.told, sum_by-append count_of w.receipts only.0, no_turns only.0 only.2);
})

-- nor after the last one
pub replies_took : (plan : CrewPlan) (processes : List ℕ) (w w' : WorkerView) → OnlyReplies w w' → TookTurns plan.workers plan.turns processes w
    → TookTurns plan.workers plan.turns processes w'
replies_took plan processes w w' only took = subst (TookTurns plan.workers plan.turns processes) (sym only.1) (record {
  most = took.most;
  begun = took_more plan.workers plan.turns processes w only.0 (replies_ended only.0 only.2) took.begun;
  told = omega (arith, took.told, sum_by-append count_of w.receipts only.0, no_turns only.0 only.2);
})

-- ---- the crew

not_empty : (ws : List WorkerView) (w : WorkerView) → [] ≡ ws ++ w ∷ [] → ⊥
not_empty [] w e = cc
not_empty (v ∷ ws) w e = cc

-- the last of one is the first
one_alone : (x w : WorkerView) (ws : List WorkerView) → x ∷ [] ≡ ws ++ w ∷ [] → x ≡ w
one_alone x w [] e = cc
one_alone x w (v ∷ ws) e = absurd (not_empty ws w (cc))

pub first_number_is : (n : ℕ) (ws rest : List WorkerView) (first : WorkerView) → AreFresh n ws → take 1 ws ≡ rest ++ first ∷ [] → first.number ≡ 0
first_number_is n [] rest first are e = absurd (not_empty rest first e)
first_number_is n (w ∷ ws) rest first are e =
    ap (λ (x : WorkerView). x.number) (sym (one_alone w first rest e) ∙ are.1 0 w refl)

front_of : (n : ℕ) (P : WorkerView → Type 0) (ws kept rest : List WorkerView) (first : WorkerView) → ((w : WorkerView) → Contains ws w → P w)
    → kept ≡ take 1 ws → kept ≡ rest ++ first ∷ [] → (w : WorkerView) → Contains (rest ++ first ∷ []) w → P w
front_of n P ws kept rest first all is_front is_first w there =
    all w (subst (λ (xs : List WorkerView). Contains xs w) (take-append-drop 1 ws)
    (Contains-append_left (take 1 ws) (drop 1 ws) w (subst (λ (xs : List WorkerView). Contains xs w) (sym is_first ∙ is_front) there)))

back_of : (P : WorkerView → Type 0) (ws others : List WorkerView) → ((w : WorkerView) → Contains ws w → P w) → others ≡ drop 1 ws
    → (w : WorkerView) → Contains others w → P w
back_of P ws others all is_back w there =
    all w (subst (λ (xs : List WorkerView). Contains xs w) (take-append-drop 1 ws)
    (Contains-append_right (take 1 ws) (drop 1 ws) w (subst (λ (xs : List WorkerView). Contains xs w) is_back there)))

-- the first of one is the last
none_before : (rest : List WorkerView) (first : WorkerView) (ws : List WorkerView) → take 1 ws ≡ rest ++ first ∷ [] → rest ≡ []
none_before [] first ws e = refl
none_before (v ∷ rest) first [] e = absurd (cc)
none_before (v ∷ rest) first (w ∷ ws) e = absurd (not_empty rest first (cc))

-- worker 0 that led and gave the last replies comes back in its place, before the others
pub served_keep : (plan : CrewPlan) (processes : List ℕ) (ws kept others rest back : List WorkerView) (first lead last : WorkerView) → AreFresh plan.workers ws
    → kept ≡ take 1 ws → others ≡ drop 1 ws → kept ≡ rest ++ first ∷ []
    → LeadsOn plan processes first lead → AllWorkOn plan processes others back → OnlyReplies lead last
    → AllKeepTo plan processes ((rest ++ last ∷ []) ++ back)
served_keep plan processes ws kept others rest back first lead last are is_front is_back is_first led worked replies =
    let all = fresh_keep plan.workers plan processes ws are in
    let in_front = front_of plan.workers (KeepsTo plan processes) ws kept rest first all is_front is_first in
    let zero_is = first_number_is plan.workers ws rest first are (sym is_front ∙ is_first) in
    let its = replies_keep plan processes lead last (led.0 ∙ zero_is) replies (led.1 zero_is (in_front first (Contains-push rest first))) in
    both_all (KeepsTo plan processes) (rest ++ last ∷ []) back
    (all_push (KeepsTo plan processes) rest last (λ w there. in_front w (Contains-append_left rest (first ∷ []) w there)) its)
    (worked.1 (back_of (KeepsTo plan processes) ws others all is_back))

-- and all have taken their turns
pub served_took : (plan : CrewPlan) (processes : List ℕ) (ws kept others rest back : List WorkerView) (first lead last : WorkerView) → AreFresh plan.workers ws
    → kept ≡ take 1 ws → others ≡ drop 1 ws → kept ≡ rest ++ first ∷ []
    → LeadsOn plan processes first lead → AllWorkOn plan processes others back → OnlyReplies lead last
    → AllTookTurns plan processes ((rest ++ last ∷ []) ++ back)
served_took plan processes ws kept others rest back first lead last are is_front is_back is_first led worked replies =
    let all = fresh_new plan.workers ws are in
    let in_front = front_of plan.workers IsNew ws kept rest first all is_front is_first in
    let its = replies_took plan processes lead last replies (led.2 (in_front first (Contains-push rest first))) in
    let none = none_before rest first ws (sym is_front ∙ is_first) in
    let took = TookTurns plan.workers plan.turns processes in
    both_all took (rest ++ last ∷ []) back
    (all_push took rest last (none_work_on plan processes rest none) its)
    (worked.2 (back_of IsNew ws others all is_back))

-- a kernel without earlier guesses is fixed by its opening
none_earlier : {A : Type 0} (xs : List A) → length xs + 1 ≡ 1 → xs ≡ []
none_earlier [] is = refl
none_earlier (x ∷ xs) is = absurd (omega (arith, is))

same_kernel : (k l : KernelView) → opening_of l ≡ opening_of k → k.earlier ≡ [] → k.trace ≡ [] → record l { trace = [] } ≡ k
same_kernel k l same first none =
    let e : l.earlier ≡ [] = none_earlier l.earlier (ap (λ (o : OpeningView). o.guess) same ∙ ap (λ n. n + 1) (ap length first)) in
    λ i. record {
      number = (same i).number;
      scripts = (same i).start.scripts;
      start = (same i).start.state;
      limit = (same i).limit;
      earlier = (e ∙ sym first) i;
      trace = sym none i;
    }

-- so that the history of a close leads from the desk that was shared
pub runs_from : (d : DeskView) (s : SharedView) (ws : List WorkerView) (history : List HistoryEntry) (last : DeskView) → d ≡ opened_at d.kernel d.first → d.kernel.trace ≡ []
    → (s.opening ≡ opening_of d.kernel) × (s.first ≡ d.first) → IsClosed s ws history last → d.kernel.earlier ≡ [] → Runs d history last
runs_from d s ws history last is none from closed first =
    let kernel = same_kernel d.kernel last.kernel (closed.from.0 ∙ from.0) first none in
    let number : last.first ≡ d.first = closed.from.1 ∙ from.1 in
    subst (λ (x : DeskView). Runs x history last) ((λ i. opened_at (kernel i) (number i)) ∙ sym is) closed.legal

from_start : (d : DeskView) (s : SharedView) → (s.opening ≡ opening_of d.kernel) × (s.first ≡ d.first) → s ≡ start_of d
from_start d s from = λ i. record { opening = from.0 i; first = from.1 i }

pub crewed : (plan : CrewPlan) (d : DeskView) (s : SharedView) (ws us : List WorkerView) (processes : List ℕ) (history : List HistoryEntry) (last : DeskView)
    → (s.opening ≡ opening_of d.kernel) × (s.first ≡ d.first) → AreFresh plan.workers us → numbers ws ≡ numbers us → processes ≡ processes_of d
    → (AreFresh plan.workers us → AllKeepTo plan processes ws) → (AreFresh plan.workers us → AllTookTurns plan processes ws)
    → IsClosed s ws history last → IsCrewed plan d history last
crewed plan d s ws us processes history last from are same is keep took closed = record {
  crew = ws;
  numbered = back_numbered plan.workers ws us are same;
  closed = subst (λ (x : SharedView). IsClosed x ws history last) (from_start d s from) closed;
  duties = subst (λ (ps : List ℕ). AllKeepTo plan ps ws) is (keep are);
  turns = subst (λ (ps : List ℕ). AllTookTurns plan ps ws) is (took are);
}

pub has_cause : (plan : CrewPlan) (d : DeskView) (s : SharedView) (ws us : List WorkerView) (processes : List ℕ) (fault : CrewFault)
    → (s.opening ≡ opening_of d.kernel) × (s.first ≡ d.first) → AreFresh plan.workers us → numbers ws ≡ numbers us → processes ≡ processes_of d
    → (AreFresh plan.workers us → AllKeepTo plan processes ws) → (AreFresh plan.workers us → AllTookTurns plan processes ws)
    → IsRefused s ws fault → HasCause plan d fault
has_cause plan d s ws us processes Memory from are same is keep took refused = tt
has_cause plan d s ws us processes (Close why) from are same is keep took refused = (
  ws,
  back_numbered plan.workers ws us are same,
  subst (λ (ps : List ℕ). AllKeepTo plan ps ws) is (keep are),
  subst (λ (ps : List ℕ). AllTookTurns plan ps ws) is (took are),
  subst (λ (x : SharedView). IsRefused x ws (Close why)) (from_start d s from) refused,
)
