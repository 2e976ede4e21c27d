-- What an event of a world appends was foreseen.
use Rattle.sk_client.proofs.Names.{◌≡◌, ℕ, true, false, cond, List, [], ◌∷◌, Option, Some, None, Result, Ok, Err}
use Rattle.sk_client.proofs.Names.{refl, sym, ap, subst, ◌∙◌, has, Input, Refusal, KernelView, next_guess}
use Rattle.sk_client.proofs.Names.{undecided_at, step_refused, appended, IsForeseen, unchanged_foreseen}
use Rattle.sk_client.proofs.Names.{appended_foreseen, Request, Reply, Answer, Yes, PendingRequest, Rule, Turn}
use Rattle.sk_client.proofs.Names.{WorldEvent, WorldAnswer, Cause, DeskView, rule, turned, given, given_to, decided}
use Rattle.sk_client.proofs.Names.{answered, stepped, entry, input_of, is_void, ByRule, WorldView, EventPost, Turns}
use Rattle.sk_client.proofs.Names.{Serves, Replies, taken_by, upcoming, turn_step, reply_step, first_reply_step}
use Rattle.sk_client.proofs.Names.{option_map, Logged}
use Rattle.sk_client.proofs.Desks.{taken_same, edit_rest}

-- ---- a turn

ruled : (d new : DeskView) (pid : ℕ) (by : Rule) → new ≡ turned d pid by → IsForeseen (turn_step pid (Ok by)) (appended d.kernel new.kernel)
ruled d new pid (Rule.Steps input) is = appended_foreseen (Some (pid, input)) d.kernel new.kernel (Logged.Step pid input) (ap (λ (x : DeskView). x.kernel) is) refl
ruled d new pid (Rule.Guesses ask) is =
    appended_foreseen (Some (pid, Input.Good)) d.kernel new.kernel (Logged.Guess (next_guess d.kernel) pid Input.Good) (ap (λ (x : DeskView). x.kernel) is) refl
ruled d new pid (Rule.Asks ask) is = unchanged_foreseen None d.kernel new.kernel (ap (λ (x : DeskView). x.kernel) is)

by_rule : (r : Result Turn Refusal) (d new : DeskView) (pid : ℕ) (by : Result Rule Refusal) → ByRule r d pid new by → IsForeseen (turn_step pid by) (appended d.kernel new.kernel)
by_rule (Ok turn) d new pid (Ok by) h = ruled d new pid by h.2
by_rule (Err why) d new pid (Ok by) h = unchanged_foreseen (turn_step pid (Ok by)) d.kernel new.kernel (ap (λ (x : DeskView). x.kernel) h.1)
by_rule r d new pid (Err why) h = unchanged_foreseen None d.kernel new.kernel (ap (λ (x : DeskView). x.kernel) h.1)

same : (u : Option (ℕ × Input)) (w new : WorldView) → new ≡ w → IsForeseen u (appended w.desk.kernel new.desk.kernel)
same u w new is = unchanged_foreseen u w.desk.kernel new.desk.kernel (ap (λ (x : WorldView). x.desk.kernel) is)

turn_foreseen : (r : Result WorldAnswer Cause) (w : WorldView) (pid : ℕ) (new : WorldView) → Turns r w pid new → IsForeseen (turn_step pid (rule w.desk pid)) (appended w.desk.kernel new.desk.kernel)
turn_foreseen (Ok (WorldAnswer.Turn turn)) w pid new h = by_rule (Ok turn) w.desk new.desk pid (rule w.desk pid) h.0
turn_foreseen (Err (Cause.Turn why)) w pid new h = same (turn_step pid (rule w.desk pid)) w new h.1
turn_foreseen told w pid new h = absurd h

-- ---- a request that is served

serve_keeps : (r : Result WorldAnswer Cause) (w new : WorldView) (q : Option Request) → Serves r w new q → new.desk.kernel ≡ w.desk.kernel
serve_keeps r w new None h = ap (λ (x : WorldView). x.desk.kernel) h.1
serve_keeps (Ok told) w new (Some q) h = ap (λ (x : WorldView). x.desk.kernel) h.1
serve_keeps (Err why) w new (Some q) h = ap (λ (x : WorldView). x.desk.kernel) h.1

-- ---- a reply

decides : (u : Option (ℕ × Input)) (d : DeskView) (q : PendingRequest) (g : ℕ) (a : Answer) → IsForeseen u (appended d.kernel (decided d q g a).kernel)
decides u d q g Yes = appended_foreseen u d.kernel (decided d q g Yes).kernel (Logged.Commit g) refl tt
decides u d q g a = appended_foreseen u d.kernel (decided d q g a).kernel (Logged.Fail g) refl tt

steps : (k : KernelView) (pid : ℕ) (input : Input) (refused : Option Refusal) → IsForeseen (Some (pid, input)) (appended k (stepped k pid input refused))
steps k pid input None = appended_foreseen (Some (pid, input)) k (stepped k pid input None) (Logged.Step pid input) refl refl
steps k pid input (Some why) = unchanged_foreseen (Some (pid, input)) k k refl

answers_step : (d : DeskView) (q : PendingRequest) (input : Option Input) → IsForeseen (option_map (λ i. (q.process, i)) input) (appended d.kernel (answered d q input).kernel)
answers_step d q None = unchanged_foreseen None d.kernel d.kernel refl
answers_step d q (Some input) = steps d.kernel q.process input (step_refused d.kernel (entry q.process input None))

given_foreseen : (d : DeskView) (q : PendingRequest) (a : Answer) (g : Option ℕ)
    → IsForeseen (option_map (λ i. (q.process, i)) (input_of a)) (appended d.kernel (given_to d q a g).kernel)
given_foreseen d q a (Some g) =
    let u : Option (ℕ × Input) = option_map (λ i. (q.process, i)) (input_of a) in
    elim (has g (undecided_at d.kernel)) as (λ b. IsForeseen u (appended d.kernel (cond b (decided d q g a) d).kernel)) [
      | true ↦ decides u d q g a
      | false ↦ unchanged_foreseen u d.kernel d.kernel refl
    ]
given_foreseen d q a None =
    let u : Option (ℕ × Input) = option_map (λ i. (q.process, i)) (input_of a) in
    elim (is_void d.kernel q) as (λ b. IsForeseen u (appended d.kernel (cond b d (answered d q (input_of a))).kernel)) [
      | true ↦ unchanged_foreseen u d.kernel d.kernel refl
      | false ↦ answers_step d q (input_of a)
    ]

reply_foreseen : (d new : DeskView) (r : Reply) (qs : List PendingRequest) → new ≡ given d r qs → IsForeseen (reply_step r qs) (appended d.kernel new.kernel)
reply_foreseen d new r [] is = unchanged_foreseen None d.kernel new.kernel (ap (λ (x : DeskView). x.kernel) is)
reply_foreseen d new r (q ∷ qs) is =
    subst (λ (x : DeskView). IsForeseen (reply_step r (q ∷ qs)) (appended d.kernel x.kernel)) (sym is) (given_foreseen (record d { taken = qs }) q r.answer q.guess)

replies_foreseen : (r : Result WorldAnswer Cause) (w new : WorldView) (rs : List Reply) → Replies r w new rs
    → IsForeseen (first_reply_step rs w.desk.taken) (appended w.desk.kernel new.desk.kernel)
replies_foreseen r w new [] h = same None w new h.1
replies_foreseen (Ok (WorldAnswer.Given told)) w new (r ∷ rs) h = reply_foreseen w.desk new.desk r w.desk.taken h.0.2
replies_foreseen (Ok told) w new (r ∷ rs) h = absurd h
replies_foreseen (Err why) w new (r ∷ rs) h = same (reply_step r w.desk.taken) w new h.2

-- ---- any event

pub event_foreseen : (r : Result WorldAnswer Cause) (w : WorldView) (e : WorldEvent) (new : WorldView) → EventPost r w e new → IsForeseen (upcoming w e) (appended w.desk.kernel new.desk.kernel)
event_foreseen r w (WorldEvent.Turn pid) new h = turn_foreseen r w pid new h
event_foreseen r w WorldEvent.Serve new h =
    unchanged_foreseen None w.desk.kernel new.desk.kernel (serve_keeps r (taken_by w w.back) new (taken_by w w.back).back h ∙ (taken_same w w.back).1)
event_foreseen r w WorldEvent.Reply new h = replies_foreseen r w new w.replies h
event_foreseen r w (WorldEvent.Edit name expected bytes) new h = unchanged_foreseen None w.desk.kernel new.desk.kernel (ap (λ (x : WorldView). x.desk.kernel) (edit_rest r w name expected bytes new h))
