-- A desk as its callers see it, and what each of its calls does: why it is refused, what it answers, what it leaves.
use Rattle.std.specs.Prelude.{ℕ, ◌+◌, ◌-◌, Bool, true, false, not, ◌&&◌, ◌||◌, ◌==◌, nat_lt, bytes_eq, length, List, [], ◌∷◌, ◌++◌, Option, Some, None, is_none, Result, Ok, Err, refl, if◌then◌else◌}
use Rattle.sk_client.specs.Base.{filter, list_any, Coded, code_by, coded×, coded_ℕ, coded_list, get, has, Status, Proc}
use Rattle.sk_client.specs.Base.{CopyOf, LAST_VERSION, Input, EntryView, Event, Next, Refusal, KernelView, kernel_code}
use Rattle.sk_client.specs.Base.{state_at, tags_at, undecided_at, next_guess, settled, room, effect_at, next_at}
use Rattle.sk_client.specs.Base.{or_else, guess_misfits, too_many, step_misfit, step_refused, with_event, Ask, Request}
use Rattle.sk_client.specs.Base.{Answer, Reply, LAST_REQUEST, asked_name, KeptAnswer, Turn, Given, ReplyRefusal}
use Rattle.sk_client.specs.Table.{version_of, buffer_of}
use Rattle.sk_client.specs.Pending.{PendingRequest, request_code}
use Rattle.sk_client.specs.contracts.pending.KeptAnswer as kept_row

-- the kernel; the requests without a reply, those that were taken and those that wait to be, the oldest first; the numbers of
-- the first request of the epoch and of the next one to be made; and the kept answers
pub record DeskView : Type 0 where
  pub kernel : KernelView
  pub taken : List PendingRequest
  pub waiting : List PendingRequest
  pub first : ℕ
  pub next : ℕ
  pub kept : List KeptAnswer

abbrev pub desk_code : Coded DeskView
desk_code =
    code_by (KernelView × (List PendingRequest × (List PendingRequest × (ℕ × (ℕ × List KeptAnswer)))))
    (coded× kernel_code (coded× (coded_list request_code) (coded× (coded_list request_code) (coded× coded_ℕ (coded× coded_ℕ (coded_list kept_row.the_row.coded))))))
    (λ d. (d.kernel, (d.taken, (d.waiting, (d.first, (d.next, d.kept))))))
    (λ p. record { kernel = p.0; taken = p.1.0; waiting = p.1.1.0; first = p.1.1.1.0; next = p.1.1.1.1.0; kept = p.1.1.1.1.1 }) (λ _. refl)

-- over a kernel, before any request of an epoch whose first one has this number
abbrev pub opened_at : KernelView → ℕ → DeskView
opened_at k first = record { kernel = k; taken = []; waiting = []; first = first; next = first; kept = [] }

-- over a kernel, before any request; the first one has number 1
abbrev pub opened : KernelView → DeskView
opened k = opened_at k 1

-- the requests without a reply, the oldest first: those that were handed out, and then those that wait
abbrev pub pending : DeskView → List PendingRequest
pending d = d.taken ++ d.waiting

-- how many requests of the epoch were taken: those that were made, but for those that wait
abbrev pub requests_taken : DeskView → ℕ
requests_taken d = d.next - d.first - length d.waiting

-- ---- asked requests

-- its process had no copy to guess from, and waits for the reply
abbrev pub is_asked : PendingRequest → Bool
is_asked q = is_none q.guess

-- a place of the trace is kept for the step of each
abbrev pub asked_count : List PendingRequest → ℕ
asked_count qs = length (filter is_asked qs)

abbrev pub asks_for : ℕ → List PendingRequest → Bool
asks_for pid qs = list_any (λ q. is_asked q && (q.process == pid)) qs

abbrev pub asks_on : List ℕ → List PendingRequest → Bool
asks_on name qs = list_any (λ q. is_asked q && bytes_eq (asked_name q.ask) name) qs

-- ---- kept answers: one for a process at most

abbrev pub kept_for : ℕ → List KeptAnswer → Option Input
kept_for pid [] = None
kept_for pid (k ∷ ks) = if k.process == pid then Some k.input else kept_for pid ks

abbrev pub forgotten : ℕ → List KeptAnswer → List KeptAnswer
forgotten pid ks = filter (λ k. not (k.process == pid)) ks

-- ---- which rule a turn takes

-- a turn takes a step with this input; or it guesses that the cached copy is good, and asks whether it is; or it asks, and takes no step
pub data Rule : Type 0 where
  Steps : Input → Rule
  Guesses : Ask → Rule
  Asks : Ask → Rule

abbrev pub fetch_rule : List ℕ → Option ℕ → Rule
fetch_rule name None = Rule.Asks (Ask.Get name)
fetch_rule name (Some v) = Rule.Guesses (Ask.Check name v)

abbrev pub store_rule : List ℕ → List ℕ → Option ℕ → Rule
store_rule name bytes None = Rule.Asks (Ask.Store name 0 bytes)
store_rule name bytes (Some v) = if nat_lt v LAST_VERSION then Rule.Guesses (Ask.Store name v bytes) else Rule.Asks (Ask.Store name v bytes)

-- a kept answer is used first
abbrev pub unless_kept : Option Input → Rule → Rule
unless_kept (Some input) rule = Rule.Steps input
unless_kept None rule = rule

abbrev pub cached : KernelView → List ℕ → Option ℕ
cached k name = version_of (get (state_at k) (CopyOf name))

abbrev pub buffer : KernelView → ℕ → List ℕ
buffer k pid = buffer_of (get (state_at k) (Proc pid))

abbrev pub rule_next : DeskView → ℕ → Next → Result Rule Refusal
rule_next d pid Next.Signal = Ok (Rule.Steps Input.None)
rule_next d pid (Next.Fetch name) =
    if asks_on name (pending d) then Err Refusal.Blocked else Ok (unless_kept (kept_for pid d.kept) (fetch_rule name (cached d.kernel name)))
rule_next d pid (Next.Store name) =
    if asks_on name (pending d) then Err Refusal.Blocked
    else Ok (unless_kept (kept_for pid d.kept) (store_rule name (buffer d.kernel pid) (cached d.kernel name)))
rule_next d pid _ = Ok (unless_kept (kept_for pid d.kept) (Rule.Steps Input.None))

abbrev pub rule_of : DeskView → ℕ → Result Next Refusal → Result Rule Refusal
rule_of d pid (Err why) = Err why
rule_of d pid (Ok next) = if asks_for pid (pending d) then Err Refusal.Blocked else rule_next d pid next

-- what a turn of a process does, or why it is refused
abbrev pub rule : DeskView → ℕ → Result Rule Refusal
rule d pid = rule_of d pid (next_at d.kernel pid)

-- ---- why a turn is refused: the first cause, want of memory aside

abbrev pub no_place : DeskView → ℕ → Option Refusal
no_place d places = if nat_lt (room d.kernel - asked_count (pending d)) places then Some Refusal.TraceFull else None

abbrev pub no_number : DeskView → Option Refusal
no_number d = if nat_lt LAST_REQUEST d.next then Some Refusal.TooMany else None

-- a step of a process with an input, which is a guess's own where it has a number
abbrev pub entry : ℕ → Input → Option ℕ → EntryView
entry pid input guess = record { pid = pid; input = input; guess = guess }

abbrev pub guess_refused_at : DeskView → ℕ → Option Refusal
guess_refused_at d pid =
    or_else (guess_misfits Input.Good (effect_at d.kernel (entry pid Input.Good (Some (next_guess d.kernel)))))
    (or_else (too_many d.kernel) (or_else (no_number d) (no_place d 2)))

abbrev pub rule_refused : DeskView → ℕ → Rule → Option Refusal
rule_refused d pid (Rule.Steps input) = or_else (step_misfit d.kernel (entry pid input None)) (no_place d 1)
rule_refused d pid (Rule.Guesses ask) = guess_refused_at d pid
rule_refused d pid (Rule.Asks ask) = or_else (no_number d) (no_place d 1)

-- ---- what a turn does

-- the undecided guesses that a fetch or store of the name by the process depends on
abbrev pub rests_of : KernelView → ℕ → List ℕ → List ℕ
rests_of k pid name = filter (λ g. has g (tags_at k (Proc pid)) || has g (tags_at k (CopyOf name))) (undecided_at k)

abbrev pub request_of : DeskView → ℕ → Ask → Option ℕ → PendingRequest
request_of d pid ask guess = record {
  number = d.next;
  process = pid;
  ask = ask;
  guess = guess;
  rests = rests_of d.kernel pid (asked_name ask);
  settled = settled d.kernel;
}

abbrev pub with_request : DeskView → PendingRequest → DeskView
with_request d q = record d { waiting = d.waiting ++ q ∷ []; next = d.next + 1 }

-- a step takes or forgets the kept answer of its process; a guess and a question make a request
abbrev pub turned : DeskView → ℕ → Rule → DeskView
turned d pid (Rule.Steps input) = record d { kernel = with_event d.kernel (Event.Step pid input); kept = forgotten pid d.kept }
turned d pid (Rule.Guesses ask) =
    record (with_request d (request_of d pid ask (Some (next_guess d.kernel)))) {
      kernel = with_event d.kernel (Event.Guess (next_guess d.kernel) pid Input.Good);
    }
turned d pid (Rule.Asks ask) = with_request d (request_of d pid ask None)

abbrev pub turn_answer : DeskView → Rule → Turn
turn_answer d (Rule.Steps input) = Turn.Stepped
turn_answer d (Rule.Guesses ask) = Turn.Guessed (next_guess d.kernel)
turn_answer d (Rule.Asks ask) = Turn.Asked d.next

-- ---- requests that are taken

-- as the server sees it
abbrev pub sent : PendingRequest → Request
sent q = record { number = q.number; rests = q.rests; settled = q.settled; guess = q.guess; ask = q.ask }

-- the oldest of these requests, as the server sees it
abbrev pub first_sent : List PendingRequest → Option Request
first_sent [] = None
first_sent (q ∷ qs) = Some (sent q)

-- a desk once the oldest of the requests that wait was handed out
abbrev pub first_taken : DeskView → List PendingRequest → DeskView
first_taken d [] = d
first_taken d (q ∷ qs) = record d { taken = d.taken ++ q ∷ []; waiting = qs }

-- ---- why a reply is handed back, want of memory aside

abbrev pub fits_ask : Ask → Answer → Bool
fits_ask (Ask.Get name) (Answer.Copy content) = true
fits_ask (Ask.Get name) Answer.Dropped = true
fits_ask (Ask.Get name) _ = false
fits_ask ask (Answer.Copy content) = false
fits_ask (Ask.Store name version bytes) Answer.Yes = not (version == LAST_VERSION)
fits_ask ask _ = true

-- the number of the oldest of these requests, or of the next one
abbrev pub expected : DeskView → List PendingRequest → ℕ
expected d [] = d.next
expected d (q ∷ qs) = q.number

abbrev pub out_of_turn : DeskView → ReplyRefusal
out_of_turn d = ReplyRefusal.OutOfTurn (expected d (pending d))

abbrev pub reply_refused : DeskView → Reply → List PendingRequest → Option ReplyRefusal
reply_refused d r [] = Some (out_of_turn d)
reply_refused d r (q ∷ qs) =
    if not (q.number == r.number) then Some (out_of_turn d)
    else if fits_ask q.ask r.answer then None else Some ReplyRefusal.WrongKind

-- ---- what a reply does

-- whether an event commits a guess
abbrev pub commits : ℕ → Event → Bool
commits id (Event.Commit g) = g == id
commits id event = false

abbrev pub is_lost : KernelView → ℕ → Bool
is_lost k g = not (has g (undecided_at k)) && not (list_any (commits g) k.trace)

-- told by its status
abbrev pub lost_by : Option Status → Bool
lost_by (Some Status.Undecided) = false
lost_by (Some Status.Committed) = false
lost_by s = true

-- a guess on which the request depends failed or was struck
abbrev pub is_void : KernelView → PendingRequest → Bool
is_void k q = list_any (is_lost k) q.rests

-- what the process gets of a refused guess
abbrev pub answer_kept : Ask → Answer → Option Input
answer_kept (Ask.Store name version bytes) (Answer.No content) = Some (Input.Stale content)
answer_kept ask (Answer.No content) = Some (Input.Fresh content)
answer_kept ask _ = None

abbrev pub kept_after : ℕ → Option Input → List KeptAnswer → List KeptAnswer
kept_after pid None ks = ks
kept_after pid (Some input) ks = forgotten pid ks ++ record { process = pid; input = input } ∷ []

abbrev pub decision : ℕ → Answer → Event
decision g Answer.Yes = Event.Commit g
decision g _ = Event.Fail g

abbrev pub decided : DeskView → PendingRequest → ℕ → Answer → DeskView
decided d q g a = record d { kernel = with_event d.kernel (decision g a); kept = kept_after q.process (answer_kept q.ask a) d.kept }

-- what the step of an asked request is given
abbrev pub input_of : Answer → Option Input
input_of Answer.Yes = Some Input.Good
input_of (Answer.No content) = Some (Input.Stale content)
input_of (Answer.Copy content) = Some (Input.Fresh content)
input_of Answer.Dropped = None

-- the step, which a refusal leaves out
abbrev pub stepped : KernelView → ℕ → Input → Option Refusal → KernelView
stepped k pid input None = with_event k (Event.Step pid input)
stepped k pid input (Some why) = k

abbrev pub answered : DeskView → PendingRequest → Option Input → DeskView
answered d q None = d
answered d q (Some input) = record d { kernel = stepped d.kernel q.process input (step_refused d.kernel (entry q.process input None)) }

abbrev pub given_to : DeskView → PendingRequest → Answer → Option ℕ → DeskView
given_to d q a (Some g) = if has g (undecided_at d.kernel) then decided d q g a else d
given_to d q a None = if is_void d.kernel q then d else answered d q (input_of a)

abbrev pub given : DeskView → Reply → List PendingRequest → DeskView
given d r [] = d
given d r (q ∷ qs) = given_to (record d { taken = qs }) q r.answer q.guess

abbrev pub decision_answer : ℕ → Answer → Given
decision_answer g Answer.Yes = Given.Committed g
decision_answer g _ = Given.Failed g

abbrev pub step_answer : ℕ → Option Input → Given
step_answer number None = Given.Forgotten number
step_answer number (Some input) = Given.Taken number

abbrev pub answer_to : KernelView → PendingRequest → Answer → Option ℕ → Given
answer_to k q a (Some g) = if has g (undecided_at k) then decision_answer g a else Given.Gone g
answer_to k q a None = if is_void k q then Given.Forgotten q.number else step_answer q.number (input_of a)

abbrev pub given_answer : DeskView → Reply → List PendingRequest → Given
given_answer d r [] = Given.Forgotten r.number
given_answer d r (q ∷ qs) = answer_to d.kernel q r.answer q.guess

abbrev pub first_guess : List PendingRequest → Option ℕ
first_guess [] = None
first_guess (q ∷ qs) = q.guess

-- a step that the kernel takes wants memory
abbrev pub is_taken : KernelView → ℕ → Option Input → Bool
is_taken k pid None = false
is_taken k pid (Some input) = is_none (step_refused k (entry pid input None))

-- the reply to an asked request takes its step, and with it memory
abbrev pub wants_memory : DeskView → Reply → List PendingRequest → Bool
wants_memory d r [] = false
wants_memory d r (q ∷ qs) = is_asked q && (not (is_void d.kernel q) && is_taken d.kernel q.process (input_of r.answer))
