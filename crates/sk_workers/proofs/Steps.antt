-- What no call of a desk changes.
use Rattle.sk_workers.proofs.Names.{ap, length, Bool, ℕ, subst, inr, true, Ok, ◌∷◌, sym, Err, inl, ◌≡◌, false, refl}
use Rattle.sk_workers.proofs.Names.{List, Result, [], ◌∙◌, cond, IfErr, given_to, requests_taken, stepped, given}
use Rattle.sk_workers.proofs.Names.{decided, input_of, first_taken, DeskView, answered, turned, rule, is_void}
use Rattle.sk_workers.proofs.Names.{ReplyPost, ByRule, TurnPost, DeskTakesIn, DeskHandInPost, Given, ReplyRefusal, Turn}
use Rattle.sk_workers.proofs.Names.{PendingRequest, Rule, undecided_at, step_refused, HandIn, Stale, Memory, Refusal}
use Rattle.sk_workers.proofs.Names.{has, LeaseView, after_private, Input, Answer, Reply, HandInAdds, TurnTold}
use Rattle.sk_workers.proofs.Names.{answer_alone, AnyTold, as_opened, HandInTold, CallPost, TakesAny, TakesInAdds}
use Rattle.sk_workers.proofs.Names.{TurnAdds, handed_back, HandsIn, BookView, WorkerView, Answered}
use Rattle.sk_workers.proofs.Names.{Turned, Replied, HandedIn, DeskCall}
use Rattle.std.proofs.Common.{Option, Some, None}
use Rattle.sk_client.specs.Desk.{entry}
use Rattle.sk_workers.specs.declared.entry.DeskCall.TheVariants as calls

-- the opening stays
abbrev Keeps : DeskView → DeskView → Type 0
Keeps d e = as_opened e ≡ as_opened d

-- ---- turns

turned_keeps : (d : DeskView) (pid : ℕ) (r : Rule) → Keeps d (turned d pid r)
turned_keeps d pid (Rule.Steps input) = refl
turned_keeps d pid r = refl

by_rule_keeps : (d e : DeskView) (pid : ℕ) (answer : Result Turn Refusal) (r : Result Rule Refusal) → ByRule answer d pid e r → Keeps d e
by_rule_keeps d e pid (Ok turn) (Ok r) post = ap as_opened post.2 ∙ turned_keeps d pid r
by_rule_keeps d e pid (Err why) (Ok r) post = ap as_opened post.1
by_rule_keeps d e pid answer (Err why) post = ap as_opened post.1

-- ---- replies

stepped_keeps : (d : DeskView) (pid : ℕ) (input : Input) (why : Option Refusal) → Keeps d (record d { kernel = stepped d.kernel pid input why })
stepped_keeps d pid input None = refl
stepped_keeps d pid input (Some why) = refl

answered_keeps : (d : DeskView) (q : PendingRequest) (input : Option Input) → Keeps d (answered d q input)
answered_keeps d q None = refl
answered_keeps d q (Some input) = stepped_keeps d q.process input (step_refused d.kernel (entry q.process input None))

cond_keeps : (d x y : DeskView) (b : Bool) → Keeps d x → Keeps d y → Keeps d (cond b x y)
cond_keeps d x y true p q = p
cond_keeps d x y false p q = q

given_to_keeps : (d : DeskView) (q : PendingRequest) (a : Answer) (guess : Option ℕ) → Keeps d (given_to d q a guess)
given_to_keeps d q a (Some g) = cond_keeps d (decided d q g a) d (has g (undecided_at d.kernel)) refl refl
given_to_keeps d q a None = cond_keeps d d (answered d q (input_of a)) (is_void d.kernel q) refl (answered_keeps d q (input_of a))

given_keeps : (d : DeskView) (r : Reply) (qs : List PendingRequest) → Keeps d (given d r qs)
given_keeps d r [] = refl
given_keeps d r (q ∷ qs) = given_to_keeps (record d { taken = qs }) q r.answer q.guess

reply_keeps : (d e : DeskView) (r : Reply) (answer : Result Given (Reply × ReplyRefusal)) → ReplyPost answer d r e → Keeps d e
reply_keeps d e r (Ok told) post = ap as_opened post.2 ∙ given_keeps d r d.taken
reply_keeps d e r (Err back) post = ap as_opened post.2

-- ---- hand-ins

hand_in_keeps : (d e : DeskView) (pid count : ℕ) (r : Result (Unit {0}) HandIn) → HandsIn r d pid count e → Keeps d e
hand_in_keeps d e pid count (Err Stale) is = ap as_opened is
hand_in_keeps d e pid count (Err Memory) is = ap as_opened is.2.3
hand_in_keeps d e pid count s is = ap as_opened is.2.2

-- what the desk does with a lease is what is entered of it
pub hands_in : (d e : DeskView) (l : LeaseView) (answer : Result (Unit {0}) HandIn)
    → after_private l.script l.count l.lent ≡ Some l.now → DeskTakesIn answer l d e → HandsIn answer d l.lent.pid l.count e
hands_in d e l (Err Stale) done post = post.1
hands_in d e l s done post = (l, (post.0, refl, refl, done), post)

-- ---- calls

pub step_keeps : (d e : DeskView) (call : DeskCall) (answer : Answered) → CallPost d call answer e → as_opened e ≡ as_opened d
step_keeps d e (calls.Turn pid) (Turned r) step = by_rule_keeps d e pid r (rule d pid) step.0
step_keeps d e (calls.Reply reply) (Replied r) step = reply_keeps d e reply (handed_back reply r) step.0
step_keeps d e (calls.HandIn pid count) (HandedIn r) step = hand_in_keeps d e pid count r step.0
step_keeps d e call answer step = absurd step

pub taken_keeps : (d : DeskView) (qs : List PendingRequest) → as_opened (first_taken d qs) ≡ as_opened d
taken_keeps d [] = refl
taken_keeps d (q ∷ qs) = refl

-- ---- refused calls

by_rule_leaves : (d e : DeskView) (pid : ℕ) (why : Refusal) (r : Result Rule Refusal) → ByRule (Err why) d pid e r → e ≡ d
by_rule_leaves d e pid why (Ok r) post = post.1
by_rule_leaves d e pid why (Err other) post = post.1

-- a turn that is refused leaves the desk
pub turn_leaves : (d e : DeskView) (pid : ℕ) (answer : Result Turn Refusal) (why : Refusal) → TurnPost answer d pid e → answer ≡ Err why → e ≡ d
turn_leaves d e pid answer why post is = by_rule_leaves d e pid why (rule d pid) (subst (λ (a : Result Turn Refusal). TurnPost a d pid e) is post)

-- an answer tells what it would with the reply that comes back
pub with_back : (d e : DeskView) (reply : Reply) (answer : Result Given (Reply × ReplyRefusal)) (r : Result Given ReplyRefusal)
    → ReplyPost answer d reply e → r ≡ answer_alone answer → ReplyPost (handed_back reply r) d reply e
with_back d e reply (Ok told) r post is = subst (λ (x : Result Given ReplyRefusal). ReplyPost (handed_back reply x) d reply e) (sym is) post
with_back d e reply (Err back) r post is = subst (λ (x : Result Given ReplyRefusal). ReplyPost (handed_back reply x) d reply e) (sym is) (refl, post.1, post.2)

-- ---- receipts

-- a turn that is entered has its receipt
pub turn_told : (r : Result Turn Refusal) (b : BookView) (w : WorkerView) (pid : ℕ) (b' : BookView) (w' : WorkerView) → TurnAdds r b w pid b' w' → TurnTold r w pid w'
turn_told r b w pid b' w' (inl none) = inl (none.0, none.2)
turn_told r b w pid b' w' (inr adds) = inr (adds.0.1, length b.history, requests_taken b.desk, adds.2)

-- a lease that is refused comes back
pub without_back : (back : LeaseView × HandIn) (b : BookView) (w : WorkerView) (l : LeaseView) (b' : BookView) (w' : WorkerView)
    → HandInAdds (Err back) b w l b' w' → TakesInAdds (Err back.1) b w l b' w'
without_back back b w l b' w' (inl none) = inl none
without_back back b w l b' w' (inr adds) = inr (adds.0.1, adds.1)

pub desk_takes : (r : Result (Unit {0}) (LeaseView × HandIn)) (l : LeaseView) (d e : DeskView) → DeskHandInPost r l d e → DeskTakesIn (answer_alone r) l d e
desk_takes (Ok u) l d e post = post
desk_takes (Err back) l d e post = post.1

-- what comes back is what was given, and for want of memory all is as it was
pub comes_back : (r : Result (Unit {0}) (LeaseView × HandIn)) (l : LeaseView) (d e : DeskView) → DeskHandInPost r l d e → IfErr r (λ back. back.0 ≡ l)
comes_back (Ok u) l d e post = tt
comes_back (Err back) l d e post = post.0

pub short_back : (r : Result (Unit {0}) (LeaseView × HandIn)) (l : LeaseView) (d e : DeskView) → DeskHandInPost r l d e → answer_alone r ≡ Err Memory → e ≡ d
short_back r l d e post is = (subst (λ (x : Result (Unit {0}) HandIn). DeskTakesIn x l d e) is (desk_takes r l d e post)).3

taken_told : (r : Result (Unit {0}) HandIn) (b : BookView) (w : WorkerView) (l : LeaseView) (b' : BookView) (w' : WorkerView)
    → TakesInAdds r b w l b' w' → HandInTold r w l w'
taken_told r b w l b' w' (inl none) = inl (none.0, none.2)
taken_told r b w l b' w' (inr adds) = inr (adds.1.0.1, length b.history, requests_taken b.desk, adds.1.2)

-- so has a lease that is handed in, where there is one
pub any_told : (r : Option (Result (Unit {0}) HandIn)) (b : BookView) (w : WorkerView) (l : Option LeaseView) (b' : BookView) (w' : WorkerView)
    → TakesAny r b w l b' w' → AnyTold r w l w'
any_told None b w None b' w' takes = takes.1
any_told (Some r) b w (Some l) b' w' takes = taken_told r b w l b' w' takes
any_told None b w (Some l) b' w' takes = absurd takes
any_told (Some r) b w None b' w' takes = absurd takes
