-- The steps of a record and the requests whose reply was given, one for one; that no request has two replies; and the places of
-- the trace.
use Rattle.std.specs.Prelude.{◌≡◌, ℕ, ◌+◌, ◌≤◌, ◌⊎◌, length, List, ◌++◌, map, Option, Some, None, IsSome, slice_get}
use Rattle.sk_client.specs.Base.{Contains, MarkedEffect, Commit, Entity, Input, EntityState, EntryView, Saying}
use Rattle.sk_client.specs.Base.{KernelView, events_of, record_at, undecided_at, Sent, Answer, Reply}
use Rattle.sk_client.specs.Desk.{pending, asked_count, input_of}
use Rattle.sk_client.specs.Exchanges.{Exchanges}
use Rattle.sk_client.specs.AcceptedStores.{steps_at, IsStepAt, IsGiven}
use Rattle.sk_client.specs.WorldView.{WorldView}
use Rattle.sk_client.specs.Pending.{PendingRequest}

-- the trace keeps its limit, with a place for the decision of each undecided guess and for the step of each asked request
abbrev pub PlacesAreKept : WorldView → Type 0
PlacesAreKept v = length v.desk.kernel.trace + length (undecided_at v.desk.kernel) + asked_count (pending v.desk) ≤ v.desk.kernel.limit

-- a step counts that was asked, or whose guess committed
abbrev pub Counts : KernelView → EntryView → Type 0
Counts k n = (n.guess ≡ None) ⊎ ((g : ℕ) × (n.guess ≡ Some g) × Contains (events_of k) (Commit g))

-- one of the exchanges is a request that was accepted, and its reply was given
pub record Replied (served : Exchanges) (v : WorldView) : Type 0 where
  pub at : ℕ
  pub request : Sent
  pub reply : Reply
  pub there : slice_get served at ≡ Some (request, reply)
  pub accepted : reply.answer ≡ Answer.Yes
  pub given : IsGiven v request

-- a step at this place of the record counts, and is this request's: of its guess, or of none, with Good, and it does what
-- was asked
abbrev pub IsStepOf : KernelView → ℕ → Sent → Type 0
IsStepOf k place q = (s : IsStepAt k place q.guess q.ask) × Counts k s.entry

-- the steps of a record and the requests that they were taken for
pub record StepsAreReplied (before : ℕ) (served : Exchanges) (earlier v : WorldView) : Type 0 where
  -- the number of the request that the step at a place was taken for, where it was for one
  pub request_at : ℕ → Option ℕ
  pub within : (place number : ℕ) → request_at place ≡ Some number → IsSome (slice_get (record_at v.desk.kernel) place)
  -- no two steps are one request's
  pub once : (place other number : ℕ) → request_at place ≡ Some number → request_at other ≡ Some number → place ≡ other
  -- each step with Good is some request's, but for so many steps that were there before
  pub good : (place : ℕ) (n : EntryView) → before ≤ place → slice_get (record_at v.desk.kernel) place ≡ Some n → n.input ≡ Input.Good → IsSome (request_at place)
  -- where it counts, its request was accepted and its reply given
  pub steps :
      (place : ℕ) (n : EntryView) (f : MarkedEffect Entity EntityState Saying) → before ≤ place → slice_get (steps_at v.desk.kernel) place ≡ Some (n, f)
      → n.input ≡ Input.Good → Counts v.desk.kernel n
      → (r : Replied served v) × (request_at place ≡ Some r.request.number) × IsStepOf v.desk.kernel place r.request
  -- each accepted request whose reply was given has its step
  pub replies : (r : Replied served v) → (place : ℕ) × (request_at place ≡ Some r.request.number) × IsStepOf v.desk.kernel place r.request
  -- so has each asked request whose reply was given and that was not dropped
  pub asked : (q : Sent) (r : Reply) → Contains served (q, r) → IsGiven v q → q.guess ≡ None → IsSome (input_of r.answer) → (place : ℕ) × (request_at place ≡ Some q.number)
  -- a request's step is that of its guess, or is given what its reply gives
  pub made :
      (q : Sent) (r : Reply) (place : ℕ) (n : EntryView) → Contains served (q, r) → request_at place ≡ Some q.number
      → slice_get (record_at v.desk.kernel) place ≡ Some n → (n.guess ≡ q.guess) × (q.guess ≡ None → input_of r.answer ≡ Some n.input)
  -- and one that was pending in an earlier world has its step by its process
  pub its :
      (p : PendingRequest) (place : ℕ) (n : EntryView) → Contains (pending earlier.desk) p → request_at place ≡ Some p.number
      → slice_get (record_at v.desk.kernel) place ≡ Some n → (n.pid ≡ p.process) × (n.guess ≡ p.guess)

-- no request has two replies: no two exchanges are of one number, each reply has the number of its request, and the replies
-- were given in order, but for those that are on their way
pub record AreRepliedOnce (served : Exchanges) (v : WorldView) : Type 0 where
  pub once : (at other : ℕ) (x y : Sent × Reply) → slice_get served at ≡ Some x → slice_get served other ≡ Some y → x.0.number ≡ y.0.number → at ≡ other
  pub numbers : (q : Sent) (r : Reply) → Contains served (q, r) → r.number ≡ q.number
  pub given : List Reply
  pub order : map (λ x. x.1) served ≡ given ++ v.replies
