-- The steps of accepted stores.
use Rattle.std.specs.Prelude.{◌≡◌, ℕ, ◌+◌, ◌<◌, List, [], ◌∷◌, map, Option, Some, slice_get, ◌⊎◌}
use Rattle.sk_client.specs.Base.{Contains, MarkedEffect, effects, Entity, Input, EntityState, EntryView, Saying, plain}
use Rattle.sk_client.specs.Base.{KernelView, record_at, Sent, Ask, Answer, Reply}
use Rattle.sk_client.specs.Table.{Bytes, copy_of}
use Rattle.sk_client.specs.Desk.{pending}
use Rattle.sk_client.specs.Exchanges.{Exchanges}
use Rattle.sk_client.specs.WorldView.{WorldView}
use Rattle.sk_client.specs.Pending.{PendingRequest}

-- parts of two lists, side by side
abbrev pub paired : {A B : Type 0} → List A → List B → List (A × B)
paired [] ys = []
paired (x ∷ xs) [] = []
paired (x ∷ xs) (y ∷ ys) = (x, y) ∷ paired xs ys

-- the steps of a kernel's record, each with what it did
abbrev pub steps_at : KernelView → List (EntryView × MarkedEffect Entity EntityState Saying)
steps_at k = paired (record_at k) (effects (plain k.scripts) k.start (record_at k))

-- what a step with Good does by its request: a store sets the copy, a check writes no copy at all, and no fetch gets Good
abbrev pub DoesAsked : Ask → List (Entity × Option EntityState) → Type 0
DoesAsked (Ask.Store name version bytes) ws = Contains ws (Entity.Copy name, Some (copy_of (record { version = version + 1; bytes = bytes })))
DoesAsked (Ask.Check name version) ws = (any : Bytes) → Contains (map (λ w. w.0) ws) (Entity.Copy any) → ⊥
DoesAsked (Ask.Get name) ws = ⊥

-- a step at this place of the record is that of a guess, or of none, it was taken with Good, and it does what was asked
pub record IsStepAt (k : KernelView) (place : ℕ) (mark : Option ℕ) (ask : Ask) : Type 0 where
  pub entry : EntryView
  pub effect : MarkedEffect Entity EntityState Saying
  pub there : slice_get (steps_at k) place ≡ Some (entry, effect)
  pub guess : entry.guess ≡ mark
  pub input : entry.input ≡ Input.Good
  pub does : DoesAsked ask effect.written

-- the step of a store that was made with this guess, or asked, stands in the kernel's record
abbrev pub StandsIn : KernelView → Option ℕ → Bytes → ℕ → Bytes → Type 0
StandsIn k mark name version bytes = (place : ℕ) × IsStepAt k place mark (Ask.Store name version bytes)

-- no request of this number is pending
abbrev pub IsGiven : WorldView → Sent → Type 0
IsGiven v q = (p : PendingRequest) → Contains (pending v.desk) p → p.number ≡ q.number → ⊥

-- a request was made with a guess, or its reply was given
abbrev pub IsDue : WorldView → Sent → Type 0
IsDue v q = ((g : ℕ) × (q.guess ≡ Some g)) ⊎ IsGiven v q

-- the step of each store that was accepted and is due stands in the record of a later world
abbrev pub StoresStand : Exchanges → WorldView → WorldView → Type 0
StoresStand served v later =
    (q : Sent) (r : Reply) (name : Bytes) (version : ℕ) (bytes : Bytes) → Contains served (q, r) → r.answer ≡ Answer.Yes → q.ask ≡ Ask.Store name version bytes → IsDue v q
    → StandsIn later.desk.kernel q.guess name version bytes

-- the step of each store that was made with a guess by now, and that is accepted, by now or later, stands in the record of
-- this world
abbrev pub StoresStood : Exchanges → WorldView → Type 0
StoresStood served v =
    (q : Sent) (r : Reply) (name : Bytes) (version : ℕ) (bytes : Bytes) (g : ℕ) → Contains served (q, r) → r.answer ≡ Answer.Yes → q.ask ≡ Ask.Store name version bytes
    → q.guess ≡ Some g → q.number < v.desk.next → StandsIn v.desk.kernel (Some g) name version bytes

-- one of the exchanges is a store that was accepted and is due
pub record DueStore (served : Exchanges) (v : WorldView) : Type 0 where
  pub at : ℕ
  pub request : Sent
  pub reply : Reply
  pub name : Bytes
  pub version : ℕ
  pub bytes : Bytes
  pub there : slice_get served at ≡ Some (request, reply)
  pub accepted : reply.answer ≡ Answer.Yes
  pub asks : request.ask ≡ Ask.Store name version bytes
  pub due : IsDue v request

-- by its request's number each such store has a place of the record of a later world where its step stands, and no two
-- of them have one place
pub record StandApart (served : Exchanges) (v later : WorldView) : Type 0 where
  pub place_of : ℕ → ℕ
  pub stands : (s : DueStore served v) → IsStepAt later.desk.kernel (place_of s.request.number) s.request.guess (Ask.Store s.name s.version s.bytes)
  pub apart : (s t : DueStore served v) → place_of s.request.number ≡ place_of t.request.number → s.at ≡ t.at
