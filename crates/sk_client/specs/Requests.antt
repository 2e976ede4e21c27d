-- The requests of a desk in one queue, and what is seen of them.
use Rattle.std.specs.Prelude.{◌≡◌, ℕ, ◌≤◌, length, map, drop, List, [], ◌∷◌, All, Option, None, Some}
use Rattle.sk_client.specs.Base.{Bor}
use Rattle.sk_client.specs.declared.requests.Queued.{Queued}
use Rattle.sk_client.specs.Pending.{PendingRequest}
use Rattle.sk_client.specs.Desk.{asked_count}

-- those that were taken and those that wait to be, the oldest first, and for how many requests there is room
pub record RequestsView : Type 0 where
  pub taken : List PendingRequest
  pub waiting : List PendingRequest
  pub room : ℕ

abbrev pub requests_in : List Queued → List PendingRequest
requests_in qs = map (λ q. q.request) qs

-- a request can be sent: what it depends on is there once more
abbrev pub IsWhole : Queued → Type 0
IsWhole q = q.again ≡ Some q.request.rests

-- of so many that were taken, which are the first ones, and for so many of which a process waits
pub record IsQueue (taken asked : ℕ) (qs : List Queued) : Type 0 where
  pub within : taken ≤ length qs
  pub whole : All IsWhole (drop taken qs)
  pub counted : asked ≡ asked_count (requests_in qs)

-- the oldest of some requests, where there is one
abbrev pub IsOldest : Option (Bor PendingRequest) → List PendingRequest → Type 0
IsOldest None qs = qs ≡ []
IsOldest (Some q) qs = qs ≡ q.now ∷ drop 1 qs
