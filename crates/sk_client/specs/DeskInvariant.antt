-- What holds of the parts of a desk between its calls.
use Rattle.std.specs.Prelude.{◌≡◌, ℕ, ◌+◌, ◌≤◌, length, List, [], ◌∷◌, ◌++◌}
use Rattle.sk_record.specs.Trace.{marks}
use Rattle.sk_client.specs.Pending.{PendingRequest}

-- the guesses of requests
abbrev pub guesses_of : List PendingRequest → List ℕ
guesses_of [] = []
guesses_of (q ∷ qs) = marks q.guess ++ guesses_of qs

-- of a desk: its tokens, the requests that were taken and those that wait, and its kept answers, for so many of which there is room
pub record IsTidy (tokens : List ℕ) (taken waiting : List PendingRequest) (answers answer_room : ℕ) : Type 0 where
  -- the tokens that are held are those of the requests, in order
  pub held : tokens ≡ guesses_of (taken ++ waiting)
  -- each request can have its answer kept
  pub keeps : answers + length (taken ++ waiting) ≤ answer_room
