-- What the calls on a server answer and do.
use Rattle.std.specs.Prelude.{◌≡◌, ℕ, ◌+◌, true, false, List, [], ◌∷◌, ◌++◌, None, Result, Ok, Err}
use Rattle.std.specs.FinMap as map
use Rattle.sk_server.specs.Files.{file_of, is_fitting, written}
use Rattle.sk_server.specs.Server.{ServerView, is_in_turn, answer_to, answered, adds}
use Rattle.sk_server.specs.declared.request.Request.{Request}
use Rattle.sk_server.specs.declared.reply.Reply.{Reply}
use Rattle.sk_server.specs.declared.server.ServerRefusal.{ServerRefusal}
use Rattle.sk_server.specs.declared.server.EditRefusal.{EditRefusal}

-- another number is due; or what the answer adds has no room
abbrev pub IsRefused : ServerView → Request → ServerRefusal → Type 0
IsRefused s q (ServerRefusal.OutOfTurn expected) = (is_in_turn s q ≡ false) × (expected ≡ s.next)
IsRefused s q ServerRefusal.Memory = (is_in_turn s q ≡ true) × (adds s q (answer_to s q) ≡ true)

-- the reply to a request in turn; or the request comes back, and all is as it was
abbrev pub Answers : ServerView → Request → Result Reply (Request × ServerRefusal) → ServerView → Type 0
Answers s q (Ok reply) t =
    (is_in_turn s q ≡ true)
    × (reply ≡ record { number = q.number; answer = answer_to s q })
    × (t ≡ answered s q (answer_to s q))
Answers s q (Err back) t = (back.0 ≡ q) × IsRefused s q back.1 × (t ≡ s)

-- a request that is lent is answered, with the reply behind these others; after a refusal there is none, and all is as it was
abbrev pub AnswersBehind : ServerView → List Reply → Request → Result (Unit {0}) ServerRefusal → ServerView → List Reply → Type 0
AnswersBehind s rs q (Ok done) t all =
    (is_in_turn s q ≡ true)
    × (all ≡ rs ++ record { number = q.number; answer = answer_to s q } ∷ [])
    × (t ≡ answered s q (answer_to s q))
AnswersBehind s rs q (Err why) t all = IsRefused s q why × (t ≡ s) × (all ≡ rs)

-- a write of another client: the new version, or the actual one where it is not the expected one or the last; memory is wanted for a new
-- file alone
abbrev pub Edits : ServerView → List ℕ → ℕ → List ℕ → Result ℕ EditRefusal → ServerView → Type 0
Edits s name expected bytes (Ok version) t =
    (is_fitting s.files name expected ≡ true)
    × (version ≡ expected + 1)
    × (t ≡ record s { files = written s.files name expected bytes })
Edits s name expected bytes (Err (EditRefusal.Version actual)) t =
    (is_fitting s.files name expected ≡ false)
    × (actual ≡ (file_of s.files name).version)
    × (t ≡ s)
Edits s name expected bytes (Err EditRefusal.Memory) t =
    (is_fitting s.files name expected ≡ true)
    × (map.get s.files name ≡ None)
    × (t ≡ s)
