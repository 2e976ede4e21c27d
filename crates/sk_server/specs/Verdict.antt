-- How a request is answered, in a few words, and the answer that it stands for.
use Rattle.std.specs.Prelude.{◌≡◌, ℕ, true, List, Result, Ok, Err}
use Rattle.sk_server.specs.Files.{FileMap, file_of}
use Rattle.sk_server.specs.Server.{ServerView, is_in_turn, answer_to, answered}
use Rattle.sk_server.specs.Calls.{IsRefused}
use Rattle.sk_server.specs.declared.request.Ask.{Ask}
use Rattle.sk_server.specs.declared.request.Request.{Request}
use Rattle.sk_server.specs.declared.reply.Answer.{Answer}
use Rattle.sk_server.specs.declared.server.ServerRefusal.{ServerRefusal}
use Rattle.sk_server.specs.declared.verdict.Verdict.{Verdict}

-- the name of the file that is asked about
abbrev pub asked_name : Ask → List ℕ
asked_name (Ask.Get name) = name
asked_name (Ask.Check name version) = name
asked_name (Ask.Store name version bytes) = name

-- a content is that of the file that is asked about
abbrev pub said : FileMap → Ask → Verdict → Answer
said files ask Verdict.Yes = Answer.Yes
said files ask Verdict.No = Answer.No (file_of files (asked_name ask))
said files ask Verdict.Copy = Answer.Copy (file_of files (asked_name ask))
said files ask Verdict.Dropped = Answer.Dropped

-- a request in turn is answered so, or is refused, and all is as it was
abbrev pub Decides : ServerView → Request → Result Verdict ServerRefusal → ServerView → Type 0
Decides s q (Ok verdict) t = (is_in_turn s q ≡ true) × (said t.files q.ask verdict ≡ answer_to s q) × (t ≡ answered s q (answer_to s q))
Decides s q (Err why) t = IsRefused s q why × (t ≡ s)
