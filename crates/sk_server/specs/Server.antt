-- The server: its files, the number of the next request, and the refused guesses that it remembers.
use Rattle.std.specs.Prelude.{ℕ, ◌+◌, ◌==◌, ◌&&◌, nat_le, Bool, false, if◌then◌else◌, List, [], ◌++◌, Option, None, is_some, is_none, refl}
use Rattle.std.specs.List.{filter, list_any}
use Rattle.std.specs.Coded.{Coded, code_by, coded×, coded_ℕ, coded_list}
use Rattle.std.specs.FinMap as map
use Rattle.sk_record.specs.Notes.{has}
use Rattle.sk_record.specs.Trace.{marks}
use Rattle.sk_server.specs.Files.{FileMap, file_map_code, file_of, is_fitting, written}
use Rattle.sk_server.specs.declared.server.TheConstants.{LAST_REQUEST}
use Rattle.sk_server.specs.declared.request.Ask.{Ask}
use Rattle.sk_server.specs.declared.request.Request.{Request}
use Rattle.sk_server.specs.declared.reply.Answer.{Answer}

-- a server as contracts see it: its files, the number of the request that is next, and the refused guesses that it remembers
pub record ServerView : Type 0 where
  pub files : FileMap
  pub next : ℕ
  pub refused : List ℕ

abbrev pub server_code : Coded ServerView
server_code =
    code_by (FileMap × (ℕ × List ℕ)) (coded× file_map_code (coded× coded_ℕ (coded_list coded_ℕ)))
    (λ s. (s.files, (s.next, s.refused)))
    (λ p. record { files = p.0; next = p.1.0; refused = p.1.1 }) (λ _. refl)

-- without files; its first request has number 1
abbrev pub new_server : ServerView
new_server = record { files = map.empty; next = 1; refused = [] }

-- requests are answered by rising number
abbrev pub is_in_turn : ServerView → Request → Bool
is_in_turn s q = (q.number == s.next) && nat_le q.number LAST_REQUEST

-- the refused guesses on which this request or a later one can depend
abbrev pub remembered : Request → List ℕ → List ℕ
remembered q refused = filter (λ g. nat_le q.settled g) refused

-- the request depends on one of these guesses
abbrev pub is_dropped : Request → List ℕ → Bool
is_dropped q refused = list_any (λ g. has g q.rests) refused

-- the answer where the request depends on no refused guess
abbrev pub judged : FileMap → Ask → Answer
judged files (Ask.Get name) = Answer.Copy (file_of files name)
judged files (Ask.Check name version) =
    if (file_of files name).version == version then Answer.Yes else Answer.No (file_of files name)
judged files (Ask.Store name expected bytes) =
    if is_fitting files name expected then Answer.Yes else Answer.No (file_of files name)

abbrev pub answer_to : ServerView → Request → Answer
answer_to s q = if is_dropped q (remembered q s.refused) then Answer.Dropped else judged s.files q.ask

-- the files after an answer: a store that is accepted is a write
abbrev pub files_after : FileMap → Ask → Answer → FileMap
files_after files (Ask.Store name expected bytes) Answer.Yes = written files name expected bytes
files_after files _ _ = files

-- the guess that an answer refuses
abbrev pub refused_by : Option ℕ → Answer → Option ℕ
refused_by guess (Answer.No file) = guess
refused_by guess Answer.Dropped = guess
refused_by guess answer = None

-- the server after an answer to a request
abbrev pub answered : ServerView → Request → Answer → ServerView
answered s q a = record {
  files = files_after s.files q.ask a;
  next = s.next + 1;
  refused = remembered q s.refused ++ marks (refused_by q.guess a);
}

-- a store of a file that is not there
abbrev pub is_new_file : FileMap → Ask → Bool
is_new_file files (Ask.Store name expected bytes) = is_none (map.get files name)
is_new_file files _ = false

-- an answer adds something: a new file, or a guess to remember
abbrev pub adds : ServerView → Request → Answer → Bool
adds s q Answer.Yes = is_new_file s.files q.ask
adds s q a = is_some (refused_by q.guess a)
