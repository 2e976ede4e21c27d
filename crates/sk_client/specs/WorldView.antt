-- A world as its callers see it: a desk, a server, and what is on its way between them; and what each event does.
use Rattle.std.specs.Prelude.{◌≡◌, ℕ, ◌+◌, ◌≤◌, ◌⊎◌, true, length, List, [], ◌∷◌, ◌++◌, Option, Some, None, Result, Ok, Err, refl}
use Rattle.sk_client.specs.Base.{Coded, code_by, coded×, coded_list, coded_option, TerminalMap, TraceView}
use Rattle.sk_client.specs.Base.{EpochRefusal, Request, Reply, LAST_REQUEST, ServerView, server_code, answer_to}
use Rattle.sk_client.specs.Base.{answered, Edits, ReplyRefusal, WorldEvent, WorldAnswer, WorldNews, Cause, WorldStop}
use Rattle.sk_server.specs.contracts.request.Request as request_row
use Rattle.sk_server.specs.contracts.reply.Reply as reply_row
use Rattle.sk_client.specs.Pending.{PendingRequest}
use Rattle.sk_client.specs.Desk.{DeskView, desk_code, sent, first_taken, fits_ask}
use Rattle.sk_client.specs.DeskCalls.{TurnPost, ReplyPost, DeskEpochPost}

-- the replies on their way, the oldest first, and a request that was taken and that the server handed back
pub record WorldView : Type 0 where
  pub desk : DeskView
  pub server : ServerView
  pub replies : List Reply
  pub back : Option Request

abbrev pub world_code : Coded WorldView
world_code =
    code_by (DeskView × (ServerView × (List Reply × Option Request)))
    (coded× desk_code (coded× server_code (coded× (coded_list reply_row.the_row.coded) (coded_option request_row.the_row.coded))))
    (λ w. (w.desk, (w.server, (w.replies, w.back)))) (λ p. record { desk = p.0; server = p.1.0; replies = p.1.1.0; back = p.1.1.1 }) (λ _. refl)

-- no request made, and none answered
abbrev pub joined : DeskView → ServerView → WorldView
joined d s = record { desk = d; server = s; replies = []; back = None }

-- the oldest request that waits is taken
abbrev pub taken_from : WorldView → List PendingRequest → WorldView
taken_from w [] = w
taken_from w (q ∷ qs) = record w { desk = first_taken w.desk (q ∷ qs); back = Some (sent q) }

-- unless one was handed back, which comes first
abbrev pub taken_by : WorldView → Option Request → WorldView
taken_by w (Some q) = w
taken_by w None = taken_from w w.desk.waiting

abbrev pub reply_to : ServerView → Request → Reply
reply_to s q = record { number = q.number; answer = answer_to s q }

abbrev pub served : WorldView → Request → WorldView
served w q = record w { server = answered w.server q (answer_to w.server q); replies = w.replies ++ reply_to w.server q ∷ []; back = None }

-- what came of an event, from what its call answered
abbrev pub told_as : {A : Type 0} → (A → WorldAnswer) → Result A Cause → Result WorldAnswer Cause
told_as answer (Ok told) = Ok (answer told)
told_as answer (Err why) = Err why

-- the server answers the request that comes first; without one nothing changes, and without memory it is kept
abbrev pub Serves : Result WorldAnswer Cause → WorldView → WorldView → Option Request → Type 0
Serves result w new None = (result ≡ Err Cause.Idle) × (new ≡ w)
Serves (Ok told) w new (Some q) = (told ≡ WorldAnswer.Served (reply_to w.server q)) × (new ≡ served w q)
Serves (Err why) w new (Some q) = (why ≡ Cause.Memory) × (new ≡ w)

-- the server answers the request that comes first, as in `Serves`, and the reply is behind the others
abbrev pub ServesNext : Result (Unit {0}) Cause → WorldView → WorldView → Option Request → Type 0
ServesNext result w new None = (result ≡ Err Cause.Idle) × (new ≡ w)
ServesNext (Ok done) w new (Some q) = new ≡ served w q
ServesNext (Err why) w new (Some q) = (why ≡ Cause.Memory) × (new ≡ w)

-- the server answers a request, told of server and replies alone
abbrev pub AnswersWith : Result (Unit {0}) Cause → ServerView → List Reply → Request → ServerView → List Reply → Type 0
AnswersWith (Ok done) s rs q t all = (t ≡ answered s q (answer_to s q)) × (all ≡ rs ++ reply_to s q ∷ [])
AnswersWith (Err why) s rs q t all = (why ≡ Cause.Memory) × (t ≡ s) × (all ≡ rs)

-- the desk gets the oldest reply
abbrev pub Replies : Result WorldAnswer Cause → WorldView → WorldView → List Reply → Type 0
Replies result w new [] = (result ≡ Err Cause.Idle) × (new ≡ w)
Replies (Ok (WorldAnswer.Given told)) w new (r ∷ rs) = ReplyPost (Ok told) w.desk r new.desk × (new ≡ record w { desk = new.desk; replies = rs })
Replies (Ok told) w new (r ∷ rs) = ⊥
Replies (Err why) w new (r ∷ rs) = (why ≡ Cause.Memory) × ReplyPost (Err (r, ReplyRefusal.Memory)) w.desk r w.desk × (new ≡ w)

abbrev pub Turns : Result WorldAnswer Cause → WorldView → ℕ → WorldView → Type 0
Turns (Ok (WorldAnswer.Turn turn)) w pid new = TurnPost (Ok turn) w.desk pid new.desk × (new ≡ record w { desk = new.desk })
Turns (Err (Cause.Turn why)) w pid new = TurnPost (Err why) w.desk pid w.desk × (new ≡ w)
Turns result w pid new = ⊥

abbrev pub EditsFile : Result WorldAnswer Cause → WorldView → List ℕ → ℕ → List ℕ → WorldView → Type 0
EditsFile (Ok (WorldAnswer.Edited version)) w name expected bytes new = Edits w.server name expected bytes (Ok version) new.server × (new ≡ record w { server = new.server })
EditsFile (Err (Cause.Edit why)) w name expected bytes new = Edits w.server name expected bytes (Err why) w.server × (new ≡ w)
EditsFile result w name expected bytes new = ⊥

-- an event is done as desk and server do it; a refused one changes nothing, but that a request may have been taken
abbrev pub EventPost : Result WorldAnswer Cause → WorldView → WorldEvent → WorldView → Type 0
EventPost result w (WorldEvent.Turn pid) new = Turns result w pid new
EventPost result w WorldEvent.Serve new = let t = taken_by w w.back in Serves result t new t.back
EventPost result w WorldEvent.Reply new = Replies result w new w.replies
EventPost result w (WorldEvent.Edit name expected bytes) new = EditsFile result w name expected bytes new

-- an event is done as in `EventPost`, and told in a few words: what was served is the newest of the replies
abbrev pub NewsPost : Result WorldNews Cause → WorldView → WorldEvent → WorldView → Type 0
NewsPost (Ok (WorldNews.Turn turn)) w e new = EventPost (Ok (WorldAnswer.Turn turn)) w e new
NewsPost (Ok WorldNews.Served) w e new = (reply : Reply) × (older : List Reply) × (new.replies ≡ older ++ reply ∷ []) × EventPost (Ok (WorldAnswer.Served reply)) w e new
NewsPost (Ok (WorldNews.Given given)) w e new = EventPost (Ok (WorldAnswer.Given given)) w e new
NewsPost (Ok (WorldNews.Edited version)) w e new = EventPost (Ok (WorldAnswer.Edited version)) w e new
NewsPost (Err why) w e new = EventPost (Err why) w e new

-- the desk begins a new epoch, with nothing on its way to the server, which keeps its files; else nothing changes
abbrev pub WorldEpochPost : Result (TraceView × TerminalMap) EpochRefusal → WorldView → WorldView → Type 0
WorldEpochPost (Ok left) w new = DeskEpochPost (Ok left) w.desk new.desk × (new ≡ joined new.desk w.server)
WorldEpochPost (Err why) w new = DeskEpochPost (Err why) w.desk w.desk × (new ≡ w)

-- events in order, numbered from here, up to the first that is refused
abbrev pub RunsTo : Result (Unit {0}) WorldStop → WorldView → List WorldEvent → ℕ → WorldView → Type 0
RunsTo result w [] n new = (result ≡ Ok tt) × (new ≡ w)
RunsTo result w (e ∷ es) n new =
    ((told : WorldAnswer) × (mid : WorldView) × EventPost (Ok told) w e mid × RunsTo result mid es (n + 1) new)
    ⊎ ((why : Cause) × EventPost (Err why) w e new × (result ≡ Err (record { at = n; cause = why })))

-- ---- what holds of the parts of a world between its events

-- the numbers of requests count from here
abbrev pub Numbered : ℕ → List PendingRequest → Type 0
Numbered n [] = Unit {0}
Numbered n (q ∷ qs) = (q.number ≡ n) × Numbered (n + 1) qs

-- each request that was taken has its reply on the way, in order, but for the last where it was handed back
abbrev pub AreReplies : List Reply → Option Request → List PendingRequest → Type 0
AreReplies [] None [] = Unit {0}
AreReplies [] (Some b) (q ∷ []) = b ≡ sent q
AreReplies (r ∷ rs) b (q ∷ qs) = (q.number ≡ r.number) × (fits_ask q.ask r.answer ≡ true) × AreReplies rs b qs
AreReplies rs b qs = ⊥

-- the server's next request is the one that was handed back, or the oldest that waits
abbrev pub IsNext : ServerView → Option Request → DeskView → Type 0
IsNext s None d = Numbered s.next d.waiting × (d.next ≡ s.next + length d.waiting)
IsNext s (Some b) d = (b.number ≡ s.next) × (s.next ≤ LAST_REQUEST) × Numbered (s.next + 1) d.waiting × (d.next ≡ s.next + 1 + length d.waiting)

pub record IsJoined (d : DeskView) (s : ServerView) (rs : List Reply) (b : Option Request) : Type 0 where
  pub replies : AreReplies rs b d.taken
  pub next : IsNext s b d
  pub last : d.next ≤ LAST_REQUEST + 1
