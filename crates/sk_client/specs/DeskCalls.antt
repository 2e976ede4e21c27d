-- What the calls of a desk answer.
use Rattle.std.specs.Prelude.{◌≡◌, ℕ, ◌<◌, true, length, [], Some, None, Result, Ok, Err}
use Rattle.sk_client.specs.Base.{cause, Refusal, TraceView, TerminalMap, released_at, LeavesTexts, EpochPost}
use Rattle.sk_client.specs.Base.{EpochRefusal, Reply, Turn, Given, Pending, ReplyRefusal}
use Rattle.sk_client.specs.Desk.{DeskView, Rule, opened_at, pending, rule, rule_refused, turn_answer, turned, reply_refused, given_answer, given, wants_memory}

-- what a rule says is done, or the first cause against it is told, and nothing changes
abbrev pub RulePost : Result Turn Refusal → DeskView → ℕ → Rule → DeskView → Type 0
RulePost (Ok turn) old pid rule new = (rule_refused old pid rule ≡ None) × (turn ≡ turn_answer old rule) × (new ≡ turned old pid rule)
RulePost (Err why) old pid rule new = (rule_refused old pid rule ≡ cause why) × (new ≡ old)

-- a turn takes the first rule that applies; a process that is not there, has ended or is blocked takes none
abbrev pub ByRule : Result Turn Refusal → DeskView → ℕ → DeskView → Result Rule Refusal → Type 0
ByRule result old pid new (Ok rule) = RulePost result old pid rule new
ByRule result old pid new (Err why) = (result ≡ Err why) × (new ≡ old)

-- what a turn answers and leaves, by the rule; refused, all is as it was
abbrev pub TurnPost : Result Turn Refusal → DeskView → ℕ → DeskView → Type 0
TurnPost result old pid new = ByRule result old pid new (rule old pid)

-- why a reply comes back; memory is wanted for a step alone
abbrev pub HandsBack : ReplyRefusal → DeskView → Reply → Type 0
HandsBack ReplyRefusal.Memory d r = (reply_refused d r d.taken ≡ None) × (wants_memory d r d.taken ≡ true)
HandsBack why d r = reply_refused d r d.taken ≡ Some why

-- a reply is given, or comes back, and nothing changes
abbrev pub ReplyPost : Result Given (Reply × ReplyRefusal) → DeskView → Reply → DeskView → Type 0
ReplyPost (Ok told) old r new = (reply_refused old r old.taken ≡ None) × (told ≡ given_answer old r old.taken) × (new ≡ given old r old.taken)
ReplyPost (Err back) old r new = (back.0 ≡ r) × HandsBack back.1 old r × (new ≡ old)

-- what comes back of a reply that was lent
abbrev pub handed_back : Reply → Result Given ReplyRefusal → Result Given (Reply × ReplyRefusal)
handed_back r (Ok told) = Ok told
handed_back r (Err why) = Err (r, why)

-- a desk ends where no request is pending: its trace, and what its terminals have released; else it comes back
abbrev pub ShutPost : Result (TraceView × TerminalMap) (DeskView × Pending) → DeskView → Type 0
ShutPost (Ok left) d = (pending d ≡ []) × (left.0.events ≡ d.kernel.trace) × ((t : ℕ) → LeavesTexts d.kernel t (released_at left.1 t))
ShutPost (Err back) d = (0 < length (pending d)) × (back.0 ≡ d) × (back.1.0 ≡ length (pending d))

-- where no request is pending a new epoch begins: that of the kernel, with kept answers forgotten, whose first request is the
-- next one; else nothing changes
abbrev pub DeskEpochPost : Result (TraceView × TerminalMap) EpochRefusal → DeskView → DeskView → Type 0
DeskEpochPost (Ok left) old new = (pending old ≡ []) × EpochPost (Ok left) old.kernel new.kernel × (new ≡ opened_at new.kernel old.next)
DeskEpochPost (Err (EpochRefusal.Undecided n)) old new = (n ≡ length (pending old)) × (0 < n) × (new ≡ old)
DeskEpochPost (Err EpochRefusal.Memory) old new = (pending old ≡ []) × (new ≡ old)
