-- What came of all that a store did.
use Rattle.std.specs.Prelude.{◌==◌, ◌-◌, ℕ, Bool, false, is_some, List, [], ◌∷◌, ◌++◌, flat_map, map, take, Some, if◌then◌else◌}
use Rattle.sk_durable.specs.Base.{filter, is_refused, RecordView, synced_after, LoggedBatch, Refused, Commit, Event}
use Rattle.sk_durable.specs.Base.{Fail, failed_in, kept, Logged, Answer, answer_text, Entry, Opens, Runs, Stage}
use Rattle.sk_durable.specs.Store.{asked_for, came, no_past, was_handed, was_refused, was_told, Past, StoreView}
use Rattle.sk_durable.specs.Calls.{Call, Connects, Hears, Carries, Declines, Tells, Refuses, Hands, Sends, Learns, Cuts, Decides}

-- a command that was carried out: its work, its answer and what it depended on
abbrev pub Command : Type 0
Command = Logged Entry (ℕ × Answer)

abbrev pub carried_by : Call → List Command
carried_by (Carries t bytes ask asked answer rests) = record { entry = Runs asked; said = Some (t, (asked.ticket, answer)); rests = rests } ∷ []
carried_by other = []

-- the commands that were carried out, in order
abbrev pub carried : List Call → List Command
carried cs = flat_map carried_by cs

abbrev pub decided_by : Call → List (Event Entry)
decided_by (Decides (LoggedBatch batch)) = Commit batch ∷ []
decided_by (Decides (Refused batch keys)) = Fail batch ∷ []
decided_by other = []

-- what batches were told as, one after another
abbrev pub decided : List Call → List (Event Entry)
decided cs = flat_map decided_by cs

-- the batches that were told as refused
abbrev pub failed : List Call → List ℕ
failed cs = failed_in (decided cs)

-- the commands that came, in order, without those that depend on a failed batch
abbrev pub stands : List Call → List Command
stands cs = kept (failed cs) (carried cs)

abbrev pub entries : List Command → List Entry
entries commands = map (λ r. r.entry) commands

-- ---- a channel since it was connected

abbrev pub past_after : ℕ → Call → Past → Past
past_after t (Connects u) p = if u == t then no_past else p
past_after t (Hears u bytes) p = if u == t then came bytes p else p
past_after t (Carries u bytes ask asked answer rests) p = if u == t then asked_for bytes ask p else p
past_after t (Declines u bytes ask ticket why) p = if u == t then asked_for bytes ask p else p
past_after t (Tells u ticket answer) p = if u == t then was_told ticket (answer_text answer) p else p
past_after t (Refuses u ticket) p = if u == t then was_refused ticket p else p
past_after t (Hands u bytes) p = if u == t then was_handed bytes p else p
past_after t other p = p

abbrev pub past_from : ℕ → Past → List Call → Past
past_from t p [] = p
past_from t p (c ∷ cs) = past_from t (past_after t c p) cs

-- what came on it, what was asked for, told and handed over
abbrev pub past : ℕ → List Call → Past
past t cs = past_from t no_past cs

abbrev pub carried_after : ℕ → Call → List Command → List Command
carried_after t (Connects u) commands = if u == t then [] else commands
carried_after t (Carries u bytes ask asked answer rests) commands =
    if u == t then commands ++ carried_by (Carries u bytes ask asked answer rests) else commands
carried_after t other commands = commands

abbrev pub carried_from : ℕ → List Command → List Call → List Command
carried_from t commands [] = commands
carried_from t commands (c ∷ cs) = carried_from t (carried_after t c commands) cs

-- the commands that it sent and that stand
abbrev pub stands_on : ℕ → List Call → List Command
stands_on t cs = kept (failed cs) (carried_from t [] cs)

-- ---- the log

abbrev pub synced_by : Call → List ℕ → List ℕ
synced_by (Learns frame Stage.Synced) synced = frame ∷ synced
synced_by (Cuts cut) synced = synced_after cut synced
synced_by other synced = synced

abbrev pub synced_from : List ℕ → List Call → List ℕ
synced_from synced [] = synced
synced_from synced (c ∷ cs) = synced_from (synced_by c synced) cs

-- the frames that the host said are synced, a cut among them, which takes the place of the frames that it cut off
abbrev pub synced : List Call → List ℕ
synced cs = synced_from [] cs

-- the frames of the log from the first on, each with its records: a cut is one without any
abbrev pub frames_by : ℕ → Call → List (List RecordView) → List (List RecordView)
frames_by first (Sends sealed records) frames = frames ++ records ∷ []
frames_by first (Cuts cut) frames = take (cut.frame - first) frames ++ [] ∷ []
frames_by first other frames = frames

abbrev pub frames_from : ℕ → List (List RecordView) → List Call → List (List RecordView)
frames_from first frames [] = frames
frames_from first frames (c ∷ cs) = frames_from first (frames_by first c frames) cs

abbrev pub frames : ℕ → List Call → List (List RecordView)
frames first cs = frames_from first [] cs

-- the batches that were cut off and are not decided yet
abbrev pub cut_off : StoreView → List ℕ
cut_off s = map (λ b. b.number) (filter (λ b. is_refused b.stage) s.batched.queue.batches)

-- whether a batch logs the command
abbrev pub is_logged : Entry → Bool
is_logged (Opens batch) = false
is_logged (Runs asked) = is_some asked.batch

-- the commands that are logged, without those that depend on a batch that failed or was cut off
abbrev pub logged : List Call → StoreView → List Entry
logged cs s = filter is_logged (entries (kept (failed cs ++ cut_off s) (carried cs)))
