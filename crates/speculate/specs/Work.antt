-- What the work of a crew comes to.
use Rattle.std.specs.Prelude.{◌≡◌, ℕ, List, [], ◌++◌, length, Option}
use Rattle.std.specs.Io.KnownBytes.{Appends, Keeps}
use Rattle.sk_server.specs.Server.{ServerView}
use Rattle.sk_client.specs.Desk.{DeskView, opened, pending}
use Rattle.sk_workers.specs.declared.entry.HistoryEntry.{HistoryEntry}
use Rattle.sk_workers.specs.History.{Runs}
use Rattle.sk_crew.specs.Crewed.{IsCrewed}
use Rattle.sk_scenario.specs.Declarations.{Declared}
use Rattle.sk_play.specs.Plays.{declared_kernel}
use Rattle.sk_play.specs.WorldReport.{desk_report_text, workers_line}
use Rattle.sk_command.specs.declared.end.End.{End}

-- a crew of so many workers, each told so many turns, can leave this desk by so many calls: they are a legal history, which leads from the
-- declared desk to this one, on which nothing is pending
abbrev pub CanLeave : ℕ → ℕ → Declared → ℕ → DeskView → Type 0
CanLeave workers turns d calls desk =
    (history : List HistoryEntry) × (calls ≡ length history)
    × IsCrewed (record { workers = workers; turns = turns; ahead = 64 }) (opened (declared_kernel d)) history desk
    × Runs (opened (declared_kernel d)) history desk × (pending desk ≡ [])

-- a crew of so many workers left a desk, and this holds of the report of that desk and of a server, with the number of workers and of calls
abbrev pub HasWorked : ℕ → ℕ → Declared → (List ℕ → Type 0) → Type 0
HasWorked workers turns d IsReported =
    (calls : ℕ) × (desk : DeskView) × (server : ServerView)
    × CanLeave workers turns d calls desk × IsReported (desk_report_text desk server ++ workers_line workers calls)

-- known bytes grow by a beginning of a text
abbrev pub AppendsFront : Option (List ℕ) → Option (List ℕ) → List ℕ → Type 0
AppendsFront old new text = (front : List ℕ) × (rest : List ℕ) × (text ≡ front ++ rest) × Appends old new front

-- a text was written out; where a write was refused, a beginning of it, and where memory ran out, nothing
abbrev pub IsTold : List ℕ → End → Option (List ℕ) → Option (List ℕ) → Type 0
IsTold text End.Done old new = Appends old new text
IsTold text End.Trouble old new = Keeps old new
IsTold text End.OutputRefused old new = AppendsFront old new text
IsTold text _ old new = ⊥

-- where the run ends well, the workers' calls were made; where memory ran out or the desk could not be closed, nothing was written; and where a
-- write was refused, a beginning of the report of a desk that such workers left
abbrev pub EndsWork : ℕ → ℕ → Declared → End → Option (List ℕ) → Option (List ℕ) → Type 0
EndsWork workers turns d End.Done old new = HasWorked workers turns d (Appends old new)
EndsWork workers turns d End.Trouble old new = Keeps old new
EndsWork workers turns d End.OutputRefused old new = HasWorked workers turns d (AppendsFront old new)
EndsWork workers turns d _ old new = ⊥
