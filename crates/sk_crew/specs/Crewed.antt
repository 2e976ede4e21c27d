-- What a crew leaves, and why it has no history.
use Rattle.std.specs.Prelude.{List, ⊤}
use Rattle.sk_crew.specs.Base.{opening_of, DeskView, HistoryEntry, SharedView, BookView, WorkerView, IsLegal, IsClosed}
use Rattle.sk_crew.specs.Base.{Refuses, CrewFault, CrewPlan}
use Rattle.sk_crew.specs.Duties.{AreNumbered, AllKeepTo, AllTookTurns, processes_of}

-- where a desk begins
abbrev pub start_of : DeskView → SharedView
start_of d = record { opening = opening_of d.kernel; first = d.first }

-- as many workers as the plan says, numbered from 0, have a receipt for each call of one legal history from the opening of this desk to the last
-- one, on which nothing is pending; each call is its worker's to make, and each worker took its turns
pub record IsCrewed (plan : CrewPlan) (d : DeskView) (history : List HistoryEntry) (last : DeskView) : Type 0 where
  pub crew : List WorkerView
  pub numbered : AreNumbered plan.workers crew
  pub closed : IsClosed (start_of d) crew history last
  pub duties : AllKeepTo plan (processes_of d) crew
  pub turns : AllTookTurns plan (processes_of d) crew

-- a close that some book with a legal history refuses to these workers
abbrev pub IsRefused : SharedView → List WorkerView → CrewFault → Type 0
IsRefused s workers CrewFault.Memory = ⊥
IsRefused s workers (CrewFault.Close why) = (book : BookView) × IsLegal book.history book.desk × Refuses s workers book why

-- want of memory, or such a close to so many workers, numbered from 0, each of whose calls is its worker's to make, and who took their turns
abbrev pub HasCause : CrewPlan → DeskView → CrewFault → Type 0
HasCause plan d CrewFault.Memory = ⊤
HasCause plan d (CrewFault.Close why) =
    (crew : List WorkerView) × AreNumbered plan.workers crew
    × AllKeepTo plan (processes_of d) crew × AllTookTurns plan (processes_of d) crew
    × IsRefused (start_of d) crew (CrewFault.Close why)
