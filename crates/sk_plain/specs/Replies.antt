-- The rows of the table on replies of the server.
use Rattle.std.specs.Prelude.{ℕ, ◌+◌, nat_lt, List, Option, Some, None, if◌then◌else◌}
use Rattle.sk_plain.specs.Base.{Ask, Refuse, Copy, ContentView, LAST_VERSION, SetCopy, value_after, Process}
use Rattle.sk_plain.specs.Base.{Instruction, EntityState, Mismatch, StaleCopy, Value}
use Rattle.sk_plain.specs.Rows.{StepTree, answered, failed, filled, alone, with_write}

-- the process after a fetch of this content
abbrev pub fetched : Process → ContentView → Process
fetched p c = filled p c.bytes c.version

-- `fetch NAME` with Good: from the cached copy, which has to be there
abbrev pub from_copy : ℕ → Process → Option EntityState → StepTree
from_copy pid p (Some (EntityState.Value (Value.Copy content))) = alone pid (fetched p content)
from_copy pid p _ = Refuse Mismatch

-- `store NAME` with Good: over the cached copy, whose version is not the last, or over none
abbrev pub over_copy : ℕ → Process → List ℕ → Option EntityState → StepTree
over_copy pid p name None = with_write pid (Copy name) (Value.Copy (record { version = 1; bytes = p.buffer })) (answered p 1)
over_copy pid p name (Some (EntityState.Value (Value.Copy content))) =
    if nat_lt content.version LAST_VERSION
    then with_write pid (Copy name)
    (value_after (Value.Copy content) (SetCopy (record { version = content.version + 1; bytes = p.buffer })))
    (answered p (content.version + 1))
    else Refuse Mismatch
over_copy pid p name _ = Refuse Mismatch

-- the step of an instruction whose cached copy is said to be good
abbrev pub good : ℕ → Process → Option Instruction → StepTree
good pid p (Some (Instruction.Fetch name)) = Ask (Copy name) (from_copy pid p)
good pid p (Some (Instruction.Store name)) = Ask (Copy name) (over_copy pid p name)
good pid p _ = Refuse Mismatch

-- with Fresh: the copy becomes the server's content
abbrev pub fresh : ℕ → Process → ContentView → Option Instruction → StepTree
fresh pid p content (Some (Instruction.Fetch name)) = with_write pid (Copy name) (Value.Copy content) (fetched p content)
fresh pid p content _ = Refuse Mismatch

-- with Stale: the copy becomes the server's content, and the buffer stays
abbrev pub stale : ℕ → Process → ContentView → Option Instruction → StepTree
stale pid p content (Some (Instruction.Store name)) = with_write pid (Copy name) (Value.Copy content) (failed p StaleCopy)
stale pid p content _ = Refuse Mismatch
