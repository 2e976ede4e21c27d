-- The rows of the table on processes and signals.
use Rattle.std.specs.Prelude.{ℕ, ◌+◌, ◌*◌, ◌/◌, ◌==◌, ◌&&◌, pos, nat_lt, nat_le, true, false, [], ◌∷◌, length, Option, Some, None, slice_set, if◌then◌else◌}
use Rattle.sk_plain.specs.Base.{Ask, Refuse, Done, Proc, Sig, Exit, SIGNALS_LIMIT, PushSignal, value_after, Val}
use Rattle.sk_plain.specs.Base.{Process, given, EntityState, Blocked, NoSuchProcess, NoChild, Again, Invalid, Value}
use Rattle.sk_objects.specs.declared.value.TheConstants.{LAST_STATUS}
use Rattle.sk_plain.specs.Rows.{StepTree, answered, failed, alone, with_write, on_number}

-- the signal that ends a process, and the status that it leaves
abbrev pub KILL : ℕ
KILL = 9

abbrev pub KILLED : ℕ
KILLED = 137

-- the greatest number of a child among its parent's
abbrev pub LAST_CHILD : ℕ
LAST_CHILD = 65535

-- processes from here on are at level four, and have no children
abbrev pub LEVEL_FOUR : ℕ
LEVEL_FOUR = 281474976710656

-- ---- handlers

-- `handler L`
abbrev pub with_handler : Process → ℕ → Process
with_handler p place = record p { place = p.place + 1; handler = Some place }

-- `return`: to the place that was saved
abbrev pub returned : Process → Option ℕ → Process
returned p (Some place) = record p { place = place; saved = None }
returned p None = failed p Invalid

-- a process at its handler, with the signal in r6 and the place that it comes back to
abbrev pub handling : Process → ℕ → ℕ → Process
handling p signal handler = record p {
  place = handler;
  saved = Some p.place;
  registers = slice_set p.registers 6 (Val.Num (pos signal));
}

-- ---- `exit rA`

-- the status that a value stands for: the last one for all that is no status
abbrev pub status_of : Val → ℕ
status_of (Val.Num (pos n)) = if nat_le n LAST_STATUS then n else LAST_STATUS
status_of _ = LAST_STATUS

-- the process ends, and its place stays
abbrev pub ended_with : ℕ → Process → ℕ → StepTree
ended_with pid p status = with_write pid (Exit pid) (Value.Exit (Some status)) (record p { ended = true })

-- ---- `kill rW rN`

-- a signal at the back of a process's queue
abbrev pub signalled : ℕ → Process → ℕ → ℕ → Option EntityState → StepTree
signalled pid p who n (Some (EntityState.Value (Value.Signals queue))) =
    if nat_lt (length queue) SIGNALS_LIMIT
    then with_write pid (Sig who) (value_after (Value.Signals queue) (PushSignal n)) (answered p 0)
    else alone pid (failed p Again)
signalled pid p who n _ = alone pid (failed p NoSuchProcess)

abbrev pub kill : ℕ → Process → Option ℕ → Option ℕ → StepTree
kill pid p (Some who) n = on_number pid p (λ n. Ask (Sig who) (signalled pid p who n)) n
kill pid p None n = alone pid (failed p Invalid)

-- ---- `fork rA L`

-- the child that a process makes next
abbrev pub next_child : ℕ → Process → ℕ
next_child pid p = pid * 65536 + (p.children + 1)

-- the process after it made a child, which is in a register
abbrev pub forked_by : Process → ℕ → ℕ → Process
forked_by p r child = record p { place = p.place + 1; children = p.children + 1; registers = slice_set p.registers r (Val.Who child) }

-- the child: at a place of its own, it has saved no place and made nothing
abbrev pub forked : Process → ℕ → ℕ → Process
forked p child place = record p { pid = child; place = place; children = 0; objects = 0; saved = None; ended = false }

-- the child with an empty queue of signals and an exit slot that is not set, and its parent
abbrev pub born : ℕ → Process → Process → StepTree
born pid child parent =
    Done ((Proc child.pid, Some (EntityState.Process child))
    ∷ (Sig child.pid, Some (EntityState.Value (Value.Signals [])))
    ∷ (Exit child.pid, Some (EntityState.Value (Value.Exit None)))
    ∷ (Proc pid, Some (EntityState.Process parent)) ∷ []) None

-- at level four, or after the last child, there is none
abbrev pub fork : ℕ → Process → ℕ → ℕ → StepTree
fork pid p r place =
    if nat_lt pid LEVEL_FOUR && nat_lt p.children LAST_CHILD
    then born pid (forked p (next_child pid p) place) (forked_by p r (next_child pid p))
    else alone pid (failed p Again)

-- ---- `wait rA rB`

-- the status of a child, in a register; it waits where the slot is not set
abbrev pub waited : ℕ → Process → ℕ → Option EntityState → StepTree
waited pid p r (Some (EntityState.Value (Value.Exit (Some status)))) = alone pid (given p r (Val.Num (pos status)))
waited pid p r (Some (EntityState.Value (Value.Exit None))) = Refuse Blocked
waited pid p r _ = alone pid (failed p NoChild)

abbrev pub wait : ℕ → Process → ℕ → Option ℕ → StepTree
wait pid p r (Some who) = if who / 65536 == pid then Ask (Exit who) (waited pid p r) else alone pid (failed p NoChild)
wait pid p r None = alone pid (failed p Invalid)
