-- Calls of the machine of records, one list behind another, with what is logged of them.
use Rattle.sk_durable.proofs.Names.{arith, ◌≡◌, ℕ, Bool, true, false, List, [], ◌∷◌, ◌++◌, Option, None, refl, ◌∙◌}
use Rattle.sk_durable.proofs.Names.{ap, filter, filter-append, Event, Taken, Status, AreStatuses, Token, moves_of}
use Rattle.sk_durable.proofs.Names.{told_more, bytes_cmp, machine_of, IsInStep, Logs, Answer, Out, StoreCalls, served}
use Rattle.sk_durable.proofs.Names.{Entry, Opens, Runs, Batches, Kernel, StoreView, Command}
use Rattle.std.proofs.lemmas.Bool.Decides.{nat_tests}
use Rattle.sk_deeds.specs.Told.{Does, Tells}
use Rattle.sk_deeds.specs.Told as deeds
use Rattle.sk_served.specs.Calls as served_calls

abbrev pub Machine : Type 0
Machine = served_calls.Kernel

abbrev pub Move : Type 0
Move = deeds.Call Entry (ℕ × Answer)

-- the machine that a kernel is, where guesses have these statuses
abbrev pub machine : Kernel → (ℕ → Option Status) → Machine
machine kernel status = machine_of bytes_cmp kernel.parts status

-- these statuses agree with what it keeps of guesses
abbrev pub Agree : Kernel → (ℕ → Option Status) → Type 0
Agree kernel status = AreStatuses kernel.parts.guesses kernel.parts.opens status

-- the guesses of a kernel are the batches of its queue
abbrev pub InStep : Batches → Type 0
InStep b = (tokens : List Token) × IsInStep b.kernel.parts b.queue b.begun tokens

-- a step that is no batch's beginning
abbrev pub runs_work : Entry → Bool
runs_work (Opens batch) = false
runs_work (Runs asked) = true

-- a decision
abbrev pub is_decision : Event Entry → Bool
is_decision (Taken n) = false
is_decision s = true

-- what begins a batch says nothing
abbrev pub Quiet : List Command → Type 0
Quiet [] = Unit {0}
Quiet (r ∷ log) = (runs_work r.entry ≡ false → r.said ≡ None) × Quiet log

-- where the machine goes that stands for a store: with what was taken out of it before and by then, and with these
-- commands and decisions
pub record Led (told last : Out) (x : Machine) (commands : List Command) (decides : List (Event Entry))
    (s : StoreView) : Type 0 where
  pub moves : List Move
  pub log : List Command
  pub status : ℕ → Option Status
  pub agrees : Agree s.batched.kernel status
  pub calls : StoreCalls told x moves last (machine s.batched.kernel status)
  pub logs : Logs served told x moves log last (machine s.batched.kernel status)
  pub known : InStep s.batched
  pub quiet : Quiet log
  pub commands_are : filter (λ r. runs_work r.entry) log ≡ commands
  pub decides_are : filter is_decision (moves_of moves) ≡ decides

calls_behind : (told mid last : Out) (x y z : Machine) (cs ds : List Move) → StoreCalls told x cs mid y
    → StoreCalls mid y ds last z
    → StoreCalls told x (cs ++ ds) last z
calls_behind told mid last x y z [] ds (same, is) rest = grind (arith, nat_tests)
calls_behind told mid last x y z (Does e ∷ cs) ds (m, proper, goes, more) rest =
    (m, proper, goes, calls_behind told mid last m y z cs ds more rest)
calls_behind told mid last x y z (Tells t output ∷ cs) ds (m, out, more) rest =
    (m, out, calls_behind (told_more t output told) mid last m y z cs ds more rest)

logs_behind : (told mid last : Out) (x y z : Machine) (cs ds : List Move) (one two : List Command)
    → Logs served told x cs one mid y → Logs served mid y ds two last z
    → Logs served told x (cs ++ ds) (one ++ two) last z
logs_behind told mid last x y z [] ds one two (none, same, is) rest = grind (arith, nat_tests)
logs_behind told mid last x y z (Does e ∷ cs) ds one two (m, first, more, is, goes, logged, behind) rest =
    grind (arith, nat_tests, logs_behind told mid last m y z cs ds more two behind rest)
logs_behind told mid last x y z (Tells t output ∷ cs) ds one two (m, out, behind) rest =
    (m, out, logs_behind (told_more t output told) mid last m y z cs ds one two behind rest)

pub moves_behind : (cs ds : List Move) → moves_of (cs ++ ds) ≡ moves_of cs ++ moves_of ds
moves_behind [] ds = refl
moves_behind (Does e ∷ cs) ds = ap (λ es. e ∷ es) (moves_behind cs ds)
moves_behind (Tells t output ∷ cs) ds = moves_behind cs ds

quiet_behind : (one two : List Command) → Quiet one → Quiet two → Quiet (one ++ two)
quiet_behind [] two q r = r
quiet_behind (c ∷ one) two q r = (q.0, quiet_behind one two q.1 r)

-- from one store to another, and on from there
pub led_on : (told mid last : Out) (x : Machine) (commands others : List Command) (decides more : List (Event Entry))
    (m s : StoreView)
    → (one : Led told mid x commands decides m) → Led mid last (machine m.batched.kernel one.status) others more s
    → Led told last x (commands ++ others) (decides ++ more) s
led_on told mid last x commands others decides more m s one two =
    let y = machine m.batched.kernel one.status in
    let z = machine s.batched.kernel two.status in
    record {
      moves = one.moves ++ two.moves;
      log = one.log ++ two.log;
      status = two.status;
      agrees = two.agrees;
      calls = calls_behind told mid last x y z one.moves two.moves one.calls two.calls;
      logs = logs_behind told mid last x y z one.moves two.moves one.log two.log one.logs two.logs;
      known = two.known;
      quiet = quiet_behind one.log two.log one.quiet two.quiet;
      commands_are = filter-append (λ (r : Command). runs_work r.entry) one.log two.log
          ∙ (λ i. one.commands_are i ++ two.commands_are i);
      decides_are =
          ap (filter is_decision) (moves_behind one.moves two.moves)
          ∙ filter-append is_decision (moves_of one.moves) (moves_of two.moves)
          ∙ (λ i. one.decides_are i ++ two.decides_are i);
    }
