-- How a run ends, and what its output holds then.
use Rattle.std.specs.Prelude.{◌≡◌, ℕ, Bool, true, List, [], ⊤, Option, None, IfSome}
use Rattle.std.specs.Io.KnownBytes.{Appends, Keeps}
use Rattle.clap.specs.declared.error.kind.ErrorKind.{ErrorKind}
use Rattle.sk_words.specs.declared.fault.FaultKind.{FaultKind}
use Rattle.sk_command.specs.declared.end.End.{End}

-- the status of the program
abbrev pub status_of : End → ℕ
status_of End.Done = 0
status_of End.Fault = 1
status_of End.Usage = 2
status_of End.Trouble = 3
status_of End.OutputRefused = 3
status_of End.Refused = 4

-- how a run ends that finds a fault in its file
abbrev pub fault_end : FaultKind → End
fault_end FaultKind.Memory = End.Trouble
fault_end _ = End.Fault

-- how a run ends well that is to tell whether an event was refused
abbrev pub with_refusal : Bool → End → End
with_refusal true End.Done = End.Refused
with_refusal is_refused end = end

-- all is written and nothing is left in the buffer, or the output refused a write
abbrev pub IsWritten : End → List ℕ → Type 0
IsWritten End.Done buffer = buffer ≡ []
IsWritten End.OutputRefused buffer = ⊤
IsWritten _ buffer = ⊥

-- a run that ends well, be it with an event refused, leaves nothing in the buffer
abbrev pub IsFlushed : End → List ℕ → Type 0
IsFlushed End.Done buffer = buffer ≡ []
IsFlushed End.Refused buffer = buffer ≡ []
IsFlushed _ buffer = ⊤

-- a run ends so, and the output is as it was
abbrev pub EndsUnwritten : End → End → Option (List ℕ) → Option (List ℕ) → Type 0
EndsUnwritten wanted end old new = (end ≡ wanted) × Keeps old new

-- ends with the help on the output, which is this text where it is known, unless memory ran out or a write was refused
abbrev pub EndsWithHelp : Option (List ℕ) → End → Option (List ℕ) → Option (List ℕ) → Type 0
EndsWithHelp text End.Done old new = (help : List ℕ) × IfSome text (λ known. help ≡ known) × Appends old new help
EndsWithHelp text End.Trouble old new = Keeps old new
EndsWithHelp text End.OutputRefused old new = ⊤
EndsWithHelp text _ old new = ⊥

-- Ends as the reader of the command line has it: help was asked for, also by a command that has nothing else to print;
-- memory ran out; or the words are faulty. The reader does not say what its help is.
abbrev pub EndsFor : ErrorKind → End → Option (List ℕ) → Option (List ℕ) → Type 0
EndsFor ErrorKind.DisplayHelp end old new = EndsWithHelp None end old new
EndsFor ErrorKind.DisplayHelpOnMissingArgumentOrSubcommand end old new = EndsWithHelp None end old new
EndsFor ErrorKind.DisplayVersion end old new = EndsWithHelp None end old new
EndsFor ErrorKind.OutOfMemory end old new = EndsUnwritten End.Trouble end old new
EndsFor kind end old new = EndsUnwritten End.Usage end old new
