-- What is told on the error writer, a line each.
use Rattle.std.specs.Prelude.{ℕ, List, ◌++◌, codes, decimal}
use Rattle.std.specs.declared.io.ErrorKind.{ErrorKind}
use Rattle.sk_words.specs.declared.fault.FaultKind.{FaultKind}
use Rattle.sk_command.specs.declared.read_all.ReadFault.{ReadFault}
use Rattle.sk_command.specs.declared.job.Task.{Task}
use Rattle.sk_command.specs.declared.message.Message.{Message}

-- the name of a kind of fault
abbrev pub kind_word : FaultKind → List ℕ
kind_word FaultKind.Word = codes "Word"
kind_word FaultKind.Operand = codes "Operand"
kind_word FaultKind.Label = codes "Label"
kind_word FaultKind.TooLong = codes "TooLong"
kind_word FaultKind.Memory = codes "Memory"

-- why an input can't be read
abbrev pub cause_word : ReadFault → List ℕ
cause_word ReadFault.TooLong = codes "more than 64 MB"
cause_word (ReadFault.Failed ErrorKind.NotFound) = codes "not there"
cause_word (ReadFault.Failed ErrorKind.IsADirectory) = codes "a folder"
cause_word (ReadFault.Failed ErrorKind.PermissionDenied) = codes "no permission"
cause_word (ReadFault.Failed kind) = codes "a read failed"
cause_word ReadFault.NoEnd = codes "no end"
cause_word ReadFault.Memory = codes "out of memory"

-- what a task takes
abbrev pub takes : Task → List ℕ
takes (Task.Play shows) = codes "play takes steps or world"
takes Task.Talk = codes "talk takes steps or world without an event"
takes Task.Plain = codes "plain takes trace"
takes Task.Replay = codes "replay takes trace"
takes (Task.Work workers turns) = codes "work takes any section"

-- a message, without the end of its line
abbrev pub message_text : Message → List ℕ
message_text (Message.Fault line kind) = codes "speculate: line " ++ decimal line ++ codes ": " ++ kind_word kind
message_text Message.WrongSection = codes "speculate: wrong section"
message_text (Message.Other t file has) = takes t ++ codes ", " ++ file.now ++ codes " has " ++ has.now
message_text (Message.Entry number) = codes "speculate: trace entry " ++ decimal number ++ codes " refused"
message_text (Message.Unread file) = codes "speculate: cannot read " ++ file.now
message_text (Message.Cause file fault) = codes "cannot read " ++ file.now ++ codes ": " ++ cause_word fault
