-- What the contracts of this crate's types cite, so that callers name one crate. These modules have names of their own here:
-- RecordNotes, RecordStep, RecordTrace, ServerCalls and TraceLines; GuessesKept, and Own.. of what the kernel over own keys is told by.
pub use Rattle.sk_record.specs.Effects
pub use Rattle.sk_record.specs.Run
pub use Rattle.sk_record.specs.Step as RecordStep
pub use Rattle.sk_record.specs.UndoState
pub use Rattle.sk_record.specs.Strike
pub use Rattle.sk_record.specs.Notes as RecordNotes
pub use Rattle.sk_record.specs.Trace as RecordTrace
pub use Rattle.sk_record.specs.Release
pub use Rattle.sk_record.specs.Machine
pub use Rattle.sk_record.specs.Merged
pub use Rattle.sk_ids.specs.Pid
pub use Rattle.sk_ids.specs.Name
pub use Rattle.sk_ids.specs.Guess
pub use Rattle.sk_ids.specs.Entity
pub use Rattle.sk_objects.specs.Content
pub use Rattle.sk_objects.specs.File
pub use Rattle.sk_objects.specs.Slots
pub use Rattle.sk_objects.specs.Pipe
pub use Rattle.sk_objects.specs.Signals
pub use Rattle.sk_objects.specs.Value
pub use Rattle.sk_changes.specs.Changes
pub use Rattle.sk_changes.specs.Files
pub use Rattle.sk_changes.specs.InTurn
pub use Rattle.sk_changes.specs.Back
pub use Rattle.sk_words.specs.Lines
pub use Rattle.sk_words.specs.Reading
pub use Rattle.sk_words.specs.Words
pub use Rattle.sk_words.specs.Tables
pub use Rattle.sk_words.specs.Items
pub use Rattle.sk_script.specs.Process
pub use Rattle.sk_script.specs.Private
pub use Rattle.sk_script.specs.Registers
pub use Rattle.sk_script.specs.Script
pub use Rattle.sk_script.specs.Scripting
pub use Rattle.sk_script.specs.Boot
pub use Rattle.sk_script.specs.Lease
pub use Rattle.sk_trace.specs.Kept
pub use Rattle.sk_trace.specs.Event
pub use Rattle.sk_trace.specs.Trace
pub use Rattle.sk_trace.specs.Lines as TraceLines
pub use Rattle.sk_trace.specs.Text
pub use Rattle.sk_store.specs.State
pub use Rattle.sk_store.specs.Present
pub use Rattle.sk_store.specs.Names
pub use Rattle.sk_store.specs.Start
pub use Rattle.sk_guesses.specs.Token
pub use Rattle.sk_guesses.specs.Kept as GuessesKept
pub use Rattle.sk_guesses.specs.Opens as GuessesOpens
pub use Rattle.sk_deeds.specs.Deed as OwnDeed
pub use Rattle.sk_deeds.specs.Told as OwnTold
pub use Rattle.sk_inversion.specs.Undone as OwnUndone
pub use Rattle.sk_slots.specs.Slot as OwnSlot
pub use Rattle.sk_slots.specs.Slots as OwnSlots
pub use Rattle.sk_slots.specs.Counted as OwnCounted
pub use Rattle.sk_outputs.specs.Said as OwnSaid
pub use Rattle.sk_speculator.specs.Parts as OwnParts
pub use Rattle.sk_speculator.specs.Calls as OwnCalls
pub use Rattle.sk_speculator.specs.Emptied as OwnEmptied
pub use Rattle.sk_speculator.specs.WholeStep as OwnWholeStep
pub use Rattle.sk_speculator.specs.Law as OwnLaw
pub use Rattle.sk_terminal.specs.Terminal
pub use Rattle.sk_terminal.specs.Terminals
pub use Rattle.sk_plain.specs.View
pub use Rattle.sk_plain.specs.Refusal
pub use Rattle.sk_plain.specs.Act
pub use Rattle.sk_plain.specs.Next
pub use Rattle.sk_plain.specs.Leased
pub use Rattle.sk_plain.specs.Plain
pub use Rattle.sk_plain.specs.Replay
pub use Rattle.sk_plain.specs.Standing
pub use Rattle.sk_plain.specs.TidyState
pub use Rattle.sk_machine.specs.Parts
pub use Rattle.sk_kernel.specs.Opening
pub use Rattle.sk_kernel.specs.Kernel
pub use Rattle.sk_kernel.specs.Calls
pub use Rattle.sk_kernel.specs.HandIn
pub use Rattle.sk_kernel.specs.Footprint
pub use Rattle.sk_kernel.specs.Notes
pub use Rattle.sk_kernel.specs.Laws
pub use Rattle.sk_counts.specs.Counts
pub use Rattle.sk_kernel.specs.Holder
pub use Rattle.sk_server.specs.Server
pub use Rattle.sk_server.specs.Lent
pub use Rattle.sk_server.specs.Calls as ServerCalls
pub use Rattle.sk_client.specs.Desk
pub use Rattle.sk_client.specs.DeskCalls
pub use Rattle.sk_client.specs.Leasing
pub use Rattle.sk_client.specs.Upcoming
pub use Rattle.sk_client.specs.WorldView
pub use Rattle.sk_client.specs.Table
pub use Rattle.sk_client.specs.Exchanges
pub use Rattle.sk_client.specs.Ready
pub use Rattle.sk_client.specs.AcceptedStores
pub use Rattle.sk_client.specs.AskedSteps
pub use Rattle.sk_client.specs.Replied
pub use Rattle.sk_client.specs.Writes
pub use Rattle.sk_trace.specs.LentEvent
pub use Rattle.sk_scenario.specs.Declarations
pub use Rattle.sk_scenario.specs.Scenario
