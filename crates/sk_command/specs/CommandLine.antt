-- The command line, and what words ask for by it.
use Rattle.std.specs.Prelude.{◌≡◌, ◌⊎◌, ℕ, Bool, true, false, List, [], ◌∷◌, ⊤, Option, Some, None, codes, bytes_eq, option_map, option_and_then, if◌then◌else◌}
use Rattle.clap.specs.declared.builder.value_parser.ValueParser.{ValueParser}
use Rattle.std.specs.Int.{IsInRange}
use Rattle.std.specs.Option.{option_map_or}
use Rattle.std.specs.Str.Parse.{digits_value, without_leading_plus}
use Rattle.clap.specs.Kinds.{IsAmong, Kinds}
use Rattle.clap.specs.Faults.{fault_of}
use Rattle.clap.specs.Simple.{App, new_app, new_rule, on_top, subcommand_of, with_rule, with_subcommand}
use Rattle.clap.specs.ValueTests.{is_unsigned_in}
use Rattle.clap.specs.Walk.{Row, Rule, Text, first_of}
use Rattle.clap.specs.declared.builder.action.ArgAction.TheVariants.{Set, SetTrue}
use Rattle.clap.specs.declared.error.kind.ErrorKind.{ErrorKind}
use Rattle.sk_command.specs.declared.job.Job.{Job}
use Rattle.sk_command.specs.declared.job.Shows.{Shows}
use Rattle.sk_command.specs.declared.job.Task.{Task}
use Rattle.sk_command.specs.declared.job.TheConstants.{WORKERS_MOST, TURNS_MOST}
use Rattle.sk_command.specs.declared.end.End.{End}
use Rattle.sk_command.specs.Ends.{EndsFor, EndsUnwritten}

-- the word FILE of a command
abbrev pub file_rule : Rule
file_rule = record (new_rule (codes "FILE")) { required = true; action = Some Set; value_names = 1 }

-- a flag, as --trace
abbrev pub flag_rule : Text → Rule
flag_rule name = record (new_rule name) { long = Some name; action = Some SetTrue }

-- the option --workers, a number from 1 to 8
abbrev pub workers_rule : Rule
workers_rule = record (new_rule (codes "workers")) { long = Some (codes "workers"); required = true; action = Some Set; value_names = 1; parser = Some (ValueParser.Unsigned 1 WORKERS_MOST) }

-- the option --turns, a number from 1 to 1,000,000
abbrev pub turns_rule : Rule
turns_rule = record (new_rule (codes "turns")) { long = Some (codes "turns"); action = Some Set; value_names = 1; defaults = codes "100000" ∷ []; parser = Some (ValueParser.Unsigned 1 TURNS_MOST) }

-- a command that takes a file
abbrev pub file_command : Text → App
file_command name = with_rule (new_app name) file_rule

abbrev pub play_command : App
play_command =
    with_rule (with_rule (with_rule (with_rule (with_rule (file_command (codes "play")) (flag_rule (codes "trace"))) (flag_rule (codes "steps")))
    (flag_rule (codes "counts"))) (flag_rule (codes "explain"))) (flag_rule (codes "strict"))

abbrev pub work_command : App
work_command = with_rule (with_rule (file_command (codes "work")) workers_rule) turns_rule

-- the command that prints the table of instructions: it takes no word, and without one it has help to print
abbrev pub instructions_command : App
instructions_command = on_top (λ s. record s { arg_required_else_help = true }) (new_app (codes "instructions"))

-- before it has its commands: it has a version, and one command has to be named; `help` is one, of clap's own
abbrev pub bare_command_line : App
bare_command_line = on_top (λ s. record s { has_version = true; subcommand_required = true }) (new_app (codes "speculate"))

-- the command line with the commands that play what a scenario declares
abbrev pub with_players : App
with_players = with_subcommand (with_subcommand bare_command_line play_command.top) (file_command (codes "talk")).top

-- the command line with those and the commands that take a trace
abbrev pub with_readers : App
with_readers = with_subcommand (with_subcommand with_players (file_command (codes "plain")).top) (file_command (codes "replay")).top

abbrev pub command_line : App
command_line = with_subcommand (with_subcommand with_readers work_command.top) instructions_command.top

-- ---- what words ask for

-- what is to be done with the file of this name
pub record Wish : Type 0 where
  pub file : Text
  pub task : Task

abbrev pub wish_of : Job → Wish
wish_of job = record { file = job.file.now; task = job.task }

-- whether a command was found with this flag
abbrev pub has_flag : Text → List Row → Bool
has_flag flag rows = option_map_or (λ value. bytes_eq value (codes "true")) (first_of flag rows) false

-- what a command was found to want beside the answers and the report
abbrev pub shows_found : List Row → Shows
shows_found rows = record {
  steps = has_flag (codes "steps") rows;
  explains = has_flag (codes "explain") rows;
  counts = has_flag (codes "counts") rows;
  trace = has_flag (codes "trace") rows;
  is_strict = has_flag (codes "strict") rows;
}

-- the number that a text says, from 1 to a limit
abbrev pub number_said : ℕ → Text → Option ℕ
number_said most text = if is_unsigned_in 1 most text then Some (digits_value 10 (without_leading_plus text)) else None

-- the number that an argument was found with
abbrev pub number_found : ℕ → Text → List Row → Option ℕ
number_found most argument rows = option_and_then (number_said most) (first_of argument rows)

-- 1 to 8 workers, and 1 to 1,000,000 turns
abbrev pub work_for : List Row → Option Task
work_for rows = option_and_then (λ workers. option_map (λ turns. Task.Work workers turns) (number_found TURNS_MOST (codes "turns") rows)) (number_found WORKERS_MOST (codes "workers") rows)

-- what a command of this name is to do
abbrev pub task_for : Text → List Row → Option Task
task_for command rows =
    if bytes_eq command (codes "play") then Some (Task.Play (shows_found rows))
    else if bytes_eq command (codes "talk") then Some Task.Talk
    else if bytes_eq command (codes "plain") then Some Task.Plain
    else if bytes_eq command (codes "replay") then Some Task.Replay
    else if bytes_eq command (codes "work") then work_for rows else None

-- what a command of this name is to do, with the file that it names
abbrev pub wish_for : Text → List Row → Option Wish
wish_for command rows =
    option_and_then (λ file. option_map (λ task. record { file = file; task = task }) (task_for command rows)) (first_of (codes "FILE") rows)

-- what a command that was found with its words asks for
abbrev pub wish_found : Option (Text × List Row) → Option Wish
wish_found found = option_and_then (λ command. wish_for command.0 command.1) found

-- what is wrong with words, of which the first is the program's own name; or that they want help
abbrev pub faults_of : List Text → Kinds
faults_of words = fault_of command_line words

-- what words wish, where they name a command and its file
abbrev pub wished : List Text → Option Wish
wished words = wish_found (subcommand_of command_line words)

-- workers and their turns are within their bounds
abbrev pub IsWithinBounds : Task → Type 0
IsWithinBounds (Task.Work workers turns) = IsInRange 1 WORKERS_MOST workers × IsInRange 1 TURNS_MOST turns
IsWithinBounds _ = ⊤

-- words ask for a job
abbrev pub Asks : List Text → Wish → Type 0
Asks words wish = (faults_of words ≡ []) × (wished words ≡ Some wish)

-- the run ends before it has a job: by want of memory; by a fault of the words or a wish for help, as the first fault of them has it; or as they
-- have no fault and name no command with its file
abbrev pub EndsWithoutJob : List Text → End → Option (List ℕ) → Option (List ℕ) → Type 0
EndsWithoutJob words end old new = EndsUnwritten End.Trouble end old new
    ⊎ (((kind : ErrorKind) × IsAmong kind (faults_of words) × EndsFor kind end old new)
    ⊎ ((faults_of words ≡ []) × (wished words ≡ None) × EndsUnwritten End.Usage end old new))
