-- What a run of the program comes to: how it ends, and what its output holds then.
use Rattle.std.specs.Prelude.{◌⊎◌, ◌≢◌, ◌≤◌, ◌++◌, ℕ, List, [], codes, length, Option, Some, None, Result, Ok, Err}
use Rattle.std.specs.Str.Lines.{lines}
use Rattle.sk_words.specs.declared.fault.Fault.{Fault}
use Rattle.sk_scenario.specs.Declarations.{Declared}
use Rattle.sk_scenario.specs.Scenario.{Says, scenario_of, section_view, SectionView, Steps, World, Trace}
use Rattle.sk_scenario.specs.declared.scenario.Scenario.{Scenario}
use Rattle.sk_play.specs.Plays.{declared_kernel}
use Rattle.sk_command.specs.declared.end.End.{End}
use Rattle.sk_command.specs.CommandLine.{Wish, Asks, EndsWithoutJob}
use Rattle.sk_command.specs.Ends.{EndsUnwritten, fault_end}
use Rattle.sk_command.specs.ReadAll.{INPUT_LIMIT}
use Rattle.sk_command.specs.Messages.{takes}
use Rattle.sk_command.specs.declared.job.Task.{Task}
use Rattle.sk_talk.specs.Played.{opened_in}
use Rattle.sk_run.specs.Run.{EndsPlain, EndsPlayed, EndsWorld}
use Rattle.sk_run.specs.Replayed.{EndsReplayed}
use Rattle.sk_run.specs.Talk.{EndsOpened}
use Rattle.speculate.specs.Work.{EndsWork}

-- the task is done with the section below the declarations of a file of these lines, and with the standard input, where its bytes are known; a section that it doesn't take is a fault of the file, and workers take any
abbrev pub EndsInSection : Task → Option (List ℕ) → List (List ℕ) → Declared → SectionView → End → Option (List ℕ) → Option (List ℕ) → Type 0
EndsInSection (Task.Play shows) input file d (Steps steps) end old new = EndsPlayed shows file d steps end old new
EndsInSection (Task.Play shows) input file d (World es) end old new = EndsWorld shows file d es end old new
EndsInSection Task.Talk input file d section end old new = EndsOpened (opened_in d section) input end old new
EndsInSection Task.Plain input file d (Trace es) end old new = EndsPlain d.boot es end old new
EndsInSection Task.Replay input file d (Trace es) end old new = EndsReplayed [] (declared_kernel d) es end old new
EndsInSection (Task.Work workers turns) input file d section end old new = EndsWork workers turns d end old new
EndsInSection _ input file d section end old new = EndsUnwritten End.Fault end old new

-- what reading these lines gave is run, or is a fault of which nothing is on the output
abbrev pub EndsRead : Task → Option (List ℕ) → List (List ℕ) → Result Scenario Fault → End → Option (List ℕ) → Option (List ℕ) → Type 0
EndsRead t input file (Ok s) end old new = EndsInSection t input file s.declarations (section_view s.section) end old new
EndsRead t input file (Err f) end old new = EndsUnwritten (fault_end f.kind) end old new

-- a text is read, as it says or until memory runs out, and then run
abbrev pub EndsText : Task → Option (List ℕ) → List ℕ → End → Option (List ℕ) → Option (List ℕ) → Type 0
EndsText t input text end old new =
    (read : Result Scenario Fault) × Says read (scenario_of text) (lines text) × EndsRead t input (lines text) read end old new

-- a file with these bytes, where they are known, is read and run, or it can't be read;
-- one that is too long never is
abbrev pub EndsFile : Task → Option (List ℕ) → Option (List ℕ) → End → Option (List ℕ) → Option (List ℕ) → Type 0
EndsFile t input None end old new = end ≢ End.Usage
EndsFile t input (Some bytes) end old new =
    EndsUnwritten End.Trouble end old new ⊎ ((length bytes ≤ INPUT_LIMIT) × EndsText t input bytes end old new)

-- words, of which the first is the program's own name, ask for no job, or for one that is done
abbrev pub EndsWords : List (List ℕ) → (List ℕ → Option (List ℕ)) → End → Option (List ℕ) → Option (List ℕ) → Type 0
EndsWords words bytes_of end old new =
    EndsWithoutJob words end old new ⊎ ((wish : Wish) × Asks words wish × EndsFile wish.task (bytes_of (codes "-")) (bytes_of wish.file) end old new)

-- ---- what is told of a section that isn't taken

-- a talk takes no event, whichever the section
abbrev pub has : Task → SectionView → List ℕ
has _ (Trace es) = codes "trace"
has Task.Talk _ = codes "events"
has _ (Steps steps) = codes "steps"
has _ (World es) = codes "world"

-- what a task takes, and what the file has
abbrev pub section_told : Wish → SectionView → List ℕ
section_told wish section = takes wish.task ++ codes ", " ++ wish.file ++ codes " has " ++ has wish.task section
