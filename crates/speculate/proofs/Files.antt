-- What reading a file and then its text comes to.
use Rattle.speculate.proofs.Names.{◌≡◌, ◌≢◌, ◌≤◌, inr, ℕ, List, length, Option, Some, None, Result, Ok, Err, sym, subst}
use Rattle.speculate.proofs.Names.{IfSome, Fault, FaultKind, Word, Declared, section_view, SectionView, Steps, World}
use Rattle.speculate.proofs.Names.{Trace, Scenario, End, Task, fault_end, INPUT_LIMIT, opened_in, Talking, EndsOpened}
use Rattle.speculate.proofs.Names.{EndsFile, EndsInSection, EndsRead, EndsText, EndsPlayedBy, EndsWorldBy, lines}
use Rattle.speculate.proofs.Names.{Bool, true, false, Shows, Call, WorldEvent}
use Rattle.sk_command.specs.declared.end.End.TheVariants as ends
use Rattle.sk_command.specs.declared.job.Task.TheVariants as tasks

-- a text never ends a run as faulty words do
fault_no_usage : (kind : FaultKind) → fault_end kind ≢ ends.Usage
fault_no_usage Word = λ e. absurd cc
fault_no_usage s = λ e. absurd cc

opened_no_usage : (o : Option Talking) (input old new : Option (List ℕ)) → EndsOpened o input ends.Usage old new → ⊥
opened_no_usage None input old new h = absurd cc
opened_no_usage (Some play) input old new h = h

played_no_usage : (is_strict : Bool) (shows : Shows) (file : List (List ℕ)) (d : Declared) (steps : List Call) (old new : Option (List ℕ)) → EndsPlayedBy is_strict shows file d steps ends.Usage old new → ⊥
played_no_usage true shows file d steps old new h = h
played_no_usage false shows file d steps old new h = h

world_no_usage : (is_strict : Bool) (shows : Shows) (file : List (List ℕ)) (d : Declared) (es : List WorldEvent) (old new : Option (List ℕ)) → EndsWorldBy is_strict shows file d es ends.Usage old new → ⊥
world_no_usage true shows file d es old new h = h
world_no_usage false shows file d es old new h = h

section_no_usage : (t : Task) (input : Option (List ℕ)) (file : List (List ℕ)) (d : Declared) (section : SectionView) (old new : Option (List ℕ)) → EndsInSection t input file d section ends.Usage old new → ⊥
section_no_usage (tasks.Play shows) input file d (Steps steps) old new h = played_no_usage shows.is_strict shows file d steps old new h
section_no_usage (tasks.Play shows) input file d (World es) old new h = world_no_usage shows.is_strict shows file d es old new h
section_no_usage (tasks.Play shows) input file d (Trace es) old new h = absurd cc
section_no_usage tasks.Talk input file d section old new h = opened_no_usage (opened_in d section) input old new h
section_no_usage tasks.Plain input file d (Steps steps) old new h = absurd cc
section_no_usage tasks.Plain input file d (World es) old new h = absurd cc
section_no_usage tasks.Plain input file d (Trace es) old new h = h
section_no_usage tasks.Replay input file d (Steps steps) old new h = absurd cc
section_no_usage tasks.Replay input file d (World es) old new h = absurd cc
section_no_usage tasks.Replay input file d (Trace es) old new h = h
section_no_usage (tasks.Work workers turns) input file d section old new h = h

read_no_usage : (t : Task) (input : Option (List ℕ)) (file : List (List ℕ)) (read : Result Scenario Fault) (old new : Option (List ℕ)) → EndsRead t input file read ends.Usage old new → ⊥
read_no_usage t input file (Ok s) old new h = section_no_usage t input file s.declarations (section_view s.section) old new h
read_no_usage t input file (Err f) old new h = fault_no_usage f.kind (sym h.0)

-- no text is a fault of the words
text_no_usage : (t : Task) (input : Option (List ℕ)) (text : List ℕ) (end : End) (old new : Option (List ℕ)) → EndsText t input text end old new → end ≢ ends.Usage
text_no_usage t input text end old new h = λ e. read_no_usage t input (lines text) h.0 old new (subst (λ x. EndsRead t input (lines text) h.0 x old new) e h.2)

-- an input that was read
pub was_read : (t : Task) (input known : Option (List ℕ)) (text : List ℕ) (end : End) (old new : Option (List ℕ)) → IfSome known (λ bytes. text ≡ bytes) → length text ≤ INPUT_LIMIT
    → EndsText t input text end old new → EndsFile t input known end old new
was_read t input None text end old new same short h = text_no_usage t input text end old new h
was_read t input (Some bytes) text end old new same short h = inr (subst (λ xs. length xs ≤ INPUT_LIMIT) same short, subst (λ xs. EndsText t input xs end old new) same h)
