-- What is asked of what is at play, and its answer.
use Rattle.std.specs.Prelude.{◌≡◌, ℕ, Bool, List, [], ◌∷◌, ◌++◌, codes, bytes_eq, if◌then◌else◌, Option, Some, None, Result, Ok, Err}
use Rattle.sk_talk.specs.Base.{IsStrictlySortedBy, entity_cmp, Entity, is_in, has, EntityState, trace_text, AreCounts}
use Rattle.sk_talk.specs.Base.{counts_text, Counts, KernelView, state_at, tags_at, gathered, entities_text}
use Rattle.sk_talk.specs.Base.{entity_text, tags_text, terminal_said, FaultKind, words, entity, Question, Play}
use Rattle.std.specs.FinMap as map
use Rattle.sk_talk.specs.Played.{kernel_of, report_of}

-- ---- an entity, by the name that the report has for it

abbrev pub is_named : List ℕ → Entity → Bool
is_named name e = bytes_eq (entity_text e) name

-- an entity of this name, where it is present
abbrev pub present_as : List ℕ → Entity → Option EntityState → Option Entity
present_as name e None = None
present_as name e (Some s) = if is_named name e then Some e else None

abbrev pub named_by : (Entity → Option EntityState) → List ℕ → Result Entity FaultKind → Option Entity
named_by look name (Ok e) = present_as name e (look e)
named_by look name (Err kind) = None

-- the present entity of this name: the one that its words name
abbrev pub named : KernelView → List ℕ → Option Entity
named k name = named_by (map.get (state_at k)) name (entity (words name))

-- ---- the answers, each of which begins with a word of its own

-- what an entity has, as the report prints it behind its name, or that it is absent
abbrev pub value_line : (Entity → Option EntityState) → List Entity → Entity → Option EntityState → List ℕ
value_line look es e None = codes "absent\n"
value_line look es e (Some s) = codes "value " ++ gathered look es e s ++ 10 ∷ []

abbrev pub value_answer : KernelView → Entity → List ℕ
value_answer k e = value_line (map.get (state_at k)) (map.keys (state_at k)) e (map.get (state_at k) e)

-- the undecided guesses that it depends on
abbrev pub tags_answer : KernelView → Entity → List ℕ
tags_answer k e = codes "tags " ++ tags_text (tags_at k e) ++ 10 ∷ []

-- these depend on a guess, and no others do; they rise
pub record AreDependents (k : KernelView) (id : ℕ) (es : List Entity) : Type 0 where
  pub rising : IsStrictlySortedBy entity_cmp es
  pub exact : (e : Entity) → is_in entity_cmp es e ≡ has id (tags_at k e)

-- their line
abbrev pub dependents_line : List Entity → List ℕ
dependents_line es = codes "dependents " ++ entities_text es ++ 10 ∷ []

-- the trace, between the line `trace` and the line `end`
abbrev pub trace_answer : KernelView → List ℕ
trace_answer k = codes "trace\n" ++ trace_text k.trace ++ codes "end\n"

-- the line `counts`, and these counts
abbrev pub counts_lines : Counts → List ℕ
counts_lines c = codes "counts\n" ++ counts_text c

abbrev pub TellsCounts : KernelView → List ℕ → Type 0
TellsCounts k text = (c : Counts) × AreCounts k c × (text ≡ counts_lines c)

abbrev pub TellsDependents : KernelView → ℕ → List ℕ → Type 0
TellsDependents k id text = (es : List Entity) × AreDependents k id es × (text ≡ dependents_line es)

-- the answer to a question; a terminal's are its lines in the report
abbrev pub IsAnswer : Play → Question → List ℕ → Type 0
IsAnswer p (Question.Value e) text = text ≡ value_answer (kernel_of p) e
IsAnswer p (Question.Tags e) text = text ≡ tags_answer (kernel_of p) e
IsAnswer p (Question.Dependents id) text = TellsDependents (kernel_of p) id text
IsAnswer p (Question.Terminal number) text = text ≡ terminal_said (kernel_of p) number
IsAnswer p Question.Counts text = TellsCounts (kernel_of p) text
IsAnswer p Question.Trace text = text ≡ trace_answer (kernel_of p)
IsAnswer p Question.Report text = text ≡ report_of p
