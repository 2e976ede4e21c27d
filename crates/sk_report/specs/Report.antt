-- The report of a kernel, and that of a plain kernel.
use Rattle.std.specs.Prelude.{ℕ, List, [], ◌∷◌, ◌++◌, map, flat_map, codes, decimal, length, Option, Some, None}
use Rattle.sk_report.specs.Base.{nat_cmp, insert_key, Entity, EntityState, released, TaggedText, waiting_of, PlainView}
use Rattle.sk_report.specs.Base.{texts_said, KernelView, state_at, tags_at, texts_at, undecided_at, spelled}
use Rattle.std.specs.FinMap as finmap
use Rattle.sk_report.specs.Printed.{tags_text, entity_text}
use Rattle.sk_report.specs.Directories.{gathered}

-- the line of an entity among these, with what stands at its end; none where it is absent
abbrev pub line_with : (Entity → Option EntityState) → List Entity → Option EntityState → Entity → List ℕ → List ℕ
line_with look es None e end = []
line_with look es (Some s) e end = entity_text e ++ 32 ∷ gathered look es e s ++ end ++ 10 ∷ []

abbrev pub line_of : (Entity → Option EntityState) → (Entity → List ℕ) → List Entity → Entity → List ℕ
line_of look end es e = line_with look es (look e) e (end e)

-- the guesses that an entity depends on
abbrev pub tags_end : List ℕ → List ℕ
tags_end tags = codes " tags " ++ tags_text tags

-- the released texts, a literal a line
abbrev pub texts_lines : List (List ℕ) → List ℕ
texts_lines texts = flat_map (λ text. spelled text ++ 10 ∷ []) texts

-- the line of a terminal with so many texts released and so many that wait
abbrev pub counts_line : ℕ → ℕ → ℕ → List ℕ
counts_line number out waiting = codes "terminal " ++ decimal number ++ codes " released " ++ decimal out ++ codes " waiting " ++ decimal waiting ++ 10 ∷ []

abbrev pub terminal_lines : ℕ → List TaggedText → List ℕ
terminal_lines number texts = counts_line number (length (released texts)) (waiting_of texts) ++ texts_lines (released texts)

-- what was said to a terminal, each text with the undecided guesses that it depends on
abbrev pub said_there : KernelView → ℕ → List TaggedText
said_there k number = map (λ s. (s.0.text, s.1)) (texts_at k number)

abbrev pub terminal_said : KernelView → ℕ → List ℕ
terminal_said k number = terminal_lines number (said_there k number)

-- the lines of a terminal of a plain kernel, to which all that was said is out
abbrev pub plain_terminal_said : PlainView → ℕ → List ℕ
plain_terminal_said k number =
    codes "terminal " ++ decimal number ++ codes " said " ++ decimal (length (texts_said k number)) ++ 10 ∷ texts_lines (texts_said k number)

abbrev pub last_line : KernelView → List ℕ
last_line k = codes "trace " ++ decimal (length k.trace) ++ codes " undecided " ++ decimal (length (undecided_at k)) ++ 10 ∷ []

-- the number of steps that were run
abbrev pub steps_line : ℕ → List ℕ
steps_line steps = codes "steps " ++ decimal steps ++ 10 ∷ []

-- ---- the whole

-- the terminals of processes, by rising number, each once
abbrev pub with_terminal : List ℕ → Option EntityState → List ℕ
with_terminal numbers (Some (EntityState.Process p)) = insert_key nat_cmp numbers p.terminal
with_terminal numbers (Some (EntityState.Value v)) = numbers
with_terminal numbers None = numbers

-- these terminals, with those of the processes among the entities
abbrev pub with_terminals : (Entity → Option EntityState) → List ℕ → List Entity → List ℕ
with_terminals look numbers [] = numbers
with_terminals look numbers (e ∷ es) = with_terminals look (with_terminal numbers (look e)) es

-- the lines of the terminals of all processes among these entities, and then those of the entities
abbrev pub body_text : (Entity → Option EntityState) → (ℕ → List ℕ) → (Entity → List ℕ) → List Entity → List ℕ
body_text look terminal end es = flat_map terminal (with_terminals look [] es) ++ flat_map (line_of look end es) es

-- the terminals, and the entities that are present by their order
abbrev pub kernel_text : KernelView → List ℕ
kernel_text k = body_text (finmap.get (state_at k)) (terminal_said k) (λ e. tags_end (tags_at k e)) (finmap.keys (state_at k))

-- the whole report: terminals, entities and the last line
abbrev pub report_text : KernelView → List ℕ
report_text k = kernel_text k ++ last_line k

-- the whole report of a plain kernel that has run so many steps
abbrev pub plain_report_text : PlainView → ℕ → List ℕ
plain_report_text k steps = body_text (finmap.get k.state) (plain_terminal_said k) (λ e. []) (finmap.keys k.state) ++ steps_line steps
