-- What is done as one step: a command, or the commands of a queue, one after another.
use Rattle.std.specs.Prelude.{◌≡◌, ◌≤◌, ℕ, Bool, false, List, [], ◌∷◌, ◌++◌, drop, flat_map, length, map, take, Option, Some, None, bytes_eq, if◌then◌else◌}
use Rattle.sk_commands.specs.Base.{nat_cmp, slice_cmp, by_order, Vec, vec_items, list_any, Command, Reply, Work}
use Rattle.sk_commands.specs.Base.{Answer}
use Rattle.sk_commands.specs.Table.{asks, is_told_of_all, may_write, outcome, Have, Outcome, Written}

-- what keys have, once this one has this
abbrev pub with_value : List ℕ → Option (List ℕ) → Have → Have
with_value key value has k = if bytes_eq k key then value else has k

-- what keys have when this is written
abbrev pub after : Written → Have → Have
after [] has = has
after (w ∷ ws) has = after ws (with_value w.0 w.1 has)

-- a key stands among keys once, in the order of their bytes
abbrev pub with_known : List (List ℕ) → List ℕ → List (List ℕ)
with_known [] key = key ∷ []
with_known (k ∷ known) key = by_order (slice_cmp nat_cmp key k) (key ∷ k ∷ known) (k ∷ known) (k ∷ with_known known key)

-- The key is among these; or it would stand behind so many of them.
abbrev pub IsPlace : List (Vec ℕ) → List ℕ → Option ℕ → Type 0
IsPlace keys key None = with_known (map vec_items keys) key ≡ map vec_items keys
IsPlace keys key (Some i) = (i ≤ length keys)
    × (with_known (map vec_items keys) key ≡ map vec_items (take i keys) ++ key ∷ map vec_items (drop i keys))

-- all keys when this is written
abbrev pub known_after : Written → List (List ℕ) → List (List ℕ)
known_after [] known = known
known_after (w ∷ ws) known = known_after ws (with_known known w.0)

-- the outcome of a command and of those behind it together
abbrev pub followed : Outcome Reply → Outcome (List Reply) → Outcome (List Reply)
followed one others = record { written = one.written ++ others.written; reply = one.reply ∷ others.reply }

-- what commands write and reply, one after another: each sees what those before it wrote
abbrev pub each : List (List ℕ) → List Command → Have → Outcome (List Reply)
each known [] has = record { written = []; reply = [] }
each known (command ∷ commands) has =
    let one = outcome known command has in
    followed one (each (known_after one.written known) commands (after one.written has))

-- one answer for them
abbrev pub answered : {R : Type 0} → (R → Answer) → Outcome R → Outcome Answer
answered answer outcome = record { written = outcome.written; reply = answer outcome.reply }

-- the keys that are looked at
abbrev pub looks_at : List (List ℕ) → Work → List (List ℕ)
looks_at known (Work.Say reply) = []
looks_at known (Work.One command) = asks known command
looks_at known (Work.Each commands) = flat_map (asks known) commands

-- what is written and answered, by what keys have
abbrev pub comes_to : List (List ℕ) → Work → Have → Outcome Answer
comes_to known (Work.Say reply) has = record { written = []; reply = Answer.One reply }
comes_to known (Work.One command) has = answered Answer.One (outcome known command has)
comes_to known (Work.Each commands) has = answered Answer.Each (each known commands has)

-- whether some of it is told of all keys
abbrev pub wants_all : Work → Bool
wants_all (Work.Say reply) = false
wants_all (Work.One command) = is_told_of_all command
wants_all (Work.Each commands) = list_any is_told_of_all commands

-- whether some of it may write
abbrev pub may_write_some : Work → Bool
may_write_some (Work.Say reply) = false
may_write_some (Work.One command) = may_write command
may_write_some (Work.Each commands) = list_any may_write commands
