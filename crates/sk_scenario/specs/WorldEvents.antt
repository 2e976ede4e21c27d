-- What the lines of a section of a world say.
use Rattle.std.specs.Prelude.{ℕ, List, [], ◌∷◌, Result, Ok, codes}
use Rattle.sk_scenario.specs.Base.{FaultKind, ◌>>=◌, literal, none_of, one_of, three_of, pid, name, natural, Rule}
use Rattle.sk_scenario.specs.Base.{rule_in, unknown, with_item, WorldEvent}

-- what the words of an edit say: a name, a version and a literal
abbrev pub edit : Rule WorldEvent
edit ws = three_of name natural literal ws >>= λ x. Ok (WorldEvent.Edit x.0 x.1 x.2)

abbrev pub world_rules : List (List ℕ × Rule WorldEvent)
world_rules =
    (codes "turn", λ ws. one_of pid ws >>= λ x. Ok (WorldEvent.Turn x)) ∷
    (codes "serve", λ ws. none_of ws >>= λ x. Ok WorldEvent.Serve) ∷
    (codes "reply", λ ws. none_of ws >>= λ x. Ok WorldEvent.Reply) ∷
    (codes "edit", edit) ∷
    []

-- what a line says whose first word this is
unfoldable pub world_event : List ℕ → Rule WorldEvent
world_event word ws = rule_in world_rules unknown word ws

-- the events so far, with that of a line
abbrev pub world_line : List WorldEvent → List ℕ → Result (List WorldEvent) FaultKind
world_line = with_item world_event
