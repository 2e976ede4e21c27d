-- What a kernel keeps beside its trace, and the machine of records that it is.
use Rattle.std.specs.Prelude.{◌≡◌, ℕ, Bool, List, [], Ok, map, refl}
use Rattle.sk_machine.specs.Base.{list_any, has, perform, Coded, code_by, coded×, coded_ℕ, coded_list, MarkedEffect}
use Rattle.sk_machine.specs.Base.{Machine, Tagged, Open, UndoState, tags_at, Status, Entity, GuessesView, status_since}
use Rattle.sk_machine.specs.Base.{TaggedText, TerminalMap, terminals_code, texts_at, Input, EntityState, slot_map_code}
use Rattle.sk_machine.specs.Base.{undo_state, EntryView, Saying, Scripts, act, effect_of, PlanView, CanPerform}
use Rattle.sk_machine.specs.Base.{seen_with, Plan, State, log_at, opened}
use Rattle.std.specs.FinMap as fin
use Rattle.sk_record.specs.contracts.status.Status as status
pub use Rattle.sk_undo.specs.Log.{is_empty}
pub use Rattle.sk_undo.specs.Logs.{SlotMap, look_at}

-- what each entity has with its notes, the open guesses with the tags of their own steps, the status of each guess, and
-- each terminal's texts
pub record Parts : Type 0 where
  pub slots : SlotMap
  pub opens : List Open
  pub guesses : GuessesView
  pub texts : TerminalMap

abbrev pub guesses_code : Coded GuessesView
guesses_code =
    code_by (ℕ × (List Status × List Status)) (coded× coded_ℕ (coded× (coded_list status.the_row.coded) (coded_list status.the_row.coded)))
    (λ g. (g.kernel, (g.earlier, g.statuses))) (λ p. record { kernel = p.0; earlier = p.1.0; statuses = p.1.1 }) (λ _. refl)

abbrev pub parts_code : Coded Parts
parts_code =
    code_by (SlotMap × (List Open × (GuessesView × TerminalMap))) (coded× slot_map_code (coded× (coded_list (coded× coded_ℕ (coded_list coded_ℕ))) (coded× guesses_code terminals_code)))
    (λ m. (m.slots, (m.opens, (m.guesses, m.texts)))) (λ p. record { slots = p.0; opens = p.1.0; guesses = p.1.1.0; texts = p.1.1.1 }) (λ _. refl)

-- at the start entities have what they start with, nothing is noted, no guess is drawn, and nothing said
pub record IsAtStart (number : ℕ) (start : State) (m : Parts) : Type 0 where
  pub look : (e : Entity) → look_at m.slots e ≡ fin.get start e
  pub logs : (e : Entity) → log_at m.slots e ≡ []
  pub opens : m.opens ≡ []
  pub guesses : m.guesses ≡ opened number
  pub texts : m.texts ≡ fin.empty

-- what entities have, their logs, and the open guesses
abbrev pub undo_state_of : Parts → UndoState Entity EntityState
undo_state_of m = undo_state m.slots m.opens

-- the texts of a terminal, each with where it was said
abbrev pub said_at : ℕ → List TaggedText → List (Tagged Saying)
said_at t texts = map (λ x. (record { to = t; text = x.0 }, x.1)) texts

-- the machine of records that these parts are in this epoch
abbrev pub machine_of : Parts → Machine Entity EntityState Saying
machine_of m = record { state = undo_state_of m; status = status_since m.guesses; texts = λ t. said_at t (texts_at m.texts t) }

-- what the planned step of an entry does
abbrev pub planned_effect : Parts → EntryView → PlanView → MarkedEffect Entity EntityState Saying
planned_effect m n plan =
    let f = effect_of (look_at m.slots) n.pid n.input plan in
    record { mark = n.guess; read = f.read; written = f.written; said = f.said }

-- the plan is what the step of a process with this input does here, and it can be done
pub record IsPlanned (m : Parts) (scripts : Scripts) (pid : ℕ) (input : Input) (plan : Plan) : Type 0 where
  pub accepted : perform (look_at m.slots) (act scripts pid input) ≡ Ok (effect_of (look_at m.slots) pid input (seen_with (look_at m.slots) scripts pid input plan))
  pub can : CanPerform (look_at m.slots) scripts pid input plan

-- whether one of these entities depends on a guess
abbrev pub any_rests : Parts → ℕ → List Entity → Bool
any_rests m g es = list_any (λ e. has g (tags_at (undo_state_of m) e)) es
