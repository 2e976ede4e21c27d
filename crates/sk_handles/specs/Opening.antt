-- What a text opens: what its declarations say, at its start.
use Rattle.std.specs.Prelude.{◌≡◌, ℕ, List, Option, Some, None, Result, Ok, Err, IsOk}
use Rattle.sk_handles.specs.Base.{lines, Fault, ScenarioView, Says, scenario_of, opened_in, Play, HELD, Told, Unopened}
use Rattle.sk_handles.specs.Told.{just, opened, unopened}

abbrev pub opening : ScenarioView → Option Play
opening s = opened_in s.declarations s.section

-- what is opened is what a text declares, of which this is said
abbrev pub OpenedBy : {S : Type 0} → (ScenarioView → Option S) → S → Result ScenarioView Fault → Type 0
OpenedBy declares held (Ok s) = declares s ≡ Some held
OpenedBy declares held (Err f) = ⊥

-- Why a text of these lines opens nothing: a fault that is told of it, its section, or want of memory, where it has no fault.
abbrev pub UnopenedBy : {S : Type 0} → (ScenarioView → Option S) → Unopened → Result ScenarioView Fault → List (List ℕ) → Type 0
UnopenedBy declares (Unopened.Fault f) said text = Says (Err f) said text
UnopenedBy declares Unopened.Section said text = (s : ScenarioView) × (said ≡ Ok s) × (declares s ≡ None)
UnopenedBy declares Unopened.Memory said text = IsOk said

-- a text is opened where nothing is held: what it declares is held then, or it is told why nothing is
abbrev pub Opens : {S : Type 0} → (ScenarioView → Option S) → Told → List ℕ → Option S → Option S → Type 0
Opens declares told text (Some old) new = (told ≡ just HELD 0) × (new ≡ Some old)
Opens declares told text None (Some held) = (told ≡ opened) × OpenedBy declares held (scenario_of text)
Opens declares told text None None = (why : Unopened) × (told ≡ unopened why) × UnopenedBy declares why (scenario_of text) (lines text)
