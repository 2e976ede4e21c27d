-- The steps that a kernel takes for it: its keys are the tree of processes, whose value is the checkpoint, and names.
use Rattle.std.specs.Prelude.{◌==◌, ℕ, Bool, false, List, [], ◌∷◌, ◌++◌, map, Option, Some, None}
use Rattle.std.specs.List.{list_any}
use Rattle.std.specs.Ordering.{nat_cmp}
use Rattle.sk_record.specs.Step.{Step, Ask, Done}
use Rattle.sk_record.specs.Effects.{is_marked}
use Rattle.sk_record.specs.Run.{System}
use Rattle.sk_deeds.specs.Deed.{Deed}
use Rattle.real_epochs.specs.declared.event.Event.{Event}
use Rattle.real_epochs.specs.declared.event.Event.TheVariants.{Changes, Told, Says}
use Rattle.real_epochs.specs.Story.{Epoch}

-- an epoch begins at a checkpoint, or something happens
pub data Entry : Type 0 where
  Opens : (number : ℕ) → (checkpoint : ℕ) → Entry
  Does : (event : Event) → Entry

-- the key of the tree; the others are names
abbrev pub tree : ℕ
tree = 0

-- An epoch is a guess that changes the tree. What the processes do looks at the tree, and so depends on each epoch without its reply.
abbrev pub deed_of : Entry → Deed ℕ ℕ ℕ
deed_of (Opens number checkpoint) = record { looked = tree ∷ []; written = (tree, Some checkpoint) ∷ []; said = None }
deed_of (Does (Changes name version)) = record { looked = tree ∷ []; written = (name, version) ∷ []; said = None }
deed_of (Does (Told name version)) = record { looked = []; written = (name, version) ∷ []; said = None }
deed_of (Does (Says stream output)) = record { looked = tree ∷ []; written = []; said = Some (stream, output) }

abbrev pub act : Entry → Step ℕ ℕ (ℕ × ℕ) (Unit {0})
act (Opens number checkpoint) = Ask tree (λ at. Done ((tree, Some checkpoint) ∷ []) None)
act (Does (Changes name version)) = Ask tree (λ at. Done ((name, version) ∷ []) None)
act (Does (Told name version)) = Done ((name, version) ∷ []) None
act (Does (Says stream output)) = Ask tree (λ at. Done [] (Some (stream, output)))

abbrev pub mark : Entry → Option ℕ
mark (Opens number checkpoint) = Some number
mark (Does event) = None

-- the plain kernel of these steps
abbrev pub host : System ℕ ℕ (ℕ × ℕ) (Unit {0}) Entry
host = record { order = nat_cmp; act = act; mark = mark; goes_to = λ w. w.0 }

-- the steps of epochs
abbrev pub entries_of : List Epoch → List Entry
entries_of [] = []
entries_of (e ∷ es) = Opens e.number e.checkpoint ∷ (map Does e.events ++ entries_of es)

-- what happens in steps
abbrev pub events_in : List Entry → List Event
events_in [] = []
events_in (Opens number checkpoint ∷ ns) = events_in ns
events_in (Does event ∷ ns) = event ∷ events_in ns

-- whether an epoch begins in them
abbrev pub is_begun : ℕ → List Entry → Bool
is_begun g ns = list_any (λ n. is_marked (mark n) g) ns

-- whether keys begin with that of the tree
abbrev pub begins_with_tree : List ℕ → Bool
begins_with_tree [] = false
begins_with_tree (k ∷ ks) = k == tree
