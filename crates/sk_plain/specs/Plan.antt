-- What a step will do, seen with the process that it is for: the process as it becomes, what else is looked at, and what else is done.
use Rattle.std.specs.Prelude.{ℕ, List}
use Rattle.sk_plain.specs.Base.{Entity, ObjId, ContentView, Val, Process, Change, Kind}

-- the entities beside the process that a step looks at, in their order
pub data LooksView : Type 0 where
  Nowhere : LooksView
  At : (entity : Entity) → LooksView
  AtBoth : (first : Entity) → (second : Entity) → LooksView

-- what an entity becomes: a value of a kind with nothing in it, an exit slot with a status, a name of an object, a cached copy, or what it
-- was, changed
pub data BecomesView : Type 0 where
  Empty : (kind : Kind) → BecomesView
  Exited : (status : ℕ) → BecomesView
  Linked : (object : ObjId) → BecomesView
  Cached : (content : ContentView) → BecomesView
  Changed : (change : Change) → BecomesView

-- a process that is born, with an empty queue of signals and an exit slot that is not set; it has its parent's script, buffer, handler and terminal
pub record Child : Type 0 where
  pub pid : ℕ
  pub place : ℕ
  pub registers : List Val

-- what a step does beside writing its process: it says the buffer, one entity is written, a child is born, or an entity is absent then
pub data BesideView : Type 0 where
  Nothing : BesideView
  Says : BesideView
  One : (entity : Entity) → (becomes : BecomesView) → BesideView
  Birth : (child : Child) → BesideView
  Gone : (entity : Entity) → BesideView

pub record PlanView : Type 0 where
  pub process : Process
  pub looks : LooksView
  pub beside : BesideView
