-- When a plan can be performed, and what the writes of a step leave.
use Rattle.std.specs.Prelude.{◌≡◌, ℕ, true, false, List, [], ◌∷◌, ◌++◌, map, Option, Result, OnOk, OnErr}
use Rattle.sk_machine.specs.Base.{AllocError, is_in, written_value, noted, Merges, entity_cmp, Entity, EntityState}
use Rattle.sk_machine.specs.Base.{Input, TerminalMap, SlotMap, look_at, log_at, Scripts, said_by, texts_after}
use Rattle.sk_machine.specs.Base.{writes_of, CanPerform, seen_with, Plan}

abbrev pub entities_of : List (Entity × Option EntityState) → List Entity
entities_of ws = map (λ w. w.0) ws

-- each of these is listed once
abbrev pub AreApart : List Entity → Type 0
AreApart [] = Unit {0}
AreApart (e ∷ es) = (is_in entity_cmp es e ≡ false) × AreApart es

-- what is written without tags has no notes
abbrev pub IsClean : SlotMap → List ℕ → List Entity → Type 0
IsClean m tags es = (e : Entity) → is_in entity_cmp es e ≡ true → tags ≡ [] → log_at m e ≡ []

-- the writes of a step that has these tags, whose notes may be left out
pub record Performed (old : SlotMap) (tags : List ℕ) (ws : List (Entity × Option EntityState)) (new : SlotMap) : Type 0 where
  pub look : (q : Entity) → look_at new q ≡ written_value entity_cmp ws q (look_at old q)
  pub logs : (q : Entity) → Merges [] (log_at old q ++ noted (is_in entity_cmp (entities_of ws) q) tags (look_at old q) []) (log_at new q)

-- what a plan writes here
abbrev pub planned_writes : SlotMap → Scripts → ℕ → Input → Plan → List (Entity × Option EntityState)
planned_writes m scripts pid input plan = writes_of (look_at m) pid (seen_with (look_at m) scripts pid input plan)

-- a plan can be performed by a step that has these tags
pub record CanPerformWith (m : SlotMap) (tags : List ℕ) (scripts : Scripts) (pid : ℕ) (input : Input) (plan : Plan) : Type 0 where
  pub can : CanPerform (look_at m) scripts pid input plan
  pub clean : IsClean m tags (entities_of (planned_writes m scripts pid input plan))

-- a plan was performed, and its text said, which has these tags; without memory nothing has changed
pub record HasPerformed (result : Result (Unit {0}) AllocError) (old : SlotMap) (tags : List ℕ) (scripts : Scripts) (pid : ℕ) (input : Input) (plan : Plan) (new : SlotMap) (before after : TerminalMap) : Type 0 where
  pub writes : OnOk result (Performed old tags (planned_writes old scripts pid input plan) new)
  pub says : OnOk result (after ≡ texts_after before tags (said_by (seen_with (look_at old) scripts pid input plan)))
  pub unwritten : OnErr result (new ≡ old)
  pub unsaid : OnErr result (after ≡ before)
