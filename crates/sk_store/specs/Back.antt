-- What takes a write back.
use Rattle.std.specs.Prelude.{Option, Some, None, IsSome, refl}
use Rattle.sk_store.specs.Base.{Coded, code_by, coded×, Entity, Undo, EntityState, PutBack, Was, Changed}
use Rattle.std.specs.FinMap as map
use Rattle.sk_ids.specs.contracts.entity.Entity as entity
use Rattle.sk_store.specs.State.{State}
use Rattle.sk_store.specs.Changed.{StateFits, state_undone}
use Rattle.sk_store.specs.contracts.back.PutBack as put_back
use Rattle.sk_store.specs.contracts.entity_state.EntityState as stored_row

-- an entity that was written, and what puts it back
pub record BackView : Type 0 where
  pub entity : Entity
  pub undo : PutBack EntityState

abbrev pub back_code : Coded BackView
back_code = code_by (Entity × PutBack EntityState) (coded× entity.the_row.coded (put_back.the_row stored_row.the_row).coded) (λ n. (n.entity, n.undo)) (λ p. record { entity = p.0; undo = p.1 }) (λ _. refl)

-- a value with a change taken back
abbrev pub changed_back : Option EntityState → State → Entity → Undo → State
changed_back (Some v) s e undo = map.insert s e (state_undone v undo)
changed_back None s e undo = s

-- one write put back
abbrev pub put_back_at : State → Entity → PutBack EntityState → State
put_back_at s e (Was None) = map.remove s e
put_back_at s e (Was (Some v)) = map.insert s e v
put_back_at s e (Changed undo) = changed_back (map.get s e) s e undo

abbrev pub taken_back : State → BackView → State
taken_back s b = put_back_at s b.entity b.undo

-- what a change is taken back from is there
abbrev pub CanChangeBack : Option EntityState → Undo → Type 0
CanChangeBack (Some v) undo = StateFits v undo
CanChangeBack None undo = ⊥

abbrev pub CanPutBack : State → Entity → PutBack EntityState → Type 0
CanPutBack s e (Was None) = Unit {0}
CanPutBack s e (Was (Some v)) = IsSome (map.get s e)
CanPutBack s e (Changed undo) = CanChangeBack (map.get s e) undo

abbrev pub CanTakeBack : State → BackView → Type 0
CanTakeBack s b = CanPutBack s b.entity b.undo
