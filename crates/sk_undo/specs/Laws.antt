-- What notes are for: a guess that is taken back gives each entity what it had before the first write that depends on it.
use Rattle.std.specs.Prelude.{◌≡◌, ℕ, true, false, not, ◌||◌, List, [], ◌∷◌, Option, None}
use Rattle.sk_undo.specs.Base.{list_all, eq_by_cmp, entity_cmp, Entity, Note, has, committed, merged, IsGrowing}
use Rattle.sk_undo.specs.Base.{EntityState}
use Rattle.sk_undo.specs.Log.{EachRests, carries}
use Rattle.sk_undo.specs.Slot.{is_whole, committed_joined}
use Rattle.sk_undo.specs.Kept.{is_apart}
use Rattle.sk_undo.specs.Logs.{SlotMap, look_at, log_at, slots_wrote}
use Rattle.sk_undo.specs.Decisions.{Unwound}

-- a write: the guesses that it depends on, its entity, and what that has after it
pub record Write : Type 0 where
  pub tags : List ℕ
  pub entity : Entity
  pub value : Option EntityState

-- after these writes in order
abbrev pub all_wrote : SlotMap → List Write → SlotMap
all_wrote m [] = m
all_wrote m (w ∷ ws) = all_wrote (slots_wrote w.tags m w.entity w.value) ws

-- each of these writes to the entity depends on the guess; writes to others may or may not
abbrev pub AllRestOn : ℕ → Entity → List Write → Type 0
AllRestOn g e ws = list_all (λ w. not (eq_by_cmp entity_cmp e w.entity) || has g w.tags) ws ≡ true

-- no note of the entity depends on the guess; then writes are made; then the guess is taken back: the entity has what it had before these writes,
-- and its notes are those of then
abbrev pub GivesBack : Type 0
GivesBack =
    (old : SlotMap) (ws : List Write) (g : ℕ) (new : SlotMap) (e : Entity)
    → carries g (log_at old e) ≡ false → AllRestOn g e ws → Unwound (all_wrote old ws) g new
    → (look_at new e ≡ look_at old e) × (log_at new e ≡ log_at old e)

-- where all notes of a log put back a whole value (a process, a file, or none), and no two neighbours depend on the same, what a commit leaves is
-- the log with the guess out of it, and of neighbours that then depend on the same the first alone
abbrev pub JoinsRuns : Type 0
JoinsRuns =
    (g : ℕ) (log : List (Note EntityState))
    → IsGrowing log → EachRests log → is_apart [] log ≡ true → list_all (λ n. is_whole n.before) log ≡ true
    → committed_joined g None log ≡ merged [] (committed g log)
