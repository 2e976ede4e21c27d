-- Lists of the entities that depend on each undecided guess.
use Rattle.std.specs.Prelude.{◌≡◌, ◌≤◌, ℕ, true, List, [], ◌∷◌, length, Result, OnOk, OnErr}
use Rattle.sk_machine.specs.Base.{AllocError, IsStrictlySortedBy, nat_cmp, is_in, last_tags, IsTidy, UndoState}
use Rattle.sk_machine.specs.Base.{numbers, entity_cmp, Entity, Proc, Sig, OpenGuess, opens_of, Roomy, Input}
use Rattle.sk_machine.specs.Base.{EntityState, SlotMap, log_at, read_by, looked, looks_of, written_in, Plan}
use Rattle.sk_guesses.specs.Dependents as lists

-- the guesses that an entity depends on
abbrev pub tags_in : SlotMap → Entity → List ℕ
tags_in m e = last_tags [] (log_at m e)

-- notes have no tags but open guesses, whose numbers rise
pub record IsOrdered (s : UndoState Entity EntityState) : Type 0 where
  pub tidy : IsTidy s
  pub rising : IsStrictlySortedBy nat_cmp (numbers s.opens)

-- ---- the notions of sk_guesses, in the order of entities

-- each list has just the entities that depend on its guess
abbrev pub AllExact : (Entity → List ℕ) → List (OpenGuess Entity) → Type 0
AllExact = lists.AllExact entity_cmp

-- each list has the entities that depend on its guess, and no others but some of these
abbrev pub AllAlmostExact : (Entity → List ℕ) → List Entity → List (OpenGuess Entity) → Type 0
AllAlmostExact = lists.AllAlmostExact entity_cmp

-- these entities depend on none but these guesses
abbrev pub Covers : List ℕ → List Entity → (Entity → List ℕ) → Type 0
Covers = lists.Covers entity_cmp

-- ----

-- entities that come to depend on these guesses are put in their lists; without memory the lists have what they had
pub record HasListed (result : Result (Unit {0}) AllocError) (m : SlotMap) (tags : List ℕ) (es : List Entity) (old new : Roomy Entity) : Type 0 where
  pub view : new.view ≡ old.view
  pub opens : opens_of new.opens ≡ opens_of old.opens
  pub ok : OnOk result (AllExact (lists.with_tags entity_cmp tags es (tags_in m)) new.opens)
  pub err : OnErr result (AllExact (tags_in m) new.opens)

-- these entities depend on just these guesses
abbrev pub RestAlike : List ℕ → List Entity → (Entity → List ℕ) → Type 0
RestAlike tags es before = (e : Entity) → is_in entity_cmp es e ≡ true → before e ≡ tags

-- a process depends on just these guesses, so does all that its step writes, and what it reads depends on no others
pub record RestsAsProcess (m : SlotMap) (tags : List ℕ) (pid : ℕ) (input : Input) (plan : Plan) : Type 0 where
  pub own : tags_in m (Proc pid) ≡ tags
  pub reads : Covers tags (read_by pid input (looked (looks_of plan))) (tags_in m)
  pub writes : RestAlike tags (written_in pid plan) (tags_in m)
  pub rising : IsStrictlySortedBy nat_cmp tags

-- a process that depends on at least so many guesses has signals that depend on none but these
abbrev pub IsEnough : ℕ → ℕ → SlotMap → Type 0
IsEnough least pid m = least ≤ length (tags_in m (Proc pid)) → IsStrictlySortedBy nat_cmp (tags_in m (Proc pid)) → Covers (tags_in m (Proc pid)) (Sig pid ∷ []) (tags_in m)
