-- Values, undo logs and open guesses in place: what a step, a commit and a failure make of them, and when they stand for a record.
use Rattle.std.specs.Prelude.{◌≡◌, ℕ, Bool, true, not, ◌||◌, ◌==◌, List, [], ◌∷◌, ◌++◌, map, Option, Some, None, Ok}
use Rattle.std.specs.List.{filter, list_any, list_all}
use Rattle.std.specs.FinMap.{FinMap, get}
use Rattle.sk_record.specs.Step.{Effect, perform}
use Rattle.sk_record.specs.Effects.{MarkedEffect, is_in, is_marked, writes, touches, hits, written_value}
use Rattle.sk_record.specs.Run.{System, marked_effect, run, IsLegal, effects}
use Rattle.sk_record.specs.Notes.{Note, has, without, noted, last_tags, cut, carried, unwound, committed, notes_of}
use Rattle.sk_record.specs.Trace.{Record, marks, still_marked}

-- an open guess, with the tags of its own step
abbrev pub Open : Type 0
Open = ℕ × List ℕ

-- the value and the log of each entity, and the open guesses in the order of their making
pub record UndoState (E V : Type 0) : Type 0 where
  pub look : E → Option V
  pub logs : E → List (Note V)
  pub opens : List Open

-- the numbers of open guesses, in their order
abbrev pub numbers : List Open → List ℕ
numbers os = map (λ o. o.0) os

-- the guess that a step opens, with the tags of the step
abbrev pub opened : Option ℕ → List ℕ → List Open
opened None tags = []
opened (Some g) tags = (g, tags) ∷ []

-- after a commit
abbrev pub still_open : ℕ → List Open → List Open
still_open g os = map (λ o. (o.0, without g o.1)) (filter (λ o. not (o.0 == g)) os)

-- after a failure: the guesses whose own steps depend on the failed one are struck
abbrev pub not_struck : ℕ → List Open → List Open
not_struck g os = filter (λ o. not (has g o.1)) os

module _ {E V : Type 0} where
  -- the tags of an entity: those of its last note
  abbrev pub tags_at : UndoState E V → E → List ℕ
  tags_at a e = last_tags [] (a.logs e)

  -- whether something that a step touches depends on the guess, or it is the step's own
  abbrev pub is_tag : {W : Type 0} → UndoState E V → MarkedEffect E V W → ℕ → Bool
  is_tag a f g = is_marked f.mark g || list_any (λ e. has g (tags_at a e)) (touches f)

  -- the tags of a step: the union of the tags of all that it touches, with its own guess
  abbrev pub step_tags : {W : Type 0} → UndoState E V → MarkedEffect E V W → List ℕ
  step_tags a f = filter (is_tag a f) (numbers a.opens ++ marks f.mark)

  -- a commit: its guess goes out of all tags
  pub record Committed (a : UndoState E V) (g : ℕ) (b : UndoState E V) : Type 0 where
    pub look : (e : E) → b.look e ≡ a.look e
    pub logs : (e : E) → b.logs e ≡ committed g (a.logs e)
    pub opens : b.opens ≡ still_open g a.opens

  -- a failure: unwinds in place, runs no step again and reads no record
  pub record Failed (a : UndoState E V) (g : ℕ) (b : UndoState E V) : Type 0 where
    pub look : (e : E) → b.look e ≡ unwound g (a.logs e) (a.look e)
    pub logs : (e : E) → b.logs e ≡ cut g (a.logs e)
    pub opens : b.opens ≡ not_struck g a.opens

  -- a log is empty where its last note has no tags, and tags name open guesses alone
  pub record IsTidy (a : UndoState E V) : Type 0 where
    pub clean : (e : E) → tags_at a e ≡ [] → a.logs e ≡ []
    pub known : (e : E) (g : ℕ) → has g (tags_at a e) ≡ true → has g (numbers a.opens) ≡ true

module _ {E V W : Type 0} where
  -- at the positions marked h the flags are b
  abbrev pub Owned : ℕ → Bool → List Bool → List (MarkedEffect E V W) → Type 0
  Owned h b flags [] = Unit {0}
  Owned h b [] (f ∷ fs) = Unit {0}
  Owned h b (x ∷ flags) (f ∷ fs) = (is_marked f.mark h ≡ true → x ≡ b) × Owned h b flags fs

module _ {E V W F N : Type 0} (K : System E V W F N) where
  -- an accepted step
  pub record Took (a : UndoState E V) (n : N) (b : UndoState E V) : Type 0 where
    pub effect : Effect E V W
    pub accepted : perform a.look (K.act n) ≡ Ok effect
    pub look : (e : E) → b.look e ≡ written_value K.order effect.written e (a.look e)
    pub logs : (e : E) → b.logs e ≡ a.logs e ++ noted (is_in K.order (writes (marked_effect K (K.mark n) (Ok effect))) e) (step_tags a (marked_effect K (K.mark n) (Ok effect))) (a.look e) []
    pub opens : b.opens ≡ a.opens ++ opened (K.mark n) (step_tags a (marked_effect K (K.mark n) (Ok effect)))

  -- the tags of an open guess's own step: the guesses that the position which it marks depends on
  pub record OwnTagsExact (ts : List (MarkedEffect E V W)) (gs : List ℕ) (o : Open) : Type 0 where
    pub marked : still_marked ts o.0 ≡ true
    pub own : (g : ℕ) → has g gs ≡ true → Owned o.0 (has g o.1) (hits K.order g [] ts) ts
    pub known : (g : ℕ) → has g o.1 ≡ true → has g gs ≡ true

  abbrev pub AllOwnTagsExact : List (MarkedEffect E V W) → List ℕ → List Open → Type 0
  AllOwnTagsExact ts gs [] = Unit {0}
  AllOwnTagsExact ts gs (o ∷ os) = OwnTagsExact ts gs o × AllOwnTagsExact ts gs os

  -- the notes that the run of a record makes for an entity, where these guesses are undecided
  abbrev pub log_of : FinMap K.order V → List N → List ℕ → E → List (Note V)
  log_of s ns guesses e = notes_of K.order guesses (λ g. []) (effects K s ns) e (get s e)

  -- values, logs and open guesses are what the plain kernel makes of the record
  pub record Represents (start : FinMap K.order V) (r : Record N) (a : UndoState E V) : Type 0 where
    pub legal : IsLegal K start r.entries
    pub guesses : numbers a.opens ≡ r.undecided
    pub look : (e : E) → a.look e ≡ get (run K start r.entries) e
    pub logs : (e : E) → a.logs e ≡ notes_of K.order r.undecided (λ g. []) (effects K start r.entries) e (get start e)
    pub own_tags : AllOwnTagsExact (effects K start r.entries) r.undecided a.opens

-- along a log, what a note depends on the later notes depend on too
abbrev pub IsGrowing : {V : Type 0} → List (Note V) → Type 0
IsGrowing log = (g : ℕ) → list_all (λ n. has g n.tags) (carried g log) ≡ true
