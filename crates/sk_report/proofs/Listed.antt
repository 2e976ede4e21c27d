-- What is listed of entities that are present is what is looked up of them.
use Rattle.sk_report.proofs.Names.{◌≡◌, ◌≢◌, ℕ, Bool, true, false, cond, List, [], ◌∷◌, ◌++◌, codes, flat_map, filter}
use Rattle.sk_report.proofs.Names.{Option, refl, sym, ap, ap₂, ◌∙◌, AllByRecursion}
use Rattle.sk_report.proofs.Names.{Entity, Proc, Sig, Exit, Obj, Link, Copy, ObjId, EntityState, StoredProcess, StoredValue}
use Rattle.sk_report.proofs.Names.{Value, Dir, Present, entities_of, is_name_of, link_text, names_under, line_of, with_terminals}
use Rattle.std.specs.List.{All}
use Rattle.std.proofs.lemmas.List.Elements.{All-filter, recursion_from_All}
use Rattle.sk_store.specs.Present.{IsPresent}
use Rattle.sk_report.specs.Printed.{entity_text, value_text}
use Rattle.sk_report.specs.Directories.{name_text, target_text, directory_text, gathered_at, gathered}
use Rattle.sk_report.specs.Report.{line_with, with_terminal}
use Rattle.sk_report.specs.Listed.{link_said, directory_said, names_said, held_said, line_said, lines_said, terminals_said}

-- the entities of those that pass a test of theirs
kept_head : (b : Bool) (p : Present) (rest : List Present) (es : List Entity) → entities_of rest ≡ es → entities_of (cond b (p ∷ rest) rest) ≡ cond b (p.entity ∷ es) es
kept_head true p rest es h = ap (λ (l : List Entity). p.entity ∷ l) h
kept_head false p rest es h = h

names_are : (d : ObjId) (ps : List Present) → entities_of (filter (λ p. is_name_of d p.entity) ps) ≡ names_under d (entities_of ps)
names_are d [] = refl
names_are d (p ∷ ps) = kept_head (is_name_of d p.entity) p (filter (λ q. is_name_of d q.entity) ps) (names_under d (entities_of ps)) (names_are d ps)

-- what is no directory says the same with names as without
pub value_alone : (all : List Present) (e : Entity) (v : Value) → v ≢ Dir → value_text v ≡ held_said all e (StoredValue v)
value_alone all e Dir other = absurd (other refl)
value_alone all e v other = refl

module _ (look : Entity → Option EntityState) (tags : Entity → List ℕ) where
  link_is : (p : Present) → IsPresent look tags p → link_said p.entity p.state.now ≡ link_text look p.entity
  link_is p h = ap (λ (o : Option EntityState). name_text p.entity ++ 61 ∷ target_text o) (sym h.0)

  links_are : (ps : List Present) → AllByRecursion (IsPresent look tags) ps → flat_map (λ p. 32 ∷ link_said p.entity p.state.now) ps ≡ flat_map (λ e. 32 ∷ link_text look e) (entities_of ps)
  links_are [] h = refl
  links_are (p ∷ ps) h = ap₂ (λ (x y : List ℕ). (32 ∷ x) ++ y) (link_is p h.0) (links_are ps h.1)

  directory_is : (ps : List Present) → AllByRecursion (IsPresent look tags) ps → directory_said ps ≡ directory_text look (entities_of ps)
  directory_is [] h = refl
  directory_is (p ∷ ps) h = ap₂ (λ (x y : List ℕ). codes "dir " ++ (x ++ y)) (link_is p h.0) (links_are ps h.1)

  terminals_are : (numbers : List ℕ) (ps : List Present) → AllByRecursion (IsPresent look tags) ps → terminals_said numbers ps ≡ with_terminals look numbers (entities_of ps)
  terminals_are numbers [] h = refl
  terminals_are numbers (p ∷ ps) h =
      ap (λ (o : Option EntityState). terminals_said (with_terminal numbers o) ps) (sym h.0.0)
      ∙ terminals_are (with_terminal numbers (look p.entity)) ps h.1

  module _ (all : List Present) (present : All (IsPresent look tags) all) where
    pub names_listed : (e : Entity) → names_said all e ≡ gathered_at look (entities_of all) e
    names_listed (Obj d) =
        directory_is (filter (λ p. is_name_of d p.entity) all) (recursion_from_All (IsPresent look tags) (filter (λ p. is_name_of d p.entity) all) (All-filter (λ p. is_name_of d p.entity) (IsPresent look tags) all present))
        ∙ ap (directory_text look) (names_are d all)
    names_listed (Proc p) = refl
    names_listed (Sig p) = refl
    names_listed (Exit p) = refl
    names_listed (Link d n) = refl
    names_listed (Copy n) = refl

    held_listed : (e : Entity) (s : EntityState) → held_said all e s ≡ gathered look (entities_of all) e s
    held_listed e (StoredProcess p) = refl
    held_listed e (StoredValue Dir) = names_listed e
    held_listed e (StoredValue v) = refl

    module _ (end : List ℕ → List ℕ) where
      line_is : (p : Present) → IsPresent look tags p → line_said end all p ≡ line_of look (λ e. end (tags e)) (entities_of all) p.entity
      line_is p h =
          ap₂ (λ (t r : List ℕ). entity_text p.entity ++ 32 ∷ t ++ r ++ 10 ∷ []) (held_listed p.entity p.state.now) (ap end (sym h.1))
          ∙ ap (λ (o : Option EntityState). line_with look (entities_of all) o p.entity (end (tags p.entity))) (sym h.0)

      lines_are : (ps : List Present) → AllByRecursion (IsPresent look tags) ps → flat_map (line_said end all) ps ≡ flat_map (line_of look (λ e. end (tags e)) (entities_of all)) (entities_of ps)
      lines_are [] h = refl
      lines_are (p ∷ ps) h = ap₂ (λ (x y : List ℕ). x ++ y) (line_is p h.0) (lines_are ps h.1)

      pub lines_listed : lines_said end all ≡ flat_map (line_of look (λ e. end (tags e)) (entities_of all)) (entities_of all)
      lines_listed = lines_are all (recursion_from_All (IsPresent look tags) all present)

    pub terminals_listed : (numbers : List ℕ) → terminals_said numbers all ≡ with_terminals look numbers (entities_of all)
    terminals_listed numbers = terminals_are numbers all (recursion_from_All (IsPresent look tags) all present)
