-- What is told of the lines that are left is told of the scenario: from where its first fault can stand.
use Rattle.sk_scenario.proofs.Names.{◌≡◌, ◌<◌, ◌≤◌, inl, inr, ltb, ℕ, ◌+◌, ◌-◌, Bool, true, false, not, List, [], ◌∷◌}
use Rattle.sk_scenario.proofs.Names.{◌++◌, length, Option, Some, None, Result, Ok, Err, refl, sym, ap, ◌∙◌, arith, ◌⊎◌}
use Rattle.sk_scenario.proofs.Names.{MatchOption, if◌then◌else◌, ltb-true, ltb-false, list_all, length-append}
use Rattle.sk_scenario.proofs.Names.{append_assoc, append-nil, FaultKind, Fault, words, first_of, at, read_from}
use Rattle.sk_scenario.proofs.Names.{TellsKind, Tells, fault_at, fault_is_behind, Instruction, ComesFirst, TellsScript}
use Rattle.sk_scenario.proofs.Names.{script_from, script_is_behind, Heading, Said, event_line, trace_from, step_line}
use Rattle.sk_scenario.proofs.Names.{world_line, Declared, TellsNext, line_said, Begun, is_end, ended, more}
use Rattle.sk_scenario.proofs.Names.{with_script, with_section, SectionView, Steps, World, Trace, section_from, goes_on}
use Rattle.sk_scenario.proofs.Names.{scenario_from, script_ends, IsEdge, IsEdgeOf, IsScriptEdge, ComesBefore, TellsUpTo}
use Rattle.sk_scenario.proofs.Names.{AreLeft}
use Rattle.sk_words.specs.declared.fault.FaultKind.TheVariants as kinds
use Rattle.sk_scenario.specs.declared.declarations.Heading.TheVariants as headings
use Rattle.sk_scenario.specs.declared.declarations.Said.TheVariants as says
use Rattle.sk_scenario.proofs.Heading.{line_begins}
use Rattle.sk_scenario.proofs.Scripts.{begun, cut_none, cut_end, faulty}

-- ---- where the first fault of a scenario can stand

abbrev line_in : {S : Type 0} → Result S Fault → ℕ
line_in (Ok s) = 0
line_in (Err f) = f.line

err_of_section : {A : Type 0} (d : Declared) (section : A → SectionView) (said : Result A Fault) (g : Fault) → with_section d section said ≡ Err g → said ≡ Err g
err_of_section d section (Ok s) g e = absurd cc
err_of_section d section (Err f) g e = cc

pub section_is_behind : (d : Declared) (h : Heading) (first : ℕ) (ls : List (List ℕ)) (g : Fault) → section_from d h first ls ≡ Err g → first ≤ g.line
section_is_behind d headings.Steps first ls g e = fault_is_behind step_line [] first ls g (err_of_section d Steps (read_from step_line [] first ls) g e)
section_is_behind d headings.World first ls g e = fault_is_behind world_line [] first ls g (err_of_section d World (read_from world_line [] first ls) g e)
section_is_behind d headings.Trace first ls g e = fault_is_behind event_line [] first ls g (err_of_section d Trace (trace_from first ls) g e)

-- what is begun, and the lines that are left, are behind this line
abbrev Low : Option Begun → ℕ → ℕ → Type 0
Low None m n = m ≤ n
Low (Some b) m n = (m < b.first) × (m < n)

goes_behind : (s : Said) (d : Declared) (m n : ℕ) (ls : List (List ℕ)) (g : Fault) → m ≤ n
    → ((b : Option Begun) → Low b m (n + 1) → scenario_from d b (n + 1) ls ≡ Err g → m ≤ g.line)
    → goes_on s d (n + 1) ls (λ b. scenario_from d b (n + 1) ls) ≡ Err g → m ≤ g.line
goes_behind says.Declared d m n ls g low rest e = rest None (omega (arith, low)) e
goes_behind (says.Script name) d m n ls g low rest e = rest (Some (record { name = name; first = n + 1; lines = [] })) (omega (arith, low), omega (arith, low)) e
goes_behind (says.Heading h) d m n ls g low rest e = let behind = section_is_behind d h (n + 1) ls g e in omega (arith, low, behind)

scenario_behind : (ls : List (List ℕ)) (d : Declared) (b : Option Begun) (m n : ℕ) (g : Fault) → Low b m n → scenario_from d b n ls ≡ Err g → m ≤ g.line
scenario_behind [] d None m n g low e = absurd cc
scenario_behind [] d (Some b) m n g low e =
    elim (script_from b.first b.lines) as (λ r. script_from b.first b.lines ≡ r → with_script r (λ is. Err (fault_at (n - 1) kinds.Word)) ≡ Err g → m ≤ g.line) [
      | Ok is ↦ λ said told. let same : n - 1 ≡ g.line = ap line_in told in omega (arith, same, low.1)
      | Err f ↦ λ said told.
          let same : f.line ≡ g.line = ap line_in told in
          omega (arith, same, low.0, script_is_behind b.first b.lines f said)
    ] refl e
scenario_behind (l ∷ ls) d None m n g low e =
    elim (line_said d (first_of (words l))) as (λ r. at n r (λ x. goes_on x.0 x.1 (n + 1) ls (λ b. scenario_from x.1 b (n + 1) ls)) ≡ Err g → m ≤ g.line) [
      | Ok x ↦ λ told. goes_behind x.0 x.1 m n ls g low (λ b under later. scenario_behind ls x.1 b m (n + 1) g under later) told
      | Err k ↦ λ told. let same : n ≡ g.line = ap line_in told in omega (arith, same, low)
    ] e
scenario_behind (l ∷ ls) d (Some b) m n g low e =
    elim (is_end l) as (λ t. (if t then script_ends d b n l (λ x. scenario_from x None (n + 1) ls) else scenario_from d (Some (more b l)) (n + 1) ls) ≡ Err g → m ≤ g.line) [
      | false ↦ λ told. scenario_behind ls d (Some (more b l)) m (n + 1) g (low.0, omega (arith, low.1)) told
      | true ↦ λ told.
          elim (script_from b.first b.lines) as (λ r. script_from b.first b.lines ≡ r → with_script r (λ is. at n (ended d b.name is l) (λ x. scenario_from x None (n + 1) ls)) ≡ Err g → m ≤ g.line) [
            | Err f ↦ λ said at_f.
                let same : f.line ≡ g.line = ap line_in at_f in
                omega (arith, same, low.0, script_is_behind b.first b.lines f said)
            | Ok is ↦ λ said at_is.
                elim (ended d b.name is l) as (λ r. at n r (λ x. scenario_from x None (n + 1) ls) ≡ Err g → m ≤ g.line) [
                  | Err k ↦ λ at_k. let same : n ≡ g.line = ap line_in at_k in omega (arith, same, low.1)
                  | Ok x ↦ λ later. scenario_behind ls x None m (n + 1) g (omega (arith, low.1)) later
                ] at_is
          ] refl told
    ] e

pub scenario_is_behind : (d : Declared) (n : ℕ) (ls : List (List ℕ)) (g : Fault) → scenario_from d None n ls ≡ Err g → n ≤ g.line
scenario_is_behind d n ls g e = scenario_behind ls d None n n g (omega arith) e

-- ---- what is told

early : {S : Type 0} (Edge : ℕ → Type 0) (first last : ℕ) (f : Fault) (said : Result S Fault) → f.kind ≡ kinds.Memory → first ≤ f.line → f.line ≤ last → ((g : Fault) → said ≡ Err g → ComesBefore Edge f g) → TellsUpTo Edge first last f said
early Edge first last f (Ok s) memory from within before = (memory, from, within)
early Edge first last f (Err g) memory from within before = inr (memory, from, before g refl)

-- of a line, whose rest has no fault up to it
told_at : {S T : Type 0} (Edge : ℕ → Type 0) (first n last : ℕ) (k : FaultKind) (said : Result S FaultKind) (rest : S → Result T Fault) → first ≤ n → n ≤ last → TellsKind k said
    → ((s : S) (g : Fault) → rest s ≡ Err g → n < g.line) → TellsUpTo Edge first last (fault_at n k) (at n said rest)
told_at Edge first n last k (Err e) rest from within h behind = inl (ap (fault_at n) h)
told_at Edge first n last k (Ok s) rest from within h behind = early Edge first last (fault_at n k) (rest s) h from within (λ g e. inl (behind s g e))

-- of a line among the declarations
next_told : (Edge : ℕ → Type 0) (n last : ℕ) (ls : List (List ℕ)) (k : FaultKind) (said : Result (Said × Declared) FaultKind) → 1 ≤ n → n ≤ last → TellsNext k said
    → TellsUpTo Edge 1 last (fault_at n k) (at n said (λ x. goes_on x.0 x.1 (n + 1) ls (λ b. scenario_from x.1 b (n + 1) ls)))
next_told Edge n last ls k (Err e) from within h = inl (ap (fault_at n) h)
next_told Edge n last ls k (Ok x) from within h =
    early Edge 1 last (fault_at n k) (goes_on x.0 x.1 (n + 1) ls (λ b. scenario_from x.1 b (n + 1) ls)) h.0 from within
    (λ g e. let behind = scenario_is_behind x.1 (n + 1) ls g (rw h.1 at e) in inl (omega (arith, behind)))

pub line_told : (Edge : ℕ → Type 0) (d : Declared) (n last : ℕ) (l : List ℕ) (ls : List (List ℕ)) (k : FaultKind) → 1 ≤ n → n ≤ last → TellsNext k (line_said d (first_of (words l))) → TellsUpTo Edge 1 last (fault_at n k) (scenario_from d None n (l ∷ ls))
line_told Edge d n last l ls k from within h = next_told Edge n last ls k (line_said d (first_of (words l))) from within h

-- of the lines of a section
pub section_told : {A : Type 0} (d : Declared) (section : A → SectionView) (first last : ℕ) (f : Fault) (said : Result A Fault) → Tells first last f said → Tells first last f (with_section d section said)
section_told d section first last f (Ok s) h = h
section_told d section first last f (Err g) h = h

-- ---- edges

edge_on : (Edge Outer : ℕ → Type 0) (f g : Fault) → (Edge f.line → Outer f.line) → ComesBefore Edge f g → ComesBefore Outer f g
edge_on Edge Outer f g on (inl before) = inl before
edge_on Edge Outer f g on (inr m) = inr (m.0, on m.1)

-- what is told of some lines is told of lines that begin before them
pub edges_on : {S : Type 0} (Edge Outer : ℕ → Type 0) (first low last : ℕ) (f : Fault) (said : Result S Fault) → low ≤ first → ((n : ℕ) → Edge n → Outer n) → TellsUpTo Edge first last f said → TellsUpTo Outer low last f said
edges_on Edge Outer first low last f (Ok s) down on h = (h.0, omega (arith, down, h.1), h.2)
edges_on Edge Outer first low last f (Err g) down on (inl same) = inl same
edges_on Edge Outer first low last f (Err g) down on (inr m) = inr (m.0, omega (arith, down, m.1), edge_on Edge Outer f g (on f.line) m.2)

-- an edge of the script that a line of a text begins is one of the text's
pub edge_of_text : (text ls rest : List (List ℕ)) (l : List ℕ) (d : Declared) (x : Said × Declared) (first last n : ℕ) (left : AreLeft ls text) → ls ≡ l ∷ rest → length left.0 + 2 ≡ first → length text ≡ last
    → line_said d (first_of (words l)) ≡ Ok x → IsEdgeOf x.0 first last rest n → IsScriptEdge text n
edge_of_text text ls rest l d x first last n left here first_is last_is said edge = record {
  before = left.0;
  heading = l;
  behind = rest;
  cut = left.1 ∙ ap (λ (us : List (List ℕ)). left.0 ++ us) here;
  begins = line_begins d l x edge.0 said edge.1;
  edge = rw (first_is, last_is) edge.2;
}

-- the lines that are left of those that are left are left of the text
pub left_on : (text ls rest new : List (List ℕ)) (l : List ℕ) → AreLeft ls text → ls ≡ l ∷ rest → AreLeft new rest → AreLeft new text
left_on text ls rest new l left here behind = (left.0 ++ l ∷ behind.0, left.1 ∙ rw (here, behind.1) (sym (append_assoc left.0 (l ∷ behind.0) new)))

-- ---- a script

-- of the line that ends a script without a fault
pub end_told : (Edge : ℕ → Type 0) (d : Declared) (name : List ℕ) (n last : ℕ) (ls : List (List ℕ)) (line : List ℕ) (rest all : List (List ℕ)) (is : List Instruction) (k : FaultKind) → list_all (λ l. not (is_end l)) ls ≡ true → all ≡ ls ++ line ∷ rest → is_end line ≡ true
    → script_from n ls ≡ Ok is → n + length ls ≤ last → TellsKind k (ended d name is line) → TellsUpTo Edge n last (fault_at (n + length ls) k) (scenario_from d (Some (begun name n [])) n all)
end_told Edge d name n last ls line rest all is k h e ends sound within told =
    let later = told_at Edge n (n + length ls) last k (ended d name is line) (λ x. scenario_from x None (n + length ls + 1) rest) (omega arith) within told
    (λ x g f. let behind = scenario_is_behind x (n + length ls + 1) rest g f in omega (arith, behind)) in
    rw (cut_end d name n ls line rest all h e ends, sound) later

-- a script's lines are lines of the text
pub within_all : {X : Type 0} (end : Option X) (now : X → List ℕ) (ls rest all : List (List ℕ)) → MatchOption end ((all ≡ ls) × (rest ≡ [])) (λ x. (all ≡ ls ++ now x ∷ rest) × (is_end (now x) ≡ true)) → length ls ≤ length all
within_all None now ls rest all m = rw m.0 (omega arith)
within_all (Some x) now ls rest all m = rw m.0 (omega (arith, length-append ls (now x ∷ rest)))

-- the lines behind a script are left of all
pub behind_script : {X : Type 0} (end : Option X) (now : X → List ℕ) (ls rest all : List (List ℕ)) → MatchOption end ((all ≡ ls) × (rest ≡ [])) (λ x. (all ≡ ls ++ now x ∷ rest) × (is_end (now x) ≡ true)) → AreLeft rest all
behind_script None now ls rest all m = (ls, rw (m.0, m.1) (sym (append-nil ls)))
behind_script (Some x) now ls rest all m = (ls ++ now x ∷ [], m.0 ∙ sym (append_assoc ls (now x ∷ []) rest))

-- want of memory up to a fault, at an edge where it is at its line
before_or_edge : (Edge : ℕ → Type 0) (f g : Fault) → f.line ≤ g.line → (f.line ≡ g.line → Edge f.line) → ComesBefore Edge f g
before_or_edge Edge f g up_to edge =
    elim (ltb f.line g.line) as (λ (b : Bool). ltb f.line g.line ≡ b → ComesBefore Edge f g) [
      | true ↦ λ e. inl (ltb-true f.line g.line e)
      | false ↦ λ e. let same : f.line ≡ g.line = omega (arith, up_to, ltb-false f.line g.line e) in inr (same, edge same)
    ] refl

-- where a script's lines have no fault, want of memory in one of them is before the first that is behind them
sound_comes : {X : Type 0} (end : Option X) (now : X → List ℕ) (d : Declared) (name : List ℕ) (n last : ℕ) (ls rest all : List (List ℕ)) (is : List Instruction) (f g : Fault) → 1 ≤ n → list_all (λ line. not (is_end line)) ls ≡ true
    → MatchOption end ((all ≡ ls) × (rest ≡ [])) (λ x. (all ≡ ls ++ now x ∷ rest) × (is_end (now x) ≡ true)) → last + 1 ≡ n + length all → script_from n ls ≡ Ok is
    → n ≤ f.line → f.line ≤ n + length ls - 1 → scenario_from d (Some (begun name n [])) n all ≡ Err g → ComesBefore (IsEdge n last all) f g
sound_comes None now d name n last ls rest all is f g counted h m whole sound from within e =
    let cut : Err (fault_at (n + length ls - 1) kinds.Word) ≡ Err g = rw (cut_none d name n ls all h m.0, sound) at e in
    let same : n + length ls - 1 ≡ g.line = ap line_in cut in
    let long : length all ≡ length ls = ap length m.0 in
    let none : list_all (λ line. not (is_end line)) all ≡ true = rw m.0 h in
    before_or_edge (IsEdge n last all) f g (omega (arith, same, within)) (λ there. inr (from, omega (arith, there, same, long, whole, from), none))
sound_comes (Some x) now d name n last ls rest all is f g counted h m whole sound from within e =
    let cut = rw (cut_end d name n ls (now x) rest all h m.0 m.1, sound) at e in
    elim (ended d name is (now x)) as (λ r. at (n + length ls) r (λ y. scenario_from y None (n + length ls + 1) rest) ≡ Err g → ComesBefore (IsEdge n last all) f g) [
      | Err k ↦ λ at_k. let same : n + length ls ≡ g.line = ap line_in at_k in inl (omega (arith, counted, same, from, within))
      | Ok y ↦ λ later. let behind = scenario_is_behind y (n + length ls + 1) rest g later in inl (omega (arith, counted, behind, from, within))
    ] cut

-- of a script's lines, one of which has a fault
fault_comes : (n last : ℕ) (all : List (List ℕ)) (f g : Fault) → n ≤ g.line → ((f ≡ g) ⊎ ((f.kind ≡ kinds.Memory) × ComesFirst n f g)) → (f ≡ g) ⊎ ((f.kind ≡ kinds.Memory) × (n ≤ f.line) × ComesBefore (IsEdge n last all) f g)
fault_comes n last all f g behind (inl same) = inl same
fault_comes n last all f g behind (inr (memory, inl first)) = inr (memory, omega (arith, first), before_or_edge (IsEdge n last all) f g (omega (arith, first, behind)) (λ there. inl first))
fault_comes n last all f g behind (inr (memory, inr before)) = inr (memory, before.0, inl before.1)

pub script_told : {X : Type 0} (end : Option X) (now : X → List ℕ) (d : Declared) (name : List ℕ) (n last : ℕ) (ls rest all : List (List ℕ)) (f : Fault) → 1 ≤ n → list_all (λ line. not (is_end line)) ls ≡ true
    → MatchOption end ((all ≡ ls) × (rest ≡ [])) (λ x. (all ≡ ls ++ now x ∷ rest) × (is_end (now x) ≡ true)) → last + 1 ≡ n + length all
    → TellsScript n (n + length ls - 1) f (script_from n ls) → TellsUpTo (IsEdge n last all) n last f (scenario_from d (Some (begun name n [])) n all)
script_told end now d name n last ls rest all f counted h m whole =
    elim (script_from n ls) as (λ r. script_from n ls ≡ r → TellsScript n (n + length ls - 1) f r → TellsUpTo (IsEdge n last all) n last f (scenario_from d (Some (begun name n [])) n all)) [
      | Err g ↦ λ said told. rw (faulty end now d name n ls rest all g h m said) (fault_comes n last all f g (script_is_behind n ls g said) told)
      | Ok is ↦ λ said told. early (IsEdge n last all) n last f (scenario_from d (Some (begun name n [])) n all) told.0 told.1 (omega (arith, counted, told.1, told.2, whole, within_all end now ls rest all m))
          (λ g e. sound_comes end now d name n last ls rest all is f g counted h m whole said told.1 told.2 e)
    ] refl
