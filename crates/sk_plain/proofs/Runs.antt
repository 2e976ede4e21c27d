-- A step that is taken keeps a tidy state, and so does a run; and what a process does next, and
-- what that says of the process.
use Rattle.sk_plain.proofs.Cites.{◌≡◌, ℕ, Bool, true, false, cond, List, [], ◌∷◌, Option, Some, None, Result, Ok, Err}
use Rattle.sk_plain.proofs.Cites.{refl, subst, sym, ◌∙◌, ap, get, Effect, Refuse, perform, with_read, outcome, after}
use Rattle.sk_plain.proofs.Cites.{run, Entity, Proc, Sig, Value, Process, Instruction, Input, State, EntityState}
use Rattle.sk_plain.proofs.Cites.{Refusal, NoProcess, Ended, Scripts, Saying, act, plain, goes_on, with_input}
use Rattle.sk_plain.proofs.Cites.{EntryView, IsTidyState, Next, Signal, Fetch, Waits, Other, is_due, is_private, waits}
use Rattle.sk_plain.proofs.Cites.{next_instruction, next_going, next_at, next_of, StepTree, next_in}
use Rattle.sk_plain.specs.declared.next.Next.TheVariants.{Private, Store}
use Rattle.sk_store.specs.declared.entity_state.EntityState.TheVariants as stored
use Rattle.sk_plain.proofs.Rows.{Keeps, CanWrite, ends_of, input_fine, written_so}
use Rattle.sk_script.specs.declared.instruction.Instruction.TheVariants as does_

-- what a step that is accepted found
pub record Found (scripts : Scripts) (s : State) (pid : ℕ) (x : Input) (f : Effect Entity EntityState Saying) : Type 0 where
  pub process : Process
  pub there : get s (Proc pid) ≡ Some (stored.Process process)
  pub goes : process.ended ≡ false
  pub keeps : Keeps (CanWrite x (next_in scripts process)) pid process f.written

-- what a process that has not ended goes on with, told of all that only such a process does
abbrev IsGoing : {R : Type 0} → (Process → Result R Refusal) → Option EntityState → R → Type 0
IsGoing go o x = (p : Process) × (o ≡ Some (stored.Process p)) × (p.ended ≡ false) × (go p ≡ Ok x)

module _ {R : Type 0} (at : Option EntityState → Result R Refusal) (go : Process → Result R Refusal) (none : at None ≡ Err NoProcess)
    (value : (v : Value) → at (Some (stored.Value v)) ≡ Err NoProcess) (process : (p : Process) → at (Some (stored.Process p)) ≡ cond p.ended (Err Ended) (go p)) where
  goes : (x : R) (p : Process) (ended : Bool) → p.ended ≡ ended → cond ended (Err Ended) (go p) ≡ Ok x → IsGoing go (Some (stored.Process p)) x
  goes x p true at is = cc
  goes x p false at is = (p, refl, at, is)

  alive : (x : R) (o : Option EntityState) → at o ≡ Ok x → IsGoing go o x
  alive x None is = (let both : Err NoProcess ≡ Ok x = sym none ∙ is in cc)
  alive x (Some (stored.Value v)) is = (let both : Err NoProcess ≡ Ok x = sym (value v) ∙ is in cc)
  alive x (Some (stored.Process p)) is = goes x p p.ended refl (sym (process p) ∙ is)

  goes_so : (p : Process) (o : Option EntityState) → o ≡ Some (stored.Process p) → p.ended ≡ false → at o ≡ go p
  goes_so p o is going = ap at is ∙ process p ∙ ap (λ t. cond t (Err Ended) (go p)) going

read_so : (e : Entity) (o : Option EntityState) (look : Entity → Option EntityState) (step : StepTree) (ended : Bool)
    → with_read e o (perform look (cond ended (Refuse Ended) step)) ≡ cond ended (Err Ended) (with_read e o (perform look step))
read_so e o look step true = refl
read_so e o look step false = refl

module _ (scripts : Scripts) (s : State) (pid : ℕ) (x : Input) where
  abbrev step_at : Option EntityState → Result (Effect Entity EntityState Saying) Refusal
  step_at o = with_read (Proc pid) o (perform (get s) (goes_on scripts pid x o))

  -- the step of a process that goes on
  abbrev pub step_of : Process → Result (Effect Entity EntityState Saying) Refusal
  step_of p = with_read (Proc pid) (Some (stored.Process p)) (perform (get s) (with_input pid p (next_in scripts p) x))

  step_goes : (p : Process) → step_at (Some (stored.Process p)) ≡ cond p.ended (Err Ended) (step_of p)
  step_goes p = read_so (Proc pid) (Some (stored.Process p)) (get s) (with_input pid p (next_in scripts p) x) p.ended

  pub steps_on : (p : Process) → get s (Proc pid) ≡ Some (stored.Process p) → p.ended ≡ false → perform (get s) (act scripts pid x) ≡ step_of p
  steps_on p there going = goes_so step_at step_of refl (λ v. refl) step_goes p (get s (Proc pid)) there going

module _ (scripts : Scripts) (s : State) (pid : ℕ) (x : Input) (f : Effect Entity EntityState Saying) where
  found_alive : IsGoing (step_of scripts s pid x) (get s (Proc pid)) f → Found scripts s pid x f
  found_alive is =
      let p = is.0 in
      record {
        process = p;
        there = is.1;
        goes = is.2;
        keeps = written_so (Keeps (CanWrite x (next_in scripts p)) pid p) (get s) (with_input pid p (next_in scripts p) x) (Proc pid) (Some (stored.Process p)) f
            (ends_of (CanWrite x (next_in scripts p)) pid p (with_input pid p (next_in scripts p) x) (input_fine pid p (next_in scripts p) x)) is.3;
      }

  pub found : perform (get s) (act scripts pid x) ≡ Ok f → Found scripts s pid x f
  found is = found_alive (alive (step_at scripts s pid x) (step_of scripts s pid x) refl (λ v. refl) (step_goes scripts s pid x) f (get s (Proc pid)) is)

module _ (scripts : Scripts) where
  after_tidy : (s : State) (n : EntryView) (o : Result (Effect Entity EntityState Saying) Refusal) → outcome (plain scripts) s n ≡ o → IsTidyState s → IsTidyState (after (plain scripts) o s)
  after_tidy s n (Ok f) is h = let step = found scripts s n.pid n.input f is in step.keeps.tidy s step.there h
  after_tidy s n (Err why) is h = h

  pub plain_tidy : (s : State) (ns : List EntryView) → IsTidyState s → IsTidyState (run (plain scripts) s ns)
  plain_tidy s [] h = h
  plain_tidy s (n ∷ ns) h = let K = plain scripts in plain_tidy (after K (outcome K s n) s) ns (after_tidy s n (outcome K s n) refl h)

-- ---- what a process does next, by its instruction

-- neither a signal nor a fetch nor a store
abbrev IsElse : Next → Type 0
IsElse Signal = ⊥
IsElse (Fetch name) = ⊥
IsElse (Store name) = ⊥
IsElse n = Unit {0}

abbrev IsNextAt : Option Instruction → Next → Type 0
IsNextAt (Some (does_.Fetch name)) n = n ≡ Fetch name
IsNextAt (Some (does_.Store name)) n = n ≡ Store name
IsNextAt i n = IsElse n

else_of : (private waiting : Bool) → IsElse (cond private Private (cond waiting Waits Other))
else_of true waiting = tt
else_of false true = tt
else_of false false = tt

next_kind : (look : Entity → Option EntityState) (scripts : Scripts) (pid : ℕ) (p : Process) (i : Option Instruction) → IsNextAt i (next_instruction look scripts pid p i)
next_kind look scripts pid p (Some (does_.Fetch name)) = refl
next_kind look scripts pid p (Some (does_.Store name)) = refl
next_kind look scripts pid p i = else_of (is_private p i) (waits look scripts pid)

fetch_kind : (i : Option Instruction) (name : List ℕ) → IsNextAt i (Fetch name) → i ≡ Some (does_.Fetch name)
fetch_kind (Some (does_.Fetch other)) name is = (let same : name ≡ other = cc in ap (λ n. Some (does_.Fetch n)) (sym same))
fetch_kind (Some (does_.Store other)) name is = cc
fetch_kind i name is = absurd is

store_kind : (i : Option Instruction) (name : List ℕ) → IsNextAt i (Store name) → i ≡ Some (does_.Store name)
store_kind (Some (does_.Fetch other)) name is = cc
store_kind (Some (does_.Store other)) name is = (let same : name ≡ other = cc in ap (λ n. Some (does_.Store n)) (sym same))
store_kind i name is = absurd is

not_due : (due : Bool) (n m : Next) → (m ≡ Signal → ⊥) → cond due Signal n ≡ m → n ≡ m
not_due true n m none is = absurd (none (sym is))
not_due false n m none is = is

-- a process that has this instruction next
pub record IsAt (scripts : Scripts) (s : State) (pid : ℕ) (i : Instruction) : Type 0 where
  pub process : Process
  pub there : get s (Proc pid) ≡ Some (stored.Process process)
  pub goes : process.ended ≡ false
  pub at : next_in scripts process ≡ Some i

module _ (scripts : Scripts) (s : State) (pid : ℕ) where
  abbrev pub next_turn : Result Next Refusal
  next_turn = next_of (get s) scripts pid

  -- where it is this instruction, whose kind is told
  at_of : (m : Next) (i : Instruction) → (m ≡ Signal → ⊥) → ((o : Option Instruction) → IsNextAt o m → o ≡ Some i) → next_turn ≡ Ok m → IsAt scripts s pid i
  at_of m i calm kind is =
      let g = alive (next_at (get s) scripts pid) (λ p. Ok (next_going (get s) scripts pid p)) refl (λ v. refl) (λ p. refl) m (get s (Proc pid)) is in
      let p = g.0 in
      let n = next_instruction (get s) scripts pid p (next_in scripts p) in
      let both : Ok (next_going (get s) scripts pid p) ≡ Ok m = g.3 in
      let goes : next_going (get s) scripts pid p ≡ m = cc in
      let does = not_due (is_due p (get s (Sig pid))) n m calm goes in
      record { process = p; there = g.1; goes = g.2; at = kind (next_in scripts p) (subst (IsNextAt (next_in scripts p)) does (next_kind (get s) scripts pid p (next_in scripts p))) }

  pub fetch_at : (name : List ℕ) → next_turn ≡ Ok (Fetch name) → IsAt scripts s pid (does_.Fetch name)
  fetch_at name is = at_of (Fetch name) (does_.Fetch name) (λ no. cc) (λ o. fetch_kind o name) is

  pub store_at : (name : List ℕ) → next_turn ≡ Ok (Store name) → IsAt scripts s pid (does_.Store name)
  store_at name is = at_of (Store name) (does_.Store name) (λ no. cc) (λ o. store_kind o name) is

-- ---- and back

abbrev pub IsFree : Result Next Refusal → Type 0
IsFree t = t ≡ Ok Signal → ⊥

calm_turn : (due : Bool) (n : Next) (t : Result Next Refusal) → IsFree t → t ≡ Ok (cond due Signal n) → t ≡ Ok n
calm_turn true n t free is = absurd (free is)
calm_turn false n t free is = is

-- where no signal is due, the turn is that of the instruction
pub turn_at : (scripts : Scripts) (s : State) (pid : ℕ) (p : Process) (i : Option Instruction) → get s (Proc pid) ≡ Some (stored.Process p) → p.ended ≡ false → next_in scripts p ≡ i → IsFree (next_turn scripts s pid)
    → next_turn scripts s pid ≡ Ok (next_instruction (get s) scripts pid p i)
turn_at scripts s pid p i there going at free =
    let n = next_instruction (get s) scripts pid p in
    let due = is_due p (get s (Sig pid)) in
    calm_turn due (n (next_in scripts p)) (next_turn scripts s pid) free
    (goes_so (next_at (get s) scripts pid) (λ p. Ok (next_going (get s) scripts pid p)) refl (λ v. refl) (λ p. refl) p (get s (Proc pid)) there going)
    ∙ ap (λ i. Ok (n i)) at
