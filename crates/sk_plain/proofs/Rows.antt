-- What a step can end with; and what every row of the table writes: the process, and beside it an
-- entity that is no process, or a child and what it is born with.
use Rattle.sk_plain.proofs.Cites.{◌≡◌, ℕ, suc, ◌+◌, Bool, true, false, cond, ◌&&◌, List, [], ◌∷◌, map, Option, Some}
use Rattle.sk_plain.proofs.Cites.{None, inl, inr, refl, sym, ◌∙◌, subst, arith, Result, Ok, Err, ◌⊎◌, ◌==◌, nat_lt}
use Rattle.sk_plain.proofs.Cites.{nat_le, Contains, get, leb-true, Refuse, Done, Step, Effect, perform, with_read, put}
use Rattle.sk_plain.proofs.Cites.{put_all, and_both, TEXT_LIMIT, ObjId, Entity, Proc, Sig, Exit, Obj, Link, Copy}
use Rattle.sk_plain.proofs.Cites.{ContentView, LAST_SIGNAL, Kind, PipeView, PIPE_LIMIT, Value, Process, Instruction}
use Rattle.sk_plain.proofs.Cites.{Input, held, private_step, State, EntityState, Refusal, Again, StepTree, object_in}
use Rattle.sk_plain.proofs.Cites.{number_in, number_to, who_in, failed, alone, with_write, with_removal, on_object}
use Rattle.sk_plain.proofs.Cites.{after_read, file_in, on_number, on_file, made, no_directory, unless_error}
use Rattle.sk_plain.proofs.Cites.{on_directory, target_at, named, link_to, linking, unlink_from, on_pipe, put_in}
use Rattle.sk_plain.proofs.Cites.{LEVEL_FOUR, LAST_CHILD, next_child, forked_by, born, fork, signalled, kill}
use Rattle.sk_plain.proofs.Cites.{waited, wait, returned, from_copy, over_copy, good, fresh, stale, row, private_or}
use Rattle.sk_plain.proofs.Cites.{does, handled, with_signals, with_input, IsTidyState, cons_cases, no_member, Ask}
use Rattle.sk_plain.specs.declared.refusal.Errno.{Errno}
use Rattle.sk_plain.specs.Processes.{forked}
use Rattle.sk_plain.proofs.Alone.{keeps_step}
use Rattle.std.specs.Prelude.{length}
use Rattle.sk_objects.specs.declared.value.Kind.TheVariants as kinds
use Rattle.sk_objects.specs.declared.value.Value.TheVariants as values
use Rattle.sk_script.specs.declared.instruction.Instruction.TheVariants as does_
use Rattle.sk_script.specs.declared.instruction.Input.TheVariants as inputs
use Rattle.sk_store.specs.declared.entity_state.EntityState.TheVariants as stored
use Rattle.sk_plain.specs.Rows.{Saying}
use Rattle.sk_plain.proofs.Tidy.{elsewhere, IsPlace, IsNextChild, tidy_own, tidy_place, tidy_copy, tidy_birth}

module _ {E V W F : Type 0} (P : List (E × Option V) → Type 0) where
  -- whatever it is answered, it writes such a list where it is done
  abbrev pub Ends : Step E V W F → Type 0
  Ends (Ask e next) = (o : Option V) → Ends (next o)
  Ends (Refuse why) = Unit {0}
  Ends (Done written said) = P written

  abbrev EndsSo : Result (Effect E V W) F → Type 0
  EndsSo (Ok f) = P f.written
  EndsSo (Err why) = Unit {0}

  ends_read : (e : E) (v : Option V) (o : Result (Effect E V W) F) → EndsSo o → EndsSo (with_read e v o)
  ends_read e v (Ok f) h = h
  ends_read e v (Err why) h = tt

  ends_so : (look : E → Option V) (step : Step E V W F) → Ends step → EndsSo (perform look step)
  ends_so look (Ask e next) h = ends_read e (look e) (perform look (next (look e))) (ends_so look (next (look e)) (h (look e)))
  ends_so look (Refuse why) h = tt
  ends_so look (Done written said) h = h

  -- so it writes such a list where it is accepted, also after one more read
  pub written_so : (look : E → Option V) (step : Step E V W F) (e : E) (v : Option V) (f : Effect E V W) → Ends step → with_read e v (perform look step) ≡ Ok f → P f.written
  written_so look step e v f h is = subst EndsSo is (ends_read e v (perform look step) (ends_so look step h))

-- ---- rows

-- ---- what a step's writes keep, where it may write these copies

pub record Keeps (can : List ℕ → Type 0) (pid : ℕ) (p : Process) (ws : List (Entity × Option EntityState)) : Type 0 where
  pub processes : (c : ℕ) → Contains (map (λ w. w.0) ws) (Proc c) → (c ≡ pid) ⊎ IsNextChild pid p c
  pub copies : (name : List ℕ) → Contains (map (λ w. w.0) ws) (Copy name) → can name
  pub tidy : (s : State) → get s (Proc pid) ≡ Some (stored.Process p) → IsTidyState s → IsTidyState (put_all ws s)

pub one_of_two : (a b x : Entity) → Contains (a ∷ b ∷ []) x → (a ≡ x) ⊎ (b ≡ x)
one_of_two a b x h =
    elim (cons_cases a (b ∷ []) x h) [
      | inl is ↦ inl is
      | inr more ↦ elim (cons_cases b [] x more) [ inl is ↦ inr is | inr none ↦ absurd (no_member x none) ]
    ]

pub only_one : (a x : Entity) → Contains (a ∷ []) x → a ≡ x
only_one a x h = elim (cons_cases a [] x h) [ inl is ↦ is | inr none ↦ absurd (no_member x none) ]

own_number : (pid c : ℕ) → Proc pid ≡ Proc c → c ≡ pid
own_number pid c is = let same : pid ≡ c = cc in sym same

module _ (can : List ℕ → Type 0) (pid : ℕ) (p : Process) where
  pub Fine : StepTree → Type 0
  Fine step = Ends (Keeps can pid p) step

  pub ends_of : (step : StepTree) → Fine step → Ends (Keeps can pid p) step
  unfolding Fine
  ends_of step h = h

  ask_fine : (e : Entity) (next : Option EntityState → StepTree) → ((v : Option EntityState) → Fine (next v)) → Fine (Ask e next)
  unfolding Fine
  ask_fine e next h = h

  refuse_fine : (why : Refusal) → Fine (Refuse why)
  unfolding Fine
  refuse_fine why = tt

  done_fine : (q : Process) (said : Option Saying) → q.children ≡ p.children → Fine (Done ((Proc pid, Some (stored.Process q)) ∷ []) said)
  unfolding Fine
  done_fine q said same = record {
    processes = λ c is. inl (own_number pid c (only_one (Proc pid) (Proc c) is));
    copies = λ name is. (let no_copy : Proc pid ≡ Copy name = only_one (Proc pid) (Copy name) is in cc);
    tidy = λ s there h. tidy_own s pid p q there (omega arith) h;
  }

  alone_fine : (q : Process) → q.children ≡ p.children → Fine (alone pid q)
  alone_fine q same = done_fine q None same

  write_fine : (e : Entity) (v : Value) (q : Process) → IsPlace e → q.children ≡ p.children → Fine (with_write pid e v q)
  unfolding Fine
  write_fine e v q place same = record {
    processes = λ c is. elim (one_of_two e (Proc pid) (Proc c) is) [ inl at ↦ absurd (subst IsPlace at place) | inr own ↦ inl (own_number pid c own) ];
    copies = λ name is. elim (one_of_two e (Proc pid) (Copy name) is) [ inl at ↦ absurd (subst IsPlace at place) | inr own ↦ cc ];
    tidy = λ s there h. tidy_own (put s e (Some (stored.Value v))) pid p q (elsewhere s e (Proc pid) (Some (stored.Value v)) (λ is. subst IsPlace (sym is) place) ∙ there) (omega arith)
        (tidy_place s e (Some (stored.Value v)) place h);
  }

  gone_fine : (e : Entity) (q : Process) → IsPlace e → q.children ≡ p.children → Fine (with_removal pid e q)
  unfolding Fine
  gone_fine e q place same = record {
    processes = λ c is. elim (one_of_two (Proc pid) e (Proc c) is) [ inl own ↦ inl (own_number pid c own) | inr at ↦ absurd (subst IsPlace at place) ];
    copies = λ name is. elim (one_of_two (Proc pid) e (Copy name) is) [ inl own ↦ cc | inr at ↦ absurd (subst IsPlace at place) ];
    tidy = λ s there h. tidy_place (put s (Proc pid) (Some (stored.Process q))) e None place (tidy_own s pid p q there (omega arith) h);
  }

  copy_fine : (name : List ℕ) (c : ContentView) (q : Process) → can name → q.children ≡ p.children → Fine (with_write pid (Copy name) (values.Copy c) q)
  unfolding Fine
  copy_fine name c q may same = record {
    processes = λ c is. elim (one_of_two (Copy name) (Proc pid) (Proc c) is) [ inl at ↦ cc | inr own ↦ inl (own_number pid c own) ];
    copies = λ other is. elim (one_of_two (Copy name) (Proc pid) (Copy other) is) [ inl at ↦ (let one : name ≡ other = cc in subst can one may) | inr own ↦ cc ];
    tidy = λ s there h. tidy_own (put s (Copy name) (Some (stored.Value (values.Copy c)))) pid p q (elsewhere s (Copy name) (Proc pid) (Some (stored.Value (values.Copy c))) (λ is. cc) ∙ there) (omega arith)
        (tidy_copy s name c h);
  }

  born_fine : (child parent : Process) → IsNextChild pid p child.pid → parent.children ≡ p.children + 1 → Fine (born pid child parent)
  unfolding Fine
  born_fine child parent next count = record {
    processes = λ c is. elim (cons_cases (Proc child.pid) (Sig child.pid ∷ Exit child.pid ∷ Proc pid ∷ []) (Proc c) is) [
      | inl its ↦ inr (subst (IsNextChild pid p) (let one : child.pid ≡ c = cc in one) next)
      | inr more ↦ elim (cons_cases (Sig child.pid) (Exit child.pid ∷ Proc pid ∷ []) (Proc c) more) [
        | inl its ↦ cc
        | inr rest ↦ elim (one_of_two (Exit child.pid) (Proc pid) (Proc c) rest) [ inl its ↦ cc | inr own ↦ inl (own_number pid c own) ]
      ]
    ];
    copies = λ name is. elim (cons_cases (Proc child.pid) (Sig child.pid ∷ Exit child.pid ∷ Proc pid ∷ []) (Copy name) is) [
      | inl its ↦ cc
      | inr more ↦ elim (cons_cases (Sig child.pid) (Exit child.pid ∷ Proc pid ∷ []) (Copy name) more) [
        | inl its ↦ cc
        | inr rest ↦ elim (one_of_two (Exit child.pid) (Proc pid) (Copy name) rest) [ inl its ↦ cc | inr own ↦ cc ]
      ]
    ];
    tidy = λ s there h. tidy_birth s pid p child parent there next count h;
  }

  if_fine : (a b : StepTree) (t : Bool) → Fine a → Fine b → Fine (cond t a b)
  if_fine a b true h k = h
  if_fine a b false h k = k

  -- ---- what a row asks first

  object_fine : (row : ObjId → Option EntityState → StepTree) (o : Option ObjId) → ((o : ObjId) (v : Option EntityState) → Fine (row o v)) → Fine (on_object pid p row o)
  object_fine row (Some o) h = ask_fine (Obj o) (row o) (h o)
  object_fine row None h = alone_fine _ refl

  number_fine : (row : ℕ → StepTree) (n : Option ℕ) → ((n : ℕ) → Fine (row n)) → Fine (on_number pid p row n)
  number_fine row (Some n) h = h n
  number_fine row None h = alone_fine _ refl

  file_fine : (row : List ℕ → StepTree) (v : Option EntityState) → ((bytes : List ℕ) → Fine (row bytes)) → Fine (on_file pid p row v)
  file_fine row (Some (stored.Value (values.File bytes))) h = h bytes
  file_fine row v h = alone_fine _ refl

  directory_fine : (row : StepTree) (v : Option EntityState) → Fine row → Fine (on_directory pid p row v)
  directory_fine row v h = elim (no_directory v) as (λ e. Fine (unless_error pid p row e)) [ None ↦ h | Some error ↦ alone_fine _ refl ]

  pipe_fine : (row : PipeView → StepTree) (v : Option EntityState) → ((held : PipeView) → Fine (row held)) → Fine (on_pipe pid p row v)
  pipe_fine row (Some (stored.Value (values.Pipe held))) h = h held
  pipe_fine row v h = alone_fine _ refl

  -- ---- files

  made_fine : (r : ℕ) (kind : Kind) → Fine (made pid p r kind)
  made_fine r kind = if_fine _ _ _ (write_fine _ _ _ tt refl) (alone_fine _ refl)

  read_kept : (r : Result (List ℕ) Errno) (at : Option ℕ) → (after_read p r at).children ≡ p.children
  read_kept (Ok bytes) (Some n) = refl
  read_kept (Ok bytes) None = refl
  read_kept (Err error) at = refl

  -- ---- directories

  named_fine : (r : ℕ) (o : Option ObjId) → Fine (named pid p r o)
  named_fine r (Some o) = alone_fine _ refl
  named_fine r None = alone_fine _ refl

  link_to_fine : (d : ObjId) (name : List ℕ) (object : ObjId) (there : Option EntityState) → Fine (link_to pid p d name object there)
  link_to_fine d name object (Some there) = alone_fine _ refl
  link_to_fine d name object None = write_fine (Link d name) _ _ tt refl

  linking_fine : (d : ObjId) (name : List ℕ) (object : Option ObjId) (v : Option EntityState) → Fine (linking pid p d name object v)
  linking_fine d name (Some object) v = directory_fine _ v (ask_fine _ _ (λ there. link_to_fine d name object there))
  linking_fine d name None v = alone_fine _ refl

  unlink_from_fine : (d : ObjId) (name : List ℕ) (there : Option EntityState) → Fine (unlink_from pid p d name there)
  unlink_from_fine d name (Some there) = gone_fine (Link d name) _ tt refl
  unlink_from_fine d name None = alone_fine _ refl

  -- ---- pipes

  put_in_fine : (o : ObjId) (held : PipeView) → Fine (put_in pid p o held)
  put_in_fine o held =
      if_fine _ _ held.shut (alone_fine _ refl) (if_fine _ _ (length p.buffer == 0) (alone_fine _ refl)
      (if_fine _ _ (nat_le (length held.bytes + length p.buffer) PIPE_LIMIT) (write_fine (Obj o) _ _ tt refl) (refuse_fine _)))

  -- ---- processes

  signalled_fine : (who n : ℕ) (v : Option EntityState) → Fine (signalled pid p who n v)
  signalled_fine who n (Some (stored.Value (values.Signals queue))) = if_fine _ _ _ (write_fine _ _ _ tt refl) (alone_fine _ refl)
  signalled_fine who n v = alone_fine _ refl

  kill_fine : (who n : Option ℕ) → Fine (kill pid p who n)
  kill_fine (Some who) n = number_fine _ n (λ n. ask_fine _ _ (λ v. signalled_fine who n v))
  kill_fine None n = alone_fine _ refl

  fork_fine : (r place : ℕ) → Fine (fork pid p r place)
  fork_fine r place =
      elim (nat_lt pid LEVEL_FOUR && nat_lt p.children LAST_CHILD) as (λ t. (nat_lt pid LEVEL_FOUR && nat_lt p.children LAST_CHILD) ≡ t → Fine (cond t (born pid (forked p (next_child pid p) place) (forked_by p r (next_child pid p))) (alone pid (failed p Again)))) [
        | true ↦ λ is. born_fine (forked p (next_child pid p) place) (forked_by p r (next_child pid p)) (refl, leb-true (suc p.children) LAST_CHILD (and_both (nat_lt pid LEVEL_FOUR) (nat_lt p.children LAST_CHILD) is).1) refl
        | false ↦ λ _. alone_fine _ refl
      ] refl

  waited_fine : (r : ℕ) (v : Option EntityState) → Fine (waited pid p r v)
  waited_fine r (Some (stored.Value (values.Exit (Some status)))) = alone_fine _ refl
  waited_fine r (Some (stored.Value (values.Exit None))) = refuse_fine _
  waited_fine r v = alone_fine _ refl

  wait_fine : (r : ℕ) (who : Option ℕ) → Fine (wait pid p r who)
  wait_fine r (Some who) = if_fine _ _ _ (ask_fine _ _ (λ v. waited_fine r v)) (alone_fine _ refl)
  wait_fine r None = alone_fine _ refl

  -- ---- the table

  row_fine : (i : Instruction) → Fine (row pid p i)
  row_fine (does_.Handler place) = alone_fine _ refl
  row_fine does_.Return = alone_fine _ (elim p.saved as (λ o. (returned p o).children ≡ p.children) [ Some place ↦ refl | None ↦ refl ])
  row_fine does_.Say = done_fine _ _ refl
  row_fine (does_.MakeFile r) = made_fine r kinds.File
  row_fine (does_.MakeDir r) = made_fine r kinds.Dir
  row_fine (does_.MakePipe r) = made_fine r kinds.Pipe
  row_fine (does_.Look r d name) = object_fine _ _ (λ d v. directory_fine _ v (ask_fine _ _ (λ there. named_fine r (target_at there))))
  row_fine (does_.Link d name r) = object_fine _ _ (λ d v. linking_fine d name (object_in (held p.registers r)) v)
  row_fine (does_.Unlink d name) = object_fine _ _ (λ d v. directory_fine _ v (ask_fine _ _ (λ there. unlink_from_fine d name there)))
  row_fine (does_.Size f) = object_fine _ _ (λ o v. file_fine _ v (λ bytes. alone_fine _ refl))
  row_fine (does_.Write f at) = object_fine _ _ (λ o v. file_fine _ v (λ bytes. number_fine _ (number_in (held p.registers at)) (λ n.
      if_fine _ _ _ (if_fine _ _ _ (alone_fine _ refl) (write_fine _ _ _ tt refl)) (alone_fine _ refl))))
  row_fine (does_.Read f at) = object_fine _ _ (λ o v. alone_fine _ (read_kept (file_in v) (number_in (held p.registers at))))
  row_fine (does_.Cut f n) = object_fine _ _ (λ o v. file_fine _ v (λ bytes. number_fine _ (number_in (held p.registers n)) (λ n.
      if_fine _ _ _ (if_fine _ _ _ (alone_fine _ refl) (write_fine _ _ _ tt refl)) (alone_fine _ refl))))
  row_fine (does_.Put q) = object_fine _ _ (λ o v. pipe_fine _ v (λ held. put_in_fine o held))
  row_fine (does_.Take q n) =
      object_fine _ _ (λ o v. pipe_fine _ v (λ pipe. number_fine _ (number_to TEXT_LIMIT (held p.registers n)) (λ n.
      if_fine _ _ _ (if_fine _ _ _ (alone_fine _ refl) (refuse_fine _)) (write_fine _ _ _ tt refl))))
  row_fine (does_.Shut q) = object_fine _ _ (λ o v. pipe_fine _ v (λ held. if_fine _ _ _ (alone_fine _ refl) (write_fine _ _ _ tt refl)))
  row_fine (does_.Fork r place) = fork_fine r place
  row_fine (does_.Wait r w) = wait_fine r (who_in (held p.registers w))
  row_fine (does_.Kill w n) = kill_fine (who_in (held p.registers w)) (number_to LAST_SIGNAL (held p.registers n))
  row_fine (does_.Exit r) = write_fine _ _ _ tt refl
  row_fine (does_.Fetch name) = refuse_fine _
  row_fine (does_.Store name) = refuse_fine _
  row_fine i = alone_fine _ refl

  -- a private instruction changes no count
  abbrev IsKept : Option Process → Type 0
  IsKept (Some q) = q.children ≡ p.children
  IsKept None = Unit {0}

  private_same : (i : Instruction) → IsKept (private_step p i)
  private_same i = elim (private_step p i) as (λ o. private_step p i ≡ o → IsKept o) [ Some q ↦ λ is. (keeps_step p q i is).children | None ↦ λ _. tt ] refl

  does_fine : (i : Option Instruction) → Fine (does pid p i)
  does_fine (Some i) =
      elim (private_step p i) as (λ o. IsKept o → Fine (private_or pid o (row pid p i))) [ Some q ↦ λ same. alone_fine q same | None ↦ λ _. row_fine i ]
      (private_same i)
  does_fine None = write_fine _ _ _ tt refl

  handled_fine : (i : Option Instruction) (queue : List ℕ) (handler saved : Option ℕ) → Fine (handled pid p i queue handler saved)
  handled_fine i (n ∷ ns) (Some handler) None = write_fine _ _ _ tt refl
  handled_fine i queue handler saved = does_fine i

  signals_fine : (i : Option Instruction) (v : Option EntityState) → Fine (with_signals pid p i v)
  signals_fine i (Some (stored.Value (values.Signals queue))) = if_fine _ _ _ (write_fine _ _ _ tt refl) (handled_fine i queue p.handler p.saved)
  signals_fine i v = does_fine i

-- ---- steps with an input

-- a fetch or a store of this name
abbrev pub IsOf : Option Instruction → List ℕ → Type 0
IsOf i name = (i ≡ Some (does_.Fetch name)) ⊎ (i ≡ Some (does_.Store name))

-- the copies that a step with this input may write
abbrev pub CanWrite : Input → Option Instruction → List ℕ → Type 0
CanWrite inputs.None i name = ⊥
CanWrite inputs.Good i name = IsOf i name
CanWrite (inputs.Fresh c) i name = IsOf i name
CanWrite (inputs.Stale c) i name = IsOf i name

from_fine : (can : List ℕ → Type 0) (pid : ℕ) (p : Process) (v : Option EntityState) → Fine can pid p (from_copy pid p v)
from_fine can pid p (Some (stored.Value (values.Copy c))) = alone_fine can pid p _ refl
from_fine can pid p v = refuse_fine can pid p _

over_fine : (can : List ℕ → Type 0) (pid : ℕ) (p : Process) (name : List ℕ) (v : Option EntityState) → can name → Fine can pid p (over_copy pid p name v)
over_fine can pid p name None may = copy_fine can pid p name _ _ may refl
over_fine can pid p name (Some (stored.Value (values.Copy c))) may = if_fine can pid p _ _ _ (copy_fine can pid p name _ _ may refl) (refuse_fine can pid p _)
over_fine can pid p name v may = refuse_fine can pid p _

good_fine : (pid : ℕ) (p : Process) (i : Option Instruction) → Fine (IsOf i) pid p (good pid p i)
good_fine pid p (Some (does_.Fetch name)) = ask_fine _ _ _ _ _ (λ v. from_fine (IsOf (Some (does_.Fetch name))) pid p v)
good_fine pid p (Some (does_.Store name)) = ask_fine _ _ _ _ _ (λ v. over_fine (IsOf (Some (does_.Store name))) pid p name v (inr refl))
good_fine pid p i = refuse_fine _ _ _ _

fresh_fine : (pid : ℕ) (p : Process) (c : ContentView) (i : Option Instruction) → Fine (IsOf i) pid p (fresh pid p c i)
fresh_fine pid p c (Some (does_.Fetch name)) = copy_fine (IsOf (Some (does_.Fetch name))) pid p name c _ (inl refl) refl
fresh_fine pid p c i = refuse_fine _ _ _ _

stale_fine : (pid : ℕ) (p : Process) (c : ContentView) (i : Option Instruction) → Fine (IsOf i) pid p (stale pid p c i)
stale_fine pid p c (Some (does_.Store name)) = copy_fine (IsOf (Some (does_.Store name))) pid p name c _ (inr refl) refl
stale_fine pid p c i = refuse_fine _ _ _ _

pub input_fine : (pid : ℕ) (p : Process) (i : Option Instruction) (x : Input) → Fine (CanWrite x i) pid p (with_input pid p i x)
input_fine pid p i inputs.None = ask_fine _ _ _ _ _ (λ v. signals_fine (CanWrite inputs.None i) pid p i v)
input_fine pid p i inputs.Good = good_fine pid p i
input_fine pid p i (inputs.Fresh c) = fresh_fine pid p c i
input_fine pid p i (inputs.Stale c) = stale_fine pid p c i
