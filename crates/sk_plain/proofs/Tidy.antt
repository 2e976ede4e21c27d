-- What holds of every state that a kernel comes to, from the start of a boot on: a process that is
-- there has a number from 1 on, a child is counted by its parent, and a cached copy is one.
use Rattle.sk_plain.proofs.Cites.{◌≡◌, ℕ, ◌+◌, ◌*◌, ◌/◌, ◌%◌, ◌≤◌, ◌<◌, Bool, true, false, cond, List, [], Option, Some}
use Rattle.sk_plain.proofs.Cites.{None, IsSome, inl, inr, refl, sym, ◌∙◌, ap, subst, arith, ◌∷◌, ◌⊎◌, All, get, empty}
use Rattle.sk_plain.proofs.Cites.{get-empty, eq_by_cmp, eq_by_cmp_equiv, Equal-is, cases_eq, false≢true, div-mul-add}
use Rattle.sk_plain.proofs.Cites.{mod-mul-add, put, get-put, entity_cmp, Entity, Proc, Sig, Exit, Obj, Link, Copy}
use Rattle.sk_plain.proofs.Cites.{entity_total, entity_exact, ContentView, Process, State, EntityState, LAST_CHILD}
use Rattle.sk_plain.proofs.Cites.{next_child, All-head, All-tail, BootView, root, beginning, BootObject, BootProcess}
use Rattle.sk_plain.proofs.Cites.{boot_object, first_value, with_objects, with_links, with_process, with_processes}
use Rattle.sk_plain.proofs.Cites.{with_copies, with_root, start_of, HasNumber, IsNumbered, IsPlaced, IsCopy}
use Rattle.sk_plain.proofs.Cites.{IsTidyState}
use Rattle.sk_objects.specs.declared.value.Value.TheVariants as values
use Rattle.sk_store.specs.declared.entity_state.EntityState.TheVariants as stored

-- ---- reads after a write

pub here : (s : State) (e : Entity) (o : Option EntityState) → get (put s e o) e ≡ o
here s e o = get-put entity_total s e o e ∙ ap (λ b. cond b o (get s e)) ((eq_by_cmp_equiv entity_total).refl e)

pick : (s : State) (e q : Entity) (o : Option EntityState) → (q ≡ e → ⊥) → (b : Bool) → eq_by_cmp entity_cmp q e ≡ b → cond b o (get s q) ≡ get s q
pick s e q o apart true is = absurd (apart (entity_exact q e ((Equal-is (entity_cmp q e)).0 is)))
pick s e q o apart false is = refl

pub elsewhere : (s : State) (e q : Entity) (o : Option EntityState) → (q ≡ e → ⊥) → get (put s e o) q ≡ get s q
elsewhere s e q o apart = get-put entity_total s e o q ∙ pick s e q o apart (eq_by_cmp entity_cmp q e) refl

either : (X : Option EntityState → Type 0) (o p : Option EntityState) (b : Bool) → X o → X p → X (cond b o p)
either X o p true h k = h
either X o p false h k = k

-- what holds of the value that was there and of the new one holds of what is there
pub still : (X : Option EntityState → Type 0) (s : State) (e q : Entity) (o : Option EntityState) → X o → X (get s q) → X (get (put s e o) q)
still X s e q o new old = subst X (sym (get-put entity_total s e o q)) (either X o (get s q) (eq_by_cmp entity_cmp q e) new old)

-- ---- states

-- processes stay, and count no fewer children
abbrev pub Grows : State → State → Type 0
Grows s t = (k : ℕ) (r : Process) → get s (Proc k) ≡ Some (stored.Process r) → (q : Process) × (get t (Proc k) ≡ Some (stored.Process q)) × (r.children ≤ q.children)

placed_still : (s t : State) (c : ℕ) → Grows s t → IsPlaced s c → IsPlaced t c
placed_still s t c grows h = record {
  some = h.some;
  counted = λ child. (let was = h.counted child in let now = grows (c / 65536) was.0 was.1 in let le = was.2 in let more = now.2 in (now.0, now.1, omega arith));
}

tidy_still : (s t : State) → Grows s t → ((c : ℕ) → IsSome (get t (Proc c)) → IsSome (get s (Proc c)) ⊎ IsPlaced t c) → ((name : List ℕ) → IsCopy (get t (Copy name))) → IsTidyState s → IsTidyState t
tidy_still s t grows there copies h = record {
  placed = λ c is. elim (there c is) [ inl was ↦ placed_still s t c grows (h.placed c was) | inr new ↦ new ];
  copies = copies;
}

-- ---- writes

proc_is : (s : State) (pid k : ℕ) (o : Option EntityState) → (k ≡ pid → ⊥) → get (put s (Proc pid) o) (Proc k) ≡ get s (Proc k)
proc_is s pid k o apart = elsewhere s (Proc pid) (Proc k) o (λ same. apart (let is : k ≡ pid = cc in is))

-- a process that was there is written
own_grows : (s t : State) (pid k : ℕ) (p q r : Process) → get s (Proc pid) ≡ Some (stored.Process p) → get t (Proc pid) ≡ Some (stored.Process q) → p.children ≤ q.children → k ≡ pid
    → get s (Proc k) ≡ Some (stored.Process r) → (x : Process) × (get t (Proc k) ≡ Some (stored.Process x)) × (r.children ≤ x.children)
own_grows s t pid k p q r there now le same is =
    let both : Some (stored.Process r) ≡ Some (stored.Process p) = sym is ∙ (λ i. get s (Proc (same i))) ∙ there in
    let one : r ≡ p = cc in
    let fewer = ap (λ (p : Process). p.children) one in
    (q, (λ i. get t (Proc (same i))) ∙ now, omega arith)

pub tidy_own : (s : State) (pid : ℕ) (p q : Process) → get s (Proc pid) ≡ Some (stored.Process p) → p.children ≤ q.children → IsTidyState s → IsTidyState (put s (Proc pid) (Some (stored.Process q)))
tidy_own s pid p q there le h =
    let t = put s (Proc pid) (Some (stored.Process q)) in
    tidy_still s t
    (λ k r is. elim (cases_eq k pid) [
      | inl same ↦ own_grows s t pid k p q r there (here s (Proc pid) (Some (stored.Process q))) le same is
      | inr apart ↦ (r, proc_is s pid k (Some (stored.Process q)) apart ∙ is, omega arith)
    ])
    (λ c is. elim (cases_eq c pid) [
      | inl same ↦ inl (subst IsSome (sym ((λ i. get s (Proc (same i))) ∙ there)) refl)
      | inr apart ↦ inl (subst IsSome (proc_is s pid c (Some (stored.Process q)) apart) is)
    ])
    (λ name. subst IsCopy (sym (elsewhere s (Proc pid) (Copy name) (Some (stored.Process q)) (λ is. cc))) (h.copies name))
    h

-- what is neither a process nor a copy
abbrev pub IsPlace : Entity → Type 0
IsPlace (Proc p) = ⊥
IsPlace (Sig p) = Unit {0}
IsPlace (Exit p) = Unit {0}
IsPlace (Obj o) = Unit {0}
IsPlace (Link o n) = Unit {0}
IsPlace (Copy n) = ⊥

pub tidy_place : (s : State) (e : Entity) (o : Option EntityState) → IsPlace e → IsTidyState s → IsTidyState (put s e o)
tidy_place s e o place h =
    let procs : (c : ℕ) → get (put s e o) (Proc c) ≡ get s (Proc c) = λ c. elsewhere s e (Proc c) o (λ same. subst IsPlace (sym same) place) in
    tidy_still s (put s e o) (λ k r is. (r, procs k ∙ is, omega arith)) (λ c is. inl (subst IsSome (procs c) is))
    (λ name. subst IsCopy (sym (elsewhere s e (Copy name) o (λ same. subst IsPlace (sym same) place))) (h.copies name))
    h

pub tidy_copy : (s : State) (name : List ℕ) (c : ContentView) → IsTidyState s → IsTidyState (put s (Copy name) (Some (stored.Value (values.Copy c))))
tidy_copy s name c h =
    let o : Option EntityState = Some (stored.Value (values.Copy c)) in
    let procs : (c : ℕ) → get (put s (Copy name) o) (Proc c) ≡ get s (Proc c) = λ c. elsewhere s (Copy name) (Proc c) o (λ same. cc) in
    tidy_still s (put s (Copy name) o) (λ k r is. (r, procs k ∙ is, omega arith)) (λ c is. inl (subst IsSome (procs c) is))
    (λ other. still IsCopy s (Copy name) (Copy other) o tt (h.copies other))
    h

-- ---- a birth

-- the child that a process makes next, and the process has not made its last one
abbrev pub IsNextChild : ℕ → Process → ℕ → Type 0
IsNextChild pid p c = (c ≡ next_child pid p) × (p.children < LAST_CHILD)

child_over : (pid n : ℕ) → n < 65535 → (pid * 65536 + (n + 1)) / 65536 ≡ pid
child_over pid n lt = div-mul-add pid 65536 (n + 1) (omega arith)

child_under : (pid n : ℕ) → n < 65535 → (pid * 65536 + (n + 1)) % 65536 ≡ n + 1
child_under pid n lt = mod-mul-add pid 65536 (n + 1) (omega arith)

-- a child that is to be born is not there yet
pub unborn : (s : State) (pid : ℕ) (p : Process) (c : ℕ) → IsTidyState s → get s (Proc pid) ≡ Some (stored.Process p) → IsNextChild pid p c → IsSome (get s (Proc c)) → ⊥
unborn s pid p c h there next is =
    let own = (h.placed pid (subst IsSome (sym there) refl)).some in
    let number = next.0 in
    let few = next.1 in
    let over : c / 65536 ≡ pid = ap (λ c. c / 65536) number ∙ child_over pid p.children few in
    let under : c % 65536 ≡ p.children + 1 = ap (λ c. c % 65536) number ∙ child_under pid p.children few in
    let counted = (h.placed c is).counted (omega arith) in
    let both : Some (stored.Process counted.0) ≡ Some (stored.Process p) = sym counted.1 ∙ (λ i. get s (Proc (over i))) ∙ there in
    let one : counted.0 ≡ p = cc in
    let same = ap (λ (p : Process). p.children) one in
    let le = counted.2 in
    omega arith

some_there : (o : Option EntityState) (v : EntityState) → o ≡ Some v → IsSome o
some_there o v is = subst IsSome (sym is) refl

-- the four writes of a birth
abbrev after_birth : State → ℕ → Process → Process → State
after_birth s pid child parent =
    put (put (put (put s (Proc child.pid) (Some (stored.Process child))) (Sig child.pid) (Some (stored.Value (values.Signals [])))) (Exit child.pid) (Some (stored.Value (values.Exit None)))) (Proc pid) (Some (stored.Process parent))

-- what is none of the last three is as after the first
birth_else : (s : State) (pid : ℕ) (child parent : Process) (e : Entity) → (e ≡ Proc pid → ⊥) → (e ≡ Exit child.pid → ⊥) → (e ≡ Sig child.pid → ⊥)
    → get (after_birth s pid child parent) e ≡ get (put s (Proc child.pid) (Some (stored.Process child))) e
birth_else s pid child parent e no_parent no_exit no_queue =
    let a = put s (Proc child.pid) (Some (stored.Process child)) in
    let b = put a (Sig child.pid) (Some (stored.Value (values.Signals []))) in
    let c = put b (Exit child.pid) (Some (stored.Value (values.Exit None))) in
    elsewhere c (Proc pid) e (Some (stored.Process parent)) no_parent
    ∙ elsewhere b (Exit child.pid) e (Some (stored.Value (values.Exit None))) no_exit
    ∙ elsewhere a (Sig child.pid) e (Some (stored.Value (values.Signals []))) no_queue

-- nor the first
birth_proc : (s : State) (pid k : ℕ) (child parent : Process) → (k ≡ pid → ⊥) → (k ≡ child.pid → ⊥) → get (after_birth s pid child parent) (Proc k) ≡ get s (Proc k)
birth_proc s pid k child parent apart old =
    birth_else s pid child parent (Proc k) (λ same. apart (let is : k ≡ pid = cc in is)) (λ is. cc) (λ is. cc) ∙ proc_is s child.pid k (Some (stored.Process child)) old

pub tidy_birth : (s : State) (pid : ℕ) (p child parent : Process) → get s (Proc pid) ≡ Some (stored.Process p) → IsNextChild pid p child.pid → parent.children ≡ p.children + 1
    → IsTidyState s → IsTidyState (after_birth s pid child parent)
tidy_birth s pid p child parent there next count h =
    let t = after_birth s pid child parent in
    let number = next.0 in
    let few = next.1 in
    let own = (h.placed pid (some_there _ (stored.Process p) there)).some in
    let own_now : get t (Proc pid) ≡ Some (stored.Process parent) = here _ (Proc pid) (Some (stored.Process parent)) in
    let over : child.pid / 65536 ≡ pid = ap (λ c. c / 65536) number ∙ child_over pid p.children few in
    let under : child.pid % 65536 ≡ p.children + 1 = ap (λ c. c % 65536) number ∙ child_under pid p.children few in
    tidy_still s t
    (λ k r is. elim (cases_eq k pid) [
      | inl same ↦ own_grows s t pid k p parent r there own_now (omega arith) same is
      | inr apart ↦ (
          let old : k ≡ child.pid → ⊥ = λ same. unborn s pid p child.pid h there next (some_there _ (stored.Process r) ((λ i. get s (Proc (sym same i))) ∙ is)) in
          (r, birth_proc s pid k child parent apart old ∙ is, omega arith))
    ])
    (λ c is. elim (cases_eq c pid) [
      | inl same ↦ inl (some_there _ (stored.Process p) ((λ i. get s (Proc (same i))) ∙ there))
      | inr apart ↦ elim (cases_eq c child.pid) [
        | inl same ↦ inr (record {
          some = omega arith;
          counted = λ _. (parent, (λ i. get t (Proc (((λ j. same j / 65536) ∙ over) i))) ∙ own_now, (let its = ap (λ c. c % 65536) same in omega arith));
        })
        | inr old ↦ inl (subst IsSome (birth_proc s pid c child parent apart old) is)
      ]
    ])
    (λ name. subst IsCopy (sym (birth_else s pid child parent (Copy name) (λ is. cc) (λ is. cc) (λ is. cc)
    ∙ elsewhere s (Proc child.pid) (Copy name) (Some (stored.Process child)) (λ is. cc))) (h.copies name))
    h

-- ---- the state that a kernel starts from: its processes are those of the boot

-- they have the numbers of a boot's
pub record IsNew (s : State) : Type 0 where
  pub numbers : (c : ℕ) → IsSome (get s (Proc c)) → (0 < c) × (c < 65536)
  pub copies : (name : List ℕ) → IsCopy (get s (Copy name))

new_place : (s : State) (e : Entity) (v : EntityState) → IsPlace e → IsNew s → IsNew (put s e (Some v))
new_place s e v place h = record {
  numbers = λ c is. h.numbers c (subst IsSome (elsewhere s e (Proc c) (Some v) (λ same. subst IsPlace (sym same) place)) is);
  copies = λ name. subst IsCopy (sym (elsewhere s e (Copy name) (Some v) (λ same. subst IsPlace (sym same) place))) (h.copies name);
}

new_process : (s : State) (pid : ℕ) (v : EntityState) → (0 < pid) × (pid < 65536) → IsNew s → IsNew (put s (Proc pid) (Some v))
new_process s pid v fits h = record {
  numbers = λ c is. elim (cases_eq c pid) [
    | inl same ↦ (let low = fits.0 in let high = fits.1 in (omega arith, omega arith))
    | inr apart ↦ h.numbers c (subst IsSome (elsewhere s (Proc pid) (Proc c) (Some v) (λ same. apart (let one : c ≡ pid = cc in one))) is)
  ];
  copies = λ name. subst IsCopy (sym (elsewhere s (Proc pid) (Copy name) (Some v) (λ same. cc))) (h.copies name);
}

new_copy : (s : State) (name : List ℕ) (c : ContentView) → IsNew s → IsNew (put s (Copy name) (Some (stored.Value (values.Copy c))))
new_copy s name c h = record {
  numbers = λ pid is. h.numbers pid (subst IsSome (elsewhere s (Copy name) (Proc pid) (Some (stored.Value (values.Copy c))) (λ same. cc)) is);
  copies = λ other. still IsCopy s (Copy name) (Copy other) (Some (stored.Value (values.Copy c))) tt (h.copies other);
}

new_empty : IsNew empty
new_empty = record {
  numbers = λ c is. absurd (false≢true (subst IsSome (get-empty entity_cmp (Proc c)) is));
  copies = λ name. subst IsCopy (sym (get-empty entity_cmp (Copy name))) tt;
}

new_objects : (s : State) (n : ℕ) (os : List BootObject) → IsNew s → IsNew (with_objects s n os)
new_objects s n [] h = h
new_objects s n (o ∷ os) h =
    new_objects (put s (Obj (boot_object n)) (Some (stored.Value (first_value o.kind o.bytes)))) (n + 1) os (new_place s (Obj (boot_object n)) (stored.Value (first_value o.kind o.bytes)) tt h)

new_links : (s : State) (n : ℕ) (os : List BootObject) → IsNew s → IsNew (with_links s n os)
new_links s n [] h = h
new_links s n (o ∷ os) h =
    new_links (put s (Link root o.name) (Some (stored.Value (values.Link (boot_object n))))) (n + 1) os (new_place s (Link root o.name) (stored.Value (values.Link (boot_object n))) tt h)

new_processes : (s : State) (ps : List BootProcess) → All HasNumber ps → IsNew s → IsNew (with_processes s ps)
new_processes s [] all h = h
new_processes s (p ∷ ps) all h =
    let first = stored.Process (beginning p.number p.script p.terminal) in
    let queue = stored.Value (values.Signals []) in
    let a = put s (Proc p.number) (Some first) in
    let b = put a (Sig p.number) (Some queue) in
    new_processes (with_process s p) ps (All-tail HasNumber p ps all)
    (new_place b (Exit p.number) (stored.Value (values.Exit None)) tt (new_place a (Sig p.number) queue tt
    (new_process s p.number first (All-head HasNumber p ps all) h)))

new_copies : (s : State) (cs : List (List ℕ × ContentView)) → IsNew s → IsNew (with_copies s cs)
new_copies s [] h = h
new_copies s (c ∷ cs) h = new_copies (put s (Copy c.0) (Some (stored.Value (values.Copy c.1)))) cs (new_copy s c.0 c.1 h)

pub tidy_start : (boot : BootView) → IsNumbered boot → IsTidyState (start_of boot)
tidy_start boot numbered =
    let bare = stored.Value values.Dir in
    let new = new_copies (with_processes (with_root boot.objects) boot.processes) boot.copies
    (new_processes (with_root boot.objects) boot.processes numbered
    (new_links (put (with_objects empty 2 boot.objects) (Obj root) (Some bare)) 2 boot.objects
    (new_place (with_objects empty 2 boot.objects) (Obj root) bare tt (new_objects empty 2 boot.objects new_empty)))) in
    record {
      placed = λ c is. (let fits = new.numbers c is in let low = fits.0 in let high = fits.1 in record { some = low; counted = λ child. absurd (omega arith) });
      copies = new.copies;
    }
