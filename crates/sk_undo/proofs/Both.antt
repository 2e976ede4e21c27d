-- A process's slot, and an object's beside it, changed where they stand in the maps of their kinds.
use Rattle.sk_undo.proofs.Cites.{◌≡◌, ℕ, List, Option, Some, None, Result, Ok, Err, OnOk, OnErr, refl, sym, ap, subst, ◌∙◌, insert, get}
use Rattle.sk_undo.proofs.Cites.{Obj, Proc, ObjId, EntityState, Process, Change, FitsAt, CanBecome, nat_cmp, object_cmp}
use Rattle.sk_undo.proofs.Cites.{SlotView, SlotMap, slot_in, slot_wrote, slots_wrote, look_at}
use Rattle.std.specs.FinMap.{FinMap}
use Rattle.sk_map.specs.Seen.{seen}
use Rattle.sk_undo.specs.declared.entity_map.EntityMap.TheInside.{Inside}
use Rattle.sk_undo.proofs.ByKind.{kinds_of, together, with_at, together_at, after}
use Rattle.sk_undo.proofs.Maps.{given, insert_same}
use Rattle.sk_undo.proofs.Passes.{wrote_get}

pub on_oks : {A E P Q R : Type 0} (r : Result A E) → (P → Q → R) → OnOk r P → OnOk r Q → OnOk r R
on_oks (Ok x) f p q = f p q
on_oks (Err e) f p q = p

pub on_err : {A E P Q : Type 0} (r : Result A E) → (P → Q) → OnErr r P → OnErr r Q
on_err (Ok x) f p = p
on_err (Err e) f p = f p

pub on_errs : {A E P Q R : Type 0} (r : Result A E) → (P → Q → R) → OnErr r P → OnErr r Q → OnErr r R
on_errs (Ok x) f p q = p
on_errs (Err e) f p q = f p q

module _ (m : SlotMap) (o : ObjId) (pid : ℕ) (f p : SlotView) (file : Some f ≡ get m (Obj o)) (process : Some p ≡ get m (Proc pid)) where
  file_now : f.now ≡ look_at m (Obj o)
  file_now = ap (λ s. (slot_in s).now) file

  process_now : p.now ≡ look_at m (Proc pid)
  process_now = ap (λ s. (slot_in s).now) process

  -- what holds of what both have holds of the slots
  pub both_here : (T : Option EntityState → Option EntityState → Type 0) → T (look_at m (Obj o)) (look_at m (Proc pid)) → T f.now p.now
  both_here T h = subst (λ x. T x p.now) (sym file_now) (subst (λ y. T (look_at m (Obj o)) y) (sym process_now) h)

  pub both_wrote : (tags : List ℕ) (F P : SlotView) (write : Option EntityState → Option EntityState → EntityState) (become : Option EntityState → EntityState)
      → F ≡ slot_wrote tags f (Some (write f.now p.now)) → P ≡ slot_wrote tags p (Some (become p.now))
      → insert (insert m (Obj o) F) (Proc pid) P ≡ slots_wrote tags (slots_wrote tags m (Obj o) (Some (write (look_at m (Obj o)) (look_at m (Proc pid))))) (Proc pid) (Some (become (look_at m (Proc pid))))
  both_wrote tags F P write become is_file is_process =
      let v = Some (write f.now p.now) in
      let mid = slots_wrote tags m (Obj o) v in
      ap (λ x. insert x (Proc pid) P) (given m (Obj o) f F (λ (s : SlotView). slot_wrote tags s v) file is_file)
      ∙ given mid (Proc pid) p P (λ (s : SlotView). slot_wrote tags s (Some (become p.now))) (process ∙ sym (wrote_get tags m mid (Obj o) (Proc pid) v refl refl)) is_process
      ∙ ap (λ x. slots_wrote tags (slots_wrote tags m (Obj o) (Some (write x p.now))) (Proc pid) (Some (become p.now))) file_now
      ∙ ap (λ y. slots_wrote tags (slots_wrote tags m (Obj o) (Some (write (look_at m (Obj o)) y))) (Proc pid) (Some (become y))) process_now

  -- put again as they were
  pub both_same : (F P : SlotView) → F ≡ f → P ≡ p → insert (insert m (Obj o) F) (Proc pid) P ≡ m
  both_same F P is_file is_process =
      ap (λ x. insert x (Proc pid) P) (insert_same m (Obj o) F (sym file ∙ ap Some (sym is_file)))
      ∙ insert_same m (Proc pid) P (sym process ∙ ap Some (sym is_process))

module _ (m : SlotMap) (s : Option SlotView) (none : s ≡ None) where
  pub no_file : (o : ObjId) (change : Change) → s ≡ get m (Obj o) → FitsAt (look_at m (Obj o)) change → ⊥
  no_file o change is fits = subst (λ x. FitsAt (slot_in x).now change) (sym is ∙ none) fits

  pub no_process : (pid : ℕ) (can : Process → Type 0) → s ≡ get m (Proc pid) → CanBecome can (look_at m (Proc pid)) → ⊥
  no_process pid can is h = (subst (λ x. CanBecome can (slot_in x).now) (sym is ∙ none) h).0

module _ (a : Inside SlotView) {m : SlotMap} (whole : together (kinds_of a) ≡ m) where
  pub with_both : {j pid : ℕ} {h o : ObjId} {n : FinMap nat_cmp SlotView} {k : FinMap object_cmp SlotView} (w f : SlotView) → j ≡ pid → h ≡ o
      → n ≡ insert (seen nat_cmp a.processes) j w → k ≡ insert (seen object_cmp a.objects) h f
      → together (record (kinds_of a) { processes = n; objects = k }) ≡ insert (insert m (Obj o) f) (Proc pid) w
  with_both {j} {pid} {h} {o} w f process object is_process is_object =
      (λ i. together (record (kinds_of a) { processes = is_process i; objects = is_object i }))
      ∙ together_at (with_at (kinds_of a) (Obj h) (Some f)) (Proc j) (Some w)
      ∙ (λ i. insert (after a whole (Obj h) (Some f) (ap Obj object) i) (Proc (process i)) w)
