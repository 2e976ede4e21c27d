-- A process after a write of another entity, on whatever performs writes.
use Rattle.sk_plain.proofs.Cites.{◌≡◌, ◌<◌, ℕ, true, false, Option, Some, Result, Ok, Err, refl, sym, ap, subst, ◌∙◌}
use Rattle.sk_plain.proofs.Cites.{arith, OnOk, eq_by_cmp, Equal-is, is_err, true≢false, entity_exact, Entity, Proc}
use Rattle.sk_plain.proofs.Cites.{entity_cmp, Process, CanBecome, became, EntityState, IsNoProcess}

pub then_ok : {A E P Q : Type 0} (r : Result A E) → OnOk r P → (P → Q) → OnOk r Q
then_ok (Ok x) p f = f p
then_ok (Err e) p f = tt

-- what is no process is not this one
pub apart_from : (pid : ℕ) (e : Entity) → IsNoProcess e → eq_by_cmp entity_cmp (Proc pid) e ≡ false
apart_from pid (Proc p) h = absurd h
apart_from pid e h = refl

pub from_ok : {A E P : Type 0} (r : Result A E) → false ≡ is_err r → OnOk r P → P
from_ok (Ok x) is p = p
from_ok (Err e) is p = absurd (true≢false (sym is))

abbrev pid_of : Entity → ℕ
pid_of (Proc p) = p
pid_of e = 0

-- nor is a greater one
pub apart_from_child : (pid child : ℕ) → pid < child → eq_by_cmp entity_cmp (Proc pid) (Proc child) ≡ false
apart_from_child pid child less =
    elim (eq_by_cmp entity_cmp (Proc pid) (Proc child)) as (λ b. eq_by_cmp entity_cmp (Proc pid) (Proc child) ≡ b → b ≡ false) [
      | true ↦ λ same. let is : pid ≡ child = ap pid_of (entity_exact (Proc pid) (Proc child) ((Equal-is (entity_cmp (Proc pid) (Proc child))).0 same)) in absurd (omega arith)
      | false ↦ λ _. refl
    ] refl

module _ {S : Type 0} (look : S → Entity → Option EntityState) (wrote : S → Entity → Option EntityState → S)
    (others : (k : S) (e q : Entity) (v : Option EntityState) → eq_by_cmp entity_cmp q e ≡ false → look (wrote k e v) q ≡ look k q) where
  -- a process is as it was
  pub stays : (k m : S) (e : Entity) (v : Option EntityState) (pid : ℕ) → m ≡ wrote k e v → eq_by_cmp entity_cmp (Proc pid) e ≡ false → look m (Proc pid) ≡ look k (Proc pid)
  stays k m e v pid is apart = ap (λ n. look n (Proc pid)) is ∙ others k e (Proc pid) v apart

  -- what it can become it can become still
  pub can_still : (can : Process → Type 0) (k m : S) (e : Entity) (v : Option EntityState) (pid : ℕ) → m ≡ wrote k e v → eq_by_cmp entity_cmp (Proc pid) e ≡ false
      → CanBecome can (look k (Proc pid)) → CanBecome can (look m (Proc pid))
  can_still can k m e v pid is apart h = subst (CanBecome can) (sym (stays k m e v pid is apart)) h

  -- and becomes it
  pub then_becomes : (after : Process → Process) (k m n : S) (e : Entity) (v : Option EntityState) (pid : ℕ) → m ≡ wrote k e v → eq_by_cmp entity_cmp (Proc pid) e ≡ false
      → n ≡ wrote m (Proc pid) (Some (became after (look m (Proc pid)))) → n ≡ wrote (wrote k e v) (Proc pid) (Some (became after (look k (Proc pid))))
  then_becomes after k m n e v pid is apart last =
      last
      ∙ ap (λ o. wrote m (Proc pid) (Some (became after o))) (stays k m e v pid is apart)
      ∙ ap (λ x. wrote x (Proc pid) (Some (became after (look k (Proc pid))))) is

  -- after one write more
  pub then_more : (after : Process → Process) (k m n : S) (e : Entity) (v : Option EntityState) (pid : ℕ) (more : S → S) → m ≡ wrote k e v → eq_by_cmp entity_cmp (Proc pid) e ≡ false
      → n ≡ wrote (more m) (Proc pid) (Some (became after (look m (Proc pid)))) → n ≡ wrote (more (wrote k e v)) (Proc pid) (Some (became after (look k (Proc pid))))
  then_more after k m n e v pid more is apart last =
      last
      ∙ ap (λ o. wrote (more m) (Proc pid) (Some (became after o))) (stays k m e v pid is apart)
      ∙ ap (λ x. wrote (more x) (Proc pid) (Some (became after (look k (Proc pid))))) is
