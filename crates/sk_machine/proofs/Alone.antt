-- Many private instructions of one process at once: the guesses that they depend on, and what the machine becomes.
use Rattle.sk_machine.proofs.Names.{◌≡◌, ℕ, Bool, true, false, ◌||◌, List, [], ◌∷◌, ◌++◌, Some, None, sym, ◌∙◌, ap}
use Rattle.sk_machine.proofs.Names.{subst, list_any, filter, IsStrictlySortedBy, nat_cmp, eq_by_cmp, append-nil}
use Rattle.sk_machine.proofs.Names.{MarkedEffect, has, noted, HandsIn, Merges, alone_tags, IsTidy, numbers, step_tags}
use Rattle.sk_machine.proofs.Names.{tags_at, union_is_tags, tidy_clean, entity_cmp, Entity, Proc, Sig, Process}
use Rattle.sk_machine.proofs.Names.{EntityState, look_at, log_at, Scripts, Saying, plain, alone_reads, Parts}
use Rattle.sk_machine.proofs.Names.{machine_of, undo_state_of, any_rests, Performed, IsClean}
use Rattle.sk_store.specs.declared.entity_state.EntityState.TheVariants as stored
use Rattle.sk_machine.proofs.Joins.{contained, contained_more}
use Rattle.std.proofs.Common.{arith}

-- what such a step touches; its values don't matter for its tags
abbrev touching : ℕ → MarkedEffect Entity EntityState Saying
touching pid = record { mark = None; read = (Proc pid, None) ∷ (Sig pid, None) ∷ []; written = (Proc pid, None) ∷ []; said = None }

twice : (a b : Bool) → (false || (a || (b || false))) ≡ (false || (a || (b || (a || false))))
twice a b = grind arith

-- one of one is one of two
pub first_among : (a b : Bool) → (a || false) ≡ true → (a || (b || false)) ≡ true
first_among a b is = grind arith

or_none : (b : Bool) → (b || false) ≡ b
or_none b = grind arith

module _ (m : Parts) (pid : ℕ) where
  -- its tags, as those of a step
  tags_same : (scripts : Scripts) → step_tags (undo_state_of m) (touching pid) ≡ alone_tags (plain scripts) (machine_of m) (Proc pid) (alone_reads pid)
  tags_same scripts = ap (filter (λ g. list_any (λ e. has g (tags_at (undo_state_of m) e)) (Proc pid ∷ Sig pid ∷ Proc pid ∷ []))) (append-nil (numbers m.opens))

  -- a rising list of the guesses that the process and its signals depend on
  pub tags_alone : (tags : List ℕ) → IsTidy (undo_state_of m) → IsStrictlySortedBy nat_cmp (numbers m.opens) → IsStrictlySortedBy nat_cmp tags
      → ((g : ℕ) → has g tags ≡ (has g [] || any_rests m g (alone_reads pid)))
      → (scripts : Scripts) → tags ≡ alone_tags (plain scripts) (machine_of m) (Proc pid) (alone_reads pid)
  tags_alone tags tidy opens_rise rises members scripts =
      union_is_tags (undo_state_of m) (touching pid) tidy tags (subst (IsStrictlySortedBy nat_cmp) (sym (append-nil (numbers m.opens))) opens_rise) rises
      (λ g. members g ∙ twice (has g (tags_at (undo_state_of m) (Proc pid))) (has g (tags_at (undo_state_of m) (Sig pid))))
      ∙ tags_same scripts

  -- where they depend on nothing, the process has no notes
  pub clean_alone : (scripts : Scripts) (tags : List ℕ) → IsTidy (undo_state_of m) → tags ≡ alone_tags (plain scripts) (machine_of m) (Proc pid) (alone_reads pid) → IsClean m.slots tags (Proc pid ∷ [])
  clean_alone scripts tags tidy is e there none =
      tidy_clean (undo_state_of m) (touching pid) tidy e (contained_more (Proc pid ∷ Sig pid ∷ []) (Proc pid ∷ []) e (contained (Proc pid ∷ []) e there)) (tags_same scripts ∙ sym is ∙ none)

-- what was written is what is handed in
pub hands_in : (scripts : Scripts) (a b : Parts) (pid : ℕ) (p : Process) (tags : List ℕ)
    → tags ≡ alone_tags (plain scripts) (machine_of a) (Proc pid) (alone_reads pid)
    → Performed a.slots tags ((Proc pid, Some (stored.Process p)) ∷ []) b.slots
    → b.opens ≡ a.opens → b.guesses ≡ a.guesses → b.texts ≡ a.texts
    → HandsIn (plain scripts) (machine_of a) (Proc pid) (alone_reads pid) (stored.Process p) (machine_of b)
hands_in scripts a b pid p tags is did opens guesses texts = record {
  look = did.look;
  logs = λ e. subst (λ (x : List ℕ × Bool). Merges [] (log_at a.slots e ++ noted x.1 x.0 (look_at a.slots e) []) (log_at b.slots e)) (λ i. (is i, or_none (eq_by_cmp entity_cmp e (Proc pid)) i)) (did.logs e);
  opens = opens;
  status = λ g. λ i. (machine_of (record a { guesses = guesses i })).status g;
  texts = λ t. λ i. (machine_of (record a { texts = texts i })).texts t;
}
