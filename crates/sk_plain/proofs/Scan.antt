-- One planned step of a record, read from left to right: whether it depends on the guess, and what is left after it. From the plan's reads and writes.
use Rattle.sk_plain.proofs.Cites.{arith, zero, suc, ◌<◌, get_or, length, ◌≡◌, ℕ, Bool, true, false, cond, ◌||◌, List}
use Rattle.sk_plain.proofs.Cites.{[], ◌∷◌, ◌++◌, map, Option, Some, None, Result, Ok, Err, IsOk, refl, sym, ◌∙◌, ap}
use Rattle.sk_plain.proofs.Cites.{subst, OnOk, list_any, get, append_assoc, list_any-append, Effect, is_in, is_marked}
use Rattle.sk_plain.proofs.Cites.{dirtied, hit, hits, keep, after, marked_effect, outcome, put_all, effects, Entity}
use Rattle.sk_plain.proofs.Cites.{Proc, entity_cmp, State, EntryView, Scripts, Saying, plain, depends, remaining}
use Rattle.sk_plain.proofs.Cites.{BeginsWell, written_beside, gone_in, writes_of, effect_of, read_by, written_by}
use Rattle.sk_plain.proofs.Cites.{EntityState, Plan, PlanView, BesideView, seen_with, looked, looks_of, written_in}
use Rattle.sk_plain.proofs.Cites.{Process}
use Rattle.sk_store.specs.declared.entity_state.EntityState.TheVariants as stored
use Rattle.sk_plain.specs.Plan.{Nothing}
use Rattle.sk_plain.proofs.Plans.{written_is}

pub asked : {A B : Type 0} (look : A → B) (es : List A) → map (λ (r : A × B). r.0) (map (λ e. (e, look e)) es) ≡ es
asked look [] = refl
asked look (e ∷ es) = ap (λ rest. e ∷ rest) (asked look es)

changed_by : (look : Entity → Option EntityState) (p : Process) (pid : ℕ) (v : Option EntityState) (b : BesideView) → map (λ (w : Entity × Option EntityState). w.0) (written_beside look p b ++ (Proc pid, v) ∷ map (λ e. (e, None)) (gone_in b)) ≡ written_by pid b
changed_by look p pid v Nothing = refl
changed_by look p pid v b = refl

pub changed_are : (look : Entity → Option EntityState) (pid : ℕ) (plan : PlanView) → map (λ (w : Entity × Option EntityState). w.0) (writes_of look pid plan) ≡ written_by pid plan.beside
changed_are look pid plan = changed_by look plan.process pid (Some (stored.Process plan.process)) plan.beside

-- what holds where three others do
pub on_all : {A F P Q R S : Type 0} (r : Result A F) → OnOk r P → OnOk r Q → OnOk r R → (P → Q → R → S) → OnOk r S
on_all (Ok x) p q r f = f p q r
on_all (Err why) p q r f = tt

module _ (scripts : Scripts) (g : ℕ) (n : EntryView) (plan : Plan) (look : Entity → Option EntityState) where
  -- what the step leaves behind
  abbrev pub planned_effect : Effect Entity EntityState Saying
  planned_effect = effect_of look n.pid n.input (seen_with look scripts n.pid n.input plan)

  -- the step depends on the guess where its plan does
  hit_is : (dirty : List Entity) → hit entity_cmp g dirty (marked_effect (plain scripts) n.guess (Ok planned_effect)) ≡ depends g dirty n plan
  hit_is dirty = ap (λ b. is_marked n.guess g || b)
      (list_any-append (is_in entity_cmp dirty) (map (λ (r : Entity × Option EntityState). r.0) planned_effect.read) (map (λ (w : Entity × Option EntityState). w.0) planned_effect.written)
      ∙ ap (λ es. list_any (is_in entity_cmp dirty) es || list_any (is_in entity_cmp dirty) (map (λ (w : Entity × Option EntityState). w.0) planned_effect.written)) (asked look (read_by n.pid n.input (looked (looks_of plan))))
      ∙ ap (λ es. list_any (is_in entity_cmp dirty) (read_by n.pid n.input (looked (looks_of plan))) || list_any (is_in entity_cmp dirty) es) (changed_are look n.pid (seen_with look scripts n.pid n.input plan) ∙ written_is look scripts n.pid n.input plan))

  -- what is left of the entry and the rest, by whether the step depends on the guess
  step_left : (t : State) (dirty more : List Entity) (kept before rest : List EntryView) (b : Bool)
      → more ≡ cond b (written_in n.pid plan ++ dirty) dirty → kept ≡ cond b before (before ++ n ∷ [])
      → kept ++ remaining scripts g more t rest ≡ before ++ keep (b ∷ hits entity_cmp g (dirtied b (marked_effect (plain scripts) n.guess (Ok planned_effect)) dirty) (effects (plain scripts) t rest)) (n ∷ rest)
  step_left t dirty more kept before rest true are is =
      ap (λ (k : List EntryView). k ++ remaining scripts g more t rest) is
      ∙ ap (λ (m : List Entity). before ++ remaining scripts g m t rest) (are ∙ ap (λ (ws : List Entity). ws ++ dirty) (sym (changed_are look n.pid (seen_with look scripts n.pid n.input plan) ∙ written_is look scripts n.pid n.input plan)))
  step_left t dirty more kept before rest false are is =
      ap (λ (k : List EntryView). k ++ remaining scripts g more t rest) is
      ∙ append_assoc before (n ∷ []) (remaining scripts g more t rest)
      ∙ ap (λ (m : List Entity). before ++ n ∷ remaining scripts g m t rest) are

module _ (scripts : Scripts) (n : EntryView) (plan : Plan) (s t : State) (accepted : outcome (plain scripts) s n ≡ Ok (effect_of (get s) n.pid n.input (seen_with (get s) scripts n.pid n.input plan))) (taken : t ≡ put_all (effect_of (get s) n.pid n.input (seen_with (get s) scripts n.pid n.input plan)).written s) (rest : List EntryView) where
  -- what is kept with what the rest will leave
  pub kept_on : (g : ℕ) (dirty more : List Entity) (kept before : List EntryView)
      → more ≡ cond (depends g dirty n plan) (written_in n.pid plan ++ dirty) dirty
      → kept ≡ cond (depends g dirty n plan) before (before ++ n ∷ [])
      → kept ++ remaining scripts g more t rest ≡ before ++ remaining scripts g dirty s (n ∷ rest)
  kept_on g dirty more kept before are is =
      let left_behind = marked_effect (plain scripts) n.guess (Ok (effect_of (get s) n.pid n.input (seen_with (get s) scripts n.pid n.input plan))) in
      step_left scripts g n plan (get s) t dirty more kept before rest (depends g dirty n plan) are is
      ∙ ap (λ b. before ++ keep (b ∷ hits entity_cmp g (dirtied b left_behind dirty) (effects (plain scripts) t rest)) (n ∷ rest)) (sym (hit_is scripts g n plan (get s) dirty))
      ∙ ap (λ (u : State). before ++ keep (hits entity_cmp g dirty (left_behind ∷ effects (plain scripts) u rest)) (n ∷ rest)) taken
      ∙ ap (λ o. before ++ keep (hits entity_cmp g dirty (marked_effect (plain scripts) n.guess o ∷ effects (plain scripts) (after (plain scripts) o s) rest)) (n ∷ rest)) (sym accepted)

-- a step that is not refused begins a record well, or one before it did
pub begins_here : (scripts : Scripts) (s start : State) (ns : List EntryView) (i : ℕ) (n : EntryView) → i < length ns → n ≡ get_or ns i n → (i ≡ 0 → s ≡ start) → (0 < i → BeginsWell scripts start ns)
    → IsOk (outcome (plain scripts) s n) → BeginsWell scripts start ns
begins_here scripts s start [] i n lt item same before ok = absurd (omega (arith, lt))
begins_here scripts s start (m ∷ ns) zero n lt item same before ok = subst (λ (x : EntryView). IsOk (outcome (plain scripts) start x)) item (subst (λ (t : State). IsOk (outcome (plain scripts) t n)) (same refl) ok)
begins_here scripts s start (m ∷ ns) (suc i) n lt item same before ok = before (omega arith)
