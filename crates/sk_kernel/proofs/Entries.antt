-- A hand-in is as many entries of the record, and leaves its process as its instructions do.
use Rattle.sk_kernel.proofs.Names.{◌≡◌, ℕ, zero, suc, ◌<◌, true, false, cond, List, [], ◌∷◌, ◌++◌, Some, refl, sym, ◌∙◌}
use Rattle.sk_kernel.proofs.Names.{ap, subst, arith, append_assoc, replicate, eq_by_cmp, Equal-is, eq_by_cmp_equiv}
use Rattle.sk_kernel.proofs.Names.{append-nil, fold-append, noted, Taken, record_after, record_of, Machine}
use Rattle.sk_kernel.proofs.Names.{machine_after, MergedStands, HandsIn, alone_tags, with_value, machine_stands}
use Rattle.sk_kernel.proofs.Names.{all_kept, merged_run, entity_cmp, Entity, Proc, entity_total, entity_exact, Process}
use Rattle.sk_kernel.proofs.Names.{LeaseView, after_private, EntityState, EntryView, plain, Saying, alone_reads}
use Rattle.sk_kernel.proofs.Names.{KernelView, events_of, record_at, state_at, IsAsLent, alone_step, entry}
use Rattle.sk_kernel.proofs.Names.{with_steps, HasSoundTrace, AreEntries, None}
use Rattle.std.specs.FinMap as map
use Rattle.sk_record.specs.Trace.{Event}
use Rattle.sk_script.specs.declared.instruction.Input.TheVariants as inputs
use Rattle.sk_store.specs.declared.entity_state.EntityState.TheVariants as stored
use Rattle.sk_kernel.proofs.HandedIn.{images_more, no_step, stands_handed}

-- ---- the record
module _ (k : KernelView) (n : EntryView) where
  one_more : (es : List (Event EntryView)) → record_of (plain k.scripts) k.start (es ++ Taken n ∷ []) ≡ record_of (plain k.scripts) k.start es ++ n ∷ []
  one_more es = fold-append (record_after (plain k.scripts) k.start) [] es (Taken n ∷ [])

  record_more : (count : ℕ) (es : List (Event EntryView)) → record_of (plain k.scripts) k.start (es ++ replicate count (Taken n)) ≡ record_of (plain k.scripts) k.start es ++ replicate count n
  record_more zero es = ap (record_of (plain k.scripts) k.start) (append-nil es) ∙ sym (append-nil (record_of (plain k.scripts) k.start es))
  record_more (suc count) es =
      ap (record_of (plain k.scripts) k.start) (sym (append_assoc es (Taken n ∷ []) (replicate count (Taken n))))
      ∙ record_more count (es ++ Taken n ∷ [])
      ∙ ap (λ ns. ns ++ replicate count n) (one_more es)
      ∙ append_assoc (record_of (plain k.scripts) k.start es) (n ∷ []) (replicate count n)

entries_are : (k : KernelView) (pid n : ℕ) → record_at (with_steps k pid n) ≡ record_at k ++ replicate n (entry pid inputs.None None)
entries_are k pid n = ap (record_of (plain k.scripts) k.start) (images_more k.trace n (alone_step pid)) ∙ record_more k (entry pid inputs.None None) n (events_of k)

-- ---- the state
module _ (k : KernelView) (sound : HasSoundTrace k) (pid : ℕ) (p : Process) where
  abbrev before : Machine Entity EntityState Saying
  before = machine_after (plain k.scripts) k.start (events_of k)

  before_stands : MergedStands (plain k.scripts) k.start (events_of k) before
  before_stands = record {
    full = before;
    stands = machine_stands (plain k.scripts) entity_total entity_exact k.start (events_of k) sound.sound;
    merged = record { look = λ e. refl; logs = λ e. all_kept [] (before.state.logs e); opens = refl; status = λ g. refl; texts = λ t. refl };
  }

  -- the machine with the process as it became
  abbrev after : Machine Entity EntityState Saying
  after = record {
    state = record {
      look = with_value (plain k.scripts) before.state.look (Proc pid) (stored.Process p);
      logs = λ e. before.state.logs e ++ noted (eq_by_cmp entity_cmp e (Proc pid)) (alone_tags (plain k.scripts) before (Proc pid) (alone_reads pid)) (before.state.look e) [];
      opens = before.state.opens;
    };
    status = before.status;
    texts = before.texts;
  }

  hands : HandsIn (plain k.scripts) before (Proc pid) (alone_reads pid) (stored.Process p) after
  hands = record { look = λ e. refl; logs = λ e. all_kept [] (after.state.logs e); opens = refl; status = λ g. refl; texts = λ t. refl }

  before_is : (e : Entity) → before.state.look e ≡ map.get (state_at k) e
  before_is e = (merged_run (plain k.scripts) entity_total entity_exact k.start (events_of k) before before_stands).values e

some_same : (p q : Process) → Some p ≡ Some q → p ≡ q
some_same p q is = cc

module _ (k : KernelView) (sound : HasSoundTrace k) (l : LeaseView) (as_lent : IsAsLent k l) where
  abbrev new : ℕ → KernelView
  new n = with_steps k l.lent.pid n

  state_is : (n : ℕ) → l.count ≡ n → after_private l.script n l.lent ≡ Some l.now → (e : Entity)
      → map.get (state_at (new n)) e ≡ cond (eq_by_cmp entity_cmp e (Proc l.lent.pid)) (Some (stored.Process l.now)) (map.get (state_at k) e)
  state_is zero is done e =
      ap (λ (x : KernelView). map.get (state_at x) e) (no_step k l.lent.pid)
      ∙ elim (eq_by_cmp entity_cmp e (Proc l.lent.pid)) as (λ b. eq_by_cmp entity_cmp e (Proc l.lent.pid) ≡ b → map.get (state_at k) e ≡ cond b (Some (stored.Process l.now)) (map.get (state_at k) e)) [
        | true ↦ λ same. ap (map.get (state_at k)) (entity_exact e (Proc l.lent.pid) ((Equal-is (entity_cmp e (Proc l.lent.pid))).0 same)) ∙ as_lent.process ∙ ap (λ p. Some (stored.Process p)) (some_same l.lent l.now done)
        | false ↦ λ _. refl
      ] refl
  state_is (suc n) is done e =
      let some : 0 < l.count = omega (arith, is) in
      let b = after k sound l.lent.pid l.now in
      let stands : MergedStands (plain k.scripts) k.start (events_of (new (suc n))) b =
      subst (λ m. MergedStands (plain k.scripts) k.start (events_of (new m)) b) is
      (stands_handed k (before k sound l.lent.pid l.now) (before_stands k sound l.lent.pid l.now) l l.now b as_lent (ap (λ m. after_private l.script m l.lent) is ∙ done) some (hands k sound l.lent.pid l.now)) in
      sym ((merged_run (plain k.scripts) entity_total entity_exact k.start (events_of (new (suc n))) b stands).values e)
      ∙ ap (cond (eq_by_cmp entity_cmp e (Proc l.lent.pid)) (Some (stored.Process l.now))) (before_is k sound l.lent.pid l.now e)

  pub are_entries : after_private l.script l.count l.lent ≡ Some l.now → AreEntries k (with_steps k l.lent.pid l.count) l.lent.pid l.count l.now
  are_entries done = record {
    entries = entries_are k l.lent.pid l.count;
    process =
        state_is l.count refl done (Proc l.lent.pid)
        ∙ ap (λ b. cond b (Some (stored.Process l.now)) (map.get (state_at k) (Proc l.lent.pid))) ((eq_by_cmp_equiv entity_total).refl (Proc l.lent.pid));
    others = λ e apart. state_is l.count refl done e ∙ ap (λ b. cond b (Some (stored.Process l.now)) (map.get (state_at k) e)) apart;
  }
