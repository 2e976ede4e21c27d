-- Each move of the machine is an event of the step function's trace.
use Rattle.sk_deeds.proofs.Names.{◌≡◌, ℕ, ◌<◌, true, false, ltb, List, [], ◌∷◌, ◌++◌, map, Option, Some, None, Ok, Err}
use Rattle.sk_deeds.proofs.Names.{refl, sym, ◌∙◌, ap, subst, append_assoc, ◌==◌, Result, if◌then◌else◌, FinMap}
use Rattle.sk_deeds.proofs.Names.{IsAntisymmetric, IsTotalOrder, ltb-true, ltb-false, append-nil, Done, perform}
use Rattle.sk_deeds.proofs.Names.{with_read, System, marked_effect, said_by, Event, Taken, Commit, Fail, IsAllowed}
use Rattle.sk_deeds.proofs.Names.{step_tags, Undecided, Machine, machine_at_start, MergedTakes, MergedStands, Merges}
use Rattle.sk_deeds.proofs.Names.{one_status, Deed, asking, step_of, effect_of, again, IsNext, Steps, Moves, Goes}
use Rattle.sk_deeds.proofs.Names.{Starts, RunsAsPlain}
use Rattle.sk_record.proofs.Merged as merged
use Rattle.sk_record.proofs.MachineRuns as whole

module _ {K V O : Type 0} where
  -- what was taken does again what it did
  asks : (look : K → Option V) (ks : List K) (written : List (K × Option V)) (said : Option (ℕ × O)) → perform look (asking ks (Done written said)) ≡ Ok (record { read = map (λ k. (k, look k)) ks; written = written; said = said })
  asks look [] written said = refl
  asks look (k ∷ ks) written said = ap (with_read k (look k)) (asks look ks written said)

  pub performs : (look : K → Option V) (d : Deed K V O) → perform look (step_of d) ≡ Ok (effect_of look d)
  performs look d = asks look d.looked d.written d.said

abbrev ok_or : {A B : Type 0} → A → Result A B → A
ok_or d (Ok x) = x
ok_or d (Err y) = d

none_some : {A P : Type 0} (x : A) → None ≡ Some x → P
none_some x is = cc

module _ {K V O F N : Type 0} (own : System K V (ℕ × O) F N) where
  same_said : ((w : ℕ × O) → own.goes_to w ≡ w.0) → (t : ℕ) (said : Option (ℕ × O)) (tags : List ℕ) → said_by (again {V = V} own.order) t said tags ≡ said_by own t said tags
  same_said goes t None tags = refl
  same_said goes t (Some w) tags = ap (λ n. if n == t then (w, tags) ∷ [] else []) (sym (goes w))

  -- a step is taken as the step function's own
  pub takes_own : ((w : ℕ × O) → own.goes_to w ≡ w.0) → (a : Machine K V (ℕ × O)) (n : N) (b : Machine K V (ℕ × O)) → Steps own a n b → MergedTakes own a n b
  takes_own goes a n b s =
      let t = s.takes in
      let same : effect_of a.state.look s.deed ≡ t.effect = ap (ok_or t.effect) (sym (performs a.state.look s.deed) ∙ t.accepted) in
      record {
        effect = t.effect;
        accepted = s.honest ∙ ap Ok same;
        look = t.look;
        logs = t.logs;
        opens = t.opens;
        status = t.status;
        texts = λ x. t.texts x ∙ ap (λ ws. a.texts x ++ ws) (same_said goes x t.effect.said (step_tags a.state (marked_effect own (own.mark n) (Ok t.effect))));
      }

module _ {K V O F N : Type 0} (own : System K V (ℕ × O) F N) (total : IsTotalOrder own.order) (exact : IsAntisymmetric own.order) (start : FinMap own.order V) where
  -- a fresh number is above each that was drawn
  pub allowed : (es : List (Event N)) (a : Machine K V (ℕ × O)) (n : N) → MergedStands own start es a → IsNext a (own.mark n) → IsAllowed own start es (Taken n)
  allowed es a n stands fresh g h mark drawn =
      let was = (one_status own start es stands.stands.sound h).0.0 drawn in
      let status = ((merged.merged_run own total exact start es a stands).statuses h was.0).1 was.1 in
      elim (ltb h g) as (λ b. ltb h g ≡ b → h < g) [
        | true ↦ λ is. ltb-true h g is
        | false ↦ λ is. none_some was.0 (sym (fresh g h mark (ltb-false h g is)) ∙ status)
      ] refl

  pub one : ((w : ℕ × O) → own.goes_to w ≡ w.0) → (es : List (Event N)) (a : Machine K V (ℕ × O)) (e : Event N) (b : Machine K V (ℕ × O)) → MergedStands own start es a → Moves own a e b → MergedStands own start (es ++ e ∷ []) b
  one goes es a (Taken n) b stands s = merged.merged_taken own total exact start es a n b stands (allowed es a n stands s.fresh) (takes_own own goes a n b s)
  one goes es a (Commit g) b stands s = merged.merged_committed own total exact start es a g b stands (((merged.merged_run own total exact start es a stands).statuses g Undecided).0 s.0) s.1
  one goes es a (Fail g) b stands s = merged.merged_failed own total exact start es a g b stands (((merged.merged_run own total exact start es a stands).statuses g Undecided).0 s.0) s.1

  along : ((w : ℕ × O) → own.goes_to w ≡ w.0) → (before es : List (Event N)) (a b : Machine K V (ℕ × O)) → MergedStands own start before a → Goes own a es b → MergedStands own start (before ++ es) b
  along goes before [] a b stands same = subst (λ es. MergedStands own start es b) (sym (append-nil before)) (subst (MergedStands own start before) same stands)
  along goes before (e ∷ es) a b stands (m, move, rest) =
      subst (λ xs. MergedStands own start xs b) (append_assoc before (e ∷ []) es)
      (along goes (before ++ e ∷ []) es m b (one goes before a e m stands move) rest)

  pub first : (a : Machine K V (ℕ × O)) → Starts own start a → MergedStands own start [] a
  first a s = record {
    full = machine_at_start own start;
    stands = whole.stands_first own total exact start;
    merged = record {
      look = s.look;
      logs = λ k. subst (λ log. Merges [] [] log) (sym (s.logs k)) tt;
      opens = s.opens;
      status = s.status;
      texts = s.texts;
    };
  }

pub runs : {K V O F N : Type 0} (own : System K V (ℕ × O) F N) → RunsAsPlain own
runs own total exact goes start a b es s went =
    merged.merged_run own total exact start es b (along own total exact start goes [] es a b (first own total exact start a s) went)
