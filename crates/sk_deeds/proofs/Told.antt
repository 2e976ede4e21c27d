-- What was taken out stands before what is there, whatever is done.
use Rattle.sk_deeds.proofs.Names.{◌≡◌, ℕ, true, false, List, [], ◌∷◌, ◌++◌, Ok, refl, sym, ◌∙◌, ap, subst, append_assoc}
use Rattle.sk_deeds.proofs.Names.{◌==◌, FinMap, IsAntisymmetric, IsTotalOrder, eqb-true, append-nil, System}
use Rattle.sk_deeds.proofs.Names.{marked_effect, said_by, Event, Taken, Commit, Fail, step_tags, Machine, Tagged, Fails}
use Rattle.sk_deeds.proofs.Names.{lightened, not_dropped, MergedTakes, MergedCommits, MergedStands, Merges, Moves, Call}
use Rattle.sk_deeds.proofs.Names.{Does, Tells, Told, told_more, untagged, with_told, TakenOut, moves_of, Calls}
use Rattle.sk_deeds.proofs.Names.{TellsAsPlain}
use Rattle.std.proofs.Common.{cond}
use Rattle.sk_record.proofs.Merged as merged
use Rattle.sk_deeds.proofs.Runs.{one, first}

lightened_past : {O : Type 0} (g : ℕ) (ws : List (ℕ × O)) (xs : List (Tagged (ℕ × O))) → untagged ws ++ lightened g xs ≡ lightened g (untagged ws ++ xs)
lightened_past g [] xs = refl
lightened_past g (w ∷ ws) xs = ap (λ ys. (w, []) ∷ ys) (lightened_past g ws xs)

dropped_past : {O : Type 0} (g : ℕ) (ws : List (ℕ × O)) (xs : List (Tagged (ℕ × O))) → untagged ws ++ not_dropped g xs ≡ not_dropped g (untagged ws ++ xs)
dropped_past g [] xs = refl
dropped_past g (w ∷ ws) xs = ap (λ ys. (w, []) ∷ ys) (dropped_past g ws xs)

module _ {K V O : Type 0} (told : Told O) where
  pub takes_told : {F N : Type 0} (own : System K V (ℕ × O) F N) (a : Machine K V (ℕ × O)) (n : N) (b : Machine K V (ℕ × O)) → MergedTakes own a n b → MergedTakes own (with_told told a) n (with_told told b)
  takes_told own a n b t = record {
    effect = t.effect;
    accepted = t.accepted;
    look = t.look;
    logs = t.logs;
    opens = t.opens;
    status = t.status;
    texts = λ u.
        ap (λ xs. untagged (told u) ++ xs) (t.texts u)
        ∙ sym (append_assoc (untagged (told u)) (a.texts u) (said_by own u t.effect.said (step_tags a.state (marked_effect own (own.mark n) (Ok t.effect)))));
  }

  pub commits_told : (a : Machine K V (ℕ × O)) (g : ℕ) (b : Machine K V (ℕ × O)) → MergedCommits a g b → MergedCommits (with_told told a) g (with_told told b)
  commits_told a g b c = record {
    look = c.look;
    logs = c.logs;
    opens = c.opens;
    status = c.status;
    texts = λ u. ap (λ xs. untagged (told u) ++ xs) (c.texts u) ∙ lightened_past g (told u) (a.texts u);
  }

  pub fails_told : (a : Machine K V (ℕ × O)) (g : ℕ) (b : Machine K V (ℕ × O)) → Fails a g b → Fails (with_told told a) g (with_told told b)
  fails_told a g b f = record {
    state = f.state;
    status = f.status;
    texts = λ u. ap (λ xs. untagged (told u) ++ xs) (f.texts u) ∙ dropped_past g (told u) (a.texts u);
  }

  moves_told : {F N : Type 0} (own : System K V (ℕ × O) F N) (a : Machine K V (ℕ × O)) (e : Event N) (b : Machine K V (ℕ × O)) → Moves own a e b → Moves own (with_told told a) e (with_told told b)
  moves_told own a (Taken n) b s = record { deed = s.deed; honest = s.honest; takes = takes_told _ a _ b s.takes; fresh = s.fresh }
  moves_told own a (Commit g) b s = (s.0, commits_told a g b s.1)
  moves_told own a (Fail g) b s = (s.0, fails_told a g b s.1)

one_more : {O : Type 0} (ws : List (ℕ × O)) (w : ℕ × O) (xs : List (Tagged (ℕ × O))) → untagged (ws ++ w ∷ []) ++ xs ≡ untagged ws ++ (w, []) ∷ xs
one_more [] w xs = refl
one_more (x ∷ ws) w xs = ap (λ ys. (x, []) ∷ ys) (one_more ws w xs)

module _ {K V O : Type 0} (told : Told O) (a : Machine K V (ℕ × O)) (t : ℕ) (output : O) (b : Machine K V (ℕ × O)) (out : TakenOut a t output b) where
  -- what is taken out is where it was
  same_texts : (u : ℕ) → (with_told (told_more t output told) b).texts u ≡ (with_told told a).texts u
  same_texts u =
      elim (t == u) as (λ c. (t == u) ≡ c → untagged (cond c (told u ++ (t, output) ∷ []) (told u)) ++ b.texts u ≡ untagged (told u) ++ a.texts u) [
        | true ↦ λ same.
            one_more (told u) (t, output) (b.texts u)
            ∙ ap (λ xs. untagged (told u) ++ xs) (ap (λ n. ((t, output), []) ∷ b.texts n) (sym (eqb-true t u same)) ∙ sym out.first ∙ ap a.texts (eqb-true t u same))
        | false ↦ λ other. ap (λ xs. untagged (told u) ++ xs) (out.others u other)
      ] refl

  pub stands_told : {F N : Type 0} (own : System K V (ℕ × O) F N) (start : FinMap own.order V) (es : List (Event N)) → MergedStands own start es (with_told told a) → MergedStands own start es (with_told (told_more t output told) b)
  stands_told own start es s = record {
    full = s.full;
    stands = s.stands;
    merged = record {
      look = λ k. out.look k ∙ s.merged.look k;
      logs = λ k. subst (λ ns. Merges [] (s.full.state.logs k) ns) (sym (out.logs k)) (s.merged.logs k);
      opens = out.opens ∙ s.merged.opens;
      status = λ g. out.status g ∙ s.merged.status g;
      texts = λ u. same_texts u ∙ s.merged.texts u;
    };
  }

module _ {K V O F N : Type 0} (own : System K V (ℕ × O) F N) (total : IsTotalOrder own.order) (exact : IsAntisymmetric own.order) (start : FinMap own.order V) where
  along : ((w : ℕ × O) → own.goes_to w ≡ w.0) → (before : List (Event N)) (cs : List (Call N O)) (told last : Told O) (a b : Machine K V (ℕ × O))
      → MergedStands own start before (with_told told a) → Calls own told a cs last b → MergedStands own start (before ++ moves_of cs) (with_told last b)
  along goes before [] told last a b stands (same, is) =
      subst (λ es. MergedStands own start es (with_told last b)) (sym (append-nil before))
      (subst (λ w. MergedStands own start before (with_told w b)) same (subst (λ m. MergedStands own start before (with_told told m)) is stands))
  along goes before (Does e ∷ cs) told last a b stands (m, move, rest) =
      subst (λ xs. MergedStands own start xs (with_told last b)) (append_assoc before (e ∷ []) (moves_of cs))
      (along goes (before ++ e ∷ []) cs told last m b (one own total exact start goes before (with_told told a) e (with_told told m) stands (moves_told told own a e m move)) rest)
  along goes before (Tells t output ∷ cs) told last a b stands (m, out, rest) =
      along goes before cs (told_more t output told) last m b (stands_told told a t output m out own start before stands) rest

pub tells : {K V O F N : Type 0} (own : System K V (ℕ × O) F N) → TellsAsPlain own
tells own total exact goes start a b cs told s went =
    merged.merged_run own total exact start (moves_of cs) (with_told told b) (along own total exact start goes [] cs (λ t. []) told a b (first own total exact start a s) went)
