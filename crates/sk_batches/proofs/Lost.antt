-- Each record that was appended is counted once.
use Rattle.std.proofs.lemmas.Bool.Decides.{nat_tests}
use Rattle.sk_batches.proofs.Names.{◌≡◌, ℕ, ◌+◌, ◌-◌, Bool, true, false, not, cond, List, [], ◌∷◌, ◌++◌, length, take}
use Rattle.sk_batches.proofs.Names.{drop, map, refl, sym, ◌∙◌, ap, subst, arith, count_by, filter, take-append-drop}
use Rattle.sk_batches.proofs.Names.{sum_by-append, sum_by-filter_both, Stage, Kept, Sent, Synced, Failed, Refused}
use Rattle.sk_batches.proofs.Names.{Batch, Cut, RecordView, is_struck, kept, but_last, QueueView, send, tell, awaits}
use Rattle.sk_batches.proofs.Names.{cut_off, is_kept, is_decided, left, Call, Appends, Withdraws, Takes, Syncs, Fails}
use Rattle.sk_batches.proofs.Names.{Decides, Cuts, Stops, Happens, Runs, Story, story_after, with_decided}
use Rattle.sk_batches.proofs.Names.{with_oldest, struck, struck_of, records_in, LosesNothing, flat_map}

module _ (p : RecordView → Bool) where
  count : List RecordView → ℕ
  count rs = count_by p rs

  count_append : (rs qs : List RecordView) → count_by p (rs ++ qs) ≡ count_by p rs + count_by p qs
  count_append rs qs = sum_by-append (λ r. cond (p r) 1 0) rs qs

  count_split : (first last : ℕ) (rs : List RecordView) → count_by p (filter (λ r. is_struck first last r) rs) + count_by p (kept first last rs) ≡ count_by p rs
  count_split first last rs = sum_by-filter_both (λ r. is_struck first last r) (λ r. not (is_struck first last r)) (λ _. refl) (λ r. cond (p r) 1 0) rs

  records_pushed : (bs : List Batch) (b : Batch) → count_by p (records_in (bs ++ b ∷ [])) ≡ count_by p (records_in bs) + count_by p b.records
  records_pushed [] b = let more = count_append b.records [] in omega (arith, more)
  records_pushed (x ∷ bs) b =
      let rest = records_pushed bs b in
      let one = count_append x.records (records_in (bs ++ b ∷ [])) in
      let two = count_append x.records (records_in bs) in omega (arith, rest, one, two)

  same_records : (f : Batch → Batch) → ((b : Batch) → (f b).records ≡ b.records) → (bs : List Batch) → records_in (map f bs) ≡ records_in bs
  same_records f same [] = refl
  same_records f same (b ∷ bs) = λ k. same b k ++ same_records f same bs k

  sent_records : (frame : ℕ) (b : Batch) → (send frame b).records ≡ b.records
  sent_records frame b = elim (is_kept b.stage) as (λ t. (cond t (record b { frame = frame; stage = Sent }) b).records ≡ b.records) [ true ↦ refl | false ↦ refl ]

  told_records : (frame : ℕ) (stage : Stage) (b : Batch) → (tell frame stage b).records ≡ b.records
  told_records frame stage b = elim (awaits frame b) as (λ t. (cond t (record b { stage = stage }) b).records ≡ b.records) [ true ↦ refl | false ↦ refl ]

  one_cut : (c : Cut) (b : Batch) → count_by p (struck_of c b) + count_by p (cut_off c b).records ≡ count_by p b.records
  one_cut c b = grind (arith, nat_tests, count_split c.first c.last b.records)

  all_cut : (c : Cut) (bs : List Batch) → count_by p (flat_map (struck_of c) bs) + count_by p (records_in (map (cut_off c) bs)) ≡ count_by p (records_in bs)
  all_cut c [] = omega arith
  all_cut c (b ∷ bs) =
      let one = count_append (struck_of c b) (flat_map (struck_of c) bs) in
      let two = count_append (cut_off c b).records (records_in (map (cut_off c) bs)) in
      grind (arith, nat_tests, one_cut c b, all_cut c bs, one, two, count_append b.records (records_in bs))

  abbrev sum : ℕ → ℕ → ℕ → ℕ → ℕ → ℕ
  sum logged refused withdrawn undecided newest = logged + (refused + (withdrawn + (undecided + newest)))

  abbrev AreCounted : QueueView → Story → Type 0
  AreCounted q s = count_by p s.appended ≡ sum (count_by p s.logged) (count_by p s.refused) (count_by p s.withdrawn) (count_by p (records_in q.batches)) (count_by p q.records)

  oldest_counted : (stage : Stage) (b : Batch) (bs : List Batch) (s : Story) (n : ℕ)
      → count_by p s.appended ≡ sum (count_by p s.logged) (count_by p s.refused) (count_by p s.withdrawn) (count_by p (b.records ++ records_in bs)) n
      → count_by p (with_oldest stage b s).appended ≡ sum (count_by p (with_oldest stage b s).logged) (count_by p (with_oldest stage b s).refused) (count_by p (with_oldest stage b s).withdrawn)
      (count_by p (records_in (cond (is_decided stage) bs (b ∷ bs)))) n
  oldest_counted Kept b bs s n so = so
  oldest_counted Sent b bs s n so = so
  oldest_counted Synced b bs s n so =
      grind (arith, nat_tests, count_append s.logged b.records, count_append b.records (records_in bs))
  oldest_counted Failed b bs s n so = so
  oldest_counted Refused b bs s n so =
      grind (arith, nat_tests, count_append s.refused b.records, count_append b.records (records_in bs))

  decided_counted : (bs : List Batch) (s : Story) (n : ℕ)
      → count_by p s.appended ≡ sum (count_by p s.logged) (count_by p s.refused) (count_by p s.withdrawn) (count_by p (records_in bs)) n
      → count_by p (with_decided bs s).appended ≡ sum (count_by p (with_decided bs s).logged) (count_by p (with_decided bs s).refused) (count_by p (with_decided bs s).withdrawn) (count_by p (records_in (left bs))) n
  decided_counted [] s n so = so
  decided_counted (b ∷ bs) s n so = oldest_counted b.stage b bs s n so

  last_counted : (rs : List RecordView) → count_by p rs ≡ count_by p (but_last rs) + count_by p (drop (length rs - 1) rs)
  last_counted rs = ap (count_by p) (sym (take-append-drop (length rs - 1) rs)) ∙ count_append (take (length rs - 1) rs) (drop (length rs - 1) rs)

  step : (q : QueueView) (s : Story) (c : Call) (m : QueueView) → Happens q c m → AreCounted q s → AreCounted m (story_after q c s)
  step q s (Appends added) m h so =
      grind (arith, nat_tests, count_append s.appended (added ∷ []), count_append q.records (added ∷ []))
  step q s Withdraws m h so =
      grind (arith, nat_tests, count_append s.withdrawn (drop (length q.records - 1) q.records), last_counted q.records)
  step q s Takes m h so =
      let one = same_records (send q.frame) (sent_records q.frame) q.batches in
      grind (arith, nat_tests, one, sent_records q.frame, records_pushed (map (send q.frame) q.batches))
  step q s (Syncs frame) m h so =
      let all = ap (count_by p) (same_records (tell frame Synced) (told_records frame Synced) q.batches) in
      subst (λ x. AreCounted x (story_after q (Syncs frame) s)) (sym h.1) (omega (arith, so, all))
  step q s (Fails frame) m h so =
      let all = ap (count_by p) (same_records (tell frame Failed) (told_records frame Failed) q.batches) in
      subst (λ x. AreCounted x s) (sym h.1) (omega (arith, so, all))
  step q s Decides m h so = grind (arith, nat_tests, decided_counted q.batches s (count_by p q.records) so)
  step q s (Cuts cut) m h so =
      let one = count_append s.refused (flat_map (struck_of cut) q.batches ++ struck cut q.records) in
      let two = count_append (flat_map (struck_of cut) q.batches) (struck cut q.records) in
      grind (arith, nat_tests, all_cut cut q.batches, count_split cut.first cut.last q.records, one, two)
  step q s Stops m h so = subst (λ x. AreCounted x s) (sym h) so

  pub run : (cs : List Call) (q : QueueView) (s : Story) (last : QueueView) (told : Story) → Runs q s cs last told → AreCounted q s → AreCounted last told
  run [] q s last told r so = subst (λ x. AreCounted x told) r.0 (subst (λ t. AreCounted q t) r.1 so)
  run (c ∷ cs) q s last told r so = run cs r.0 (story_after q c s) last told r.2 (step q s c r.0 r.1 so)

pub loses_nothing : LosesNothing
loses_nothing most most_bytes frame cs q s p runs = run p cs _ _ q s runs (omega arith)
