-- Numbers rise from batch to batch, those that were decided before those that are left.
use Rattle.sk_batches.proofs.Names.{◌≡◌, ℕ, ◌+◌, ◌<◌, true, false, cond, List, [], ◌∷◌, ◌++◌, map, refl, sym, ◌∙◌, ap}
use Rattle.sk_batches.proofs.Names.{subst, append_assoc, arith, ◌==◌, nat_lt, Stage, Kept, Sent, Synced, Failed}
use Rattle.sk_batches.proofs.Names.{Refused, Batch, Cut, kept, QueueView, send, tell, awaits, cut_off, is_kept}
use Rattle.sk_batches.proofs.Names.{is_decided, left, Call, Appends, Withdraws, Takes, Syncs, Fails, Decides, Cuts}
use Rattle.sk_batches.proofs.Names.{Stops, Happens, Runs, Story, story_after, with_decided, with_oldest, Rise}
use Rattle.sk_batches.proofs.Names.{DecidesInOrder}

abbrev pub numbers : List Batch → List ℕ
numbers bs = map (λ b. b.number) bs

rise_more : (low : ℕ) (ns : List ℕ) (n : ℕ) → Rise low ns n → Rise low (ns ++ n ∷ []) (n + 1)
rise_more low [] n r = (r, omega arith)
rise_more low (m ∷ ns) n r = (r.0, rise_more m ns n r.1)

between : (low : ℕ) (ns : List ℕ) (high : ℕ) → Rise low ns high → low < high
between low [] high r = r
between low (n ∷ ns) high r = let above = between n ns high r.1 in let here = r.0 in omega arith

rise_front : (low : ℕ) (ns ms : List ℕ) (high : ℕ) → Rise low (ns ++ ms) high → Rise low ns high
rise_front low [] ms high r = between low ms high r
rise_front low (n ∷ ns) ms high r = (r.0, rise_front n ns ms high r.1)

same_numbers : (f : Batch → Batch) → ((b : Batch) → (f b).number ≡ b.number) → (bs : List Batch) → numbers (map f bs) ≡ numbers bs
same_numbers f same [] = refl
same_numbers f same (b ∷ bs) = λ k. same b k ∷ same_numbers f same bs k

pub sent_number : (frame : ℕ) (b : Batch) → (send frame b).number ≡ b.number
sent_number frame b = elim (is_kept b.stage) as (λ t. (cond t (record b { frame = frame; stage = Sent }) b).number ≡ b.number) [ true ↦ refl | false ↦ refl ]

pub told_number : (frame : ℕ) (stage : Stage) (b : Batch) → (tell frame stage b).number ≡ b.number
told_number frame stage b = elim (awaits frame b) as (λ t. (cond t (record b { stage = stage }) b).number ≡ b.number) [ true ↦ refl | false ↦ refl ]

pub cut_number : (c : Cut) (b : Batch) → (cut_off c b).number ≡ b.number
cut_number c b =
    elim (nat_lt b.frame c.frame) as (λ t. (cond t b (cond (b.frame == c.frame) (record b { stage = Refused }) (record b { stage = Kept; records = kept c.first c.last b.records }))).number ≡ b.number) [
      | true ↦ refl
      | false ↦ elim (b.frame == c.frame) as (λ t. (cond t (record b { stage = Refused }) (record b { stage = Kept; records = kept c.first c.last b.records })).number ≡ b.number) [ true ↦ refl | false ↦ refl ]
    ]

numbers_pushed : (bs : List Batch) (b : Batch) → numbers (bs ++ b ∷ []) ≡ numbers bs ++ b.number ∷ []
numbers_pushed [] b = refl
numbers_pushed (x ∷ bs) b = ap (λ ns. x.number ∷ ns) (numbers_pushed bs b)

oldest_numbers : (stage : Stage) (b : Batch) (bs : List Batch) (s : Story)
    → (with_oldest stage b s).decided ++ numbers (cond (is_decided stage) bs (b ∷ bs)) ≡ s.decided ++ b.number ∷ numbers bs
oldest_numbers Synced b bs s = append_assoc s.decided (b.number ∷ []) (numbers bs)
oldest_numbers Refused b bs s = append_assoc s.decided (b.number ∷ []) (numbers bs)
oldest_numbers other b bs s = refl

decided_numbers : (bs : List Batch) (s : Story) → (with_decided bs s).decided ++ numbers (left bs) ≡ s.decided ++ numbers bs
decided_numbers [] s = refl
decided_numbers (b ∷ bs) s = oldest_numbers b.stage b bs s

-- those that were decided, those that are left, and the open one rise
abbrev AreInOrder : QueueView → Story → Type 0
AreInOrder q s = Rise 0 (s.decided ++ numbers q.batches) q.number

step : (q : QueueView) (s : Story) (c : Call) (m : QueueView) → Happens q c m → AreInOrder q s → AreInOrder m (story_after q c s)
step q s (Appends added) m h so = subst (λ x. AreInOrder x (story_after q (Appends added) s)) (sym h) so
step q s Withdraws m h so = subst (λ x. AreInOrder x (story_after q Withdraws s)) (sym h) so
step q s Takes m h so =
    subst (λ x. AreInOrder x s) (sym h.1)
    (subst (λ ns. Rise 0 ns (q.number + 1))
    (append_assoc s.decided (numbers q.batches) (q.number ∷ [])
    ∙ ap (λ ns. s.decided ++ (ns ++ q.number ∷ [])) (sym (same_numbers (send q.frame) (sent_number q.frame) q.batches))
    ∙ ap (λ ns. s.decided ++ ns) (sym (numbers_pushed (map (send q.frame) q.batches) (record { number = q.number; frame = q.frame; stage = Sent; records = q.records }))))
    (rise_more 0 (s.decided ++ numbers q.batches) q.number so))
step q s (Syncs frame) m h so =
    subst (λ x. AreInOrder x (story_after q (Syncs frame) s)) (sym h.1)
    (subst (λ ns. Rise 0 (s.decided ++ ns) q.number) (sym (same_numbers (tell frame Synced) (told_number frame Synced) q.batches)) so)
step q s (Fails frame) m h so =
    subst (λ x. AreInOrder x s) (sym h.1)
    (subst (λ ns. Rise 0 (s.decided ++ ns) q.number) (sym (same_numbers (tell frame Failed) (told_number frame Failed) q.batches)) so)
step q s Decides m h so =
    subst (λ x. AreInOrder x (with_decided q.batches s)) (sym h)
    (subst (λ ns. Rise 0 ns q.number) (sym (decided_numbers q.batches s)) so)
step q s (Cuts cut) m h so =
    subst (λ x. AreInOrder x (story_after q (Cuts cut) s)) (sym h.1)
    (subst (λ ns. Rise 0 (s.decided ++ ns) q.number) (sym (same_numbers (cut_off cut) (cut_number cut) q.batches)) so)
step q s Stops m h so = subst (λ x. AreInOrder x s) (sym h) so

run : (cs : List Call) (q : QueueView) (s : Story) (last : QueueView) (told : Story) → Runs q s cs last told → AreInOrder q s → AreInOrder last told
run [] q s last told r so = subst (λ x. AreInOrder x told) r.0 (subst (λ t. AreInOrder q t) r.1 so)
run (c ∷ cs) q s last told r so = run cs r.0 (story_after q c s) last told r.2 (step q s c r.0 r.1 so)

pub decides_in_order : DecidesInOrder
decides_in_order most most_bytes frame cs q s runs =
    rise_front 0 s.decided (numbers q.batches) q.number (run cs _ _ q s runs (omega arith))
