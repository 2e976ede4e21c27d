-- What the checks of a close show.
use Rattle.sk_workers.proofs.Names.{same_Some, ap, length, ℕ, subst, ◌∷◌, sym, suc, zero, ◌≡◌, ◌<◌, refl, List, [], ◌∙◌}
use Rattle.sk_workers.proofs.Names.{slice_get_within, slice_get, Some, MatchOption, None, Option, DeskView, pending}
use Rattle.sk_workers.proofs.Names.{receipts_of, Stands, IsFirstBad, AreDistinct, AllStand, IsClosed, IsFrom, Agrees}
use Rattle.sk_workers.proofs.Names.{numbers, AreApart, IsLegal, AreFresh, AreOwn, SharedView, BookView, WorkerView}
use Rattle.sk_workers.proofs.Names.{HistoryEntry, Receipt}

-- what was found of a worker's receipts, or that all stand
pub found : (h : List HistoryEntry) (w : WorkerView) (rs : List Receipt) (o : Option ℕ) → rs ≡ w.receipts → AreOwn w.number w.receipts
    → MatchOption o ((k : ℕ) → k < length rs → Agrees h rs k) (IsFirstBad h rs)
    → MatchOption o (Stands h w) (IsFirstBad h w.receipts)
found h w rs None is own all = record { own = own; agree = subst (λ (l : List Receipt). (k : ℕ) → k < length l → Agrees h l k) is all }
found h w rs (Some k) is own bad = subst (λ (l : List Receipt). IsFirstBad h l k) is bad

-- receipts that stand, of workers with numbers of their own, are for different places
apart : (h : List HistoryEntry) (ws : List WorkerView) → AllStand h ws → AreDistinct ws → AreApart ws
apart h ws stand distinct i j k l v w r s atv atw other atr ats same =
    let sv = stand i v atv in
    let sw = stand j w atw in
    let one = (sv.agree k (slice_get_within v.receipts k r atr) r atr).0 in
    let two = (sw.agree l (slice_get_within w.receipts l s ats) s ats).0 in
    let is : r.entry ≡ s.entry = same_Some r.entry s.entry (sym one ∙ ap (slice_get h) same ∙ two) in
    distinct i j v w atv atw other (sym (sv.own k r atr) ∙ ap (λ (e : HistoryEntry). e.worker) is ∙ sw.own l s ats)

-- what was checked and counted is what a close promises
pub closed : (s : SharedView) (b : BookView) (ws : List WorkerView) (h : List HistoryEntry) (d : DeskView) → h ≡ b.history → d ≡ b.desk
    → IsLegal b.history b.desk → length b.history ≡ receipts_of ws → (pending b.desk ≡ []) × AllStand b.history ws × IsFrom s b.desk → AreDistinct ws
    → IsClosed s ws h d
closed s b ws h d is at legal count ok distinct =
    let done : IsClosed s ws b.history b.desk = record { legal = legal; from = ok.2; done = ok.0; stand = ok.1; apart = apart b.history ws ok.1 distinct; count = count } in
    subst (λ (x : List HistoryEntry × DeskView). IsClosed s ws x.0 x.1) (λ i. (sym is i, sym at i)) done

at_number : (ws us : List WorkerView) (i : ℕ) (v : WorkerView) → numbers ws ≡ numbers us → slice_get ws i ≡ Some v → (u : WorkerView) × (slice_get us i ≡ Some u) × (v.number ≡ u.number)
at_number [] us i v e at = absurd (cc)
at_number (w ∷ ws) [] i v e at = absurd (cc)
at_number (w ∷ ws) (u ∷ us) zero v e at = (u, refl, cc)
at_number (w ∷ ws) (u ∷ us) (suc i) v e at = at_number ws us i v (cc) at

-- workers numbered from 0 have numbers of their own, and so have those that come back for them
pub distinct : (n : ℕ) (ws us : List WorkerView) → AreFresh n us → numbers ws ≡ numbers us → AreDistinct ws
distinct n ws us fresh same i j v w atv atw other is =
    let a = at_number ws us i v same atv in
    let b = at_number ws us j w same atw in
    other (ap (λ (x : WorkerView). x.number) (sym (fresh.1 i a.0 a.1)) ∙ sym a.2 ∙ is ∙ b.2 ∙ ap (λ (x : WorkerView). x.number) (fresh.1 j b.0 b.1))
