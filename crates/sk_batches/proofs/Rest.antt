-- What a cut leaves for the next frame.
use Rattle.sk_batches.proofs.Names.{◌≡◌, ℕ, true, false, not, cond, List, [], ◌∷◌, ◌++◌, map, refl, sym, ◌∙◌, ap, ◌==◌}
use Rattle.sk_batches.proofs.Names.{nat_lt, filter-append, Kept, Refused, Batch, Cut, RecordView, is_struck, kept}
use Rattle.sk_batches.proofs.Names.{cut_off, flat_map, kept_of, kept_records, behind_of, KeepsTheRest}

kept_append : (first last : ℕ) (rs qs : List RecordView) → kept first last (rs ++ qs) ≡ kept first last rs ++ kept first last qs
kept_append first last rs qs = filter-append (λ r. not (is_struck first last r)) rs qs

front_none : {X : Type 0} (xs ys : List X) → xs ++ ys ≡ [] → xs ≡ []
front_none [] ys none = refl
front_none (x ∷ xs) ys none = absurd cc

back_none : {X : Type 0} (xs ys : List X) → xs ++ ys ≡ [] → ys ≡ []
back_none [] ys none = none
back_none (x ∷ xs) ys none = absurd cc

one_left : (c : Cut) (b : Batch) → kept_of b ≡ [] → kept_of (cut_off c b) ≡ kept c.first c.last (behind_of c.frame b)
one_left c b none =
    elim (nat_lt b.frame c.frame) as (λ t. kept_of (cond t b (cond (b.frame == c.frame) (record b { stage = Refused }) (record b { stage = Kept; records = kept c.first c.last b.records })))
    ≡ kept c.first c.last (cond t [] (cond (b.frame == c.frame) [] b.records))) [
      | true ↦ none
      | false ↦ elim (b.frame == c.frame) as (λ t. kept_of (cond t (record b { stage = Refused }) (record b { stage = Kept; records = kept c.first c.last b.records }))
          ≡ kept c.first c.last (cond t [] b.records)) [ true ↦ refl | false ↦ refl ]
    ]

all_left : (c : Cut) (bs : List Batch) → kept_records bs ≡ [] → kept_records (map (cut_off c) bs) ≡ kept c.first c.last (flat_map (behind_of c.frame) bs)
all_left c [] none = refl
all_left c (b ∷ bs) none =
    (λ k. one_left c b (front_none (kept_of b) (kept_records bs) none) k ++ all_left c bs (back_none (kept_of b) (kept_records bs) none) k)
    ∙ sym (kept_append c.first c.last (behind_of c.frame b) (flat_map (behind_of c.frame) bs))

pub keeps_the_rest : KeepsTheRest
keeps_the_rest c q none =
    ap (λ rs. rs ++ kept c.first c.last q.records) (all_left c q.batches none)
    ∙ sym (kept_append c.first c.last (flat_map (behind_of c.frame) q.batches) q.records)
