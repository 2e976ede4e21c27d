-- The first output of a channel, taken out.
use Rattle.sk_outputs.proofs.Names.{◌≡◌, ℕ, ◌<◌, false, true, [], ◌∷◌, length, drop, get_or, sym, ◌∙◌, ap, List, ◌+◌}
use Rattle.sk_outputs.proofs.Names.{cond, ◌==◌, slice_index_or, prefix_len, remove, Tagged, has, Said, said_at}
use Rattle.sk_outputs.proofs.Names.{is_ready, AreCounted, AreReady}
use Rattle.sk_outputs.proofs.Firsts.{other, first_said, others_kept}
use Rattle.sk_outputs.proofs.Ready.{first_bare, first_near, same_ready}
use Rattle.sk_outputs.proofs.Counted.{counted_less, ready_later, some_counted}

module _ {O : Type 0} (xs ys : Said O) (to i : ℕ) (x : Tagged (ℕ × O)) (ready : is_ready xs to ≡ true) (at : i ≡ prefix_len (other to) xs) (is : x ≡ slice_index_or xs i x) (left : ys ≡ remove xs i) where
  near : i < length xs
  near = first_near to i xs at ready

  first : (said_at xs to ≡ x ∷ said_at ys to) × (x.0.0 ≡ to)
  first = let known = first_said to i xs x at near is in (known.0 ∙ ap (λ zs. x ∷ said_at zs to) (sym left), known.1)

  pub taken_first : said_at xs to ≡ ((to, x.0.1), []) ∷ said_at ys to
  taken_first = first.0 ∙ (λ j. ((first.1 j, x.0.1), first_bare to xs (said_at ys to) x ready first.0 j) ∷ said_at ys to)

  pub taken_others : (t : ℕ) → (to == t) ≡ false → said_at ys t ≡ said_at xs t
  taken_others t apart = ap (λ zs. said_at zs t) left ∙ others_kept t i xs x near is (ap (λ n. n == t) first.1 ∙ apart)

  pub taken_ready : (channels : List ℕ) → AreReady xs channels → (t : ℕ) → (to == t) ≡ false → has t channels ≡ is_ready ys t
  taken_ready channels are t apart = are t ∙ same_ready xs ys t (taken_others t apart)

  pub taken_later : is_ready (drop i ys) to ≡ is_ready ys to
  taken_later = ap (λ zs. is_ready (drop i zs) to) left ∙ ready_later to i xs at ∙ ap (λ zs. is_ready zs to) (sym left)

  pub taken_counted : (old new : List ℕ) → AreCounted xs old → ((t : ℕ) → get_or old t 0 ≡ cond (to == t) (get_or new t 0 + 1) (get_or new t 0)) → AreCounted ys new
  taken_counted old new counted down = counted_less xs ys x to old new counted down first.0 taken_others

  pub taken_some : (old : List ℕ) → AreCounted xs old → 0 < get_or old to 0
  taken_some old counted = some_counted xs (said_at ys to) x to old counted first.0
