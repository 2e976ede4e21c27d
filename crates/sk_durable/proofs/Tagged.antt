-- What keys depend on once the guess of a batch is drawn.
use Rattle.sk_durable.proofs.Names.{arith, ◌≡◌, ℕ, false, ◌||◌, List, [], ◌∷◌, ◌++◌, map, Option, Some, None, Result}
use Rattle.sk_durable.proofs.Names.{Ok, Err, sym, ◌∙◌, ap, eq_by_cmp, append-nil, is_in, MergedTakes, last_tags}
use Rattle.sk_durable.proofs.Names.{noted, Note, marked_effect, Effect, step_tags, tags_at, with_drawn, Status}
use Rattle.sk_durable.proofs.Names.{same_last, AreStatuses, again, effect_of, look_at, log_at, bytes_cmp, Takes}
use Rattle.sk_durable.proofs.Names.{machine_of, undo_state_of, Parts, batch_key, opening, notes_by, IsRow}
use Rattle.std.proofs.lemmas.Bool.Decides.{nat_tests}

-- a note that depends on one guess
abbrev one_note : {V : Type 0} → ℕ → Note V
one_note g = record { tags = g ∷ []; before = None }

-- the last note of a batch's key is that of the last guess
last_noted : (V : Type 0) (t : List ℕ) (n : ℕ) (gs : List ℕ) → last_tags t (notes_by {V = V} n (gs ++ n ∷ [])) ≡ n ∷ []
last_noted V t n [] = grind (arith, nat_tests)
last_noted V t n (g ∷ gs) = grind (arith, nat_tests, last_noted V (g ∷ []) n gs, last_noted V t n gs)

-- it depends on that guess alone
pub tags_of_batch : {V O : Type 0} (m : Parts (List ℕ) V O) (gs : List ℕ) (n : ℕ) → IsRow m (gs ++ n ∷ [])
    → tags_at (undo_state_of bytes_cmp m) (batch_key n) ≡ n ∷ []
tags_of_batch {V} m gs n row = ap (last_tags []) (row.log n) ∙ last_noted V [] n gs

abbrev pub ok_or : {A B : Type 0} → A → Result A B → A
ok_or d (Ok x) = x
ok_or d (Err y) = d

-- all other keys depend on what they depended on
module _ {V O : Type 0} (a b : Parts (List ℕ) V O) (n : ℕ)
    (status : ℕ → Option Status) (are : AreStatuses a.guesses a.opens status)
    (takes : Takes bytes_cmp a (opening n) (Some n) b) where
  t : MergedTakes (again bytes_cmp) (machine_of bytes_cmp a status) (record { deed = opening n; guess = Some n })
      (machine_of bytes_cmp b (with_drawn (Some n) status))
  t = takes.takes status are

  did : effect_of (look_at bytes_cmp a.slots) (opening n) ≡ t.effect
  did = ap (ok_or t.effect) t.accepted

  pub tags_drawn : (k : List ℕ) → eq_by_cmp bytes_cmp k (batch_key n) ≡ false
      → tags_at (undo_state_of bytes_cmp b) k ≡ tags_at (undo_state_of bytes_cmp a) k
  tags_drawn k other =
      let old = log_at bytes_cmp a.slots k in
      let had = look_at bytes_cmp a.slots k in
      let rests = step_tags (undo_state_of bytes_cmp a)
      (marked_effect (again {V = V} {O = O} bytes_cmp) (Some n) (Ok t.effect)) in
      let none : noted (is_in bytes_cmp (map (λ w. w.0) t.effect.written) k) rests had [] ≡ [] =
      ap (λ (f : Effect (List ℕ) V (ℕ × O)). noted (is_in bytes_cmp (map (λ w. w.0) f.written) k) rests had []) (sym did)
      ∙ ap (λ c. noted (c || false) rests had []) other in
      sym (same_last [] _ _ (t.logs k)) ∙ ap (λ ns. last_tags [] (old ++ ns)) none ∙ ap (last_tags []) (append-nil old)
