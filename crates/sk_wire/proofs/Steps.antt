-- Each step of a pass keeps the rule of a wire.
use Rattle.sk_wire.proofs.Names.{◌≡◌, ◌≢◌, ℕ, zero, suc, ◌+◌, true, false, true≢false, List, [], ◌∷◌, ◌++◌, length, set}
use Rattle.sk_wire.proofs.Names.{sym, refl, ap, ◌∙◌, subst, ⊎_elim, append_assoc, arith, length-append, zero-le, ◌<◌}
use Rattle.sk_wire.proofs.Names.{some, some-ne-none, get_elem?, Pushes, Pops, Forks, Merges, Learns, at_set, at_snoc}
use Rattle.sk_wire.proofs.Names.{PassView, WIRE_ITEMS, known, sender, receiver, with_sent, with_received, joined}
use Rattle.sk_wire.proofs.Names.{IsLeft, IsNext, KnowsAll, AreNumbered, IsInTurn}

off : false ≡ true → ⊥
off e = true≢false (sym e)

module _ {T : Type 0} where
  abbrev All : (ℕ → PassView T → Type 0) → List (PassView T) → Type 0
  All F views = (port : ℕ) (v : PassView T) → get_elem? views port ≡ some v → F port v

  at_end : (l : List (PassView T)) (a b : PassView T) (j : ℕ) → get_elem? l j ≢ some b → get_elem? (l ++ a ∷ []) j ≡ some b → j ≡ length l
  at_end [] a b zero n e = refl
  at_end [] a b (suc j) n e = absurd (some-ne-none b (sym e))
  at_end (x ∷ xs) a b zero n e = absurd (n e)
  at_end (x ∷ xs) a b (suc j) n e = ap suc (at_end xs a b j n e)

  all_set : (F : ℕ → PassView T → Type 0) (views : List (PassView T)) (port : ℕ) (w : PassView T) → F port w → ((j : ℕ) (u : PassView T) → j ≢ port → get_elem? views j ≡ some u → F j u) → All F (set views port w)
  all_set F views port w mine others j u e =
      ⊎_elim (λ (x : (j ≡ port) × (w ≡ u)). subst (λ (y : ℕ × PassView T). F y.0 y.1) (λ i. (sym x.0 i, x.1 i)) mine)
      (λ (x : (j ≢ port) × (get_elem? views j ≡ some u)). others j u x.0 x.1) (at_set views port j w u e)

module _ {T : Type 0} (number_of : T → ℕ) where
  -- the next item behind numbered ones; and the number of one among them
  numbered_more : (n : ℕ) (xs : List T) (x : T) → AreNumbered number_of n xs → number_of x ≡ n + length xs → AreNumbered number_of n (xs ++ x ∷ [])
  numbered_more n [] x c e = (omega (arith, e), tt)
  numbered_more n (y ∷ ys) x c e = (c.0, numbered_more (n + 1) ys x c.1 (omega (arith, e)))

  numbered_at : (n : ℕ) (xs : List T) (x : T) (ys : List T) → AreNumbered number_of n (xs ++ x ∷ ys) → number_of x ≡ n + length xs
  numbered_at n [] x ys c = omega (arith, c.0)
  numbered_at n (y ∷ xs) x ys c = omega (arith, numbered_at (n + 1) xs x ys c.1)

  -- making the queue, with its first pass
  pub begins : IsInTurn number_of [] (known true true 0 [] [] ∷ [])
  begins = (0, 0, 0, [], [], refl, tt, zero-le, one)
    where
      one : (port : ℕ) (v : PassView T) → get_elem? (known true true 0 [] [] ∷ []) port ≡ some v → KnowsAll 0 0 0 [] [] port v
      one port v e =
          all_set (KnowsAll 0 0 0 [] []) (known true true 0 [] [] ∷ []) 0 (known true true 0 [] []) ((λ _. (refl, refl, refl)), λ _. (refl, refl, refl))
          (λ j u other at. absurd (other (at_end [] _ u j (λ x. some-ne-none u (sym x)) at))) port v e

  -- splitting a pass that has done nothing: the first number is set
  pub splits : (port f : ℕ) (v : PassView T) → v ≡ known true true 0 [] [] → Forks (IsInTurn number_of) port v (sender f) (receiver f)
  splits port f v is items views h at =
      let l : PassView T = sender f in let r : PassView T = receiver f in
      let mine = h.8 port v at in
      let w = mine.0 (ap (λ (y : PassView T). y.sends) is) in
      let q = mine.1 (ap (λ (y : PassView T). y.receives) is) in
      let none : [] ≡ [] ++ items = ap (λ (y : PassView T). y.sent) (sym is) ∙ w.2 ∙ h.5 ∙ ap (λ g. g ++ items) (sym q.2 ∙ ap (λ (y : PassView T). y.received) is) in
      let vs : List (PassView T) = set views port l in
      let Old : ℕ → PassView T → Type 0 = λ j u. (u.sends ≡ true → (j ≡ port) × (u.first ≡ f) × (u.sent ≡ [])) × (u.receives ≢ true) in
      let old : All Old vs =
      all_set Old views port l ((λ _. (refl, refl, refl)), off)
      (λ j u other e. ((λ p. absurd (other (((h.8 j u e).0 p).0 ∙ sym w.0))), λ p. other (((h.8 j u e).1 p).0 ∙ sym q.0))) in (
        port,
        length vs,
        f,
        [],
        [],
        none,
        tt,
        zero-le,
        λ j u e. ⊎_elim (λ x. ((old j u x).0, λ p. absurd ((old j u x).1 p)))
            (λ (same : r ≡ u). (
              (λ p. absurd (off (ap (λ (y : PassView T). y.sends) same ∙ p))),
              λ p. (at_end vs r u j (λ x. (old j u x).1 p) e, ap (λ (y : PassView T). y.first) (sym same), ap (λ (y : PassView T). y.received) (sym same)),
            )) (at_snoc vs r u j e),
      )

  pub pushes : (n port : ℕ) (v : PassView T) (x : T) → v.sends ≡ true → number_of x ≡ v.first + length v.sent → number_of x < v.first + WIRE_ITEMS → Pushes (IsInTurn number_of) n port v x (λ w. w ≡ with_sent v x)
  pushes n port v x may number limit items views _ h at =
      let mine = (h.8 port v at).0 may in
      let sent = h.3 ++ x ∷ [] in
      let next : number_of x ≡ h.2 + length h.3 = omega (arith, number, mine.1, ap length mine.2) in (
        with_sent v x,
        (
          h.0,
          h.1,
          h.2,
          sent,
          h.4,
          ap (λ l. l ++ x ∷ []) h.5 ∙ append_assoc h.4 items (x ∷ []),
          numbered_more h.2 h.3 x h.6 next,
          omega (arith, next, number, limit, length-append h.3 (x ∷ [])),
          all_set (KnowsAll h.0 h.1 h.2 sent h.4) views port (with_sent v x) ((λ _. (mine.0, mine.1, ap (λ l. l ++ x ∷ []) mine.2)), (h.8 port v at).1)
              (λ j u other e. ((λ p. absurd (other (((h.8 j u e).0 p).0 ∙ sym mine.0))), (h.8 j u e).1)),
        ),
        refl,
      )

  -- a push that finds the queue full: what it holds is the end of what was sent
  pub full : (port : ℕ) (v : PassView T) → v.sends ≡ true → Learns (IsInTurn number_of) port v (IsLeft v)
  full port v may items views h at = (h.4, ((h.8 port v at).0 may).2 ∙ h.5, λ too. sym ((h.8 port v at).1 too).2)

  pub pops : (port : ℕ) (v : PassView T) → v.receives ≡ true → Pops (IsInTurn number_of) port v (λ x w. (w ≡ with_received v x) × IsNext number_of v x)
  pops port v may x items views h at =
      let mine = (h.8 port v at).1 may in
      let received = h.4 ++ x ∷ [] in
      let number = numbered_at h.2 h.4 x items (subst (AreNumbered number_of h.2) h.5 h.6) in (
        with_received v x,
        (
          h.0,
          h.1,
          h.2,
          h.3,
          received,
          h.5 ∙ sym (append_assoc h.4 (x ∷ []) items),
          h.6,
          h.7,
          all_set (KnowsAll h.0 h.1 h.2 h.3 received) views port (with_received v x) ((h.8 port v at).0, λ _. (mine.0, mine.1, ap (λ l. l ++ x ∷ []) mine.2))
              (λ j u other e. ((h.8 j u e).0, λ p. absurd (other (((h.8 j u e).1 p).0 ∙ sym mine.0)))),
        ),
        (refl, (omega (arith, number, mine.1, ap length mine.2), omega (arith, number, mine.1, h.7, ap length h.5, length-append h.4 (x ∷ items)))),
      )

  -- a pop that finds the queue empty
  pub empty : (port : ℕ) (v : PassView T) → Learns (IsInTurn number_of) port v (λ items. v.sends ≡ true → IsLeft v items)
  empty port v items views h at may = full port v may items views h at

  -- joining the passes
  pub joins : (port : ℕ) (v : PassView T) (other : ℕ) (u : PassView T) → v.sends ≡ true → u.receives ≡ true
      → Merges (IsInTurn number_of) port v other u (joined v u) (known false false 0 [] [])
  joins port v other u a b items views h at two at' =
      let both : PassView T = joined v u in
      let mine = (h.8 port v at).0 a in
      let vs : List (PassView T) = set views port both in
      let was : get_elem? views other ≡ some u = ⊎_elim (λ (x : (other ≡ port) × (both ≡ u)). absurd (two x.0)) (λ (x : (other ≢ port) × (get_elem? views other ≡ some u)). x.1) (at_set views port other both u at') in
      let theirs = (h.8 other u was).1 b in
      let Now : ℕ → PassView T → Type 0 = λ j y. j ≢ other → KnowsAll h.0 port h.2 h.3 h.4 j y in
      let now : All Now vs =
      all_set Now views port both (λ _. ((λ _. mine), λ _. (refl, mine.1, theirs.2)))
      (λ j y _ e apart. ((h.8 j y e).0, λ p. absurd (apart (((h.8 j y e).1 p).0 ∙ sym theirs.0)))) in
      (h.0, port, h.2, h.3, h.4, h.5, h.6, h.7, all_set (KnowsAll h.0 port h.2 h.3 h.4) vs other (known false false 0 [] []) ((λ p. absurd (off p)), λ p. absurd (off p)) (λ j y apart e. now j y e apart))

  -- what a pass with both rights knows at the end
  pub ends : (port : ℕ) (v : PassView T) → v.sends ≡ true → v.receives ≡ true → Learns (IsInTurn number_of) port v (λ items. (v.sent ≡ v.received ++ items) × AreNumbered number_of v.first v.sent)
  ends port v a b items views h at =
      let mine = (h.8 port v at).0 a in
      let theirs = (h.8 port v at).1 b in (
        mine.2 ∙ h.5 ∙ ap (λ l. l ++ items) (sym theirs.2),
        subst (λ (y : ℕ × List T). AreNumbered number_of y.0 y.1) (λ i. (sym mine.1 i, sym mine.2 i)) h.6,
      )
