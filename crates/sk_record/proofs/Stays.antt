-- What was released stays released. From what a step, a commit and a failure make of a machine's texts; and a record releases one list to each terminal.
use Rattle.sk_record.proofs.Names.{◌≡◌, ℕ, suc, List, [], ◌∷◌, ◌++◌, map, Ok, Err, refl, sym, ◌∙◌, ap, arith}
use Rattle.sk_record.proofs.Names.{append_assoc, fold, Contains, IsTotalOrder, FinMap, IsAntisymmetric, fold-append}
use Rattle.sk_record.proofs.Names.{perform, System, without, Event, Taken, Commit, Fail, IsSound, IsClear, IsReleased}
use Rattle.sk_record.proofs.Names.{IsFront, Machine, Tagged, released, released_if, lightened, not_dropped, moved}
use Rattle.sk_record.proofs.Names.{took_by, machine_after, machine_at_start}
use Rattle.sk_record.proofs.Machine.{nil_right}
use Rattle.sk_record.proofs.Sound.{sound_before, tail_of, first_or}
use Rattle.sk_record.proofs.MachineRuns.{machine_is_plain_run}

front_same : {A : Type 0} (xs : List A) → IsFront xs xs
front_same xs = ([], sym (nil_right xs))

front_all : {A : Type 0} (ys : List A) → IsFront [] ys
front_all ys = (ys, refl)

front_cons : {A : Type 0} (x : A) (xs ys : List A) → IsFront xs ys → IsFront (x ∷ xs) (x ∷ ys)
front_cons x xs ys f = (f.0, ap (λ zs. x ∷ zs) f.1)

front_on : {A : Type 0} (xs ys zs : List A) → IsFront xs ys → IsFront ys zs → IsFront xs zs
front_on xs ys zs f h = (f.0 ++ h.0, h.1 ∙ ap (λ ys. ys ++ h.0) f.1 ∙ append_assoc xs f.0 h.0)

module _ {W : Type 0} where
  pub said_more : (xs ys : List (Tagged W)) → IsFront (released xs) (released (xs ++ ys))
  said_more [] ys = front_all (released ys)
  said_more (x ∷ xs) ys =
      elim x.1 as (λ tags. IsFront (released_if tags x.0 (released xs)) (released_if tags x.0 (released (xs ++ ys)))) [
        | [] ↦ front_cons x.0 (released xs) (released (xs ++ ys)) (said_more xs ys)
        | t ∷ tags ↦ front_all []
      ]

  pub fewer_tags : (g : ℕ) (xs : List (Tagged W)) → IsFront (released xs) (released (lightened g xs))
  fewer_tags g [] = front_all []
  fewer_tags g (x ∷ xs) =
      elim x.1 as (λ tags. IsFront (released_if tags x.0 (released xs)) (released_if (without g tags) x.0 (released (lightened g xs)))) [
        | [] ↦ front_cons x.0 (released xs) (released (lightened g xs)) (fewer_tags g xs)
        | t ∷ tags ↦ front_all (released_if (without g (t ∷ tags)) x.0 (released (lightened g xs)))
      ]

  pub fewer_texts : (g : ℕ) (xs : List (Tagged W)) → IsFront (released xs) (released (not_dropped g xs))
  fewer_texts g [] = front_all []
  fewer_texts g ((w, []) ∷ xs) = front_cons w (released xs) (released (not_dropped g xs)) (fewer_texts g xs)
  fewer_texts g ((w, t ∷ tags) ∷ xs) = front_all (released (not_dropped g ((w, t ∷ tags) ∷ xs)))

-- ---- the machine's
module _ {E V W F N : Type 0} (K : System E V W F N) where
  one_event : (m : Machine E V W) (e : Event N) (t : ℕ) → IsFront (released (m.texts t)) (released ((moved K m e).texts t))
  one_event m (Taken n) t =
      elim (perform m.state.look (K.act n)) as (λ o. IsFront (released (m.texts t)) (released ((took_by K m n o).texts t))) [
        | Ok f ↦ said_more (m.texts t) _
        | Err why ↦ front_same (released (m.texts t))
      ]
  one_event m (Commit g) t = fewer_tags g (m.texts t)
  one_event m (Fail g) t = fewer_texts g (m.texts t)

  more_events : (m : Machine E V W) (es : List (Event N)) (t : ℕ) → IsFront (released (m.texts t)) (released ((fold (moved K) m es).texts t))
  more_events m [] t = front_same (released (m.texts t))
  more_events m (e ∷ es) t = front_on _ _ _ (one_event m e t) (more_events (moved K m e) es t)

-- ---- the record's
-- the longest front part whose parts are all clear is one
same_front : {A : Type 0} (P : A → Type 0) (all out held out2 held2 : List A) → all ≡ out ++ held → all ≡ out2 ++ held2
    → ((x : A) → Contains out x → P x) → ((x : A) → Contains out2 x → P x)
    → ((x : A) (more : List A) → held ≡ x ∷ more → ¬ (P x)) → ((x : A) (more : List A) → held2 ≡ x ∷ more → ¬ (P x)) → out ≡ out2
same_front P all [] held [] held2 is is2 clear clear2 longest longest2 = refl
same_front P all [] held (y ∷ out2) held2 is is2 clear clear2 longest longest2 =
    absurd (longest y (out2 ++ held2) (sym is ∙ is2) (clear2 y (0, omega arith, refl)))
same_front P all (x ∷ out) held [] held2 is is2 clear clear2 longest longest2 =
    absurd (longest2 x (out ++ held) (sym is2 ∙ is) (clear x (0, omega arith, refl)))
same_front P all (x ∷ out) held (y ∷ out2) held2 is is2 clear clear2 longest longest2 =
    let both : x ∷ (out ++ held) ≡ y ∷ (out2 ++ held2) = sym is ∙ is2 in
    let rest = same_front P (out ++ held) out held out2 held2 refl (ap tail_of both)
    (λ z there. clear z (suc there.0, omega arith, there.2)) (λ z there. clear2 z (suc there.0, omega arith, there.2)) longest longest2 in
    λ i. first_or x (both i) ∷ rest i

module _ {E V W F N : Type 0} (K : System E V W F N) (start : FinMap K.order V) where
  pub one_release : (es : List (Event N)) (t : ℕ) (ws vs : List W) → IsReleased K start es t ws → IsReleased K start es t vs → ws ≡ vs
  one_release es t ws vs a b =
      a.texts
      ∙ ap (map (λ x. x.0)) (same_front (λ (x : W × ℕ). IsClear K start es x.1) _ a.out a.held b.out b.held a.split b.split a.clear b.clear a.longest b.longest)
      ∙ sym b.texts

  pub stays_released : IsTotalOrder K.order → IsAntisymmetric K.order → (es more : List (Event N)) → IsSound K start (es ++ more) → (t : ℕ) (ws vs : List W)
      → IsReleased K start es t ws → IsReleased K start (es ++ more) t vs → IsFront ws vs
  stays_released total exact es more sound t ws vs a b =
      let m = machine_after K start es in
      let was : ws ≡ released (m.texts t) = one_release es t ws _ a ((machine_is_plain_run K total exact start es (sound_before K start es more sound)).releases t) in
      let is : vs ≡ released ((machine_after K start (es ++ more)).texts t) = one_release (es ++ more) t vs _ b ((machine_is_plain_run K total exact start (es ++ more) sound).releases t) in
      let grows = more_events K m more t in (
        grows.0,
        is
            ∙ ap (λ (m : Machine E V W). released (m.texts t)) (fold-append (moved K) (machine_at_start K start) es more)
            ∙ grows.1 ∙ ap (λ xs. xs ++ grows.0) (sym was),
      )
