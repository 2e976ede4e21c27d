-- A run without the steps that change nothing.
use Rattle.sk_rests.proofs.Names.{◌≡◌, Bool, true, false, not, cond, List, [], ◌∷◌, map, Result, Ok, Err, refl, sym}
use Rattle.sk_rests.proofs.Names.{◌∙◌, ap, is_ok, filter, IsTotalOrder, FinMap, get, Effect, perform, keep}
use Rattle.sk_rests.proofs.Names.{written_value, System, outcome, after, marked_effect, run, IsLegal, effects}
use Rattle.sk_rests.proofs.Names.{get-put_all, is_struck, kept, OthersAreIdle, IdleMayGo, PartIsKept}

module _ {E V W F N : Type 0} (K : System E V W F N) (total : IsTotalOrder K.order) where
  -- a run from t that is one from s, but for the entries whose flags are true
  record IsSameRun (t : FinMap K.order V) (ms : List N) (out : List Bool) (s : FinMap K.order V) (ns : List N) : Type 0
    where
      legal : IsLegal K t ms
      steps : effects K t ms ≡ keep out (effects K s ns)
      values : (e : E) → get (run K t ms) e ≡ get (run K s ns) e

  same_outcome : (s t : FinMap K.order V) → ((e : E) → get s e ≡ get t e) → (n : N) → outcome K s n ≡ outcome K t n
  same_outcome s t same n = λ i. perform (λ e. same e i) (K.act n)

  same_after : (o : Result (Effect E V W) F) (s t : FinMap K.order V) → ((e : E) → get s e ≡ get t e)
      → (e : E) → get (after K o s) e ≡ get (after K o t) e
  same_after (Ok f) s t same e =
      get-put_all K.order total f.written s e ∙ ap (written_value K.order f.written e) (same e)
      ∙ sym (get-put_all K.order total f.written t e)
  same_after (Err why) s t same e = same e

  without : (these : N → Bool) (s t : FinMap K.order V) (ns : List N) → ((e : E) → get s e ≡ get t e) → IsLegal K s ns
      → OthersAreIdle K these s ns → IsSameRun t (filter these ns) (map (λ n. not (these n)) ns) s ns
  without these s t [] same legal idle = record { legal = tt; steps = refl; values = λ e. sym (same e) }
  without these s t (n ∷ ns) same legal idle =
      let now = after K (outcome K s n) s in
      let alike = same_outcome s t same n in
      elim (these n) as (λ b. these n ≡ b
      → IsSameRun t (cond b (n ∷ filter these ns) (filter these ns)) (not b ∷ map (λ n. not (these n)) ns) s (n ∷ ns)) [
        | true ↦ λ _.
            let rest = without these now (after K (outcome K t n) t) ns
            (λ e. same_after (outcome K s n) s t same e ∙ ap (λ o. get (after K o t) e) alike) legal.1 idle.1 in
            record {
              legal = (ap is_ok (sym alike) ∙ legal.0, rest.legal);
              steps = λ i. marked_effect K (K.mark n) (sym alike i) ∷ rest.steps i;
              values = rest.values;
            }
        | false ↦ λ is.
            let rest = without these now t ns (λ e. idle.0 is e ∙ same e) legal.1 idle.1 in
            record { legal = rest.legal; steps = rest.steps; values = rest.values }
      ] refl

pub idle_may_go : {E V W F N : Type 0} (K : System E V W F N) → IdleMayGo K
idle_may_go K total these s ns legal idle =
    let same = without K total these s s ns (λ e. refl) legal idle in
    record { legal = same.legal; steps = same.steps; values = same.values }

-- two filters in either order
filter_turned : {A : Type 0} (p q : A → Bool) (xs : List A) → filter p (filter q xs) ≡ filter q (filter p xs)
filter_turned p q [] = refl
filter_turned p q (x ∷ xs) =
    let rest = filter_turned p q xs in
    elim (p x) as
    (λ b. p x ≡ b
    → filter p (cond (q x) (x ∷ filter q xs) (filter q xs)) ≡ filter q (cond b (x ∷ filter p xs) (filter p xs))) [
      | true ↦ λ is.
          elim (q x) as
          (λ b. filter p (cond b (x ∷ filter q xs) (filter q xs))
          ≡ cond b (x ∷ filter q (filter p xs)) (filter q (filter p xs))) [
            | true ↦ ap (λ b. cond b (x ∷ filter p (filter q xs)) (filter p (filter q xs))) is ∙ ap (λ ys. x ∷ ys) rest
            | false ↦ rest
          ]
      | false ↦ λ is.
          elim (q x) as (λ b. filter p (cond b (x ∷ filter q xs) (filter q xs)) ≡ filter q (filter p xs)) [
            | true ↦ ap (λ b. cond b (x ∷ filter p (filter q xs)) (filter p (filter q xs))) is ∙ rest
            | false ↦ rest
          ]
    ] refl

filter_map_by : {A B : Type 0} (f : A → B) (p : B → Bool) (xs : List A)
    → map f (filter (λ x. p (f x)) xs) ≡ filter p (map f xs)
filter_map_by f p [] = refl
filter_map_by f p (x ∷ xs) =
    let rest = filter_map_by f p xs in
    elim (p (f x)) as
    (λ b. map f (cond b (x ∷ filter (λ x. p (f x)) xs) (filter (λ x. p (f x)) xs))
    ≡ cond b (f x ∷ filter p (map f xs)) (filter p (map f xs))) [
      | true ↦ ap (λ ys. f x ∷ ys) rest
      | false ↦ rest
    ]

pub part_is_kept : (N O : Type 0) → PartIsKept N O
part_is_kept N O these failed log =
    ap (map (λ r. r.entry)) (filter_turned (λ r. not (is_struck failed r)) (λ r. these r.entry) log)
    ∙ filter_map_by (λ r. r.entry) these (kept failed log)
