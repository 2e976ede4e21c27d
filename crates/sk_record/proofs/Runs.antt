-- A step does the same where what it asks is the same, and so a run without the struck entries goes as before.
use Rattle.sk_record.proofs.Names.{◌≡◌, ℕ, Bool, true, false, List, ◌∷◌, ◌++◌, map, Option, Result, Ok, Err, IsOk, refl}
use Rattle.sk_record.proofs.Names.{sym, ◌∙◌, ap, subst, list_any, Ordering, eq_by_cmp, IsTotalOrder, FinMap, get}
use Rattle.sk_record.proofs.Names.{or_parts, false≢true, Step, Effect, Ask, Refuse, Done, perform, with_read, is_in}
use Rattle.sk_record.proofs.Names.{hit, hits, dirtied, keep, System, put_all, outcome, after, IsLegal, marked_effect}
use Rattle.sk_record.proofs.Names.{effects}
use Rattle.std.proofs.Common.{[]}
use Rattle.sk_record.proofs.Sets.{none_of_both, get-put_all_other, get-put_all_same}

abbrev pub AgreeOn : {E V : Type 0} → (E → Option V) → (E → Option V) → List E → Type 0
AgreeOn look look2 [] = Unit {0}
AgreeOn look look2 (e ∷ es) = (look e ≡ look2 e) × AgreeOn look look2 es

module _ {E V W F : Type 0} where
  -- what a step asks, refused or not
  abbrev pub asked : (E → Option V) → Step E V W F → List E
  asked look (Ask e next) = e ∷ asked look (next (look e))
  asked look (Refuse why) = []
  asked look (Done written said) = []

  -- the footprint law: by what it asks alone
  pub same_step : (look look2 : E → Option V) (step : Step E V W F) → AgreeOn look look2 (asked look step) → perform look2 step ≡ perform look step
  same_step look look2 (Ask e next) h =
      ap (λ v. with_read e v (perform look2 (next v))) (sym h.0) ∙ ap (with_read e (look e)) (same_step look look2 (next (look e)) h.1)
  same_step look look2 (Refuse why) h = refl
  same_step look look2 (Done written said) h = refl

  abbrev pub AskedIs : List E → Result (Effect E V W) F → Type 0
  AskedIs es (Ok f) = es ≡ map (λ r. r.0) f.read
  AskedIs es (Err why) = Unit {0}

  asked_more : (e : E) (v : Option V) (es : List E) (o : Result (Effect E V W) F) → AskedIs es o → AskedIs (e ∷ es) (with_read e v o)
  asked_more e v es (Ok f) h = ap (λ xs. e ∷ xs) h
  asked_more e v es (Err why) h = tt

  -- what an accepted step asks is what it reads
  pub asked_is_read : (look : E → Option V) (step : Step E V W F) → AskedIs (asked look step) (perform look step)
  asked_is_read look (Ask e next) = asked_more e (look e) _ _ (asked_is_read look (next (look e)))
  asked_is_read look (Refuse why) = tt
  asked_is_read look (Done written said) = refl

  pub same_accepted : (look look2 : E → Option V) (step : Step E V W F) (f : Effect E V W) → perform look step ≡ Ok f → AgreeOn look look2 (map (λ r. r.0) f.read) → perform look2 step ≡ Ok f
  same_accepted look look2 step f e h =
      let is : asked look step ≡ map (λ r. r.0) f.read = subst (AskedIs (asked look step)) e (asked_is_read look step) in
      same_step look look2 step (subst (AgreeOn look look2) (sym is) h) ∙ e

-- two maps have the same at every entity outside the dirty ones
abbrev pub Alike : {E V : Type 0} {R : E → E → Ordering} → List E → FinMap R V → FinMap R V → Type 0
Alike {E} {R = R} dirty s t = (e : E) → is_in R dirty e ≡ false → get s e ≡ get t e

alike_on : {E V : Type 0} {R : E → E → Ordering} (dirty : List E) (s t : FinMap R V) → Alike dirty s t → (es : List E) → list_any (is_in R dirty) es ≡ false → AgreeOn (get s) (get t) es
alike_on dirty s t h [] none = tt
alike_on dirty s t h (e ∷ es) none = let parts = or_parts _ _ none in (h e parts.0, alike_on dirty s t h es parts.1)

module _ {E V W F N : Type 0} (K : System E V W F N) (total : IsTotalOrder K.order) (g : ℕ) where
  -- t runs the entries that are left of ns, where s runs ns
  unfoldable pub Follows : List E → FinMap K.order V → FinMap K.order V → List N → Type 0
  Follows dirty s t ns =
      let flags = hits K.order g dirty (effects K s ns) in
      IsLegal K t (keep flags ns) × (effects K t (keep flags ns) ≡ keep flags (effects K s ns))

  -- t runs what is left of an entry and those behind it, by what its step did and whether it is struck
  FollowsBy : List E → FinMap K.order V → FinMap K.order V → N → List N → Result (Effect E V W) F → Bool → Type 0
  FollowsBy dirty s t n ns o b =
      let rest = effects K (after K o s) ns in
      let flags = b ∷ hits K.order g (dirtied b (marked_effect K (K.mark n) o) dirty) rest in
      IsLegal K t (keep flags (n ∷ ns)) × (effects K t (keep flags (n ∷ ns)) ≡ keep flags (marked_effect K (K.mark n) o ∷ rest))

  one_more : (dirty : List E) (s t : FinMap K.order V) → Alike dirty s t → (n : N) (ns : List N)
      → ((dirty : List E) (s t : FinMap K.order V) → Alike dirty s t → IsLegal K s ns → Follows dirty s t ns)
      → (o : Result (Effect E V W) F) → outcome K s n ≡ o → IsOk o → IsLegal K (after K o s) ns
      → (b : Bool) → hit K.order g dirty (marked_effect K (K.mark n) o) ≡ b → FollowsBy dirty s t n ns o b
  unfolding Follows FollowsBy
  one_more dirty s t alike n ns more (Err why) is ok legal b hit_is = absurd (false≢true ok)
  one_more dirty s t alike n ns more (Ok f) is ok legal true hit_is =
      more (map (λ w. w.0) f.written ++ dirty) (put_all f.written s) t
      (λ e clean.
      let parts = none_of_both (eq_by_cmp K.order e) (map (λ w. w.0) f.written) dirty clean in
      get-put_all_other total f.written s e parts.0 ∙ alike e parts.1)
      legal
  one_more dirty s t alike n ns more (Ok f) is ok legal false hit_is =
      let untouched = (or_parts _ _ hit_is).1 in
      let parts = none_of_both (is_in K.order dirty) (map (λ r. r.0) f.read) (map (λ w. w.0) f.written) untouched in
      let same : outcome K t n ≡ Ok f = same_accepted (get s) (get t) (K.act n) f is (alike_on dirty s t alike _ parts.0) in
      let rest = more dirty (put_all f.written s) (put_all f.written t)
      (λ e clean. get-put_all_same total f.written s t e (alike e clean)) legal in
      let flags = hits K.order g dirty (effects K (put_all f.written s) ns) in
      let P : Result (Effect E V W) F → Type 0 = λ o.
      (IsOk o × IsLegal K (after K o t) (keep flags ns))
      × (marked_effect K (K.mark n) o ∷ effects K (after K o t) (keep flags ns)
      ≡ marked_effect K (K.mark n) (Ok f) ∷ keep flags (effects K (put_all f.written s) ns)) in
      subst P (sym same) ((refl, rest.0), ap (λ fs. marked_effect K (K.mark n) (Ok f) ∷ fs) rest.1)

  pub struck_run : (dirty : List E) (s t : FinMap K.order V) → Alike dirty s t → (ns : List N) → IsLegal K s ns → Follows dirty s t ns
  unfolding Follows FollowsBy
  struck_run dirty s t alike [] legal = (tt, refl)
  struck_run dirty s t alike (n ∷ ns) legal =
      one_more dirty s t alike n ns (λ dirty s t alike legal. struck_run dirty s t alike ns legal) (outcome K s n) refl legal.0 legal.1
      (hit K.order g dirty (marked_effect K (K.mark n) (outcome K s n))) refl
