-- Which channels have an output to take.
use Rattle.sk_outputs.proofs.Names.{shorter, not-true, not-false, ◌≡◌, ℕ, zero, suc, ◌+◌, ◌<◌, ◌≤◌, ◌&&◌, ◌||◌, Bool}
use Rattle.sk_outputs.proofs.Names.{true, false, not, cond, List, [], ◌∷◌, ◌++◌, length, drop, refl, sym, ◌∙◌, ap}
use Rattle.sk_outputs.proofs.Names.{subst, arith, ◌==◌, slice_index_or, Option, Some, None, IfSome, prefix_len}
use Rattle.sk_outputs.proofs.Names.{slice_get, option_map, true≢false, eqb-true, Tagged, lightened, not_dropped}
use Rattle.sk_outputs.proofs.Names.{released, released_if, has, without, has_filter, eqb_turned, Said, said_at}
use Rattle.sk_outputs.proofs.Names.{first_of, is_empty, is_ready, AreReady}
use Rattle.sk_outputs.proofs.Firsts.{other}

never : (n : ℕ) → (0 == suc n) ≡ false
never n =
    elim (0 == suc n) as (λ b. (0 == suc n) ≡ b → b ≡ false) [
      | true ↦ λ is. let same : 0 ≡ suc n = eqb-true 0 (suc n) is in absurd (omega (arith, same))
      | false ↦ λ _. refl
    ] refl

module _ {O : Type 0} where
  -- a failure leaves no more outputs
  pub fewer : (g : ℕ) (xs : Said O) → length (not_dropped g xs) ≤ length xs
  fewer g xs = shorter (λ (x : Tagged (ℕ × O)). not (has g x.1)) xs

  -- and a commit as many
  pub as_many : (g : ℕ) (xs : Said O) → length (lightened g xs) ≡ length xs
  as_many g [] = refl
  as_many g (x ∷ xs) = ap suc (as_many g xs)

  -- just those of which something is released
  pub ready_is : (xs : Said O) (t : ℕ) → is_ready xs t ≡ not (is_empty (released (said_at xs t)))
  ready_is [] t = refl
  ready_is (x ∷ xs) t =
      elim (x.0.0 == t) as (λ b. cond b (is_empty x.1) (is_ready xs t) ≡ not (is_empty (released (cond b (x ∷ said_at xs t) (said_at xs t))))) [
        | true ↦ by_tags x.1
        | false ↦ ready_is xs t
      ] where
        by_tags : (tags : List ℕ) → is_empty tags ≡ not (is_empty (released_if tags x.0 (released (said_at xs t))))
        by_tags [] = refl
        by_tags (g ∷ tags) = refl

  pub some_released : (xs : Said O) (t : ℕ) → is_ready xs t ≡ true → released (said_at xs t) ≡ [] → ⊥
  some_released xs t is none = true≢false (sym is ∙ ready_is xs t ∙ ap (λ ws. not (is_empty ws)) none)

  pub none_released : (xs : Said O) (t : ℕ) → is_ready xs t ≡ false → released (said_at xs t) ≡ []
  none_released xs t is = bare (released (said_at xs t)) (sym (ready_is xs t) ∙ is) where
    bare : {A : Type 0} (ws : List A) → not (is_empty ws) ≡ false → ws ≡ []
    bare [] none = refl
    bare (w ∷ ws) none = absurd (true≢false none)

  -- the first is the next to take, where the channel has one
  pub next_is : (xs : Said O) (t : ℕ) → is_ready xs t ≡ true → first_of (said_at xs t) ≡ option_map (λ w. w.1) (slice_get (released (said_at xs t)) 0)
  next_is xs t ready = by_list (said_at xs t) (sym (ready_is xs t) ∙ ready) where
    by_list : (ys : Said O) → not (is_empty (released ys)) ≡ true → first_of ys ≡ option_map (λ w. w.1) (slice_get (released ys) 0)
    by_list [] some = refl
    by_list (y ∷ ys) some = by_tags y.1 some where
      by_tags : (tags : List ℕ) → not (is_empty (released_if tags y.0 (released ys))) ≡ true → Some y.0.1 ≡ option_map (λ w. w.1) (slice_get (released_if tags y.0 (released ys)) 0)
      by_tags [] some = refl
      by_tags (g ∷ tags) none = absurd (true≢false (sym none))

  -- one more is behind
  pub ready_more : (xs : Said O) (x : Tagged (ℕ × O)) (t : ℕ)
      → is_ready (xs ++ x ∷ []) t ≡ (((x.0.0 == t) && (is_empty x.1 && is_empty (said_at xs t))) || is_ready xs t)
  ready_more [] x t = first (x.0.0 == t) (is_empty x.1) where
    first : (a b : Bool) → cond a b false ≡ ((a && (b && true)) || false)
    first true true = refl
    first true false = refl
    first false b = refl
  ready_more (y ∷ xs) x t =
      elim (y.0.0 == t) as (λ b. cond b (is_empty y.1) (is_ready (xs ++ x ∷ []) t) ≡ (((x.0.0 == t) && (is_empty x.1 && is_empty (cond b (y ∷ said_at xs t) (said_at xs t)))) || cond b (is_empty y.1) (is_ready xs t))) [
        | true ↦ behind (x.0.0 == t) (is_empty x.1) (is_empty y.1)
        | false ↦ ready_more xs x t
      ] where
        behind : (a b c : Bool) → c ≡ ((a && (b && false)) || c)
        behind true true c = refl
        behind true false c = refl
        behind false b c = refl

  -- the output at a place decides for its channel
  pub step : (xs : Said O) (p t : ℕ) (x : Tagged (ℕ × O)) → p < length xs → x ≡ slice_index_or xs p x
      → is_ready (drop p xs) t ≡ cond (x.0.0 == t) (is_empty x.1) (is_ready (drop (suc p) xs) t)
  step [] p t x lt at = absurd (omega arith)
  step (y ∷ xs) zero t x lt at = ap (λ (z : Tagged (ℕ × O)). cond (z.0.0 == t) (is_empty z.1) (is_ready xs t)) (sym at)
  step (y ∷ xs) (suc p) t x lt at = step xs p t x (omega arith) at

  pub decided : (xs : Said O) (p : ℕ) (x : Tagged (ℕ × O)) → p < length xs → x ≡ slice_index_or xs p x → (old new : List ℕ) → AreReady (drop (suc p) xs) old
      → ((t : ℕ) → has t new ≡ cond (x.0.0 == t) (is_empty x.1) (has t old)) → AreReady (drop p xs) new
  decided xs p x lt at old new ready decides t = decides t ∙ ap (λ b. cond (x.0.0 == t) (is_empty x.1) b) (ready t) ∙ sym (step xs p t x lt at)

  module _ (x : Tagged (ℕ × O)) (a : ℕ) (old new : List ℕ) (same : a ≡ x.0.0) where
    -- one that depends on nothing puts its channel on
    pub put_on : not (is_empty x.1) ≡ false → ((t : ℕ) → has t new ≡ ((a == t) || has t old)) → (t : ℕ) → has t new ≡ cond (x.0.0 == t) (is_empty x.1) (has t old)
    put_on bare put t = put t ∙ (λ i. (same i == t) || has t old) ∙ on (x.0.0 == t) where
      on : (b : Bool) → (b || has t old) ≡ cond b (is_empty x.1) (has t old)
      on true = sym (not-false (is_empty x.1) bare)
      on false = refl

    -- and one that depends on a guess takes it off
    pub taken_off : not (is_empty x.1) ≡ true → new ≡ without a old → (t : ℕ) → has t new ≡ cond (x.0.0 == t) (is_empty x.1) (has t old)
    taken_off rests taken t =
        ap (has t) (taken ∙ ap (λ n. without n old) same) ∙ has_filter (λ n. not (n == x.0.0)) t old ∙ ap (λ c. not c && has t old) (eqb_turned t x.0.0)
        ∙ off (x.0.0 == t) where
          off : (b : Bool) → (not b && has t old) ≡ cond b (is_empty x.1) (has t old)
          off true = sym (not-true (is_empty x.1) rests)
          off false = refl

  -- ---- where one is said

  pub said_next : (xs : Said O) (x : Tagged (ℕ × O)) (old new : List ℕ) → AreReady xs old → (is_empty x.1 && is_empty (said_at xs x.0.0)) ≡ true
      → ((t : ℕ) → has t new ≡ ((x.0.0 == t) || has t old)) → AreReady (xs ++ x ∷ []) new
  said_next xs x old new ready first put t =
      let now : ((x.0.0 == t) || is_ready xs t) ≡ (((x.0.0 == t) && (is_empty x.1 && is_empty (said_at xs t))) || is_ready xs t) =
      elim (x.0.0 == t) as (λ b. (x.0.0 == t) ≡ b → (b || is_ready xs t) ≡ ((b && (is_empty x.1 && is_empty (said_at xs t))) || is_ready xs t)) [
        | true ↦ λ same. ap (λ b. b || is_ready xs t) (sym first ∙ ap (λ n. is_empty x.1 && is_empty (said_at xs n)) (eqb-true x.0.0 t same))
        | false ↦ λ _. refl
      ] refl in
      put t ∙ ap (λ b. (x.0.0 == t) || b) (ready t) ∙ now ∙ sym (ready_more xs x t)

  pub said_behind : (xs : Said O) (x : Tagged (ℕ × O)) (old : List ℕ) → AreReady xs old → (is_empty x.1 && is_empty (said_at xs x.0.0)) ≡ false → AreReady (xs ++ x ∷ []) old
  said_behind xs x old ready behind t =
      let now : is_ready xs t ≡ (((x.0.0 == t) && (is_empty x.1 && is_empty (said_at xs t))) || is_ready xs t) =
      elim (x.0.0 == t) as (λ b. (x.0.0 == t) ≡ b → is_ready xs t ≡ ((b && (is_empty x.1 && is_empty (said_at xs t))) || is_ready xs t)) [
        | true ↦ λ same. ap (λ b. b || is_ready xs t) (sym behind ∙ ap (λ n. is_empty x.1 && is_empty (said_at xs n)) (eqb-true x.0.0 t same))
        | false ↦ λ _. refl
      ] refl in
      ready t ∙ now ∙ sym (ready_more xs x t)

  -- ---- where one is taken
  pub still_ready : (ys : Said O) (to : ℕ) (old : List ℕ) → ((t : ℕ) → (to == t) ≡ false → has t old ≡ is_ready ys t) → has to old ≡ true → is_ready ys to ≡ true → AreReady ys old
  still_ready ys to old others there free t =
      elim (to == t) as (λ b. (to == t) ≡ b → has t old ≡ is_ready ys t) [
        | true ↦ λ same. subst (λ n. has n old ≡ is_ready ys n) (eqb-true to t same) (there ∙ sym free)
        | false ↦ λ apart. others t apart
      ] refl

  pub ready_no_more : (ys : Said O) (to : ℕ) (old new : List ℕ) → ((t : ℕ) → (to == t) ≡ false → has t old ≡ is_ready ys t) → is_ready ys to ≡ false → new ≡ without to old → AreReady ys new
  ready_no_more ys to old new others gone taken t =
      ap (has t) taken ∙ has_filter (λ n. not (n == to)) t old ∙ ap (λ c. not c && has t old) (eqb_turned t to)
      ∙ elim (to == t) as (λ b. (to == t) ≡ b → (not b && has t old) ≡ is_ready ys t) [
        | true ↦ λ same. sym gone ∙ ap (is_ready ys) (eqb-true to t same)
        | false ↦ λ apart. others t apart
      ] refl

  pub same_ready : (xs ys : Said O) (t : ℕ) → said_at ys t ≡ said_at xs t → is_ready xs t ≡ is_ready ys t
  same_ready xs ys t same = ready_is xs t ∙ ap (λ zs. not (is_empty (released zs))) (sym same) ∙ sym (ready_is ys t)

  -- the first of a channel that has one to take is near, and depends on nothing
  pub first_near : (to i : ℕ) (xs : Said O) → i ≡ prefix_len (other to) xs → is_ready xs to ≡ true → i < length xs
  first_near to i [] is ready = absurd (true≢false (sym ready))
  first_near to i (x ∷ xs) is ready =
      elim (x.0.0 == to) as (λ b. i ≡ cond (not b) (1 + prefix_len (other to) xs) 0 → cond b (is_empty x.1) (is_ready xs to) ≡ true → i < suc (length xs)) [
        | true ↦ λ first _. omega arith
        | false ↦ λ later ready. let near = first_near to (prefix_len (other to) xs) xs refl ready in omega arith
      ] is ready

  pub first_bare : (to : ℕ) (xs rest : Said O) (x : Tagged (ℕ × O)) → is_ready xs to ≡ true → said_at xs to ≡ x ∷ rest → x.1 ≡ []
  first_bare to xs rest x ready is = by_tags x.1 (ap (λ ys. not (is_empty (released ys))) (sym is) ∙ sym (ready_is xs to) ∙ ready) where
    by_tags : (tags : List ℕ) → not (is_empty (released_if tags x.0 (released rest))) ≡ true → tags ≡ []
    by_tags [] some = refl
    by_tags (g ∷ tags) none = absurd (true≢false (sym none))

pub if_some : {A : Type 0} (r : Option A) (P Q : A → Type 0) → ((x : A) → P x → Q x) → IfSome r P → IfSome r Q
if_some (Some x) P Q f p = f x p
if_some None P Q f p = tt
