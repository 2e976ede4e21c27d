-- A new epoch: the machine of the old one, with its statuses and texts put away, is the machine at the new start.
use Rattle.sk_record.proofs.Names.{◌≡◌, ℕ, zero, suc, ◌<◌, ◌≤◌, ◌-◌, length, cond, true, false, List, [], ◌∷◌, Option}
use Rattle.sk_record.proofs.Names.{Some, None, refl, sym, ◌∙◌, ap, subst, arith, ◌↔◌, ◌==◌, slice_get, Ordering, FinMap}
use Rattle.sk_record.proofs.Names.{get, false≢true, MarkedEffect, is_in, writes, written_value, System, run, effects}
use Rattle.sk_record.proofs.Names.{has, noted, next_dirty, notes_of, Status, Event, StatusIs, record_of, undecided_of}
use Rattle.sk_record.proofs.Names.{no_record, all_recorded, Open, numbers, Represents, AllOwnTagsExact, Machine}
use Rattle.sk_record.proofs.Names.{RepresentsTrace, status_in, or_since, StatusOr, StatusSince, IsEpoch, EndsAt}
use Rattle.sk_record.specs.declared.status.Status.TheVariants.{Undecided}
use Rattle.sk_record.proofs.Sound.{sound_first, undecided_is, entries_are}
use Rattle.sk_record.proofs.Statuses.{none_yet, one_status}

-- where no guess is undecided nothing is noted
pub none_noted : {E V W : Type 0} (R : E → E → Ordering) (dirty : ℕ → List E) (ts : List (MarkedEffect E V W)) (e : E) (v : Option V) → notes_of R [] dirty ts e v ≡ []
none_noted R dirty [] e v = refl
none_noted R dirty (f ∷ ts) e v =
    elim (is_in R (writes f) e) as (λ b. noted b [] v (notes_of R [] (next_dirty R [] dirty f) ts e (written_value R f.written e v)) ≡ []) [
      | true ↦ none_noted R (next_dirty R [] dirty f) ts e (written_value R f.written e v)
      | false ↦ none_noted R (next_dirty R [] dirty f) ts e (written_value R f.written e v)
    ]

none_open : (os : List Open) → numbers os ≡ [] → os ≡ []
none_open [] none = refl
none_open (o ∷ os) none = cc

module _ {E V W F N : Type 0} (K : System E V W F N) (start : FinMap K.order V) where
  -- ---- the machine

  module _ (es : List (Event N)) (m : Machine E V W) (stands : RepresentsTrace K start es m) (settled : undecided_of K start es ≡ []) where
    pub no_opens : m.state.opens ≡ []
    no_opens = none_open m.state.opens (stands.state.guesses ∙ settled)

    pub no_notes : (e : E) → m.state.logs e ≡ []
    no_notes e =
        stands.state.logs e
        ∙ ap (λ gs. notes_of K.order gs (λ g. []) (effects K start (all_recorded K start no_record es).entries) e (get start e)) settled
        ∙ none_noted K.order (λ g. []) (effects K start (all_recorded K start no_record es).entries) e (get start e)

    pub looks_on : (e : E) → m.state.look e ≡ get (run K start (record_of K start es)) e
    looks_on e = stands.state.look e ∙ ap (λ ns. get (run K start ns) e) (entries_are K start es)

    -- what the old machine keeps of values, logs and open guesses is the new one
    pub begins_anew : Represents K (run K start (record_of K start es)) no_record m.state
    begins_anew = record {
      legal = tt;
      guesses = ap numbers no_opens;
      look = looks_on;
      logs = no_notes;
      own_tags = subst (AllOwnTagsExact K [] []) (sym no_opens) tt;
    }

    pub stands_anew : (next : Machine E V W) → next.state ≡ m.state → ((g : ℕ) → next.status g ≡ None) → ((t : ℕ) → next.texts t ≡ [])
        → RepresentsTrace K (run K start (record_of K start es)) [] next
    stands_anew next same status texts = record {
      sound = sound_first K (run K start (record_of K start es));
      state = subst (Represents K (run K start (record_of K start es)) no_record) (sym same) begins_anew;
      statuses = λ g s.
          let at = none_yet K (run K start (record_of K start es)) g s in
          ((λ is. at.0 (sym (status g) ∙ is)), λ is. status g ∙ at.1 is);
      texts = texts;
    }

  -- ---- the trace

  module _ (earlier : List Status) (es : List (Event N)) (epoch : IsEpoch K start earlier es) where
    -- an undecided guess is one of this epoch
    undecided_by : (o : Option Status) (g : ℕ) → (o ≡ Some Undecided → ⊥) → StatusOr K start o es g Undecided → has g (undecided_of K start es) ≡ true
    undecided_by None g decided is = (undecided_is K start es epoch.sound g).1 is
    undecided_by (Some was) g decided is = absurd (decided (ap Some is))

    pub undecided_now : (g : ℕ) → StatusSince K start earlier es g Undecided → has g (undecided_of K start es) ≡ true
    undecided_now g is = undecided_by (status_in earlier g) g (epoch.decided g) is

    module _ (next : FinMap K.order V) (statuses : List Status) (ends : EndsAt K start earlier es next statuses) where
      no_longer : (g : ℕ) → status_in statuses g ≡ Some Undecided → ⊥
      no_longer g is = false≢true (ap (has g) (sym ends.settled) ∙ undecided_now g ((ends.same g Undecided).0 is))

      -- nothing happened in the next epoch
      pub next_epoch : IsEpoch K next statuses []
      next_epoch = record { sound = sound_first K next; decided = no_longer; above = λ g drawn. (let below = drawn.1.1 in absurd (omega arith)) }

-- ---- statuses by number

nothing_there : {X : Type 0} (xs : List X) (i : ℕ) → length xs ≤ i → slice_get xs i ≡ None
nothing_there [] i past = refl
nothing_there (x ∷ xs) zero past = absurd (omega arith)
nothing_there (x ∷ xs) (suc i) past = nothing_there xs i (omega arith)

-- above the last there is none
pub beyond : (ss : List Status) (n : ℕ) → length ss < n → status_in ss n ≡ None
beyond ss n above =
    elim (n == 0) as (λ b. cond b None (slice_get ss (n - 1)) ≡ None) [
      | true ↦ refl
      | false ↦ nothing_there ss (n - 1) (omega (arith, above))
    ]

module _ {E V W F N : Type 0} (K : System E V W F N) (start : FinMap K.order V) where
  -- what is undecided in the trace is so altogether
  pub since_undecided : (earlier : List Status) (es : List (Event N)) → IsEpoch K start earlier es → (g : ℕ) → has g (undecided_of K start es) ≡ true → StatusSince K start earlier es g Undecided
  since_undecided earlier es epoch g here =
      let is = (undecided_is K start es epoch.sound g).0 here in
      let drawn = (one_status K start es epoch.sound g).0.1 (Undecided, is) in
      subst (λ o. StatusOr K start o es g Undecided) (sym (beyond earlier g (epoch.above g drawn))) is

  -- and the other way round
  pub in_trace : (o : Option Status) (es : List (Event N)) (g : ℕ) → (o ≡ Some Undecided → ⊥) → StatusOr K start o es g Undecided → StatusIs K start es g Undecided
  in_trace None es g decided is = is
  in_trace (Some was) es g decided is = absurd (decided (ap Some is))

  -- what is told of both
  pub either_is : (o x : Option Status) (es : List (Event N)) (g : ℕ) (s : Status) → (x ≡ Some s) ↔ StatusIs K start es g s → (or_since o x ≡ Some s) ↔ StatusOr K start o es g s
  either_is None x es g s is = is
  either_is (Some was) x es g s is = ((λ same. cc), λ same. ap Some same)
