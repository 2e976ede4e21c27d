-- What becomes of held tokens when one more event stands in the trace, or a token is taken out.
use Rattle.sk_kernel.proofs.Names.{Some, subst, inr, ◌∷◌, inl, zero, ◌≡◌, arith, List, get_or, ap, ◌++◌, length, ◌||◌}
use Rattle.sk_kernel.proofs.Names.{ℕ, true, drop, sym, suc, ◌≤◌, false, ◌<◌, refl, [], ◌∙◌, true≢false, or_right}
use Rattle.sk_kernel.proofs.Names.{or_cases, false_from_ne_true, or_left, eqb-true, eq-eqb, ne_eqb, map-append}
use Rattle.sk_kernel.proofs.Names.{Contains-push, Contains-push_cases, Contains-append_left, list_any-append, remove}
use Rattle.sk_kernel.proofs.Names.{Contains, slice_get, ◌⊎◌, ◌==◌, cond, Token, but, ids, AreUnspent, IsUnspent}
use Rattle.sk_kernel.proofs.Names.{IsNew, IsStranger, next_guess, events_of, with_event}
use Rattle.sk_kernel.proofs.Undecided.{drawn_here}
use Rattle.sk_kernel.proofs.Whole.{map_more}
use Rattle.sk_kernel.proofs.Names.{KernelView, HasSoundTrace, plain, image, in_trace, status_in, has, Happens, Taken}
use Rattle.sk_kernel.proofs.Names.{Commit, Fail, Struck, Undecided, Input, EntryView, Event}
use Rattle.sk_trace.specs.declared.event.Event.TheVariants as events

-- ---- one event more

module _ (k : KernelView) (e : Event) where
  among : (x : Happens EntryView) → Contains (events_of (with_event k e)) x → Contains (events_of k) x ⊎ (image e ≡ x)
  among x there = Contains-push_cases (events_of k) (image e) x (subst (λ es. Contains es x) (map_more k.trace e) there)

  pub still_unspent : (t : Token) → (image e ≡ Commit t.id → ⊥) → (image e ≡ Fail t.id → ⊥) → IsUnspent k t → IsUnspent (with_event k e) t
  still_unspent t no_commit no_fail u =
      let d = u.drawn in
      record {
        own = u.own;
        drawn = (
          d.0,
          subst (λ es. Contains es (Taken d.0)) (sym (map_more k.trace e)) (Contains-append_left (events_of k) (image e ∷ []) (Taken d.0) d.1),
          d.2,
        );
        uncommitted = λ there. elim (among (Commit t.id) there) [ inl before ↦ u.uncommitted before | inr is ↦ no_commit is ];
        unfailed = λ there. elim (among (Fail t.id) there) [ inl before ↦ u.unfailed before | inr is ↦ no_fail is ];
      }

pub all_still : (k new : KernelView) (ts : List Token) → ((t : Token) → has t.id (ids ts) ≡ true → IsUnspent k t → IsUnspent new t)
    → AreUnspent k ts → AreUnspent new ts
all_still k new [] still us = tt
all_still k new (t ∷ ts) still us =
    (still t (or_left _ _ (eq-eqb t.id t.id refl)) us.0, us.1, all_still k new ts (λ u there. still u (or_right _ _ there)) us.2)

-- ---- a guess is drawn

-- the token of the guess that is drawn next
abbrev pub drawn_token : KernelView → Token
drawn_token k = record { kernel = k.number; id = next_guess k }

below_new : (k new : KernelView) (ts : List Token) → IsNew k new → AreUnspent k ts → (g : ℕ) → has g (ids ts) ≡ true → (next_guess k == g) ≡ false
below_new k new [] fresh us g here = absurd (true≢false (sym here))
below_new k new (t ∷ ts) fresh us g here =
    elim (or_cases _ _ here) [
      | inl is ↦
          let less = fresh.above t.id us.0.drawn in
          let same = eqb-true t.id g is in
          ne_eqb (next_guess k) g (λ e. omega (arith, less, e, same))
      | inr later ↦ below_new k new ts fresh us.2 g later
    ]

pushed : (k : KernelView) (ts : List Token) (t : Token) → IsUnspent k t → ((g : ℕ) → has g (ids ts) ≡ true → (t.id == g) ≡ false)
    → AreUnspent k ts → AreUnspent k (ts ++ t ∷ [])
pushed k [] t u apart us = (u, refl, tt)
pushed k (x ∷ ts) t u apart us =
    let other = apart x.id (or_left _ _ (eq-eqb x.id x.id refl)) in (
      us.0,
      ap (has x.id) (map-append (λ (t : Token). t.id) ts (t ∷ [])) ∙ list_any-append (λ g. g == x.id) (ids ts) (t.id ∷ []) ∙ (λ i. us.1 i || (other i || false)),
      pushed k ts t u (λ g there. apart g (or_right _ _ there)) us.2,
    )

pub drawn_unspent : (k : KernelView) (pid : ℕ) (input : Input) (ts : List Token) → HasSoundTrace k → IsNew k (with_event k (events.Guess (next_guess k) pid input))
    → AreUnspent k ts → AreUnspent (with_event k (events.Guess (next_guess k) pid input)) (ts ++ drawn_token k ∷ [])
drawn_unspent k pid input ts sound fresh us =
    let id = next_guess k in
    let e : Event = events.Guess id pid input in
    let new = with_event k e in
    let n : EntryView = record { pid = pid; input = input; guess = Some id } in
    let since = in_trace (plain k.scripts) k.start (status_in k.earlier id) (events_of new) id (sound.decided id) fresh.undecided in
    pushed new ts (drawn_token k) (record {
      own = refl;
      drawn = (n, subst (λ es. Contains es (Taken n)) (sym (map_more k.trace e)) (Contains-push (events_of k) (Taken n)), refl);
      uncommitted = since.0;
      unfailed = since.1;
    }) (below_new k new ts fresh us) (all_still k new ts (λ t _ u. still_unspent k e t (λ is. cc) (λ is. cc) u) us)

-- ---- a token that is not spent is no stranger
pub no_stranger : (k : KernelView) (t : Token) → HasSoundTrace k → IsUnspent k t → IsStranger k t → ⊥
no_stranger k t sound u stranger =
    let neither = stranger u.own in
    neither.1 (drawn_here k sound t.id Struck u.drawn (
      u.drawn,
      u.uncommitted,
      u.unfailed,
      λ there. neither.0 (drawn_here k sound t.id Undecided u.drawn (u.uncommitted, u.unfailed, there)),
    ))

-- ---- a token is taken out

pub has_at : (gs : List ℕ) (i id : ℕ) → slice_get gs i ≡ Some id → has id gs ≡ true
has_at [] i id at = absurd cc
has_at (g ∷ gs) zero id at = let same : g ≡ id = cc in or_left (g == id) (has id gs) (eq-eqb g id same)
has_at (g ∷ gs) (suc i) id at = or_right (g == id) (has id gs) (has_at gs i id at)

-- what is known of it, and of the others
pub record Out (k : KernelView) (ts others : List Token) (id : ℕ) (t : Token) : Type 0 where
  pub here : has id (ids ts) ≡ true
  pub number : t.id ≡ id
  pub unspent : IsUnspent k t
  pub apart : has id (ids others) ≡ false
  pub rest : AreUnspent k others
  pub left : ids others ≡ but id (ids ts)
  pub was : (g : ℕ) → has g (ids others) ≡ true → has g (ids ts) ≡ true
  pub stays : (g : ℕ) → has g (ids ts) ≡ true → (g ≡ id) ⊎ (has g (ids others) ≡ true)

pub taken_out : (k : KernelView) (i id : ℕ) (ts : List Token) (t : Token) → slice_get (ids ts) i ≡ Some id → t ≡ get_or ts i t
    → AreUnspent k ts → Out k ts (remove ts i) id t
taken_out k i id [] t at is us = absurd cc
taken_out k zero id (x ∷ ts) t at is us =
    let same : x.id ≡ id = cc in
    let first : (x.id == id) ≡ true = eq-eqb x.id id same in
    record {
      here = or_left (x.id == id) (has id (ids ts)) first;
      number = ap (λ (t : Token). t.id) is ∙ same;
      unspent = subst (IsUnspent k) (sym is) us.0;
      apart = ap (λ g. has g (ids ts)) (sym same) ∙ us.1;
      rest = us.2;
      left = sym (ap (λ b. cond b (ids ts) (x.id ∷ but id (ids ts))) first);
      was = λ g there. or_right (x.id == g) (has g (ids ts)) there;
      stays = λ g there. elim (or_cases (x.id == g) (has g (ids ts)) there) [ inl one ↦ inl (sym (eqb-true x.id g one) ∙ same) | inr later ↦ inr later ];
    }
taken_out k (suc i) id (x ∷ ts) t at is us =
    let o = taken_out k i id ts t at is us.2 in
    let other : (x.id == id) ≡ false = false_from_ne_true _ (λ e. true≢false (sym o.here ∙ ap (λ g. has g (ids ts)) (sym (eqb-true x.id id e)) ∙ us.1)) in
    record {
      here = or_right (x.id == id) (has id (ids ts)) o.here;
      number = o.number;
      unspent = o.unspent;
      apart = (λ i. other i || o.apart i);
      rest = (us.0, false_from_ne_true _ (λ there. true≢false (sym (o.was x.id there) ∙ us.1)), o.rest);
      left = ap (λ gs. x.id ∷ gs) o.left ∙ sym (ap (λ b. cond b (ids ts) (x.id ∷ but id (ids ts))) other);
      was = λ g there. elim (or_cases (x.id == g) (has g (ids (remove ts i))) there) [
        | inl one ↦ or_left (x.id == g) (has g (ids ts)) one
        | inr later ↦ or_right (x.id == g) (has g (ids ts)) (o.was g later)
      ];
      stays = λ g there. elim (or_cases (x.id == g) (has g (ids ts)) there) [
        | inl one ↦ inr (or_left (x.id == g) (has g (ids (remove ts i))) one)
        | inr later ↦ elim (o.stays g later) [ inl same ↦ inl same | inr there ↦ inr (or_right (x.id == g) (has g (ids (remove ts i))) there) ]
      ];
    }

-- ---- the place of a token

pub id_at_get : (ts : List Token) (i : ℕ) (d : Token) → i < length ts → slice_get (ids ts) i ≡ Some (get_or ts i d).id
id_at_get [] i d lt = absurd (omega arith)
id_at_get (t ∷ ts) zero d lt = refl
id_at_get (t ∷ ts) (suc i) d lt = id_at_get ts i d (omega arith)

-- past the last token there is none
pub none_past : (id : ℕ) (ts : List Token) (i : ℕ) → length ts ≤ i → has id (ids (drop i ts)) ≡ false
none_past id [] zero le = refl
none_past id [] (suc i) le = refl
none_past id (t ∷ ts) zero le = absurd (omega arith)
none_past id (t ∷ ts) (suc i) le = none_past id ts i (omega arith)
