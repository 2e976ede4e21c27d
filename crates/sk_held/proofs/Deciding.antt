-- A guess is decided by the token at the place that was found: it is taken, and the other tokens are held as before.
use Rattle.sk_held.proofs.Names.{◌≡◌, ℕ, zero, suc, true, ◌||◌, List, [], ◌∷◌, ◌++◌, length, Some, Result, Ok, Err}
use Rattle.sk_held.proofs.Names.{refl, sym, ap, ◌∙◌, subst, ◌==◌, get_or, slice_get, remove, AllByRecursion, true≢false}
use Rattle.sk_held.proofs.Names.{eq-eqb, or_left, or_right, has, without, KeptView, Token, IsStranger, Committed}
use Rattle.sk_held.proofs.Names.{bytes_cmp, ByteView, CommitPost, FailPost, Unmade, ids, is_out, AreHeld}
use Rattle.sk_speculator.specs.declared.decided.Committed.TheVariants as commit
use Rattle.sk_bytes.specs.declared.bytes.Unmade.TheVariants as unmade
use Rattle.sk_held.proofs.Found.{all_at, all_but, number_at, others, within}
use Rattle.sk_held.proofs.Kept.{committed, failed, forgotten}

has_at : (gs : List ℕ) (i g : ℕ) → slice_get gs i ≡ Some g → has g gs ≡ true
has_at [] i g at = absurd cc
has_at (n ∷ gs) zero g at = let same : n ≡ g = cc in or_left (n == g) (has g gs) (eq-eqb n g same)
has_at (n ∷ gs) (suc i) g at = or_right (n == g) (has g gs) (has_at gs i g at)

module _ {V O : Type 0} (old : ByteView V O) (ts us : List Token) (t : Token) (place g : ℕ) (held : AreHeld old.parts ts)
    (at : slice_get (ids ts) place ≡ Some g) (value : t ≡ get_or ts place t) (rest : us ≡ remove ts place) where
  number : t.id ≡ g
  number = ap (λ (u : Token). u.id) value ∙ number_at ts place g t at

  own : t.kernel ≡ old.parts.guesses.kernel
  own = ap (λ (u : Token). u.kernel) value ∙ all_at (λ (u : Token). u.kernel ≡ old.parts.guesses.kernel) ts place t held.own (within ts place g at)

  pub token : t ≡ record { kernel = old.parts.guesses.kernel; id = g }
  token = λ i. record { kernel = own i; id = number i }

  left : AllByRecursion (λ (u : Token). u.kernel ≡ old.parts.guesses.kernel) us
  left = subst (AllByRecursion (λ (u : Token). u.kernel ≡ old.parts.guesses.kernel)) (sym rest) (all_but (λ (u : Token). u.kernel ≡ old.parts.guesses.kernel) ts place held.own)

  without_it : ids us ≡ without t.id (ids ts)
  without_it = ap ids rest ∙ others ts place g held.rising at ∙ ap (λ n. without n (ids ts)) (sym number)

  no_stranger : IsStranger old.parts t → ⊥
  no_stranger stranger =
      let out : is_out old.parts.guesses old.parts.opens t.id ≡ true = ap (is_out old.parts.guesses old.parts.opens) number ∙ sym (held.just g) ∙ has_at (ids ts) place g at in
      let none = stranger own in
      true≢false (sym out ∙ (λ i. none.0 i || none.1 i))

  pub commit_met : (result : Result Committed Token) (s : Token) (new : ByteView V O) → CommitPost bytes_cmp old.parts t result new.parts → result ≡ Err s → ⊥
  commit_met (Ok c) s new h e = absurd cc
  commit_met (Err back) s new h e = no_stranger h.0

  pub fail_met : (result : Result Unmade Token) (s : Token) (new : ByteView V O) → FailPost old t result new → result ≡ Err s → ⊥
  fail_met (Ok c) s new h e = absurd cc
  fail_met (Err back) s new h e = no_stranger h.0

  pub commit_holds : (result : Result Committed Token) (o : Committed) (new : ByteView V O) → CommitPost bytes_cmp old.parts t result new.parts → result ≡ Ok o → AreHeld new.parts us
  commit_holds (Ok commit.Done) o new h e =
      committed old.parts new.parts ts us held t.id without_it bytes_cmp (subst (λ (v : KeptView). AllByRecursion (λ (u : Token). u.kernel ≡ v.kernel) us) (sym h.1.guesses) left) h.1
  commit_holds (Ok commit.Gone) o new h e =
      forgotten old.parts new.parts ts us held t.id without_it bytes_cmp (subst (λ n. AllByRecursion (λ (u : Token). u.kernel ≡ n) us) (ap (λ m. m.guesses.kernel) (sym h.1.left)) left) h.1
  commit_holds (Err back) o new h e = absurd cc

  pub fail_holds : (result : Result Unmade Token) (o : Unmade) (new : ByteView V O) → FailPost old t result new → result ≡ Ok o → AreHeld new.parts us
  fail_holds (Ok (unmade.Done keys struck)) o new h e =
      failed old.parts new.parts ts us held t.id without_it bytes_cmp (subst (λ (v : KeptView). AllByRecursion (λ (u : Token). u.kernel ≡ v.kernel) us) (sym h.2.guesses) left) h.2
  fail_holds (Ok unmade.Gone) o new h e =
      forgotten old.parts new.parts ts us held t.id without_it bytes_cmp (subst (λ n. AllByRecursion (λ (u : Token). u.kernel ≡ n) us) (ap (λ m. m.guesses.kernel) (sym h.1.left)) left) h.1
  fail_holds (Err back) o new h e = absurd cc

-- ---- the newest token is taken out
last_at : (us : List Token) (t : Token) → slice_get (ids (us ++ t ∷ [])) (length us) ≡ Some t.id
last_at [] t = refl
last_at (u ∷ us) t = last_at us t

last_is : (us : List Token) (t : Token) → t ≡ get_or (us ++ t ∷ []) (length us) t
last_is [] t = refl
last_is (u ∷ us) t = last_is us t

all_but_last : (us : List Token) (t : Token) → us ≡ remove (us ++ t ∷ []) (length us)
all_but_last [] t = refl
all_but_last (u ∷ us) t = ap (λ vs. u ∷ vs) (all_but_last us t)

module _ {V O : Type 0} (old : ByteView V O) (ts us : List Token) (t : Token) (held : AreHeld old.parts ts) (is : ts ≡ us ++ t ∷ []) where
  held_so : AreHeld old.parts (us ++ t ∷ [])
  held_so = subst (AreHeld old.parts) is held

  pub last_met : (result : Result Unmade Token) (s : Token) (new : ByteView V O) → FailPost old t result new → result ≡ Err s → ⊥
  last_met result s new h e = fail_met old (us ++ t ∷ []) us t (length us) t.id held_so (last_at us t) (last_is us t) (all_but_last us t) result s new h e

  pub last_holds : (result : Result Unmade Token) (o : Unmade) (new : ByteView V O) → FailPost old t result new → result ≡ Ok o → AreHeld new.parts us
  last_holds result o new h e = fail_holds old (us ++ t ∷ []) us t (length us) t.id held_so (last_at us t) (last_is us t) (all_but_last us t) result o new h e
