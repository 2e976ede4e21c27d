-- What a failure took back is told by strings, and what a decision did.
use Rattle.sk_bytes.proofs.Names.{true≢false, ◌≡◌, ℕ, zero, suc, true, false, List, [], ◌∷◌, length, Option, Some, None}
use Rattle.sk_bytes.proofs.Names.{Ok, refl, sym, ◌∙◌, ap, subst, ◌||◌, slice_get, nat_cmp, eq_by_cmp, unsigned_tied}
use Rattle.sk_bytes.proofs.Names.{eq-eqb, ne_eqb, or_left, or_right, is_in, has, last_tags, Token, at_key, log_at}
use Rattle.sk_bytes.proofs.Names.{Numbered, bytes_cmp, number_of, string_of, some_none, Parts, Commits, FailsIn}
use Rattle.sk_bytes.proofs.Names.{Forgets, TookBack, Committed, Undone, told_of, strings_of, with_string, ByteView}
use Rattle.sk_bytes.proofs.Names.{Fits, IsTwoWay, TellsUndone}
use Rattle.sk_speculator.specs.Calls as inner
use Rattle.sk_speculator.specs.declared.decided.Committed.TheVariants as commit
use Rattle.sk_speculator.specs.declared.decided.Failed.TheVariants as failure
use Rattle.sk_bytes.proofs.Told.{commits_told, fails_told, forgets_told, keeps_apart, log_told}
use Rattle.sk_bytes.proofs.Fitting.{bare, fits_committed, fits_forgot}

pub first_in : (n : ℕ) (ns : List ℕ) → is_in nat_cmp (n ∷ ns) n ≡ true
first_in n ns = or_left _ _ (unsigned_tied n n ∙ eq-eqb n n refl)

-- each of these has a string
abbrev pub AllHeld : Numbered → List ℕ → Type 0
AllHeld es ns = (n : ℕ) → is_in nat_cmp ns n ≡ true → string_of es n ≡ None → ⊥

-- ---- the strings of numbers

module _ (es : Numbered) where
  pub held_later : (n : ℕ) (ns : List ℕ) → AllHeld es (n ∷ ns) → AllHeld es ns
  held_later n ns held m here none = held m (or_right _ _ here) none

  pub strings_length : (ns : List ℕ) → AllHeld es ns → length ns ≡ length (strings_of es ns)
  strings_length [] held = refl
  strings_length (n ∷ ns) held =
      elim (string_of es n) as (λ o. string_of es n ≡ o → suc (length ns) ≡ length (with_string o (strings_of es ns))) [
        | None ↦ λ none. absurd (held n (first_in n ns) none)
        | Some s ↦ λ is. ap suc (strings_length ns (held_later n ns held))
      ] refl

  pub strings_at : (ns : List ℕ) (i : ℕ) → AllHeld es ns → slice_get (strings_of es ns) i ≡ at_key None (string_of es) (slice_get ns i)
  strings_at [] i held = refl
  strings_at (n ∷ ns) zero held =
      elim (string_of es n) as (λ o. string_of es n ≡ o → slice_get (with_string o (strings_of es ns)) zero ≡ o) [
        | None ↦ λ none. absurd (held n (first_in n ns) none)
        | Some s ↦ λ is. refl
      ] refl
  strings_at (n ∷ ns) (suc i) held =
      elim (string_of es n) as (λ o. string_of es n ≡ o → slice_get (with_string o (strings_of es ns)) (suc i) ≡ at_key None (string_of es) (slice_get ns i)) [
        | None ↦ λ none. absurd (held n (first_in n ns) none)
        | Some s ↦ λ is. strings_at ns i (held_later n ns held)
      ] refl

  module _ (two : IsTwoWay es) where
    unnumbered_in : (s : List ℕ) → number_of es s ≡ None → (ns : List ℕ) → is_in bytes_cmp (strings_of es ns) s ≡ false
    unnumbered_in s none [] = refl
    unnumbered_in s none (n ∷ ns) =
        elim (string_of es n) as (λ o. string_of es n ≡ o → is_in bytes_cmp (with_string o (strings_of es ns)) s ≡ false) [
          | None ↦ λ free. unnumbered_in s none ns
          | Some t ↦ λ is. ap (λ b. b || is_in bytes_cmp (strings_of es ns) s) ((keeps_apart es two).unnamed s t n none (two.back t n is)) ∙ unnumbered_in s none ns
        ] refl

    numbered_in : (s : List ℕ) (k : ℕ) → number_of es s ≡ Some k → (ns : List ℕ) → is_in bytes_cmp (strings_of es ns) s ≡ is_in nat_cmp ns k
    numbered_in s k here [] = refl
    numbered_in s k here (n ∷ ns) =
        elim (string_of es n) as (λ o. string_of es n ≡ o → is_in bytes_cmp (with_string o (strings_of es ns)) s ≡ (eq_by_cmp nat_cmp k n || is_in nat_cmp ns k)) [
          | None ↦ λ free.
              numbered_in s k here ns
              ∙ ap (λ b. b || is_in nat_cmp ns k) (sym (unsigned_tied k n ∙ ne_eqb k n (λ same. some_none s (sym (two.there s k here) ∙ ap (string_of es) same ∙ free))))
          | Some t ↦ λ is. λ i. sym ((keeps_apart es two).same s t k n here (two.back t n is)) i || numbered_in s k here ns i
        ] refl

    pub strings_in : (s : List ℕ) (ns : List ℕ) (o : Option ℕ) → number_of es s ≡ o → is_in bytes_cmp (strings_of es ns) s ≡ at_key false (is_in nat_cmp ns) o
    strings_in s ns None none = unnumbered_in s none ns
    strings_in s ns (Some k) here = numbered_in s k here ns

-- ---- a failure

module _ {V O : Type 0} (es : Numbered) (a : Parts ℕ V O) (fits : Fits es a) (g : ℕ) (u : Undone ℕ) (took : TookBack nat_cmp a g u) where
  pub held_back : AllHeld es u.keys.items
  held_back n here none = true≢false (sym here ∙ took.keys n ∙ ap (λ log. has g (last_tags [] log)) (bare es a a fits n none).1)

  rests_on : (s : List ℕ) (o : Option ℕ) → at_key false (is_in nat_cmp u.keys.items) o ≡ has g (last_tags [] (at_key [] (log_at nat_cmp a.slots) o))
  rests_on s None = refl
  rests_on s (Some n) = took.keys n

  pub tells : (many : ℕ) → many ≡ length u.keys.items → TellsUndone (told_of es a) g many u.struck (strings_of es u.keys.items)
  tells many count = record {
    keys = λ s.
        strings_in es fits.two_way s u.keys.items (number_of es s) refl
        ∙ rests_on s (number_of es s)
        ∙ ap (λ log. has g (last_tags [] log)) (sym (log_told es a.slots s));
    count = count ∙ strings_length es u.keys.items held_back;
    struck = took.struck;
  }

module _ {V O : Type 0} (es : Numbered) (a b : Parts ℕ V O) (fits : Fits es a) (token : Token) (old : ByteView V O) (from : told_of es a ≡ old.parts) where
  pub failed_told : (u : Undone ℕ) (many : ℕ) → many ≡ length u.keys.items → inner.FailPost nat_cmp a token (Ok (failure.Done u)) b
      → (token.kernel ≡ old.parts.guesses.kernel) × TellsUndone old.parts token.id many u.struck (strings_of es u.keys.items) × FailsIn bytes_cmp old.parts token.id (told_of es b)
  failed_told u many count post = (
    post.0 ∙ ap (λ (m : Parts _ _ _). m.guesses.kernel) from,
    subst (λ (m : Parts _ _ _). TellsUndone m token.id many u.struck (strings_of es u.keys.items)) from (tells es a fits token.id u post.1 many count),
    subst (λ (m : Parts _ _ _). FailsIn bytes_cmp m token.id (told_of es b)) from (fails_told es fits.two_way a b token.id post.2),
  )

  pub gone_told : inner.FailPost nat_cmp a token (Ok failure.Gone) b → (token.kernel ≡ old.parts.guesses.kernel) × Forgets bytes_cmp old.parts token.id (told_of es b)
  gone_told post = (
    post.0 ∙ ap (λ (m : Parts _ _ _). m.guesses.kernel) from,
    subst (λ (m : Parts _ _ _). Forgets bytes_cmp m token.id (told_of es b)) from (forgets_told es fits.two_way a b token.id post.1),
  )

-- ---- a commit

module _ {V O : Type 0} (es : Numbered) (a b : Parts ℕ V O) (fits : Fits es a) (token : Token) where
  pub fits_decided : (r : Committed) → inner.CommitPost nat_cmp a token (Ok r) b → Fits es b
  fits_decided commit.Done post = fits_committed es a b fits token.id post.1
  fits_decided commit.Gone post = fits_forgot es a b fits token.id post.1

  pub commit_told : (r : Committed) (old new : ByteView V O) → told_of es a ≡ old.parts → told_of es b ≡ new.parts → inner.CommitPost nat_cmp a token (Ok r) b → inner.CommitPost bytes_cmp old.parts token (Ok r) new.parts
  commit_told commit.Done old new from to post = (
    post.0 ∙ ap (λ (m : Parts _ _ _). m.guesses.kernel) from,
    subst (λ (m : Parts _ _ _). Commits bytes_cmp m token.id new.parts) from
        (subst (λ (m : Parts _ _ _). Commits bytes_cmp (told_of es a) token.id m) to (commits_told es fits.two_way a b token.id post.1)),
  )
  commit_told commit.Gone old new from to post = (
    post.0 ∙ ap (λ (m : Parts _ _ _). m.guesses.kernel) from,
    subst (λ (m : Parts _ _ _). Forgets bytes_cmp m token.id new.parts) from
        (subst (λ (m : Parts _ _ _). Forgets bytes_cmp (told_of es a) token.id m) to (forgets_told es fits.two_way a b token.id post.1)),
  )
