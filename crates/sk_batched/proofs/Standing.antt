-- Keys that stand for all others: the first that depends on each guess and is no batch's.
use Rattle.sk_batched.proofs.Names.{◌≡◌, ℕ, zero, suc, ◌+◌, ◌<◌, ◌≤◌, Bool, true, false, cond, not, ◌||◌, List, [], ◌∷◌, ◌++◌}
use Rattle.sk_batched.proofs.Names.{length, take, Option, Some, None, refl, sym, ◌∙◌, ap, subst, arith, none-some}
use Rattle.sk_batched.proofs.Names.{suc-eq-add-one, list_any, filter, eq_by_cmp, true≢false, or_parts, or_from, or_cases}
use Rattle.sk_batched.proofs.Names.{false_from_ne_true, list_any-append, slice_index_or, has, last_tags, numbers}
use Rattle.sk_batched.proofs.Names.{log_at, bytes_cmp, same_bytes, Parts, ByteView, Token, is_reserved, tokens_of}
use Rattle.sk_batched.proofs.Names.{open_numbers, IsInStep, QueueView, inl, inr, ◌==◌, ◌⊎◌, eqb-true, or-false}
use Rattle.std.specs.List.{slice_get}
use Rattle.sk_bytes.specs.Calls.{resting_on, HasPlaces}
use Rattle.sk_bytes.specs.Numbers.{names}
use Rattle.sk_index.specs.Index.{number_of, Numbered}
use Rattle.sk_batched.specs.Barred.{guesses_of, is_barred, is_on, is_too_long, HasNoneBarred, StandFor, StandForAll, WithOneOn}
use Rattle.sk_batched.proofs.Rows.{numbers_alone}

-- ---- the first of a guess

abbrev pub is_free : List ℕ → Bool
is_free k = not (is_reserved k)

-- none is in this place that is no batch's
abbrev pub is_passed : Option (List ℕ) → Bool
is_passed None = true
is_passed (Some k) = is_reserved k

one_passed : (xs : List (List ℕ)) (i : ℕ) → is_passed (slice_get xs i) ≡ true → list_any is_free (take i xs) ≡ false → list_any is_free (take (suc i) xs) ≡ false
one_passed [] i is none = refl
one_passed (x ∷ xs) zero is none = or_from (is_free x) false (ap not is) refl
one_passed (x ∷ xs) (suc i) is none =
    let parts = or_parts (is_free x) (list_any is_free (take i xs)) none in
    or_from (is_free x) (list_any is_free (take (suc i) xs)) parts.0 (one_passed xs i is parts.1)

pub passed : (xs : List (List ℕ)) (i : ℕ) (o : Option (List ℕ)) → o ≡ slice_get xs i → is_passed o ≡ true → list_any is_free (take i xs) ≡ false → list_any is_free (take (i + 1) xs) ≡ false
passed xs i o at is none = ap (λ n. list_any is_free (take n xs)) (sym (suc-eq-add-one i)) ∙ one_passed xs i (ap is_passed (sym at) ∙ is) none

pub taken_all : (xs : List (List ℕ)) (i : ℕ) → length xs ≤ i → take i xs ≡ xs
taken_all [] zero le = refl
taken_all [] (suc i) le = refl
taken_all (x ∷ xs) zero le = absurd (omega (arith, le))
taken_all (x ∷ xs) (suc i) le = ap (λ r. x ∷ r) (taken_all xs i (omega (arith, le)))

kept_free : (b : Bool) (e : List ℕ × ℕ) (rest : Numbered) → list_any is_free (names (cond b (e ∷ rest) rest)) ≡ false → (b ≡ true → is_free e.0 ≡ false) × (list_any is_free (names rest) ≡ false)
kept_free true e rest none = let parts = or_parts (is_free e.0) (list_any is_free (names rest)) none in (λ is. parts.0, parts.1)
kept_free false e rest none = (λ is. absurd (true≢false (sym is)), none)

pub not_free : (b : Bool) → not b ≡ false → b ≡ true
not_free true is = refl
not_free false is = sym is

none_free : (es : Numbered) (test : List ℕ → Bool) (k : List ℕ) (n : ℕ) → number_of es k ≡ Some n → test k ≡ true → list_any is_free (names (filter (λ e. test e.0) es)) ≡ false → is_reserved k ≡ true
none_free [] test k n here is none = absurd (none-some n here)
none_free (e ∷ es) test k n here is none =
    elim (eq_by_cmp bytes_cmp k e.0) as (λ b. eq_by_cmp bytes_cmp k e.0 ≡ b → cond b (Some e.1) (number_of es k) ≡ Some n → is_reserved k ≡ true) [
      | true ↦ λ same at.
          let path : k ≡ e.0 = (same_bytes k e.0).0 same in
          ap is_reserved path ∙ not_free (is_reserved e.0) ((kept_free (test e.0) e (filter (λ f. test f.0) es) none).0 (ap test (sym path) ∙ is))
      | false ↦ λ other at. none_free es test k n at is (kept_free (test e.0) e (filter (λ f. test f.0) es) none).1
    ] refl here

key_or : List ℕ → Option (List ℕ) → List ℕ
key_or s None = s
key_or s (Some k) = k

first_on : (s : List ℕ) (rest : List (List ℕ)) (test : List ℕ → Bool) (k : List ℕ) (i : ℕ) → test s ≡ true → ((j : ℕ) → slice_get rest j ≡ Some k → test k ≡ true) → slice_get (s ∷ rest) i ≡ Some k → test k ≡ true
unfolding key_or
first_on s rest test k zero on later at = ap test (sym (ap (key_or s) at)) ∙ on
first_on s rest test k (suc j) on later at = later j at

found_on : (es : Numbered) (test : List ℕ → Bool) (i : ℕ) (k : List ℕ) → slice_get (names (filter (λ e. test e.0) es)) i ≡ Some k → test k ≡ true
found_on [] test i k is = absurd (none-some k is)
found_on (e ∷ es) test i k is =
    elim (test e.0) as (λ b. test e.0 ≡ b → slice_get (names (cond b (e ∷ filter (λ f. test f.0) es) (filter (λ f. test f.0) es))) i ≡ Some k → test k ≡ true) [
      | true ↦ λ on. first_on e.0 (names (filter (λ f. test f.0) es)) test k i on (λ j at. found_on es test j k at)
      | false ↦ λ off at. found_on es test i k at
    ] refl is

module _ {V O : Type 0} (b : ByteView V O) (g : ℕ) where
  pub is_found : (i : ℕ) (k : List ℕ) → Some k ≡ slice_get (resting_on b g) i → is_on b.parts g k ≡ true
  is_found i k at = found_on b.keys (is_on b.parts g) i k (sym at)

  pub none_on : HasPlaces b → list_any is_free (resting_on b g) ≡ false → (k : List ℕ) → is_reserved k ≡ false → is_on b.parts g k ≡ false
  none_on places none k plain = by_place (number_of b.keys k) refl where
    by_place : (o : Option ℕ) → number_of b.keys k ≡ o → is_on b.parts g k ≡ false
    by_place None is = ap (λ log. has g (last_tags [] log)) (places.all k is).1
    by_place (Some n) is =
        false_from_ne_true (is_on b.parts g k) (λ on. true≢false (sym (none_free b.keys (is_on b.parts g) k n is on none) ∙ plain))

-- ---- one more

module _ {V O : Type 0} (m : Parts (List ℕ) V O) (g : ℕ) (old : List (List ℕ)) where
  pub with_none : ((k : List ℕ) → is_reserved k ≡ false → is_on m g k ≡ false) → WithOneOn m g old old
  with_none none = record {
    plain = λ short is. is;
    kept = λ h is. is;
    one = λ k plain on. absurd (true≢false (sym on ∙ none k plain));
  }

  last_too : (test : List ℕ → Bool) (key : List ℕ) → test key ≡ true → list_any test (old ++ key ∷ []) ≡ true
  last_too test key is =
      list_any-append test old (key ∷ []) ∙ ap (λ b. list_any test old || (b || false)) is ∙ either (list_any test old) where
        either : (b : Bool) → (b || true) ≡ true
        either true = refl
        either false = refl

  pub with_one : (key : List ℕ) → is_reserved key ≡ false → is_on m g key ≡ true → WithOneOn m g old (old ++ key ∷ [])
  with_one key plain on = record {
    plain = λ short is.
        list_any-append is_barred old (key ∷ [])
        ∙ or_from (list_any is_barred old) (is_barred key || false) is (or_from (is_barred key) false (or_from (is_too_long key) (is_reserved key) (not_long short) plain) refl);
    kept = λ h is. list_any-append (is_on m h) old (key ∷ []) ∙ ap (λ b. b || (is_on m h key || false)) is;
    one = λ k free is. last_too (is_on m g) key on;
  } where
    not_long : ((k : List ℕ) → is_too_long k ≡ true → log_at bytes_cmp m.slots k ≡ []) → is_too_long key ≡ false
    not_long short =
        false_from_ne_true (is_too_long key) (λ long. true≢false (sym on ∙ ap (λ log. has g (last_tags [] log)) (short key long)))

-- ---- for each guess

-- the guesses of the first tokens
abbrev pub ids : List Token → ℕ → List ℕ
ids ts i = guesses_of (take i ts)

one_id : (ts : List Token) (i : ℕ) (t : Token) → i < length ts → t ≡ slice_index_or ts i t → (g : ℕ) → has g (ids ts (suc i)) ≡ (has g (ids ts i) || has g (t.id ∷ []))
one_id [] i t lt at g = absurd (omega arith)
one_id (x ∷ ts) zero t lt at g = ap (λ (y : Token). has g (y.id ∷ [])) (sym at)
one_id (x ∷ ts) (suc i) t lt at g = ap (λ b. (x.id == g) || b) (one_id ts i t (omega arith) at g) ∙ regroup (x.id == g) (has g (ids ts i)) (has g (t.id ∷ [])) where
  regroup : (a b c : Bool) → (a || (b || c)) ≡ ((a || b) || c)
  regroup true b c = refl
  regroup false b c = refl

module _ {V O : Type 0} (m : Parts (List ℕ) V O) where
  pub for_none : StandFor m [] []
  for_none = record { plain = refl; all = λ k g is plain on. absurd (true≢false (sym is)) }

  pub for_one_more : (ts : List Token) (i : ℕ) (t : Token) (old new : List (List ℕ)) → HasNoneBarred m → i < length ts → t ≡ slice_index_or ts i t → StandFor m (ids ts i) old → WithOneOn m t.id old new
      → StandFor m (ids ts (i + 1)) new
  for_one_more ts i t old new none lt at so_far more = record {
    plain = more.plain none.long so_far.plain;
    all = λ k g is plain on.
        among k g plain on (or_cases (has g (ids ts i)) (has g (t.id ∷ [])) (sym (one_id ts i t lt at g) ∙ ap (λ n. has g (ids ts n)) (suc-eq-add-one i) ∙ is));
  } where
    among : (k : List ℕ) (g : ℕ) → is_reserved k ≡ false → is_on m g k ≡ true → (has g (ids ts i) ≡ true) ⊎ (has g (t.id ∷ []) ≡ true) → list_any (is_on m g) new ≡ true
    among k g plain on (inl before) = more.kept g (so_far.all k g before plain on)
    among k g plain on (inr here) =
        let same : t.id ≡ g = eqb-true t.id g (sym (or-false (t.id == g)) ∙ here) in
        subst (λ h. list_any (is_on m h) new ≡ true) same (more.one k plain (subst (λ h. is_on m h k ≡ true) (sym same) on))

  ids_of : (kernel : ℕ) (ns : List ℕ) → guesses_of (tokens_of kernel ns) ≡ ns
  ids_of kernel [] = refl
  ids_of kernel (n ∷ ns) = ap (λ xs. n ∷ xs) (ids_of kernel ns)

  pub for_those : (ts : List Token) (i : ℕ) (keys : List (List ℕ)) → length ts ≡ i → StandFor m (ids ts i) keys → StandFor m (guesses_of ts) keys
  for_those ts i keys end so_far = subst (λ gs. StandFor m gs keys) (ap (ids ts) (sym end) ∙ ap guesses_of (take_whole ts)) so_far where
    take_whole : (xs : List Token) → take (length xs) xs ≡ xs
    take_whole [] = refl
    take_whole (x ∷ xs) = ap (λ r. x ∷ r) (take_whole xs)

  pub for_all : (q : QueueView) (begun : Bool) (ts : List Token) (keys : List (List ℕ)) → IsInStep m q begun ts → StandFor m (guesses_of ts) keys → StandForAll m keys
  for_all q begun ts keys h so_far =
      subst (λ gs. StandFor m gs keys)
      (ap guesses_of h.tokens_are ∙ ids_of m.guesses.kernel (open_numbers q begun) ∙ sym (numbers_alone (open_numbers q begun)) ∙ ap numbers (sym h.row.opens))
      so_far
