-- The keys that have numbers are just those of which anything is known, each once.
use Rattle.sk_bytes.proofs.Names.{◌≡◌, ℕ, true, false, List, [], ◌∷◌, length, Option, Some, None, cond, refl, sym, ap}
use Rattle.sk_bytes.proofs.Names.{◌∙◌, ◌||◌, Bool, is_some, nat_cmp, eq_by_cmp, length-map, is_in, at_key, look_at}
use Rattle.sk_bytes.proofs.Names.{log_at, Numbered, bytes_cmp, number_of, string_of, AreApart, some_none, Parts, names}
use Rattle.sk_bytes.proofs.Names.{strings_of, told_of, IsTold, AreOnce, Counts, HasPlaces}
use Rattle.sk_bytes.proofs.Told.{log_told, look_told, none_shown}
use Rattle.sk_bytes.proofs.Fitting.{shown_none}
use Rattle.sk_bytes.proofs.Undone.{strings_in}

in_names : (es : Numbered) (q : List ℕ) → is_in bytes_cmp (names es) q ≡ is_some (number_of es q)
in_names [] q = refl
in_names (e ∷ es) q =
    elim (eq_by_cmp bytes_cmp q e.0)
    as (λ b. (b || is_in bytes_cmp (names es) q) ≡ is_some (cond b (Some e.1) (number_of es q))) [
      | true ↦ refl
      | false ↦ in_names es q
    ]

once : (es : Numbered) → AreApart es → AreOnce (names es)
once [] apart = tt
once (e ∷ es) apart = (in_names es e.0 ∙ ap is_some apart.0, once es apart.1)

module _ {V O : Type 0} (es : Numbered) (m : Parts ℕ V O) (undone : List ℕ) (told : IsTold es m undone) where
  -- of a key without a number nothing is known
  without : (k : List ℕ) → number_of es k ≡ None → (look_at bytes_cmp (told_of es m).slots k ≡ None)
      × (log_at bytes_cmp (told_of es m).slots k ≡ []) × (is_in bytes_cmp (strings_of es undone) k ≡ false)
  without k none = (
    look_told es m.slots k ∙ ap (at_key None (look_at nat_cmp m.slots)) none,
    log_told es m.slots k ∙ ap (at_key [] (log_at nat_cmp m.slots)) none,
    strings_in es told.fits.two_way k undone None none,
  )

  -- a key with one that is absent and depends on nothing was taken back
  taken_back : (k : List ℕ) (n : ℕ) → number_of es k ≡ Some n → look_at bytes_cmp (told_of es m).slots k ≡ None
      → log_at bytes_cmp (told_of es m).slots k ≡ [] → (b : Bool) → is_in nat_cmp undone n ≡ b → is_in nat_cmp undone n ≡ true
  taken_back k n here absent rests true is = is
  taken_back k n here absent rests false is =
      let look : look_at nat_cmp m.slots n ≡ None =
      sym (look_told es m.slots k ∙ ap (at_key None (look_at nat_cmp m.slots)) here) ∙ absent in
      let log : log_at nat_cmp m.slots n ≡ [] =
      sym (log_told es m.slots k ∙ ap (at_key [] (log_at nat_cmp m.slots)) here) ∙ rests in
      some_none k (sym (told.fits.two_way.there k n here) ∙ told.needed n is (none_shown m.slots n look log))

  all_of : (k : List ℕ) (o : Option ℕ) → number_of es k ≡ o → is_some o ≡ false
      → (look_at bytes_cmp (told_of es m).slots k ≡ None)
      × (log_at bytes_cmp (told_of es m).slots k ≡ []) × (is_in bytes_cmp (strings_of es undone) k ≡ false)
  all_of k None is out = without k is
  all_of k (Some n) is out = absurd (cc)

  some_of : (k : List ℕ) (o : Option ℕ) → number_of es k ≡ o → is_some o ≡ true
      → look_at bytes_cmp (told_of es m).slots k ≡ None → log_at bytes_cmp (told_of es m).slots k ≡ []
      → is_in bytes_cmp (strings_of es undone) k ≡ true
  some_of k None is here absent rests = absurd (cc)
  some_of k (Some n) is here absent rests =
      strings_in es told.fits.two_way k undone (Some n) is
      ∙ taken_back k n is absent rests (is_in nat_cmp undone n) refl

  pub has_places : HasPlaces (record { parts = told_of es m; undone = strings_of es undone; keys = es })
  has_places = record {
    two_way = told.fits.two_way;
    all = λ k none. without k none;
    some = λ k place here. some_of k (Some place) here refl;
  }

  pub value_in_place : (n : ℕ) → look_at nat_cmp m.slots n ≡ at_key None (look_at bytes_cmp (told_of es m).slots) (string_of es n)
  value_in_place n = by_string (string_of es n) refl where
    by_string : (o : Option (List ℕ)) → string_of es n ≡ o → look_at nat_cmp m.slots n ≡ at_key None (look_at bytes_cmp (told_of es m).slots) o
    by_string None none = (shown_none (look_at nat_cmp m.slots n) (log_at nat_cmp m.slots n) (told.fits.used n none)).0
    by_string (Some s) is = sym (look_told es m.slots s ∙ ap (at_key None (look_at nat_cmp m.slots)) (told.fits.two_way.back s n is))

  pub counts : AreApart es → Counts (record { parts = told_of es m; undone = strings_of es undone; keys = es }) (length es)
  counts apart = record {
    keys = names es;
    count = sym (length-map es (λ (e : List ℕ × ℕ). e.0));
    once = once es apart;
    all = λ k out. all_of k (number_of es k) refl (sym (in_names es k) ∙ out);
    some = λ k here. some_of k (number_of es k) refl (sym (in_names es k) ∙ here);
  }
