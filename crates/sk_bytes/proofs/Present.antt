-- The keys that are there are those whose numbers are, each once.
use Rattle.sk_bytes.proofs.Names.{◌≡◌, ℕ, Bool, false, List, [], ◌∷◌, Option, Some, None, refl, sym}
use Rattle.sk_bytes.proofs.Names.{◌∙◌, ap, is_some, list_any, nat_cmp, eq_by_cmp, true≢false, AllByRecursion, is_in}
use Rattle.sk_bytes.proofs.Names.{at_key, look_at, Numbered, bytes_cmp, number_of, string_of, Parts, strings_of, told_of}
use Rattle.sk_bytes.proofs.Names.{with_string, Fits}
use Rattle.std.proofs.lemmas.Bool.{or_from, or_parts}
use Rattle.std.specs.List.{IsDistinct}
use Rattle.std.proofs.lemmas.Map.Keys.{IsDistinct-cons, IsDistinct-head, IsDistinct-tail}
use Rattle.sk_slots.specs.Counted.{HasPresent}
use Rattle.sk_bytes.proofs.Told.{look_told}
use Rattle.sk_bytes.proofs.Fitting.{bare}
use Rattle.sk_bytes.proofs.Undone.{held_later, strings_in, strings_length, first_in, AllHeld}

-- none of these is equal to a key that is not among them
apart : {K : Type 0} (e : K → Bool) (ks : List K) → list_any e ks ≡ false → AllByRecursion (λ k. e k ≡ false) ks
apart e [] none = tt
apart e (k ∷ ks) none = let parts = or_parts (e k) (list_any e ks) none in (parts.0, apart e ks parts.1)

among_none : {K : Type 0} (e : K → Bool) (ks : List K) → AllByRecursion (λ k. e k ≡ false) ks → list_any e ks ≡ false
among_none e [] all = refl
among_none e (k ∷ ks) all = or_from (e k) (list_any e ks) all.0 (among_none e ks all.1)

module _ {V O : Type 0} (es : Numbered) (m : Parts ℕ V O) (fits : Fits es m) where
  strings_once : (ns : List ℕ) → AllHeld es ns → IsDistinct (eq_by_cmp nat_cmp) ns → IsDistinct (eq_by_cmp bytes_cmp) (strings_of es ns)
  unfolding IsDistinct
  strings_once [] held once = tt
  strings_once (n ∷ ns) held once =
      elim (string_of es n) as (λ o. string_of es n ≡ o → IsDistinct (eq_by_cmp bytes_cmp) (with_string o (strings_of es ns))) [
        | None ↦ λ none. absurd (held n (first_in n ns) none)
        | Some s ↦ λ is.
            IsDistinct-cons (eq_by_cmp bytes_cmp) s (strings_of es ns)
            (apart (eq_by_cmp bytes_cmp s) (strings_of es ns)
            (strings_in es fits.two_way s ns (Some n) (fits.two_way.back s n is) ∙ among_none (eq_by_cmp nat_cmp n) ns (IsDistinct-head (eq_by_cmp nat_cmp) n ns once)))
            (strings_once ns (held_later es n ns held) (IsDistinct-tail (eq_by_cmp nat_cmp) n ns once))
      ] refl

  pub present_told : (count : ℕ) → HasPresent nat_cmp (look_at nat_cmp m.slots) count → HasPresent bytes_cmp (look_at bytes_cmp (told_of es m).slots) count
  present_told count has = record {
    keys = strings_of es has.keys;
    once = strings_once has.keys held has.once;
    all = λ s. strings_in es fits.two_way s has.keys (number_of es s) refl ∙ there (number_of es s) ∙ ap is_some (sym (look_told es m.slots s));
    as_many = sym (strings_length es has.keys held) ∙ has.as_many;
  } where
    held : AllHeld es has.keys
    held n here none = true≢false (sym here ∙ has.all n ∙ ap is_some (bare es m m fits n none).0)

    there : (o : Option ℕ) → at_key false (is_in nat_cmp has.keys) o ≡ is_some (at_key None (look_at nat_cmp m.slots) o)
    there None = refl
    there (Some n) = has.all n
