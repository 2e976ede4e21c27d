-- The test of names by which a word is read agrees with what a name is.
use Rattle.sk_words.proofs.Names.{◌≡◌, ◌↔◌, ℕ, List, Bool, true, false, cond, not, eqb, leb, length, Option, Some, None}
use Rattle.sk_words.proofs.Names.{Ok, Err, IfSome, IsSome, ok_or, refl, arith, ◌&&◌, list_all, ne_eqb, eqb-false}
use Rattle.sk_words.proofs.Names.{le-leb, leb-true, AllPass-from_list_all, list_all-from_AllPass, IsName, is_name_byte}
use Rattle.sk_words.proofs.Names.{is_name, name}
use Rattle.sk_words.specs.declared.fault.FaultKind.TheVariants as kinds

pub both : (a b : Bool) → (a && b) ≡ true → (a ≡ true) × (b ≡ true)
both true true e = (refl, refl)
both true false e = absurd cc
both false b e = absurd cc

turned : (b : Bool) → not b ≡ true → b ≡ false
turned true e = absurd cc
turned false e = refl

passes : (w : List ℕ) → IsName w → is_name w ≡ true
passes w h = rw (ne_eqb (length w) 0 (λ e. omega (arith, h.some)), le-leb (length w) 32 h.short, list_all-from_AllPass is_name_byte w h.letters) refl

named : (w : List ℕ) → is_name w ≡ true → IsName w
named w e =
    let a = both (not (eqb (length w) 0)) (leb (length w) 32 && list_all is_name_byte w) e in
    let b = both (leb (length w) 32) (list_all is_name_byte w) a.1 in
    let some = eqb-false (length w) 0 (turned (eqb (length w) 0) a.0) in
    record { some = omega (arith, some); short = leb-true (length w) 32 b.0; letters = AllPass-from_list_all is_name_byte w b.1 }

-- what `Name::new` answers is what the word says
pub name_said : (o : Option (List ℕ)) (w : List ℕ) → (IsSome o ↔ IsName w) → IfSome o (λ n. n ≡ w) → ok_or o kinds.Operand ≡ name w
name_said (Some n) w some is = rw (passes w (some.0 refl), is) refl
name_said None w some is =
    elim (is_name w) as (λ b. is_name w ≡ b → ok_or None kinds.Operand ≡ cond b (Ok w) (Err kinds.Operand)) [
      | true ↦ λ e. absurd (let t : false ≡ true = some.1 (named w e) in cc)
      | false ↦ λ e. refl
    ] refl
