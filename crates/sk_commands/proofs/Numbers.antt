-- What is no decimal text of an integer, and what is.
use Rattle.sk_commands.proofs.Names.{◌≡◌, ℕ, ◌^◌, ◌<◌, Bool, true, false, ◌&&◌, ℤ, pos, negsuc, List, Option, Some}
use Rattle.sk_commands.proofs.Names.{None, Result, Ok, Err, if◌then◌else◌, bytes_eq, nat_lt, refl, sym, ap, subst, ◌∙◌}
use Rattle.sk_commands.proofs.Names.{FitsSigned, w64, arith, IfNone, result_ok, SomeIff, signed_decimal, IsUtf8}
use Rattle.sk_commands.proofs.Names.{signed_digits_value, ParsesSigned, nat_tests, IsUtf8-from_ascii, IsAscii-signed}
use Rattle.sk_commands.proofs.Names.{parse-signed_decimal, bytes_eq-Decides, fits, fitting, said_as, IsNoNumber, mag}
use Rattle.sk_commands.specs.Numbers.{number_of}

below : (n m : ℕ) → nat_lt n m ≡ true → n < m
below n m h = grind (arith, nat_tests)

is_below : (n m : ℕ) → n < m → nat_lt n m ≡ true
is_below n m h = grind (arith, nat_tests)

pub mag_fits : (z : ℤ) → fits z ≡ true → mag z < 2 ^ 63
mag_fits (pos n) h = below n (2 ^ 63) h
mag_fits (negsuc n) h = below n (2 ^ 63) h

pub fits_from : (z : ℤ) → FitsSigned w64 z → fits z ≡ true
fits_from (pos n) h = is_below n (2 ^ 63) h.sfits
fits_from (negsuc n) h = is_below n (2 ^ 63) h.sfits

pub no_utf8 : (text : List ℕ) → (IsUtf8 text → ⊥) → IsNoNumber text
no_utf8 text wrong z f e = wrong (subst IsUtf8 (sym e) (IsUtf8-from_ascii _ (IsAscii-signed z (mag_fits z f))))

pub no_parse : {E : Type 0} → (text : List ℕ) (why : E) → ParsesSigned w64 10 text (Err why) → IsNoNumber text
no_parse {E} text why parses z f e =
    let wrong : ◌≡◌ {A = Result ℤ E} (Err why) (Ok z) = parse-signed_decimal w64 z text (Err why) (record { sfits = mag_fits z f }) (mag_fits z f) e parses in cc

pub none_of_parse : {E : Type 0} → (text : List ℕ) (r : Result ℤ E) → ParsesSigned w64 10 text r → IfNone (result_ok r) (IsNoNumber text)
none_of_parse text (Ok n) h = tt
none_of_parse text (Err e) h = no_parse text e h

-- what is no decimal text is said as none
said_none : (z : ℤ) (a b : Bool) → (a ≡ true → b ≡ true → ⊥) → (if a && b then Some z else None) ≡ None
said_none z true true wrong = absurd (wrong refl refl)
said_none z true false wrong = refl
said_none z false b wrong = refl

said_some : (z : ℤ) (a b : Bool) → a ≡ true → b ≡ true → (if a && b then Some z else None) ≡ Some z
said_some z true true f e = refl
said_some z true false f e = cc
said_some z false b f e = cc

pub number_none : (text : List ℕ) → IsNoNumber text → number_of text ≡ None
unfolding number_of
number_none text wrong =
    let z = signed_digits_value 10 text in
    said_none z (fits z) (bytes_eq text (signed_decimal z)) (λ f e. wrong z f ((bytes_eq-Decides text (signed_decimal z)).0 e))

pub number_other : (text : List ℕ) (n : ℤ) → n ≡ signed_digits_value 10 text → bytes_eq text (signed_decimal n) ≡ false → number_of text ≡ None
unfolding number_of
number_other text n is other =
    let z = signed_digits_value 10 text in
    said_none z (fits z) (bytes_eq text (signed_decimal z))
    (λ f e. let wrong : false ≡ true = sym other ∙ ap (λ w. bytes_eq text (signed_decimal w)) is ∙ e in cc)

pub number_some : (text : List ℕ) (n : ℤ) → n ≡ signed_digits_value 10 text → fits n ≡ true → bytes_eq text (signed_decimal n) ≡ true → number_of text ≡ Some n
unfolding number_of
number_some text n is f e = subst (λ z. said_as z text ≡ Some n) is (said_some n _ _ f e)

fits_or : (z : ℤ) (b : Bool) → fits z ≡ b → (FitsSigned w64 z → ⊥) → None ≡ (if b then Some z else None)
fits_or z true e wrong = absurd (wrong (record { sfits = mag_fits z e }))
fits_or z false e wrong = refl

-- what is there just where an integer has 64 bits
pub fitting_is : (r : Option ℤ) (z : ℤ) → SomeIff r (FitsSigned w64 z) z → r ≡ fitting z
fitting_is None z h = fits_or z (fits z) refl h
fitting_is (Some x) z h = ap Some h.1 ∙ sym (ap (λ b. if b then Some z else None) (fits_from z h.0))
