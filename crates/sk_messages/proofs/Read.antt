-- A reply is read from its bytes.
use Rattle.sk_messages.proofs.Names.{◌≡◌, ℕ, ◌<◌, ◌≤◌, ◌^◌, ◌&&◌, nat_lt, nat_le, cond, false, List, [], ◌∷◌, ◌++◌}
use Rattle.sk_messages.proofs.Names.{length, drop, Some, None, option_map, refl, ap, ◌∙◌, arith, le-ltb, le-leb, eq-eqb}
use Rattle.sk_messages.proofs.Names.{length-append, from_le_bytes-to_le_bytes_8, TEXT_LIMIT, ContentView, LAST_VERSION}
use Rattle.sk_messages.proofs.Names.{Answer, Yes, No, Copy, Reply, answer_of, content_in, content_of, kind_of}
use Rattle.sk_messages.proofs.Names.{reply_bytes, reply_from, reply_of, IsReply}
use Rattle.sk_messages.specs.Numbers.{number_at, number_bytes}

-- four numbers, and bytes behind them
abbrev message : ℕ → ℕ → ℕ → ℕ → List ℕ → List ℕ
message a b c d bytes = number_bytes (a ∷ b ∷ c ∷ d ∷ []) ++ bytes

first : (a b c d : ℕ) (bytes : List ℕ) → a < 2 ^ 64 → number_at 0 (message a b c d bytes) ≡ a
unfolding number_at number_bytes
first a b c d bytes fits = from_le_bytes-to_le_bytes_8 a fits

second : (a b c d : ℕ) (bytes : List ℕ) → b < 2 ^ 64 → number_at 1 (message a b c d bytes) ≡ b
unfolding number_at number_bytes
second a b c d bytes fits = from_le_bytes-to_le_bytes_8 b fits

third : (a b c d : ℕ) (bytes : List ℕ) → c < 2 ^ 64 → number_at 2 (message a b c d bytes) ≡ c
unfolding number_at number_bytes
third a b c d bytes fits = from_le_bytes-to_le_bytes_8 c fits

fourth : (a b c d : ℕ) (bytes : List ℕ) → d < 2 ^ 64 → number_at 3 (message a b c d bytes) ≡ d
unfolding number_at number_bytes
fourth a b c d bytes fits = from_le_bytes-to_le_bytes_8 d fits

behind : (a b c d : ℕ) (bytes : List ℕ) → drop 32 (message a b c d bytes) ≡ bytes
unfolding number_bytes
behind a b c d bytes = refl

in_front : (a b c d : ℕ) → length (number_bytes (a ∷ b ∷ c ∷ d ∷ [])) ≡ 32
unfolding number_bytes
in_front a b c d = refl

long : (a b c d : ℕ) (bytes : List ℕ) → nat_lt (length (message a b c d bytes)) 32 ≡ false
long a b c d bytes =
    le-ltb (length (message a b c d bytes)) 32 (omega (arith, length-append (number_bytes (a ∷ b ∷ c ∷ d ∷ [])) bytes, in_front a b c d))

-- the parts are read one by one
parts : (a b c d : ℕ) (bytes : List ℕ) → a < 2 ^ 64 → b < 2 ^ 64 → c < 2 ^ 64 → d < 2 ^ 64
    → reply_of (message a b c d bytes) ≡ reply_from a b c d bytes
parts a b c d bytes fa fb fc fd =
    let all = message a b c d bytes in
    ap (λ t. cond t None (reply_from (number_at 0 all) (number_at 1 all) (number_at 2 all) (number_at 3 all) (drop 32 all))) (long a b c d bytes)
    ∙ ap (λ n. reply_from n (number_at 1 all) (number_at 2 all) (number_at 3 all) (drop 32 all)) (first a b c d bytes fa)
    ∙ ap (λ n. reply_from a n (number_at 2 all) (number_at 3 all) (drop 32 all)) (second a b c d bytes fb)
    ∙ ap (λ n. reply_from a b n (number_at 3 all) (drop 32 all)) (third a b c d bytes fc)
    ∙ ap (λ n. reply_from a b c n (drop 32 all)) (fourth a b c d bytes fd)
    ∙ ap (λ rest. reply_from a b c d rest) (behind a b c d bytes)

content_is : (c : ContentView) → c.version ≤ LAST_VERSION → length c.bytes ≤ TEXT_LIMIT → content_of c.version c.bytes ≡ Some c
content_is c version short =
    ap (λ t. cond (t && nat_le (length c.bytes) TEXT_LIMIT) (Some c) None) (le-leb c.version LAST_VERSION version)
    ∙ ap (λ t. cond t (Some c) None) (le-leb (length c.bytes) TEXT_LIMIT short)

abbrev made : ℕ → Answer → Reply
made number answer = record { number = number; answer = answer }

whole : (number kind version : ℕ) (bytes : List ℕ) → reply_from number kind version (length bytes) bytes ≡ option_map (made number) (answer_of kind version bytes)
whole number kind version bytes =
    ap (λ t. cond t (option_map (made number) (answer_of kind version bytes)) None) (eq-eqb (length bytes) (length bytes) refl)

-- of each kind of answer
kinds : (number : ℕ) (answer : Answer) → (content_in answer).version ≤ LAST_VERSION → length (content_in answer).bytes ≤ TEXT_LIMIT
    → option_map (made number) (answer_of (kind_of answer) (content_in answer).version (content_in answer).bytes) ≡ Some (made number answer)
kinds number (No c) version short = ap (λ o. option_map (made number) (option_map No o)) (content_is c version short)
kinds number (Copy c) version short = ap (λ o. option_map (made number) (option_map Copy o)) (content_is c version short)
kinds number s version short = refl

kind_fits : (answer : Answer) → kind_of answer < 2 ^ 64
kind_fits Yes = omega arith
kind_fits s = omega arith

pub again : (r : Reply) → IsReply r → reply_of (reply_bytes r) ≡ Some r
again r (number, version, short) =
    let c = content_in r.answer in
    parts r.number (kind_of r.answer) c.version (length c.bytes) c.bytes number (kind_fits r.answer) (omega (arith, version)) (omega (arith, short))
    ∙ whole r.number (kind_of r.answer) c.version c.bytes
    ∙ kinds r.number r.answer version short
