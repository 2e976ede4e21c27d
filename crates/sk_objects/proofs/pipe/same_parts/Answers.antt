-- The parts are compared one after another.
use Rattle.sk_objects.proofs.Names.{◌≡◌, ◌≤◌, ◌++◌, Bool, true, false, List, ℕ, length, take, drop, rules, arith, sym}
use Rattle.sk_objects.proofs.Names.{ap, ◌∙◌, ◌&&◌, same_from_decides, same_bytes, exact_bytes}
use Rattle.sk_objects.proofs.Rings.{parts_decided}
use Rattle.sk_objects.proofs.pipe.same_parts.Goals as goal

-- the three tests are the test of the whole
whole : (a b c d : List ℕ) → length a ≤ length c → length (drop (length a) c) ≤ length b
    → (same_bytes a (take (length a) c) && (same_bytes (take (length (drop (length a) c)) b) (drop (length a) c) && same_bytes (drop (length (drop (length a) c)) b) d)) ≡ same_bytes (a ++ b) (c ++ d)
whole a b c d less long =
    same_from_decides (same_bytes a (take (length a) c) && (same_bytes (take (length (drop (length a) c)) b) (drop (length a) c) && same_bytes (drop (length (drop (length a) c)) b) d)) (same_bytes (a ++ b) (c ++ d))
    (parts_decided a b c d less long) (exact_bytes (a ++ b) (c ++ d))

first_fails : (p q r : Bool) → p ≡ false → (p && (q && r)) ≡ false
first_fails p q r h = ap (λ (b : Bool). b && (q && r)) h

second_fails : (p q r : Bool) → p ≡ true → q ≡ false → (p && (q && r)) ≡ false
second_fails p q r h k = ap (λ (b : Bool). b && (q && r)) h ∙ ap (λ (b : Bool). b && r) k

third_is : (p q r : Bool) → p ≡ true → q ≡ true → (p && (q && r)) ≡ r
third_is p q r h k = ap (λ (b : Bool). b && (q && r)) h ∙ ap (λ (b : Bool). b && r) k

pub returns-else-eq : goal.returns-else-eq
returns-else-eq c =
    let a = c.args.front.now in
    let b = c.args.rest.now in
    let s = c.args.start.now in
    let d = c.args.back.now in
    let n = length c.args.front.now in
    let m = length (drop (length c.args.front.now) c.args.start.now) in
    let long : length (drop (length c.args.front.now) c.args.start.now) ≤ length c.args.rest.now = omega (arith, c.if-rest-middle.false, ap length c.split_at.ensures.back) in
    let one : c.eq.result ≡ same_bytes a (take n s) = search rules in
    let no : c.eq.result ≡ false = search rules in
    no
    ∙ sym (first_fails (same_bytes a (take n s)) (same_bytes (take m b) (drop n s)) (same_bytes (drop m b) d) (sym one ∙ no))
    ∙ whole a b s d c.requires long

pub returns-else-eq-2 : goal.returns-else-eq-2
returns-else-eq-2 c =
    let a = c.args.front.now in
    let b = c.args.rest.now in
    let s = c.args.start.now in
    let d = c.args.back.now in
    let n = length c.args.front.now in
    let m = length (drop (length c.args.front.now) c.args.start.now) in
    let long : length (drop (length c.args.front.now) c.args.start.now) ≤ length c.args.rest.now = omega (arith, c.if-rest-middle.false, ap length c.split_at.ensures.back) in
    let middle : c.split_at.result.1.now ≡ drop n s = c.split_at.ensures.back in
    let one : c.eq.result ≡ same_bytes a (take n s) = search rules in
    let yes : c.eq.result ≡ true = search rules in
    let two : c.eq-then-eq.result ≡ same_bytes (take m b) (drop n s) = rw (sym middle) (search rules) in
    let no : c.eq-then-eq.result ≡ false = search rules in
    no
    ∙ sym (second_fails (same_bytes a (take n s)) (same_bytes (take m b) (drop n s)) (same_bytes (drop m b) d) (sym one ∙ yes) (sym two ∙ no))
    ∙ whole a b s d c.requires long

pub returns-then-eq-2 : goal.returns-then-eq-2
returns-then-eq-2 c =
    let a = c.args.front.now in
    let b = c.args.rest.now in
    let s = c.args.start.now in
    let d = c.args.back.now in
    let n = length c.args.front.now in
    let m = length (drop (length c.args.front.now) c.args.start.now) in
    let long : length (drop (length c.args.front.now) c.args.start.now) ≤ length c.args.rest.now = omega (arith, c.if-rest-middle.false, ap length c.split_at.ensures.back) in
    let middle : c.split_at.result.1.now ≡ drop n s = c.split_at.ensures.back in
    let one : c.eq.result ≡ same_bytes a (take n s) = search rules in
    let yes : c.eq.result ≡ true = search rules in
    let two : c.eq-then-eq.result ≡ same_bytes (take m b) (drop n s) = rw (sym middle) (search rules) in
    let yes2 : c.eq-then-eq.result ≡ true = search rules in
    let three : c.eq-then-eq-2.result ≡ same_bytes (drop m b) d = rw (sym middle) (search rules) in
    three
    ∙ sym (third_is (same_bytes a (take n s)) (same_bytes (take m b) (drop n s)) (same_bytes (drop m b) d) (sym one ∙ yes) (sym two ∙ yes2))
    ∙ whole a b s d c.requires long
