-- What a frame's head says of the bytes behind it.
use Rattle.sk_log.proofs.Names.{append_assoc, ◌≡◌, ℕ, ◌+◌, ◌*◌, ◌/◌, ◌%◌, ◌<◌, ◌≤◌, ◌^◌, List, ◌++◌, length, slice_index, take, drop}
use Rattle.sk_log.proofs.Names.{refl, sym, ◌∙◌, ap, arith, length-append, take-append-drop, drop-drop, length-take-le}
use Rattle.sk_log.proofs.Names.{head, frame}
use Rattle.sk_log.specs.Frame.{digits, head_of}
use Rattle.sk_log.proofs.Digits.{length-head}
use Rattle.sk_log.proofs.Fade.{same_parts}

pub says_len : (segment number len total : ℕ) (bytes : List ℕ) → len < 2 ^ 28 → bytes ≡ head_of segment number len total
    → slice_index bytes 12 % 128 + 128 * (slice_index bytes 13 % 128 + 128 * (slice_index bytes 14 % 128 + 128 * (slice_index bytes 15 % 128))) ≡ len
unfolding head_of digits
says_len segment number len total bytes short is =
    let a : slice_index bytes 12 ≡ 128 + len % 128 = ap (λ (xs : List ℕ). slice_index xs 12) is in
    let b : slice_index bytes 13 ≡ 128 + len / 128 % 128 = ap (λ (xs : List ℕ). slice_index xs 13) is in
    let c : slice_index bytes 14 ≡ 128 + len / 128 / 128 % 128 = ap (λ (xs : List ℕ). slice_index xs 14) is in
    let d : slice_index bytes 15 ≡ 128 + len / 128 / 128 / 128 % 128 = ap (λ (xs : List ℕ). slice_index xs 15) is in
    omega (arith, a, b, c, d)

pub says_total : (segment number len total : ℕ) (bytes : List ℕ) → total < 2 ^ 42 → bytes ≡ head_of segment number len total
    → slice_index bytes 16 % 128 + 128 * (slice_index bytes 17 % 128 + 128 * (slice_index bytes 18 % 128))
    + 128 * 128 * 128 * (slice_index bytes 19 % 128 + 128 * (slice_index bytes 20 % 128 + 128 * (slice_index bytes 21 % 128))) ≡ total
unfolding head_of digits
says_total segment number len total bytes small is =
    let a : slice_index bytes 16 ≡ 128 + total % 128 = ap (λ (xs : List ℕ). slice_index xs 16) is in
    let b : slice_index bytes 17 ≡ 128 + total / 128 % 128 = ap (λ (xs : List ℕ). slice_index xs 17) is in
    let c : slice_index bytes 18 ≡ 128 + total / 128 / 128 % 128 = ap (λ (xs : List ℕ). slice_index xs 18) is in
    let d : slice_index bytes 19 ≡ 128 + total / 128 / 128 / 128 % 128 = ap (λ (xs : List ℕ). slice_index xs 19) is in
    let e : slice_index bytes 20 ≡ 128 + total / 128 / 128 / 128 / 128 % 128 = ap (λ (xs : List ℕ). slice_index xs 20) is in
    let f : slice_index bytes 21 ≡ 128 + total / 128 / 128 / 128 / 128 / 128 % 128 = ap (λ (xs : List ℕ). slice_index xs 21) is in
    omega (arith, a, b, c, d, e, f)

pub length-frame : (segment number : ℕ) (p : List ℕ) → length (frame segment number p) ≡ 24 + length p
length-frame segment number p = omega (arith, length-append (head segment number p) p, length-head segment number p)

pub says_number : (segment number len total : ℕ) (bytes : List ℕ) → number < 2 ^ 56 → bytes ≡ head_of segment number len total
    → slice_index bytes 4 % 128 + 128 * (slice_index bytes 5 % 128 + 128 * (slice_index bytes 6 % 128 + 128 * (slice_index bytes 7 % 128)))
    + 128 * 128 * 128 * 128 * (slice_index bytes 8 % 128 + 128 * (slice_index bytes 9 % 128 + 128 * (slice_index bytes 10 % 128 + 128 * (slice_index bytes 11 % 128)))) ≡ number
unfolding head_of digits
says_number segment number len total bytes small is =
    let a : slice_index bytes 4 ≡ 128 + number % 128 = ap (λ (xs : List ℕ). slice_index xs 4) is in
    let b : slice_index bytes 5 ≡ 128 + number / 128 % 128 = ap (λ (xs : List ℕ). slice_index xs 5) is in
    let c : slice_index bytes 6 ≡ 128 + number / 128 / 128 % 128 = ap (λ (xs : List ℕ). slice_index xs 6) is in
    let d : slice_index bytes 7 ≡ 128 + number / 128 / 128 / 128 % 128 = ap (λ (xs : List ℕ). slice_index xs 7) is in
    let e : slice_index bytes 8 ≡ 128 + number / 128 / 128 / 128 / 128 % 128 = ap (λ (xs : List ℕ). slice_index xs 8) is in
    let f : slice_index bytes 9 ≡ 128 + number / 128 / 128 / 128 / 128 / 128 % 128 = ap (λ (xs : List ℕ). slice_index xs 9) is in
    let g : slice_index bytes 10 ≡ 128 + number / 128 / 128 / 128 / 128 / 128 / 128 % 128 = ap (λ (xs : List ℕ). slice_index xs 10) is in
    let h : slice_index bytes 11 ≡ 128 + number / 128 / 128 / 128 / 128 / 128 / 128 / 128 % 128 = ap (λ (xs : List ℕ). slice_index xs 11) is in
    omega (arith, a, b, c, d, e, f, g, h)

-- What a frame's bytes begin with, where at least a head's are there.
pub parts_there : (segment number : ℕ) (bytes later p more : List ℕ) → 24 ≤ length bytes → bytes ++ later ≡ frame segment number p ++ more
    → (take 24 bytes ≡ head segment number p) × (drop 24 bytes ++ later ≡ p ++ more)
parts_there segment number bytes later p more long is =
    let split : bytes ++ later ≡ take 24 bytes ++ (drop 24 bytes ++ later) = ap (λ xs. xs ++ later) (sym (take-append-drop 24 bytes)) ∙ append_assoc (take 24 bytes) (drop 24 bytes) later in
    same_parts 24 (take 24 bytes) (head segment number p) (drop 24 bytes ++ later) (p ++ more) (length-take-le 24 bytes long) (length-head segment number p)
    (sym split ∙ is ∙ append_assoc (head segment number p) p more)

pub payload_there : (body later p more : List ℕ) → length p ≤ length body → body ++ later ≡ p ++ more → take (length p) body ≡ p
payload_there body later p more long is =
    let n = length p in
    let split : body ++ later ≡ take n body ++ (drop n body ++ later) = ap (λ xs. xs ++ later) (sym (take-append-drop n body)) ∙ append_assoc (take n body) (drop n body) later in
    (same_parts n (take n body) p (drop n body ++ later) more (length-take-le n body long) refl (sym split ∙ is)).0

-- A frame that the bytes begin, or may begin, is at least as long as its head and payload.
pub frame_length : (segment number : ℕ) (bytes p more : List ℕ) → bytes ≡ frame segment number p ++ more → 24 + length p ≤ length bytes
frame_length segment number bytes p more is = omega (arith, ap length is, length-append (frame segment number p) more, length-frame segment number p)

-- The head of what stands behind it is there, so that frame stands here.
pub frame_there : (segment number len : ℕ) (bytes : List ℕ) → take 24 bytes ≡ head segment number (take len (drop 24 bytes))
    → bytes ≡ frame segment number (take len (drop 24 bytes)) ++ drop (24 + len) bytes
frame_there segment number len bytes is =
    let body = take len (drop 24 bytes) in
    let behind : drop 24 bytes ≡ body ++ drop (24 + len) bytes = sym (take-append-drop len (drop 24 bytes)) ∙ ap (λ t. body ++ t) (drop-drop len 24 bytes) in
    sym (take-append-drop 24 bytes) ∙ (λ i. is i ++ behind i) ∙ sym (append_assoc (head segment number body) body (drop (24 + len) bytes))
