-- A frame that lost bytes or bits is not read as a frame.
use Rattle.sk_log.proofs.Names.{append_assoc, ◌≡◌, ℕ, suc, ◌+◌, ◌-◌, ◌<◌, ◌≤◌, ◌^◌, List, [], ◌∷◌, ◌++◌, length, slice_index, take}
use Rattle.sk_log.proofs.Names.{drop, sum, refl, sym, ◌∙◌, ap, subst, inl, inr, arith, take_at, drop_at}
use Rattle.sk_log.proofs.Names.{get_or_append_left, get_or-append-add, get_or_past, sum_by-cons, cases_lt, digits}
use Rattle.sk_log.proofs.Names.{front, head, frame, IsFrame, IsFaded, Keeps}
use Rattle.sk_log.specs.Frame.{head_of}
use Rattle.sk_log.proofs.Digits.{length-digits, value, value-digits, limit-two, limit-four, limit-six, limit-eight, same_digits, length-front, sum-front, length-head}

-- What is lost is missing in the sum.
pub fade_sum : (written left : List ℕ) → length left ≡ length written → IsFaded written left → (sum left ≤ sum written) × (sum written ≤ sum left → left ≡ written)
fade_sum [] [] len faded = (omega arith, λ few. refl)
fade_sum [] (l ∷ ls) len faded = absurd (omega arith)
fade_sum (w ∷ ws) [] len faded = absurd (omega arith)
fade_sum (w ∷ ws) (l ∷ ls) len faded =
    let rest = fade_sum ws ls (omega arith) (λ i. faded (suc i)) in
    let a = sum_by-cons (λ x. x) w ws in
    let b = sum_by-cons (λ x. x) l ls in
    let at = faded 0 in
    (omega (arith, a, b, at, rest.0), λ few. let tail : ls ≡ ws = rest.1 (omega (arith, a, b, at)) in let same : l ≡ w = omega (arith, a, b, at, rest.0) in λ i. same i ∷ tail i)

value-faded : (written left : List ℕ) → length left ≡ length written → IsFaded written left → value left ≤ value written
value-faded [] [] len faded = omega arith
value-faded [] (l ∷ ls) len faded = absurd (omega arith)
value-faded (w ∷ ws) [] len faded = absurd (omega arith)
value-faded (w ∷ ws) (l ∷ ls) len faded = omega (arith, faded 0, value-faded ws ls (omega arith) (λ i. faded (suc i)))

-- Two lists that begin with parts of equal length are equal part by part.
pub same_parts : (n : ℕ) (a b c d : List ℕ) → length a ≡ n → length b ≡ n → a ++ c ≡ b ++ d → (a ≡ b) × (c ≡ d)
same_parts n a b c d len len' same = (sym (take_at a c n len) ∙ ap (take n) same ∙ take_at b d n len', sym (drop_at a c n len) ∙ ap (drop n) same ∙ drop_at b d n len')

-- Only what a front can say of the payload.
pub same_saying : (segment number len total segment' number' len' total' : ℕ) → len < 2 ^ 28 → len' < 2 ^ 28 → total < 2 ^ 42 → total' < 2 ^ 42
    → front segment number len total ≡ front segment' number' len' total' → (digits 4 segment ≡ digits 4 segment') × (digits 8 number ≡ digits 8 number') × (len ≡ len') × (total ≡ total')
same_saying segment number len total segment' number' len' total' short short' small small' same =
    let one = same_parts 4 (digits 4 segment) (digits 4 segment') _ _ (length-digits 4 segment) (length-digits 4 segment') same in
    let two = same_parts 8 (digits 8 number) (digits 8 number') _ _ (length-digits 8 number) (length-digits 8 number') one.1 in
    let three = same_parts 4 (digits 4 len) (digits 4 len') _ _ (length-digits 4 len) (length-digits 4 len') two.1 in (
      one.0,
      two.0,
      same_digits 4 len len' (omega (arith, limit-four)) (omega (arith, limit-four)) three.0,
      same_digits 6 total total' (omega (arith, limit-six)) (omega (arith, limit-six)) three.1,
    )

pub front_numbers : (segment number len total segment' number' len' total' : ℕ) → front segment number len total ≡ front segment' number' len' total' → digits 8 number ≡ digits 8 number'
front_numbers segment number len total segment' number' len' total' same =
    let one = same_parts 4 (digits 4 segment) (digits 4 segment') _ _ (length-digits 4 segment) (length-digits 4 segment') same in
    (same_parts 8 (digits 8 number) (digits 8 number') _ _ (length-digits 8 number) (length-digits 8 number') one.1).0

-- Heads that say the same have equal bytes, and the other way round.
pub same_heads : (segment number len total segment' number' len' total' : ℕ) → len < 2 ^ 28 → len' < 2 ^ 28 → total < 2 ^ 42 → total' < 2 ^ 42
    → head_of segment number len total ≡ head_of segment' number' len' total' → (digits 4 segment ≡ digits 4 segment') × (digits 8 number ≡ digits 8 number') × (len ≡ len') × (total ≡ total')
unfolding head_of
same_heads segment number len total segment' number' len' total' short short' small small' same =
    same_saying segment number len total segment' number' len' total' short short' small small'
    (same_parts 22 (front segment number len total) (front segment' number' len' total') _ _ (length-front segment number len total) (length-front segment' number' len' total') same).0

pub faded_tail : (front written more : List ℕ) → IsFaded (front ++ written) (front ++ more) → IsFaded written more
faded_tail front written more faded i = omega (arith, get_or-append-add front more i 0, get_or-append-add front written i 0, faded (length front + i))

pub faded_parts : (a b c d : List ℕ) → length a ≡ length b → IsFaded (a ++ c) (b ++ d) → IsFaded a b × IsFaded c d
faded_parts a b c d len faded = (
  λ i. elim (cases_lt i (length b)) [
    | inl low ↦ omega (arith, get_or_append_left a c 0 i (omega (arith, len)), get_or_append_left b d 0 i low, faded i)
    | inr past ↦ omega (arith, get_or_past b i 0 past)
  ],
  λ i.
      let at : length b + i ≡ length a + i = omega (arith, len) in
      let there : slice_index (b ++ d) (length a + i) ≡ slice_index d i = ap (slice_index (b ++ d)) (sym at) ∙ get_or-append-add b d i 0 in
      omega (arith, there, get_or-append-add a c i 0, faded (length a + i)),
)

-- What was lost of a head is told by the head.
pub faded_head : (segment number len total segment' number' len' total' : ℕ) → IsFaded (head_of segment number len total) (head_of segment' number' len' total')
    → front segment' number' len' total' ≡ front segment number len total
unfolding head_of
faded_head segment number len total segment' number' len' total' faded =
    let ours = front segment number len total in
    let theirs = front segment' number' len' total' in
    let c = 5632 - sum ours in
    let d = 5632 - sum theirs in
    let same_length : length ours ≡ length theirs = length-front segment number len total ∙ sym (length-front segment' number' len' total') in
    let parts = faded_parts ours theirs (digits 2 c) (digits 2 d) same_length faded in
    let less = value-faded (digits 2 c) (digits 2 d) (length-digits 2 d ∙ sym (length-digits 2 c)) parts.1 in
    let is_c = value-digits 2 c (omega (arith, limit-two)) in
    let is_d = value-digits 2 d (omega (arith, limit-two)) in
    (fade_sum ours theirs (sym same_length) parts.0).1 (omega (arith, less, is_c, is_d, sum-front segment number len total, sum-front segment' number' len' total'))

pub kept_tail : (front written more : List ℕ) (n : ℕ) → Keeps (length front + n) (front ++ written) (front ++ more) → Keeps n written more
kept_tail front written more n keeps i lt = sym (get_or-append-add front more i 0) ∙ keeps (length front + i) (omega arith) ∙ get_or-append-add front written i 0

-- What begins as a frame, where each byte is at most that of a frame, is that frame.
module _ (segment number segment' number' : ℕ) (f p after more : List ℕ) (made : IsFrame segment number f) (made' : IsFrame segment' number' p)
    (faded : IsFaded (frame segment number f ++ after) (frame segment' number' p ++ more)) where
  parts : IsFaded (head segment number f) (head segment' number' p) × IsFaded (f ++ after) (p ++ more)
  parts = faded_parts (head segment number f) (head segment' number' p) (f ++ after) (p ++ more) (length-head segment number f ∙ sym (length-head segment' number' p))
      (subst (λ l. IsFaded (head segment number f ++ (f ++ after)) l) (append_assoc (head segment' number' p) p more) (subst (λ w. IsFaded w (frame segment' number' p ++ more)) (append_assoc (head segment number f) f after) faded))

  all : (digits 4 segment' ≡ digits 4 segment) × (digits 8 number' ≡ digits 8 number) × (length p ≡ length f) × (sum p ≡ sum f)
  all = same_saying segment' number' (length p) (sum p) segment number (length f) (sum f) made'.short made.short made'.light made.light
      (faded_head segment number (length f) (sum f) segment' number' (length p) (sum p) parts.0)

  pub torn_is_told : (segment' ≡ segment) × (number' ≡ number) × (p ≡ f)
  torn_is_told = (
    same_digits 4 segment' segment (omega (arith, limit-four, made'.segment_small)) (omega (arith, limit-four, made.segment_small)) all.0,
    same_digits 8 number' number (omega (arith, limit-eight, made'.number_small)) (omega (arith, limit-eight, made.number_small)) all.1,
    (fade_sum f p all.2 (faded_parts f p after more (sym all.2) parts.1).0).1 (omega (arith, all.3)),
  )
