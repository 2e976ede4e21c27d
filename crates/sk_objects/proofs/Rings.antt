-- Rings: what turning on, writing round the end and reading do.
use Rattle.sk_objects.proofs.Names.{◌≡◌, ℕ, ◌+◌, ◌-◌, ◌<◌, ◌≤◌, inl, inr, Bool, true, false, List, [], ◌++◌, length}
use Rattle.sk_objects.proofs.Names.{take, drop, arith, refl, sym, ap, ap₂, ◌∙◌, take-add, zero-add, nat_lt}
use Rattle.sk_objects.proofs.Names.{if◌then◌else◌, ◌&&◌, Decides, take-append-add, drop-append-add, cases_lt, ltb-true}
use Rattle.sk_objects.proofs.Names.{ltb-false, lt-ltb, le-ltb, Decides-and, Decides-like, append_assoc, append-nil}
use Rattle.sk_objects.proofs.Names.{length-append, length-take-le, length-drop, take-append-drop, take-append-le}
use Rattle.sk_objects.proofs.Names.{take_at, drop_at, drop_all, drop-append-le, drop-drop, take-take, drop-take}
use Rattle.sk_objects.proofs.Names.{overwritten, turned, ring_bytes, wrapped, same_bytes, exact_bytes}

module _ (r : List ℕ) (h : ℕ) (in_ring : h ≤ length r) where
  front_len : length (take h r) ≡ h
  front_len = length-take-le h r in_ring

  back_len : length (drop h r) ≡ length r - h
  back_len = length-drop h r

  pub length_turned : length (turned h r) ≡ length r
  length_turned = length-append (drop h r) (take h r) ∙ omega (arith, front_len, back_len)

  -- those that stand up to the end
  pub turned_low : (n : ℕ) → h + n ≤ length r → take n (turned h r) ≡ take n (drop h r)
  turned_low n low = take-append-le n (drop h r) (take h r) (omega (arith, back_len))

  -- those that stand past it
  pub turned_high : (m : ℕ) → m ≤ h → take (length r - h + m) (turned h r) ≡ drop h r ++ take m r
  turned_high m high =
      ap (λ (k : ℕ). take (k + m) (turned h r)) (sym back_len) ∙ take-append-add (drop h r) (take h r) m ∙ ap (λ (l : List ℕ). drop h r ++ l) (take-take m h r high)

  turned_within : (n : ℕ) → h + n ≤ length r → turned (h + n) r ≡ turned n (turned h r)
  turned_within n low =
      rw (turned_low n low, drop-append-le n (drop h r) (take h r) (omega (arith, back_len)), drop-drop n h r, append_assoc, ← take-add h n r) refl

  turned_past : (n m : ℕ) → h + n ≡ length r + m → m ≤ h → turned m r ≡ turned n (turned h r)
  turned_past n m there high =
      let count : n ≡ length r - h + m = omega arith in
      let count2 : n ≡ length (drop h r) + m = omega (arith, back_len) in
      let behind : drop n (turned h r) ≡ drop m (take h r) = rw count2 (drop-append-add (drop h r) (take h r) m) in
      let before : take n (turned h r) ≡ drop h r ++ take m r = rw count (turned_high m high) in
      let whole : drop m r ≡ drop m (take h r) ++ drop h r = ap (drop m) (sym (take-append-drop h r)) ∙ drop-append-le m (take h r) (drop h r) (omega (arith, front_len)) in
      rw (behind, before, whole, append_assoc) refl

-- ---- turning on

wrapped_cases : (r : List ℕ) (h n : ℕ) (b : Bool) → length r ≡ 4096 → h < 4096 → n ≤ 4096 → nat_lt (h + n) 4096 ≡ b → turned (if b then h + n else h + n - 4096) r ≡ turned n (turned h r)
wrapped_cases r h n true long in_ring small e = turned_within r h (omega arith) n (omega (arith, ltb-true (h + n) 4096 e))
wrapped_cases r h n false long in_ring small e = turned_past r h (omega arith) n (h + n - 4096) (omega (arith, ltb-false (h + n) 4096 e)) (omega arith)

-- from a place that is wrapped
pub turned_on : (r : List ℕ) (h n : ℕ) → length r ≡ 4096 → h < 4096 → n ≤ 4096 → turned (wrapped (h + n)) r ≡ turned n (turned h r)
turned_on r h n long in_ring small = wrapped_cases r h n (nat_lt (h + n) 4096) long in_ring small refl

-- ---- writing

module _ (r b : List ℕ) (at : ℕ) where
  pub written_high : (c : List ℕ) → at + length b ≡ length r → length c ≤ at → turned at (overwritten (overwritten r at b) 0 c) ≡ (b ++ c) ++ drop (length (b ++ c)) (turned at r)
  written_high c fits small =
      let front : length (take at r) ≡ at = length-take-le at r (omega arith) in
      let none : drop (at + length b) r ≡ [] = drop_all (at + length b) r (omega arith) in
      let once : overwritten r at b ≡ take at r ++ b = rw (none, append-nil) refl in
      let left = drop (length c) (take at r) in
      let twice : overwritten (overwritten r at b) 0 c ≡ (c ++ left) ++ b = rw once (ap (λ (l : List ℕ). c ++ l) (ap (λ (n : ℕ). drop n (take at r ++ b)) (zero-add (length c)) ∙ drop-append-le (length c) (take at r) b (omega (arith, front))) ∙ sym (append_assoc c left b)) in
      let long : length (c ++ left) ≡ at = length-append c left ∙ omega (arith, length-drop (length c) (take at r), front) in
      let whole : turned at (overwritten (overwritten r at b) 0 c) ≡ b ++ (c ++ left) = rw twice (rw (drop_at (c ++ left) b at long, take_at (c ++ left) b at long) refl) in
      let count : length (b ++ c) ≡ length (drop at r) + length c = length-append b c ∙ omega (arith, length-drop at r) in
      let rest : drop (length (b ++ c)) (turned at r) ≡ left = rw count (drop-append-add (drop at r) (take at r) (length c)) in
      whole ∙ rw (rest, append_assoc) refl

-- ---- what the ring holds

module _ (r : List ℕ) (h n : ℕ) (long : length r ≡ 4096) (in_ring : h < 4096) where
  x_len : length (turned h r) ≡ 4096
  x_len = length_turned r h (omega arith) ∙ long

  -- bytes behind those that are held
  pub after_put : (b s : List ℕ) → length s ≡ 4096 → n + length b ≤ 4096 → turned (wrapped (h + n)) s ≡ b ++ drop (length b) (turned (wrapped (h + n)) r) → ring_bytes h (n + length b) s ≡ ring_bytes h n r ++ b
  after_put b s size fits write =
      let y = turned h s in
      let y_len : length y ≡ 4096 = length_turned s h (omega arith) ∙ size in
      let turns : turned n y ≡ b ++ drop (length b) (turned n (turned h r)) = sym (turned_on s h n size in_ring (omega arith)) ∙ write ∙ ap (λ (l : List ℕ). b ++ drop (length b) l) (turned_on r h n long in_ring (omega arith)) in
      let d_len : length (drop n (turned h r)) ≡ 4096 - n = length-drop n (turned h r) ∙ ap (λ (k : ℕ). k - n) x_len in
      let split : drop (length b) (turned n (turned h r)) ≡ drop (length b) (drop n (turned h r)) ++ take n (turned h r) = drop-append-le (length b) (drop n (turned h r)) (take n (turned h r)) (omega (arith, d_len)) in
      let both : drop n y ++ take n y ≡ (b ++ drop (length b) (drop n (turned h r))) ++ take n (turned h r) = turns ∙ ap (λ (l : List ℕ). b ++ l) split ∙ sym (append_assoc b (drop (length b) (drop n (turned h r))) (take n (turned h r))) in
      let e_len : length (drop n y) ≡ 4096 - n = length-drop n y ∙ ap (λ (k : ℕ). k - n) y_len in
      let f_len : length (b ++ drop (length b) (drop n (turned h r))) ≡ 4096 - n = length-append b (drop (length b) (drop n (turned h r))) ∙ omega (arith, length-drop (length b) (drop n (turned h r)), d_len) in
      let backs : drop n y ≡ b ++ drop (length b) (drop n (turned h r)) = sym (take_at (drop n y) (take n y) (4096 - n) e_len) ∙ ap (take (4096 - n)) both ∙ take_at (b ++ drop (length b) (drop n (turned h r))) (take n (turned h r)) (4096 - n) f_len in
      let fronts : take n y ≡ take n (turned h r) = sym (drop_at (drop n y) (take n y) (4096 - n) e_len) ∙ ap (drop (4096 - n)) both ∙ drop_at (b ++ drop (length b) (drop n (turned h r))) (take n (turned h r)) (4096 - n) f_len in
      take-add n (length b) y ∙ rw (fronts, backs) (ap (λ (l : List ℕ). take n (turned h r) ++ l) (take_at b (drop (length b) (drop n (turned h r))) (length b) refl))

  -- bytes taken from the front
  pub after_advance : (c : ℕ) → c ≤ n → n ≤ 4096 → ring_bytes (wrapped (h + c)) (n - c) r ≡ drop c (ring_bytes h n r)
  after_advance c some fits =
      let count : c + (n - c) ≡ n = omega arith in
      ap (take (n - c)) (turned_on r h c long in_ring (omega arith))
      ∙ take-append-le (n - c) (drop c (turned h r)) (take c (turned h r)) (omega (arith, length-drop c (turned h r), x_len))
      ∙ sym (drop-take c (n - c) (turned h r))
      ∙ ap (λ (k : ℕ). drop c (take k (turned h r))) count

-- bytes put in front of those that are held
pub after_put_back : (r s b : List ℕ) (h n at : ℕ) → length r ≡ 4096 → at < 4096 → n + length b ≤ 4096 → wrapped (at + length b) ≡ h → turned at s ≡ b ++ drop (length b) (turned at r) → ring_bytes at (n + length b) s ≡ b ++ ring_bytes h n r
after_put_back r s b h n at long in_ring fits there write =
    let y = turned at r in
    let y_len : length (turned at r) ≡ 4096 = length_turned r at (omega arith) ∙ long in
    let turns : turned h r ≡ turned (length b) (turned at r) = ap (λ (k : ℕ). turned k r) (sym there) ∙ turned_on r at (length b) long in_ring (omega arith) in
    let seen : ring_bytes h n r ≡ take n (drop (length b) (turned at r)) = ap (take n) turns ∙ take-append-le n (drop (length b) (turned at r)) (take (length b) (turned at r)) (omega (arith, length-drop (length b) (turned at r), y_len)) in
    let count : n + length b ≡ length b + n = omega arith in
    ap (take (n + length b)) write ∙ ap (λ (k : ℕ). take k (b ++ drop (length b) (turned at r))) count ∙ take-append-add b (drop (length b) (turned at r)) n ∙ ap (λ (l : List ℕ). b ++ l) (sym seen)

pub ring_len : (r : List ℕ) (h n : ℕ) → length r ≡ 4096 → h < 4096 → n ≤ 4096 → length (ring_bytes h n r) ≡ n
ring_len r h n long in_ring fits = length-take-le n (turned h r) (omega (arith, length_turned r h (omega arith)))

wrapped_low : (x : ℕ) → x < 4096 → wrapped x ≡ x
wrapped_low x h = rw (lt-ltb x 4096 h) refl

wrapped_high : (x : ℕ) → 4096 ≤ x → wrapped x ≡ x - 4096
wrapped_high x h = rw (le-ltb x 4096 h) refl

-- so many back, and as many on
pub wrapped_back : (h n : ℕ) → h < 4096 → n ≤ 4096 → wrapped (wrapped (h + 4096 - n) + n) ≡ h
wrapped_back h n in_ring fits = elim (cases_lt (h + 4096 - n) 4096) [
  | inl low ↦ ap (λ (x : ℕ). wrapped (x + n)) (wrapped_low (h + 4096 - n) low) ∙ wrapped_high (h + 4096 - n + n) (omega arith) ∙ omega arith
  | inr high ↦ ap (λ (x : ℕ). wrapped (x + n)) (wrapped_high (h + 4096 - n) high) ∙ wrapped_low (h + 4096 - n - 4096 + n) (omega arith) ∙ omega arith
]

-- ---- bytes in two parts

module _ (a b c d : List ℕ) (less : length a ≤ length c) where
  cut_front : a ++ b ≡ c ++ d → a ≡ take (length a) c
  cut_front e = sym (take_at a b (length a) refl) ∙ ap (take (length a)) e ∙ take-append-le (length a) c d less

  cut_back : a ++ b ≡ c ++ d → b ≡ drop (length a) c ++ d
  cut_back e = sym (drop_at a b (length a) refl) ∙ ap (drop (length a)) e ∙ drop-append-le (length a) c d less

  -- each part by itself
  pub parts_decided : length (drop (length a) c) ≤ length b
      → Decides (same_bytes a (take (length a) c) && (same_bytes (take (length (drop (length a) c)) b) (drop (length a) c) && same_bytes (drop (length (drop (length a) c)) b) d)) (a ++ b ≡ c ++ d)
  parts_decided long =
      let n = length a in
      let m = length (drop (length a) c) in
      Decides-like (same_bytes a (take n c) && (same_bytes (take m b) (drop n c) && same_bytes (drop m b) d))
      (λ h. ap₂ ◌++◌ h.0 (sym (take-append-drop m b) ∙ ap₂ ◌++◌ h.1.0 h.1.1) ∙ sym (append_assoc (take n c) (drop n c) d) ∙ ap (λ (l : List ℕ). l ++ d) (take-append-drop n c))
      (λ e. (
        cut_front e,
        (
          ap (take m) (cut_back e) ∙ take_at (drop n c) d m refl,
          ap (drop m) (cut_back e) ∙ drop_at (drop n c) d m refl,
        ),
      ))
      (Decides-and (same_bytes a (take n c)) (same_bytes (take m b) (drop n c) && same_bytes (drop m b) d) (exact_bytes a (take n c))
      (Decides-and (same_bytes (take m b) (drop n c)) (same_bytes (drop m b) d) (exact_bytes (take m b) (drop n c)) (exact_bytes (drop m b) d)))
