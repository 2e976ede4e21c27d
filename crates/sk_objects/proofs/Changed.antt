-- A file's slots after a write, a cut and zeros at the end, and the bytes that are seen of them.
use Rattle.sk_objects.proofs.Names.{◌≡◌, ℕ, ◌+◌, ◌-◌, ◌*◌, ◌/◌, ◌%◌, ◌<◌, ◌≤◌, inl, inr, List, [], ◌∷◌, ◌++◌, length, get_or}
use Rattle.sk_objects.proofs.Names.{take, replicate, arith, sym, ap, ◌∙◌, cases_lt, length-append, append-nil}
use Rattle.sk_objects.proofs.Names.{length-take, length-take-le, get_or_append_left, get_or-append_right, get_or-take}
use Rattle.sk_objects.proofs.Names.{get_or_past, get_or_default, take-take, All-take, All-append, All-cons, overwritten, written, cut, joined}
use Rattle.sk_objects.proofs.Names.{subst, AreBlocks, AreSlots, IsZeroFrom}
use Rattle.std.specs.Prelude.{Result, Ok, Err, OnErr}
use Rattle.sk_objects.proofs.Bytes.{overwritten_behind, length_written, length_cut, cut_before, same_bytes}
use Rattle.sk_objects.proofs.Joined.{length_joined, joined_append, take_joined, blanks_are}
use Rattle.sk_objects.proofs.Seen.{all_len, seen_len, seen_at, written_slots, start_len, start_at}

-- what holds in any case holds of an error
pub on_err : {T E P : Type 0} (r : Result T E) → P → OnErr r P
on_err (Ok x) p = tt
on_err (Err e) p = p

module _ (ss : List (List ℕ)) (size : ℕ) (slots : AreSlots ss size) where
  -- bytes written over those of the slots
  module _ (at : ℕ) (b : List ℕ) (new : List (List ℕ)) (after : ℕ) (end : at + length b ≤ 512 * length ss) (blocks : AreBlocks new) (many : length new ≡ length ss) (bytes : joined new ≡ overwritten (joined ss) at b) (is : after ≡ size + (at + length b - size)) where
    pub written_are : AreSlots new after
    written_are = record {
      few = omega (arith, many, slots.few);
      blocks = blocks;
      covers = omega (arith, many, is, end, slots.covers);
      rest = λ i h.
          ap (λ (l : List ℕ). get_or l i 0) bytes
          ∙ overwritten_behind (joined ss) b at (omega (arith, all_len ss size slots, end)) i 0 (omega (arith, is, h))
          ∙ slots.rest i (omega (arith, is, h));
    }

    pub written_seen : take after (joined new) ≡ written (take size (joined ss)) at b
    written_seen =
        let f = take size (joined ss) in
        let t_len : length (take after (joined new)) ≡ after = length-take-le after (joined new) (omega (arith, length_joined new blocks, written_are.covers)) in
        let w_len : after ≡ length (written f at b) = is ∙ sym (length_written f b at ∙ ap (λ (n : ℕ). n + (at + length b - n)) (seen_len ss size slots)) in
        same_bytes (take after (joined new)) (written f at b) (t_len ∙ w_len)
        (λ i h.
        get_or-take after (joined new) i 0 (omega (arith, t_len))
        ∙ ap (λ (l : List ℕ). get_or l i 0) bytes
        ∙ sym (written_slots ss size slots at b end i))

  -- the slots with another length, past which there are zeros alone
  module _ (n : ℕ) (long : n ≤ 512 * length ss) (more : size ≤ n) where
    pub extended_are : AreSlots ss n
    extended_are = record {
      few = slots.few;
      blocks = slots.blocks;
      covers = long;
      rest = λ i h. slots.rest i (omega (arith, more, h));
    }

    pub extended_seen : take n (joined ss) ≡ cut (take size (joined ss)) n
    extended_seen =
        let f = take size (joined ss) in
        let full : length (take n (joined ss)) ≡ n = length-take-le n (joined ss) (omega (arith, all_len ss size slots, long)) in
        same_bytes (take n (joined ss)) (cut f n) (full ∙ sym (length_cut f n))
        (λ i h. get_or-take n (joined ss) i 0 (omega (arith, full)) ∙ sym (seen_at ss size slots i) ∙ sym (cut_before f n i (omega (arith, full))))

  -- the slots with a length from which on there were zeros alone
  module _ (n : ℕ) (within : n ≤ size) (zeros : IsZeroFrom n (take size (joined ss))) where
    pub shrunk_are : AreSlots ss n
    shrunk_are = record {
      few = slots.few;
      blocks = slots.blocks;
      covers = omega (arith, within, slots.covers);
      rest = λ i h. sym (seen_at ss size slots i) ∙ zeros i h;
    }

    pub shrunk_seen : take n (joined ss) ≡ take n (take size (joined ss))
    shrunk_seen = sym (take-take n size (joined ss) within)

  -- the slots up to a cut, the last with zeros from there on
  module _ (n : ℕ) (less : n < size) (start : List ℕ) (made : start ≡ take (n % 512) (get_or ss (n / 512) []) ++ replicate (512 - n % 512) 0) (new : List (List ℕ)) (is : new ≡ take (n / 512) ss ++ start ∷ []) where
    there : n / 512 < length ss
    there = omega (arith, less, slots.covers)

    low : n % 512 < 512
    low = omega arith

    block_is : get_or ss (n / 512) [] ≡ get_or ss (n / 512) (get_or ss (n / 512) [])
    block_is = get_or_default ss (n / 512) [] (get_or ss (n / 512) []) there

    full : length start ≡ 512
    full = start_len ss slots.blocks (n / 512) (n % 512) there low (get_or ss (n / 512) []) start block_is made

    front_len : length (joined (take (n / 512) ss)) ≡ 512 * (n / 512)
    front_len =
        length_joined (take (n / 512) ss) (All-take (λ (b : List ℕ). length b ≡ 512) (n / 512) ss slots.blocks)
        ∙ ap (λ (k : ℕ). 512 * k) (length-take-le (n / 512) ss (omega (arith, there)))

    parts : joined new ≡ joined (take (n / 512) ss) ++ start
    parts = ap joined is ∙ joined_append (take (n / 512) ss) (start ∷ []) ∙ ap (λ (l : List ℕ). joined (take (n / 512) ss) ++ l) (append-nil start)

    cut_at : (i : ℕ) → get_or (joined new) i 0 ≡ get_or (take n (joined ss)) i 0
    cut_at i =
        let front = joined (take (n / 512) ss) in
        ap (λ (l : List ℕ). get_or l i 0) parts
        ∙ elim (cases_lt i (512 * (n / 512))) [
          | inl h ↦
              get_or_append_left front start 0 i (omega (arith, front_len, h))
              ∙ ap (λ (l : List ℕ). get_or l i 0) (sym (take_joined ss (n / 512) slots.blocks (omega (arith, there))))
              ∙ get_or-take (512 * (n / 512)) (joined ss) i 0 h
              ∙ sym (get_or-take n (joined ss) i 0 (omega (arith, h)))
          | inr h ↦
              get_or-append_right front start (512 * (n / 512)) i 0 front_len h
              ∙ elim (cases_lt (i - 512 * (n / 512)) 512) [
                | inl k ↦
                    let place : 512 * (n / 512) + (i - 512 * (n / 512)) ≡ i = omega (arith, h) in
                    let size : 512 * (n / 512) + n % 512 ≡ n = omega arith in
                    start_at ss slots.blocks (n / 512) (n % 512) there low (get_or ss (n / 512) []) start block_is made (i - 512 * (n / 512)) k
                    ∙ ap (λ (j : ℕ). get_or (take (512 * (n / 512) + n % 512) (joined ss)) j 0) place
                    ∙ ap (λ (m : ℕ). get_or (take m (joined ss)) i 0) size
                | inr k ↦
                    get_or_past start (i - 512 * (n / 512)) 0 (omega (arith, full, k))
                    ∙ sym (get_or_past (take n (joined ss)) i 0 (omega (arith, length-take n (joined ss), h, k)))
              ]
        ]

    pub cut_are : AreSlots new n
    cut_are =
        let count : length new ≡ n / 512 + 1 = ap length is ∙ length-append (take (n / 512) ss) (start ∷ []) ∙ ap (λ (k : ℕ). k + 1) (length-take-le (n / 512) ss (omega (arith, there))) in
        record {
          few = omega (arith, count, there, slots.few);
          blocks = subst AreBlocks (sym is)
              (All-append (λ (b : List ℕ). length b ≡ 512) (take (n / 512) ss) (start ∷ [])
              (All-take (λ (b : List ℕ). length b ≡ 512) (n / 512) ss slots.blocks)
              (All-cons (λ (b : List ℕ). length b ≡ 512) start [] full (blanks_are 0)));
          covers = omega (arith, count);
          rest = λ i h. cut_at i ∙ get_or_past (take n (joined ss)) i 0 (omega (arith, length-take n (joined ss), h));
        }

    pub cut_seen : take n (joined new) ≡ cut (take size (joined ss)) n
    cut_seen =
        let f = take size (joined ss) in
        let t_len : length (take n (joined new)) ≡ n = length-take-le n (joined new) (omega (arith, length_joined new cut_are.blocks, cut_are.covers)) in
        same_bytes (take n (joined new)) (cut f n) (t_len ∙ sym (length_cut f n))
        (λ i h.
        get_or-take n (joined new) i 0 (omega (arith, t_len))
        ∙ cut_at i
        ∙ get_or-take n (joined ss) i 0 (omega (arith, t_len))
        ∙ sym (seen_at ss size slots i)
        ∙ sym (cut_before f n i (omega (arith, t_len))))
