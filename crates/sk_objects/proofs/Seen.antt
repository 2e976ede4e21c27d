-- A file's slots and the bytes that are seen of them.
use Rattle.sk_objects.proofs.Names.{◌≡◌, ℕ, ◌+◌, ◌-◌, ◌*◌, ◌<◌, ◌≤◌, inl, inr, Bool, false, List, ◌++◌, length, get_or}
use Rattle.sk_objects.proofs.Names.{take, drop, replicate, arith, refl, sym, ap, ap₂, subst, take-append-le, All-take}
use Rattle.sk_objects.proofs.Names.{All-append, ◌∙◌, take-add, Decides, cases_lt, false≢true, length-append}
use Rattle.sk_objects.proofs.Names.{length-replicate, get_or_append_left, get_or-append_right, length-take-le}
use Rattle.sk_objects.proofs.Names.{length-take, length-drop, drop-drop, drop-take, same_lists, take-take, take_all}
use Rattle.sk_objects.proofs.Names.{get_or-take, get_or-drop, get_or_past, All-get_or, overwritten, written, part}
use Rattle.sk_objects.proofs.Names.{joined, AreBlocks, blank, AreSlots}
use Rattle.sk_objects.proofs.Bytes.{overwritten_before, overwritten_in, overwritten_behind, written_before, written_in, written_behind, same_bytes, zeros_behind}
use Rattle.sk_objects.proofs.Joined.{length_joined, joined_append, take_joined, block_byte, blanks_are, joined_blanks}

module _ (ss : List (List ℕ)) (size : ℕ) (slots : AreSlots ss size) where
  pub all_len : length (joined ss) ≡ 512 * length ss
  all_len = length_joined ss slots.blocks

  pub small : size ≤ 32768
  small = omega (arith, slots.covers, slots.few)

  pub seen_len : length (take size (joined ss)) ≡ size
  seen_len = length-take-le size (joined ss) (omega (arith, all_len, slots.covers))

  pub seen_at : (i : ℕ) → get_or (take size (joined ss)) i 0 ≡ get_or (joined ss) i 0
  seen_at i = elim (cases_lt i size) [
    | inl h ↦ get_or-take size (joined ss) i 0 h
    | inr h ↦ get_or_past (take size (joined ss)) i 0 (omega (arith, seen_len)) ∙ sym (slots.rest i h)
  ]

  pub written_slots : (at : ℕ) (b : List ℕ) → at + length b ≤ 512 * length ss → (i : ℕ) → get_or (written (take size (joined ss)) at b) i 0 ≡ get_or (overwritten (joined ss) at b) i 0
  written_slots at b fits i =
      let room : at ≤ length (joined ss) = omega (arith, all_len) in
      elim (cases_lt i at) [
        | inl h ↦ written_before (take size (joined ss)) b at i h ∙ seen_at i ∙ sym (overwritten_before (joined ss) b at room i 0 h)
        | inr h ↦ elim (cases_lt i (at + length b)) [
          | inl k ↦ written_in (take size (joined ss)) b at i h k ∙ sym (overwritten_in (joined ss) b at room i 0 h k)
          | inr k ↦ written_behind (take size (joined ss)) b at i k ∙ seen_at i ∙ sym (overwritten_behind (joined ss) b at room i 0 k)
        ]
      ]

-- the first bytes of a block
pub block_part : (ss : List (List ℕ)) (k n : ℕ) (b : List ℕ) → AreBlocks ss → k < length ss → b ≡ get_or ss k b → n ≤ 512 → take n b ≡ part (joined ss) (512 * k) n
block_part ss k n b all there is small =
    let b_len : length b ≡ 512 = ap length is ∙ All-get_or (λ (x : List ℕ). length x ≡ 512) ss k b there all in
    let t_len : length (take n b) ≡ n = length-take-le n b (omega (arith, b_len)) in
    let p_len : length (part (joined ss) (512 * k) n) ≡ n = length-take-le n (drop (512 * k) (joined ss)) (omega (arith, length-drop (512 * k) (joined ss), length_joined ss all)) in
    same_bytes (take n b) (part (joined ss) (512 * k) n) (t_len ∙ sym p_len)
    (λ j h.
    get_or-take n b j 0 (omega (arith, t_len))
    ∙ ap (λ (x : List ℕ). get_or x j 0) is
    ∙ sym (block_byte ss k j b all there (omega (arith, t_len)))
    ∙ sym (get_or-take n (drop (512 * k) (joined ss)) j 0 (omega (arith, t_len)) ∙ get_or-drop (512 * k) (joined ss) j 0))

module _ (x : List ℕ) (size from : ℕ) (within : from ≤ size) where
  seen_drop : drop from (take size x) ≡ take (size - from) (drop from x)
  seen_drop =
      let there : from + (size - from) ≡ size = omega arith in
      ap (λ (n : ℕ). drop from (take n x)) (sym there) ∙ drop-take from (size - from) x

  -- a whole block, and the last
  pub seen_block : (n : ℕ) → n ≤ size - from → part x from n ≡ part (take size x) from n
  seen_block n full = sym (ap (take n) seen_drop ∙ take-take n (size - from) (drop from x) full)

  pub seen_rest : (n : ℕ) → size - from < n → part x from (size - from) ≡ part (take size x) from n
  seen_rest n less = sym (ap (take n) seen_drop ∙ take_all n (take (size - from) (drop from x)) (omega (arith, length-take (size - from) (drop from x))))

-- the blocks from a cut on
module _ (ss : List (List ℕ)) (all : AreBlocks ss) (slot within : ℕ) (there : slot < length ss) (low : within < 512) (block start : List ℕ) (is : block ≡ get_or ss slot block) (made : start ≡ take within block ++ replicate (512 - within) 0) where
  block_len : length block ≡ 512
  block_len = ap length is ∙ All-get_or (λ (x : List ℕ). length x ≡ 512) ss slot block there all

  pub start_len : length start ≡ 512
  start_len = ap length made ∙ length-append (take within block) (replicate (512 - within) 0) ∙ omega (arith, length-take-le within block (omega (arith, block_len)), length-replicate {A = ℕ} (512 - within) 0)

  past_cut : (i : ℕ) → within ≤ i → get_or (take (512 * slot + within) (joined ss)) (512 * slot + i) 0 ≡ 0
  past_cut i h = get_or_past (take (512 * slot + within) (joined ss)) (512 * slot + i) 0 (omega (arith, length-take (512 * slot + within) (joined ss)))

  pub start_at : (i : ℕ) → i < 512 → get_or start i 0 ≡ get_or (take (512 * slot + within) (joined ss)) (512 * slot + i) 0
  start_at i h =
      ap (λ (l : List ℕ). get_or l i 0) made ∙ zeros_behind (take within block) (512 - within) i
      ∙ elim (cases_lt i within) [
        | inl before ↦
            get_or-take within block i 0 before ∙ ap (λ (l : List ℕ). get_or l i 0) is ∙ sym (block_byte ss slot i block all there h)
            ∙ sym (get_or-take (512 * slot + within) (joined ss) (512 * slot + i) 0 (omega arith))
        | inr past ↦ get_or_past (take within block) i 0 (omega (arith, length-take within block)) ∙ sym (past_cut i past)
      ]

-- bytes within a block
pub block_mid : (ss : List (List ℕ)) (k from n : ℕ) (b : List ℕ) → AreBlocks ss → k < length ss → b ≡ get_or ss k b → from + n ≤ 512 → part b from n ≡ part (joined ss) (512 * k + from) n
block_mid ss k from n b all there is small =
    let b_len : length b ≡ 512 = ap length is ∙ All-get_or (λ (x : List ℕ). length x ≡ 512) ss k b there all in
    let t_len : length (part b from n) ≡ n = length-take-le n (drop from b) (omega (arith, b_len, length-drop from b)) in
    let p_len : length (part (joined ss) (512 * k + from) n) ≡ n = length-take-le n (drop (512 * k + from) (joined ss)) (omega (arith, length-drop (512 * k + from) (joined ss), length_joined ss all)) in
    same_bytes (part b from n) (part (joined ss) (512 * k + from) n) (t_len ∙ sym p_len)
    (λ j h.
    let place : 512 * k + (from + j) ≡ 512 * k + from + j = omega arith in
    get_or-take n (drop from b) j 0 (omega (arith, t_len)) ∙ get_or-drop from b j 0
    ∙ ap (λ (x : List ℕ). get_or x (from + j) 0) is
    ∙ sym (block_byte ss k (from + j) b all there (omega (arith, t_len)))
    ∙ ap (λ (i : ℕ). get_or (joined ss) i 0) place
    ∙ sym (get_or-take n (drop (512 * k + from) (joined ss)) j 0 (omega (arith, t_len)) ∙ get_or-drop (512 * k + from) (joined ss) j 0))

-- parts one behind the other
pub parts_joined : (x : List ℕ) (from n m : ℕ) → part x from n ++ part x (from + n) m ≡ part x from (n + m)
parts_joined x from n m = sym (take-add n m (drop from x) ∙ ap (λ (l : List ℕ). part x from n ++ take m l) (drop-drop n from x))

-- the same bytes are the same blocks
pub files_same : (a b : List (List ℕ)) (n m : ℕ) → AreSlots a n → AreSlots b m → length a ≡ length b → take n (joined a) ≡ take m (joined b) → a ≡ b
files_same a b n m x y many e =
    same_lists a b many
    (λ k d h.
    let a_len : length (get_or a k d) ≡ 512 = All-get_or (λ (l : List ℕ). length l ≡ 512) a k d h x.blocks in
    let b_len : length (get_or b k d) ≡ 512 = All-get_or (λ (l : List ℕ). length l ≡ 512) b k d (omega (arith, many)) y.blocks in
    same_bytes (get_or a k d) (get_or b k d) (a_len ∙ sym b_len)
    (λ j low.
    sym (block_byte a k j d x.blocks h (omega (arith, a_len)))
    ∙ sym (seen_at a n x (512 * k + j))
    ∙ ap (λ (l : List ℕ). get_or l (512 * k + j) 0) e
    ∙ seen_at b m y (512 * k + j)
    ∙ block_byte b k j d y.blocks (omega (arith, many)) (omega (arith, a_len))))

-- ---- slots that come behind, and the first that hold all

module _ (ss : List (List ℕ)) (size : ℕ) (slots : AreSlots ss size) where
  pub filled_slots : (n : ℕ) → length ss + n ≤ 64 → AreSlots (ss ++ replicate n blank) size
  filled_slots n fits =
      let len : length (ss ++ replicate n blank) ≡ length ss + n = length-append ss (replicate n blank) ∙ ap (λ (k : ℕ). length ss + k) (length-replicate {A = List ℕ} n blank) in
      record {
        few = omega (arith, len, fits);
        blocks = All-append (λ (b : List ℕ). length b ≡ 512) ss (replicate n blank) slots.blocks (blanks_are n);
        covers = omega (arith, len, slots.covers);
        rest = λ i h. ap (λ (l : List ℕ). get_or l i 0) (joined_append ss (replicate n blank)) ∙ elim (cases_lt i (length (joined ss))) [
          | inl low ↦ get_or_append_left (joined ss) (joined (replicate n blank)) 0 i low ∙ slots.rest i h
          | inr high ↦ get_or-append_right (joined ss) (joined (replicate n blank)) (length (joined ss)) i 0 refl high ∙ joined_blanks n (i - length (joined ss))
        ];
      }

  pub seen_filled : (n : ℕ) → take size (joined (ss ++ replicate n blank)) ≡ take size (joined ss)
  seen_filled n =
      ap (take size) (joined_append ss (replicate n blank))
      ∙ take-append-le size (joined ss) (joined (replicate n blank)) (omega (arith, all_len ss size slots, slots.covers))

  -- as many as are wanted
  pub filled_len : (count : ℕ) (all : List (List ℕ)) → all ≡ ss ++ replicate (count - length ss) blank → length all ≡ length ss + (count - length ss)
  filled_len count all is = ap length is ∙ length-append ss (replicate (count - length ss) blank) ∙ ap (λ (k : ℕ). length ss + k) (length-replicate {A = List ℕ} (count - length ss) blank)

  pub filled_are : (count : ℕ) (all : List (List ℕ)) → all ≡ ss ++ replicate (count - length ss) blank → count ≤ 64 → AreSlots all size
  filled_are count all is few = subst (λ (l : List (List ℕ)). AreSlots l size) (sym is) (filled_slots (count - length ss) (omega (arith, few, slots.few)))

  pub filled_seen : (count : ℕ) (all : List (List ℕ)) → all ≡ ss ++ replicate (count - length ss) blank → take size (joined all) ≡ take size (joined ss)
  filled_seen count all is = ap (λ (l : List (List ℕ)). take size (joined l)) is ∙ seen_filled (count - length ss)

  module _ (n : ℕ) (there : n ≤ length ss) (enough : size ≤ 512 * n) where
    first_len : length (take n ss) ≡ n
    first_len = length-take-le n ss there

    first_joined : joined (take n ss) ≡ take (512 * n) (joined ss)
    first_joined = sym (take_joined ss n slots.blocks there)

    pub seen_first : take size (joined (take n ss)) ≡ take size (joined ss)
    seen_first = ap (take size) first_joined ∙ take-take size (512 * n) (joined ss) enough

    pub first_slots : AreSlots (take n ss) size
    first_slots = record {
      few = omega (arith, first_len, there, slots.few);
      blocks = All-take (λ (b : List ℕ). length b ≡ 512) n ss slots.blocks;
      covers = omega (arith, first_len, enough);
      rest = λ i h. ap (λ (l : List ℕ). get_or l i 0) first_joined ∙ elim (cases_lt i (512 * n)) [
        | inl low ↦ get_or-take (512 * n) (joined ss) i 0 low ∙ slots.rest i h
        | inr high ↦ get_or_past (take (512 * n) (joined ss)) i 0 (omega (arith, length-take (512 * n) (joined ss)))
      ];
    }

module _ (a b : List (List ℕ)) (n m : ℕ) (x : AreSlots a n) (y : AreSlots b m) where
  -- where as many slots as the bytes take are the same
  pub same_decided : (r : Bool) (k : ℕ) → k ≤ length a → k ≤ length b → n ≤ 512 * k → Decides r (take k a ≡ take k b) → n ≡ m → Decides r (take n (joined a) ≡ take m (joined b))
  same_decided r k low high enough d e =
      let more : m ≤ 512 * k = omega (arith, enough, e) in
      let long : length (take k a) ≡ length (take k b) = length-take-le k a low ∙ sym (length-take-le k b high) in (
        λ h. sym (seen_first a n x k low enough) ∙ ap₂ (λ (ss : List (List ℕ)) (l : ℕ). take l (joined ss)) (d.0 h) e ∙ seen_first b m y k high more,
        λ h. d.1 (files_same (take k a) (take k b) n m (first_slots a n x k low enough) (first_slots b m y k high more) long (seen_first a n x k low enough ∙ h ∙ sym (seen_first b m y k high more))),
      )

  pub apart_decided : (n ≡ m → ⊥) → Decides false (take n (joined a) ≡ take m (joined b))
  apart_decided differ = (λ h. absurd (false≢true h), λ h. absurd (differ (sym (seen_len a n x) ∙ ap length h ∙ seen_len b m y)))
