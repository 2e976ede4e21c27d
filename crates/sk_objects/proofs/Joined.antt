-- Blocks one after another, and what a block that is written leaves of them.
use Rattle.sk_objects.proofs.Names.{◌≡◌, ℕ, zero, suc, ◌+◌, ◌-◌, ◌*◌, ◌<◌, ◌≤◌, inl, inr, List, [], ◌∷◌, ◌++◌, length}
use Rattle.sk_objects.proofs.Names.{get_or, take, drop, replicate, arith, refl, sym, ap, ap₂, ◌∙◌, take-append-add}
use Rattle.sk_objects.proofs.Names.{drop-append-add, take-append-le, drop-append-le, drop-drop, take_at, drop_at}
use Rattle.sk_objects.proofs.Names.{cases_lt, append_assoc, length-append, length-take-le, slice_set}
use Rattle.sk_objects.proofs.Names.{length-replicate, get_or_append_left, get_or-append_right, All-head, All-tail}
use Rattle.sk_objects.proofs.Names.{All-replicate, All-cons, All-get_or, length-drop, length-set, get_or-set_other}
use Rattle.sk_objects.proofs.Names.{take-append-drop, overwritten, joined, AreBlocks}
use Rattle.sk_objects.proofs.Bytes.{zeros_at, length_overwritten}
use Rattle.sk_objects.specs.Blocks.{blank}

-- 512 bytes
abbrev IsBlock : List ℕ → Type 0
IsBlock b = length b ≡ 512

pub joined_append : (xs ys : List (List ℕ)) → joined (xs ++ ys) ≡ joined xs ++ joined ys
joined_append [] ys = refl
joined_append (x ∷ xs) ys = ap (λ (l : List ℕ). x ++ l) (joined_append xs ys) ∙ sym (append_assoc x (joined xs) (joined ys))

pub length_joined : (bs : List (List ℕ)) → AreBlocks bs → length (joined bs) ≡ 512 * length bs
length_joined [] all = refl
length_joined (b ∷ bs) all = omega (arith, length-append b (joined bs), All-head IsBlock b bs all, length_joined bs (All-tail IsBlock b bs all))

pub take_joined : (bs : List (List ℕ)) (k : ℕ) → AreBlocks bs → k ≤ length bs → take (512 * k) (joined bs) ≡ joined (take k bs)
take_joined bs zero all h = refl
take_joined [] (suc k) all h = absurd (omega arith)
take_joined (b ∷ bs) (suc k) all h =
    let there : 512 * suc k ≡ length b + 512 * k = omega (arith, All-head IsBlock b bs all) in
    rw there (take-append-add b (joined bs) (512 * k)) ∙ ap (λ (l : List ℕ). b ++ l) (take_joined bs k (All-tail IsBlock b bs all) (omega arith))

-- a block written over is all of them written over
pub joined_set : (ss : List (List ℕ)) (k within : ℕ) (bytes : List ℕ) → AreBlocks ss → k < length ss → within + length bytes ≤ 512 → joined (slice_set ss k (overwritten (get_or ss k []) within bytes)) ≡ overwritten (joined ss) (512 * k + within) bytes
joined_set [] k within bytes all there fits = absurd (omega arith)
joined_set (s ∷ ss) zero within bytes all there fits =
    let here : 512 * 0 + within ≡ within = omega arith in
    let long : length s ≡ 512 = All-head IsBlock s ss all in
    rw here
    (append_assoc (take within s ++ bytes) (drop (within + length bytes) s) (joined ss)
    ∙ sym (ap₂ (λ (f g : List ℕ). (f ++ bytes) ++ g)
    (take-append-le within s (joined ss) (omega (arith, long)))
    (drop-append-le (within + length bytes) s (joined ss) (omega (arith, long)))))
joined_set (s ∷ ss) (suc k) within bytes all there fits =
    let long : length s ≡ 512 = All-head IsBlock s ss all in
    let front : 512 * suc k + within ≡ length s + (512 * k + within) = omega (arith, long) in
    let back : 512 * suc k + within + length bytes ≡ length s + (512 * k + within + length bytes) = omega (arith, long) in
    ap (λ (l : List ℕ). s ++ l) (joined_set ss k within bytes (All-tail IsBlock s ss all) (omega arith) fits)
    ∙ sym (rw (back, front, take-append-add s (joined ss) (512 * k + within), drop-append-add s (joined ss) (512 * k + within + length bytes))
    (append_assoc (s ++ take (512 * k + within) (joined ss)) bytes (drop (512 * k + within + length bytes) (joined ss))
    ∙ append_assoc s (take (512 * k + within) (joined ss)) (bytes ++ drop (512 * k + within + length bytes) (joined ss))
    ∙ ap (λ (l : List ℕ). s ++ l) (sym (append_assoc (take (512 * k + within) (joined ss)) bytes (drop (512 * k + within + length bytes) (joined ss))))))

-- bytes written behind those that were written before
pub written_on : (f x y : List ℕ) (at : ℕ) → at + length x ≤ length f → overwritten (overwritten f at x) (at + length x) y ≡ overwritten f at (x ++ y)
written_on f x y at fits =
    let front : length (take at f ++ x) ≡ at + length x = length-append (take at f) x ∙ ap (λ (n : ℕ). n + length x) (length-take-le at f (omega arith)) in
    let first : take (at + length x) (overwritten f at x) ≡ take at f ++ x = take_at (take at f ++ x) (drop (at + length x) f) (at + length x) front in
    let behind : at + length x + length y ≡ at + length (x ++ y) = omega (arith, length-append x y) in
    let last : drop (at + length x + length y) (overwritten f at x) ≡ drop (at + length (x ++ y)) f =
    sym (drop-drop (length y) (at + length x) (overwritten f at x))
    ∙ ap (drop (length y)) (drop_at (take at f ++ x) (drop (at + length x) f) (at + length x) front)
    ∙ drop-drop (length y) (at + length x) f
    ∙ ap (λ (n : ℕ). drop n f) behind in
    ap₂ (λ (l r : List ℕ). (l ++ y) ++ r) first last
    ∙ ap (λ (l : List ℕ). l ++ drop (at + length (x ++ y)) f) (append_assoc (take at f) x y)

-- one block of 512 bytes in the place of another
pub set_are : (ss : List (List ℕ)) (k : ℕ) (b : List ℕ) → AreBlocks ss → length b ≡ 512 → AreBlocks (slice_set ss k b)
set_are [] k b all long = all
set_are (s ∷ ss) zero b all long = All-cons IsBlock b ss long (All-tail IsBlock s ss all)
set_are (s ∷ ss) (suc k) b all long = All-cons IsBlock s (slice_set ss k b) (All-head IsBlock s ss all) (set_are ss k b (All-tail IsBlock s ss all) long)

module _ (ss : List (List ℕ)) (all : AreBlocks ss) (k within : ℕ) (bytes : List ℕ) where
  -- a block written over has as many bytes
  pub over_len : k < length ss → within + length bytes ≤ 512 → length (overwritten (get_or ss k []) within bytes) ≡ 512
  over_len there fits =
      let long : length (get_or ss k []) ≡ 512 = All-get_or IsBlock ss k [] there all in
      length_overwritten (get_or ss k []) bytes within (omega (arith, long, fits)) ∙ omega (arith, long, fits)

  -- a write that ends in the next block
  module _ (more : 512 - within ≤ length bytes) (low : within < 512) (there : k + 1 < length ss) (short : length bytes ≤ 512) (second : List ℕ) (is : second ≡ overwritten (get_or ss (k + 1) []) 0 (drop (512 - within) bytes)) where
    abbrev front : List ℕ
    front = take (512 - within) bytes

    abbrev first : List (List ℕ)
    first = slice_set ss k (overwritten (get_or ss k []) within front)

    front_len : length front ≡ 512 - within
    front_len = length-take-le (512 - within) bytes more

    first_are : AreBlocks first
    first_are =
        let long : length (get_or ss k []) ≡ 512 = All-get_or IsBlock ss k [] (omega (arith, there)) all in
        set_are ss k (overwritten (get_or ss k []) within front) all
        (length_overwritten (get_or ss k []) front within (omega (arith, long, low)) ∙ omega (arith, long, front_len, low))

    first_many : length first ≡ length ss
    first_many = length-set ss k (overwritten (get_or ss k []) within front)

    next : get_or first (k + 1) [] ≡ get_or ss (k + 1) []
    next = get_or-set_other ss k (k + 1) (overwritten (get_or ss k []) within front) [] (λ e. absurd (omega (arith, e)))

    second_is : second ≡ overwritten (get_or first (k + 1) []) 0 (drop (512 - within) bytes)
    second_is = is ∙ ap (λ (l : List ℕ). overwritten l 0 (drop (512 - within) bytes)) (sym next)

    back_len : length (drop (512 - within) bytes) ≤ 512
    back_len = omega (arith, length-drop (512 - within) bytes, short)

    pub two_are : AreBlocks (slice_set first (k + 1) second)
    two_are =
        let long : length (get_or first (k + 1) []) ≡ 512 = All-get_or IsBlock first (k + 1) [] (omega (arith, first_many, there)) first_are in
        set_are first (k + 1) second first_are
        (ap length second_is ∙ length_overwritten (get_or first (k + 1) []) (drop (512 - within) bytes) 0 (omega arith) ∙ omega (arith, long, back_len))

    pub two_many : length (slice_set first (k + 1) second) ≡ length ss
    two_many = length-set first (k + 1) second ∙ first_many

    pub two_joined : joined (slice_set first (k + 1) second) ≡ overwritten (joined ss) (512 * k + within) bytes
    two_joined =
        let place : 512 * (k + 1) + 0 ≡ 512 * k + within + length front = omega (arith, front_len, low) in
        ap (λ (b : List ℕ). joined (slice_set first (k + 1) b)) second_is
        ∙ joined_set first (k + 1) 0 (drop (512 - within) bytes) first_are (omega (arith, first_many, there)) (omega (arith, back_len))
        ∙ ap₂ (λ (l : List ℕ) (n : ℕ). overwritten l n (drop (512 - within) bytes)) (joined_set ss k within front all (omega (arith, there)) (omega (arith, front_len, low))) place
        ∙ written_on (joined ss) front (drop (512 - within) bytes) (512 * k + within) (omega (arith, front_len, low, there, length_joined ss all))
        ∙ ap (overwritten (joined ss) (512 * k + within)) (take-append-drop (512 - within) bytes)

-- a byte of a block, among all
pub block_byte : (ss : List (List ℕ)) (k j : ℕ) (d : List ℕ) → AreBlocks ss → k < length ss → j < 512 → get_or (joined ss) (512 * k + j) 0 ≡ get_or (get_or ss k d) j 0
block_byte [] k j d all h low = absurd (omega arith)
block_byte (b ∷ bs) zero j d all h low =
    let there : 512 * 0 + j ≡ j = omega arith in
    rw there (get_or_append_left b (joined bs) 0 j (omega (arith, All-head IsBlock b bs all)))
block_byte (b ∷ bs) (suc k) j d all h low =
    let there : 512 * suc k + j - 512 ≡ 512 * k + j = omega arith in
    get_or-append_right b (joined bs) 512 (512 * suc k + j) 0 (All-head IsBlock b bs all) (omega arith)
    ∙ ap (λ (i : ℕ). get_or (joined bs) i 0) there
    ∙ block_byte bs k j d (All-tail IsBlock b bs all) (omega arith) low

-- ---- blocks in which none was written

pub blank_len : length blank ≡ 512
unfolding blank
blank_len = length-replicate {A = ℕ} 512 0

blank_at : (j : ℕ) → get_or blank j 0 ≡ 0
unfolding blank
blank_at j = zeros_at 512 j

pub blanks_are : (n : ℕ) → AreBlocks (replicate n blank)
blanks_are n = All-replicate IsBlock n blank blank_len

pub joined_blanks : (n i : ℕ) → get_or (joined (replicate n blank)) i 0 ≡ 0
joined_blanks zero i = refl
joined_blanks (suc n) i = elim (cases_lt i 512) [
  | inl h ↦ get_or_append_left blank (joined (replicate n blank)) 0 i (omega (arith, blank_len)) ∙ blank_at i
  | inr h ↦ get_or-append_right blank (joined (replicate n blank)) 512 i 0 blank_len h ∙ joined_blanks n (i - 512)
]
