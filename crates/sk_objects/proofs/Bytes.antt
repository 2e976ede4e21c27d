-- What stands at each place of bytes that were written over or cut.
use Rattle.sk_objects.proofs.Names.{◌≡◌, ℕ, ◌+◌, ◌-◌, ◌<◌, ◌≤◌, inl, inr, List, ◌++◌, length, get_or, take, drop}
use Rattle.sk_objects.proofs.Names.{replicate, arith, refl, sym, ap, ◌∙◌, cases_lt, length-append, length-take-le}
use Rattle.sk_objects.proofs.Names.{length-drop, length-replicate, length-take, get_or_append_left, get_or-append_right}
use Rattle.sk_objects.proofs.Names.{get_or-take, get_or-drop, get_or-replicate, get_or_past, same_lists, get_or_default}
use Rattle.sk_objects.proofs.Names.{overwritten, filled, written, cut}

module _ {A : Type 0} (f b : List A) (at : ℕ) (fits : at ≤ length f) where
  front_len : length (take at f ++ b) ≡ at + length b
  front_len = length-append (take at f) b ∙ ap (λ (n : ℕ). n + length b) (length-take-le at f fits)

  pub overwritten_before : (i : ℕ) (d : A) → i < at → get_or (overwritten f at b) i d ≡ get_or f i d
  overwritten_before i d h =
      get_or_append_left (take at f ++ b) (drop (at + length b) f) d i (omega (arith, front_len))
      ∙ get_or_append_left (take at f) b d i (omega (arith, length-take-le at f fits))
      ∙ get_or-take at f i d h

  pub overwritten_in : (i : ℕ) (d : A) → at ≤ i → i < at + length b → get_or (overwritten f at b) i d ≡ get_or b (i - at) d
  overwritten_in i d low high =
      get_or_append_left (take at f ++ b) (drop (at + length b) f) d i (omega (arith, front_len))
      ∙ get_or-append_right (take at f) b at i d (length-take-le at f fits) low

  pub overwritten_behind : (i : ℕ) (d : A) → at + length b ≤ i → get_or (overwritten f at b) i d ≡ get_or f i d
  overwritten_behind i d h =
      let there : at + length b + (i - (at + length b)) ≡ i = omega arith in
      get_or-append_right (take at f ++ b) (drop (at + length b) f) (at + length b) i d front_len h
      ∙ get_or-drop (at + length b) f (i - (at + length b)) d
      ∙ ap (λ (j : ℕ). get_or f j d) there

  pub length_overwritten : length (overwritten f at b) ≡ at + length b + (length f - (at + length b))
  length_overwritten =
      length-append (take at f ++ b) (drop (at + length b) f)
      ∙ rw (front_len, length-drop (at + length b) f) refl

-- ---- zeros past the end

pub zeros_at : (m j : ℕ) → get_or {A = ℕ} (replicate m 0) j 0 ≡ 0
zeros_at m j = elim (cases_lt j m) [
  | inl h ↦ get_or-replicate m j 0 0 h
  | inr h ↦ get_or_past (replicate {A = ℕ} m 0) j 0 (omega (arith, length-replicate {A = ℕ} m 0))
]

pub zeros_behind : (f : List ℕ) (m i : ℕ) → get_or (f ++ replicate m 0) i 0 ≡ get_or f i 0
zeros_behind f m i = elim (cases_lt i (length f)) [
  | inl h ↦ get_or_append_left f (replicate m 0) 0 i h
  | inr h ↦ get_or-append_right f (replicate m 0) (length f) i 0 refl h ∙ zeros_at m (i - length f) ∙ sym (get_or_past f i 0 h)
]

pub filled_at : (f : List ℕ) (n i : ℕ) → get_or (filled f n) i 0 ≡ get_or f i 0
filled_at f n i = zeros_behind f (n - length f) i

pub length_filled : (f : List ℕ) (n : ℕ) → length (filled f n) ≡ length f + (n - length f)
length_filled f n = length-append f (replicate (n - length f) 0) ∙ ap (λ (m : ℕ). length f + m) (length-replicate {A = ℕ} (n - length f) 0)

module _ (f b : List ℕ) (at : ℕ) where
  room : at ≤ length (filled f (at + length b))
  room = omega (arith, length_filled f (at + length b))

  pub written_before : (i : ℕ) → i < at → get_or (written f at b) i 0 ≡ get_or f i 0
  written_before i h = overwritten_before (filled f (at + length b)) b at room i 0 h ∙ filled_at f (at + length b) i

  pub written_in : (i : ℕ) → at ≤ i → i < at + length b → get_or (written f at b) i 0 ≡ get_or b (i - at) 0
  written_in i low high = overwritten_in (filled f (at + length b)) b at room i 0 low high

  pub written_behind : (i : ℕ) → at + length b ≤ i → get_or (written f at b) i 0 ≡ get_or f i 0
  written_behind i h = overwritten_behind (filled f (at + length b)) b at room i 0 h ∙ filled_at f (at + length b) i

  pub length_written : length (written f at b) ≡ length f + (at + length b - length f)
  length_written = omega (arith, length_overwritten (filled f (at + length b)) b at room, length_filled f (at + length b))

module _ (f : List ℕ) (n : ℕ) where
  pub length_cut : length (cut f n) ≡ n
  length_cut = length-append (take n f) (replicate (n - length f) 0) ∙ rw (length-take n f, length-replicate {A = ℕ} (n - length f) 0) (omega arith)

  pub cut_before : (i : ℕ) → i < n → get_or (cut f n) i 0 ≡ get_or f i 0
  cut_before i h = zeros_behind (take n f) (n - length f) i ∙ get_or-take n f i 0 h

-- lists that agree at each place
pub same_bytes : (f g : List ℕ) → length f ≡ length g → ((i : ℕ) → i < length f → get_or f i 0 ≡ get_or g i 0) → f ≡ g
same_bytes f g same at = same_lists f g same (λ i d h. get_or_default f i d 0 h ∙ at i h ∙ get_or_default g i 0 d (omega arith))
