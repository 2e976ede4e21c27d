-- Keys that no step of a caller may name, of which none is there; and keys that stand for all others.
use Rattle.std.specs.Prelude.{◌≡◌, ◌||◌, ℕ, Bool, true, false, nat_lt, List, [], ◌∷◌, length, map, None}
use Rattle.sk_batched.specs.Base.{KEY_LIMIT, Parts, Note, bytes_cmp, has, is_reserved, list_any, log_at, look_at, numbers, Token}
use Rattle.sk_batched.specs.Base.{tags_at, undo_state_of}

-- longer than a key may be
abbrev pub is_too_long : List ℕ → Bool
is_too_long key = nat_lt KEY_LIMIT (length key)

-- or a batch's
abbrev pub is_barred : List ℕ → Bool
is_barred key = is_too_long key || is_reserved key

-- whatever is undone, nothing was there
abbrev pub AllAbsent : {V : Type 0} → List (Note V) → Type 0
AllAbsent [] = Unit {0}
AllAbsent (n ∷ ns) = (n.before ≡ None) × AllAbsent ns

-- the guesses of tokens
abbrev pub guesses_of : List Token → List ℕ
guesses_of ts = map (λ t. t.id) ts

module _ {V O : Type 0} (m : Parts (List ℕ) V O) where
  -- no such key is there, or was before a write that may be undone; and nothing is noted of one that is too long
  pub record HasNoneBarred : Type 0 where
    pub look : (k : List ℕ) → is_barred k ≡ true → look_at bytes_cmp m.slots k ≡ None
    pub before : (k : List ℕ) → is_barred k ≡ true → AllAbsent (log_at bytes_cmp m.slots k)
    pub long : (k : List ℕ) → is_too_long k ≡ true → log_at bytes_cmp m.slots k ≡ []

  -- whether a key depends on the guess
  abbrev pub is_on : ℕ → List ℕ → Bool
  is_on g k = has g (tags_at (undo_state_of bytes_cmp m) k)

  -- a step may name these keys; and where one that is no batch's depends on one of the guesses, one of these does
  pub record StandFor (guesses : List ℕ) (keys : List (List ℕ)) : Type 0 where
    pub plain : list_any is_barred keys ≡ false
    pub all : (k : List ℕ) (g : ℕ) → has g guesses ≡ true → is_reserved k ≡ false → is_on g k ≡ true → list_any (is_on g) keys ≡ true

  -- of all undecided guesses
  abbrev pub StandForAll : List (List ℕ) → Type 0
  StandForAll keys = StandFor (numbers m.opens) keys

  -- with the first key that depends on the guess and is no batch's, where there is one
  pub record WithOneOn (g : ℕ) (old new : List (List ℕ)) : Type 0 where
    pub plain : ((k : List ℕ) → is_too_long k ≡ true → log_at bytes_cmp m.slots k ≡ []) → list_any is_barred old ≡ false → list_any is_barred new ≡ false
    pub kept : (h : ℕ) → list_any (is_on h) old ≡ true → list_any (is_on h) new ≡ true
    pub one : (k : List ℕ) → is_reserved k ≡ false → is_on g k ≡ true → list_any (is_on g) new ≡ true
