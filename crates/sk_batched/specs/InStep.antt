-- What holds between calls: the undecided guesses are just the undecided batches, with the open one where its guess is drawn.
use Rattle.std.specs.Prelude.{◌≡◌, ◌==◌, ◌+◌, ◌≤◌, ◌%◌, ◌++◌, ℕ, Bool, true, false, List, [], ◌∷◌, length, map, None, if◌then◌else◌}
use Rattle.sk_batched.specs.Base.{Note, Open, Token, look_at, log_at, bytes_cmp, Parts, QueueView, batch_key}

-- the open batch, where its guess is drawn
abbrev pub open_if : Bool → ℕ → List ℕ
open_if true number = number ∷ []
open_if false number = []

-- the numbers of the batches that are undecided and have a guess, the oldest first
abbrev pub open_numbers : QueueView → Bool → List ℕ
open_numbers q begun = map (λ b. b.number) q.batches ++ open_if begun q.number

-- these guesses, each of whose own steps depends on it alone
abbrev pub alone : List ℕ → List Open
alone ns = map (λ n. (n, n ∷ [])) ns

-- the tokens of these guesses of a kernel
abbrev pub tokens_of : ℕ → List ℕ → List Token
tokens_of kernel ns = map (λ n. record { kernel = kernel; id = n }) ns

-- these numbers are in a row, up to the last
abbrev pub AreInRow : List ℕ → ℕ → Type 0
AreInRow [] last = Unit {0}
AreInRow (n ∷ ns) last = (n + length ns ≡ last) × AreInRow ns last

-- the notes of a batch's key: one of each of these guesses that has that key
abbrev pub notes_by : {V : Type 0} → ℕ → List ℕ → List (Note V)
notes_by n [] = []
notes_by n (g ∷ gs) = if g % 128 == n % 128 then record { tags = g ∷ []; before = None } ∷ notes_by n gs else notes_by n gs

-- by how much the number of the open batch is above that of the last guess
abbrev pub not_yet : Bool → ℕ
not_yet true = 0
not_yet false = 1

-- just these guesses are undecided, each of whose own steps depends on it alone; no key of a batch is there, and each depends on just the
-- guess among these that has it
pub record IsRow {V O : Type 0} (m : Parts (List ℕ) V O) (ns : List ℕ) : Type 0 where
  pub row : AreInRow ns m.guesses.drawn
  pub opens : m.opens ≡ alone ns
  pub struck : m.guesses.struck ≡ []
  pub few : length ns ≤ m.guesses.limit
  pub limit : m.guesses.limit ≤ 128
  pub look : (n : ℕ) → look_at bytes_cmp m.slots (batch_key n) ≡ None
  pub log : (n : ℕ) → log_at bytes_cmp m.slots (batch_key n) ≡ notes_by n ns

-- the undecided guesses are just the batches that are undecided, with the open one where its guess is drawn; their tokens are here
pub record IsInStep {V O : Type 0} (m : Parts (List ℕ) V O) (q : QueueView) (begun : Bool) (tokens : List Token) : Type 0 where
  pub row : IsRow m (open_numbers q begun)
  pub number : m.guesses.drawn + not_yet begun ≡ q.number
  pub tokens_are : tokens ≡ tokens_of m.guesses.kernel (open_numbers q begun)
