-- What is played in turn, a kernel by calls or a world by events: items of a type I, each of which is taken at a state of a type S, as `Takes` says: the item of a number
-- leaves another state, and a text is told of it.
use Rattle.std.specs.Prelude.{◌≡◌, ℕ, ◌+◌, Bool, List, [], ◌∷◌, ◌++◌, Option}
use Rattle.sk_run.specs.Base.{Appends, KernelView}
use Rattle.sk_run.specs.Listing.{beside}

-- a text of which this holds is appended
abbrev pub Prints : (List ℕ → Type 0) → Option (List ℕ) → Option (List ℕ) → Type 0
Prints IsText old new = (text : List ℕ) × IsText text × Appends old new text

module _ {S I : Type 0} where
  -- an item is taken, and beside its text it is told, where that is wanted, what comes of the kernels before and after it
  abbrev pub Lists : (S → KernelView) → (ℕ → I → S → S → List ℕ → Type 0) → Bool → ℕ → I → S → S → List ℕ → Type 0
  Lists kernel_of Takes is_listed number item s next text =
      (line : List ℕ) × Takes number item s next line × (text ≡ line ++ beside is_listed (kernel_of s) (kernel_of next))

  -- an item is taken, and what is told of it is written
  abbrev pub Writes : (ℕ → I → S → S → List ℕ → Type 0) → ℕ → I → S → S → Option (List ℕ) → Option (List ℕ) → Type 0
  Writes Takes number item s next old new = (text : List ℕ) × Takes number item s next text × Appends old new text

  -- the items are taken in turn, numbered from here, and this text is told of them
  abbrev pub Tells : (ℕ → I → S → S → List ℕ → Type 0) → ℕ → List I → S → S → List ℕ → Type 0
  Tells Takes number [] s last text = (last ≡ s) × (text ≡ [])
  Tells Takes number (item ∷ items) s last text =
      (next : S) × (line : List ℕ) × (rest : List ℕ) × Takes number item s next line × (text ≡ line ++ rest) × Tells Takes (number + 1) items next last rest

  -- the items are taken in turn, from number 1 on, and what is told of them is written
  abbrev pub Answered : (ℕ → I → S → S → List ℕ → Type 0) → List I → S → S → Option (List ℕ) → Option (List ℕ) → Type 0
  Answered Takes items s last old new = (text : List ℕ) × Tells Takes 1 items s last text × Appends old new text

  -- the items are taken in turn, and what is told of them is written, and then a report of the state that they leave
  abbrev pub Reported : (ℕ → I → S → S → List ℕ → Type 0) → (S → List ℕ → Type 0) → List I → S → Option (List ℕ) → Option (List ℕ) → Type 0
  Reported Takes IsReport items s old new =
      (text : List ℕ) × (last : S) × (report : List ℕ) × Tells Takes 1 items s last text × IsReport last report × Appends old new (text ++ report)

  -- the first of these items were taken and told of, and nothing else is written
  abbrev pub HasAnswered : (ℕ → I → S → S → List ℕ → Type 0) → List I → S → Option (List ℕ) → Option (List ℕ) → Type 0
  HasAnswered Takes items s old new =
      (first : List I) × (rest : List I) × (last : S) × (items ≡ first ++ rest) × Answered Takes first s last old new
