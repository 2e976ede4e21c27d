-- What a record says to a terminal, and how much of it is released.
use Rattle.std.specs.Prelude.{◌≡◌, ℕ, suc, ◌==◌, List, [], ◌∷◌, ◌++◌, map, Option, Some, None, if◌then◌else◌}
use Rattle.std.specs.List.{Contains}
use Rattle.std.specs.FinMap.{FinMap}
use Rattle.sk_record.specs.Effects.{MarkedEffect}
use Rattle.sk_record.specs.Run.{System}
use Rattle.sk_record.specs.Trace.{Event, IsTagAt, effects_of}

-- the first list is a front part of the second
abbrev pub IsFront : {A : Type 0} → List A → List A → Type 0
IsFront xs ys = (rest : List _) × (ys ≡ xs ++ rest)

module _ {E V W F N : Type 0} (K : System E V W F N) where
  -- a step's text, labelled, where it goes to the terminal t
  abbrev pub said_by : {A : Type 0} → ℕ → Option W → A → List (W × A)
  said_by t None a = []
  said_by t (Some w) a = if K.goes_to w == t then (w, a) ∷ [] else []

  -- the texts that a effects says to the terminal t, each with its position, where the effects's first position is i
  abbrev pub said_from : ℕ → ℕ → List (MarkedEffect E V W) → List (W × ℕ)
  said_from t i [] = []
  said_from t i (f ∷ fs) = said_by t f.said i ++ said_from t (suc i) fs

  -- the texts that a effects says to the terminal t, each with the label of its position
  abbrev pub said_with : {A : Type 0} → ℕ → List A → List (MarkedEffect E V W) → List (W × A)
  said_with t [] fs = []
  said_with t (a ∷ labels) [] = []
  said_with t (a ∷ labels) (f ∷ fs) = said_by t f.said a ++ said_with t labels fs

  module _ (start : FinMap K.order V) (es : List (Event N)) where
    -- the texts that the trace's record says to the terminal t, each with its position
    abbrev pub said : ℕ → List (W × ℕ)
    said t = said_from t 0 (effects_of K start es)

    -- a position is clear: no undecided guess is among its tags
    abbrev pub IsClear : ℕ → Type 0
    IsClear i = (g : ℕ) → ¬ (IsTagAt K start es i g)

    -- what is released to the terminal t: the longest prefix of what is said to it whose positions are clear
    pub record IsReleased (t : ℕ) (released : List W) : Type 0 where
      pub out : List (W × ℕ)
      pub held : List (W × ℕ)
      pub split : said t ≡ out ++ held
      pub texts : released ≡ map (λ x. x.0) out
      pub clear : (x : W × ℕ) → Contains out x → IsClear x.1
      pub longest : (x : W × ℕ) (more : List (W × ℕ)) → held ≡ x ∷ more → ¬ (IsClear x.1)
