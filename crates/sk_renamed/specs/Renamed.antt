-- The machine of records under other names of its keys: a name may stand for a key, and no key has two names.
use Rattle.std.specs.Prelude.{◌≡◌, false, List, [], ◌∷◌, Option, Some, None}
use Rattle.std.specs.declared.cmp.Ordering.{Ordering}
use Rattle.std.specs.Ordering.{eq_by_cmp}
use Rattle.sk_record.specs.UndoState.{UndoState}
use Rattle.sk_record.specs.Machine.{Machine}
use Rattle.sk_deeds.specs.Deed.{Deed}

-- what a function has at a key, or something else where there is none
abbrev pub at_key : {K A : Type 0} → A → (K → A) → Option K → A
at_key other f None = other
at_key other f (Some k) = f k

module _ {B K : Type 0} (key : B → Option K) where
  -- a name has what its key has; one that stands for no key is absent and depends on nothing
  abbrev pub renamed_state : {V : Type 0} → UndoState K V → UndoState B V
  renamed_state a = record
      { look = λ b. at_key None a.look (key b); logs = λ b. at_key [] a.logs (key b); opens = a.opens }

  abbrev pub renamed : {V W : Type 0} → Machine K V W → Machine B V W
  renamed m = record { state = renamed_state m.state; status = m.status; texts = m.texts }

  -- names are equal just where they stand for one key
  pub record KeepsApart (names : B → B → Ordering) (keys : K → K → Ordering) : Type 0 where
    pub same : (b c : B) (k l : K) → key b ≡ Some k → key c ≡ Some l → eq_by_cmp keys k l ≡ eq_by_cmp names b c
    pub unnamed : (b c : B) (l : K) → key b ≡ None → key c ≡ Some l → eq_by_cmp names b c ≡ false

  -- the keys of the names that stand for one
  abbrev pub keys_of : List B → List K
  keys_of [] = []
  keys_of (b ∷ bs) = at_key (keys_of bs) (λ k. k ∷ keys_of bs) (key b)

  -- writes of names and of keys are the same: each name stands for its key
  abbrev pub AreWrites : {V : Type 0} → List (B × Option V) → List (K × Option V) → Type 0
  AreWrites [] [] = Unit {0}
  AreWrites [] (x ∷ xs) = ⊥
  AreWrites (w ∷ ws) [] = ⊥
  AreWrites (w ∷ ws) (x ∷ xs) = (key w.0 ≡ Some x.0) × (w.1 ≡ x.1) × AreWrites ws xs

  -- deeds of names and of keys are the same: of the names that one looked at only those that stand for a key are told, and both say the same
  pub record IsDeed {V O : Type 0} (d : Deed B V O) (told : Deed K V O) : Type 0 where
    pub looked : told.looked ≡ keys_of d.looked
    pub written : AreWrites d.written told.written
    pub said : told.said ≡ d.said
