-- A change of a file and its undo give the file before.
use Rattle.std.specs.Prelude.{◌≡◌, ℕ, ◌-◌, ◌≤◌, true, List, length, take, replicate, refl, ◌++◌}
use Rattle.sk_changes.specs.Base.{arith, ap, inl, inr, ◌∙◌, false≢true, cases_lt, lt-ltb, le-ltb, get_or_past}
use Rattle.sk_changes.specs.Base.{take_all, take_at, cut, IsZeroFrom, FILE_LIMIT, zeros_behind, length_cut, Change}
use Rattle.sk_changes.specs.Base.{WriteAt, CutTo, Unput}
use Rattle.sk_changes.specs.Files.{file_fits, file_after, file_undo, CanUndoFile, file_undone}

-- zeros that came behind go again
grown_back : (v : List ℕ) (n : ℕ) → length v ≤ n → CanUndoFile (cut v n) (Unput (length v)) × (file_undone (cut v n) (Unput (length v)) ≡ v)
grown_back v n more =
    let all : take n v ≡ v = take_all n v more in
    let zeros : IsZeroFrom (length v) (cut v n) = λ i h. zeros_behind (take n v) (n - length v) i ∙ get_or_past (take n v) i 0 (omega (arith, ap length all, h)) in (
      (omega (arith, length_cut v n, more), zeros),
      ap (λ (l : List ℕ). take (length v) (l ++ replicate (n - length v) 0)) all ∙ take_at v (replicate (n - length v) 0) (length v) refl,
    )

pub file_restores : (v : List ℕ) (c : Change) → length v ≤ FILE_LIMIT → file_fits v c ≡ true → CanUndoFile (file_after v c) (file_undo v c) × (file_undone (file_after v c) (file_undo v c) ≡ v)
file_restores v (WriteAt at bytes) small fits = (tt, refl)
file_restores v (CutTo n) small fits = elim (cases_lt n (length v)) [
  | inl h ↦ rw (lt-ltb n (length v) h) (tt, refl)
  | inr h ↦ rw (le-ltb n (length v) h) (grown_back v n h)
]
file_restores v _ small fits = absurd (false≢true fits)
