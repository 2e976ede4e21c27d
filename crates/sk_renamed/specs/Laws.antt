-- A step, a commit and a failure are the same under other names.
use Rattle.std.specs.Prelude.{ℕ, Option}
use Rattle.std.specs.declared.cmp.Ordering.{Ordering}
use Rattle.sk_record.specs.Machine.{Machine, Fails}
use Rattle.sk_record.specs.Merged.{MergedTakes, MergedCommits}
use Rattle.sk_deeds.specs.Deed.{Deed, again}
use Rattle.sk_renamed.specs.Renamed.{renamed, KeepsApart, IsDeed}

module _ (B K V O : Type 0) where
  abbrev pub TakesRenamed : Type 0
  TakesRenamed =
      (names : B → B → Ordering) (keys : K → K → Ordering) (key : B → Option K) → KeepsApart key names keys
      → (d : Deed B V O) (told : Deed K V O) → IsDeed key d told
      → (mark : Option ℕ) (a b : Machine K V (ℕ × O))
      → MergedTakes (again keys) a (record { deed = told; guess = mark }) b
      → MergedTakes (again names) (renamed key a) (record { deed = d; guess = mark }) (renamed key b)

  abbrev pub CommitsRenamed : Type 0
  CommitsRenamed =
      (key : B → Option K) (g : ℕ) (a b : Machine K V (ℕ × O)) → MergedCommits a g b
      → MergedCommits (renamed key a) g (renamed key b)

  abbrev pub FailsRenamed : Type 0
  FailsRenamed = (key : B → Option K) (g : ℕ) (a b : Machine K V (ℕ × O)) → Fails a g b
      → Fails (renamed key a) g (renamed key b)
