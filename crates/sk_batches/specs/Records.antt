-- Records of commands, and what they depend on.
use Rattle.std.specs.Prelude.{◌&&◌, ℕ, Bool, not, nat_le, List, [], ◌∷◌, ◌++◌, ◌-◌, length, take}
use Rattle.std.specs.List.{filter, list_any}

-- what is logged of a command: the batches that it depends on beside its own, and its bytes
pub record RecordView : Type 0 where
  pub rests : List ℕ
  pub bytes : List ℕ

-- whether it depends on one of the batches from the first to the last
abbrev pub is_struck : ℕ → ℕ → RecordView → Bool
is_struck first last r = list_any (λ n. nat_le first n && nat_le n last) r.rests

-- those that depend on none of them, in their order
abbrev pub kept : ℕ → ℕ → List RecordView → List RecordView
kept first last rs = filter (λ r. not (is_struck first last r)) rs

-- the bytes of records, one behind the other
abbrev pub payload : List RecordView → List ℕ
payload [] = []
payload (r ∷ rs) = r.bytes ++ payload rs

-- without the last
abbrev pub but_last : List RecordView → List RecordView
but_last rs = take (length rs - 1) rs
