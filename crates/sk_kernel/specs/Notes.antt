-- What depends on guesses that may still fail, and how many notes are held for that.
use Rattle.std.specs.Prelude.{◌≡◌, ◌↔◌, ◌≤◌, ◌^◌, ◌-◌, ℕ, Bool, true, not, min, length, List, []}
use Rattle.sk_kernel.specs.Base.{list_all, sum_by, entity_cmp, Entity, is_in, log_of, plain, is_empty, AreApart}
use Rattle.sk_kernel.specs.Kernel.{KernelView, record_at, undecided_at, tags_at}

-- whether an entity depends on an undecided guess
abbrev pub rests_at : KernelView → Entity → Bool
rests_at k e = not (is_empty (tags_at k e))

-- a number of notes that a kernel can hold: none exactly where nothing depends on an undecided guess; at least one for each entity that does, up to
-- the largest number; and, of entities among which all of these are, at most those by the record, one for each write that depends on such a guess
pub record CanHold (k : KernelView) (n : ℕ) : Type 0 where
  pub none : (n ≡ 0) ↔ ((e : Entity) → tags_at k e ≡ [])
  pub least : (es : List Entity) → AreApart es → list_all (rests_at k) es ≡ true → min (length es) (2 ^ 64 - 1) ≤ n
  pub most : (es : List Entity) → ((e : Entity) → rests_at k e ≡ true → is_in entity_cmp es e ≡ true) → n ≤ sum_by (λ e. length (log_of (plain k.scripts) k.start (record_at k) (undecided_at k) e)) es
