use Rattle.sk_objects.proofs.Names.{List, ℕ, sym, subst, arith, AreSlots}
use Rattle.sk_objects.proofs.Joined.{blanks_are, joined_blanks}
use Rattle.sk_objects.proofs.file.File.new.Goals as goal

pub invariant_of-result : goal.invariant_of-result
invariant_of-result c = record {
  are = subst (λ (ss : List (List ℕ)). AreSlots ss 0) (sym c.in_ok-slots.ensures.items) (record {
    few = omega arith;
    blocks = blanks_are 0;
    covers = omega arith;
    rest = λ i h. joined_blanks 0 i;
  });
  keeps = c.in_ok-slots.ensures.capacity;
}
