-- What is known is known still, and less is kept after each frame.
use Rattle.sk_recovered.proofs.Names.{ℕ, List, length, Entries, Head, IsWithin}
use Rattle.sk_recovered.proofs.segment.Segment.run.Given as goal

abbrev pub invariant-loop : goal.invariant-loop
invariant-loop l = (start : Entries) (first : ℕ) (heads : List Head) (bytes : List (List ℕ)) (left : ℕ) (came : List ℕ)
    → IsWithin start first heads bytes left came l.initial.self → IsWithin start first heads bytes left came l.self

abbrev pub decreases-loop : goal.decreases-loop
decreases-loop l = length l.self.log.unread
