-- What is written so far, and the bytes that are left, make the whole.
use Rattle.sk_words.proofs.Names.{◌≡◌, ℕ, ◌++◌, List, length, flat_map, HasWritten, IsPlainFormatter, spelled_byte}
use Rattle.sk_words.proofs.spelling.UnquotedDisplay.fmt.Given as goal

abbrev pub invariant-loop-part : goal.invariant-loop-part
invariant-loop-part g l =
    IsPlainFormatter l.fn.f
    → (bs : List ℕ) × HasWritten g.W.Write.write_str_gives l.fn.f bs l.f × (bs ++ flat_map spelled_byte l.rest ≡ flat_map spelled_byte l.fn.self.0.now)

abbrev pub decreases-loop-part : goal.decreases-loop-part
decreases-loop-part g l = length l.rest
