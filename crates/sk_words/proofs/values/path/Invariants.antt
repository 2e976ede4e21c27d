-- The process so far, and the numbers that are left, say what the word says.
use Rattle.sk_words.proofs.Names.{◌≡◌, length, parts, pid, path_below}
use Rattle.sk_words.proofs.values.path.Given as goal

abbrev pub invariant-loop-number : goal.invariant-loop-number
invariant-loop-number l = pid l.fn.word ≡ path_below l.pid (parts 46 l.rest)

abbrev pub decreases-loop-number : goal.decreases-loop-number
decreases-loop-number l = length l.rest
