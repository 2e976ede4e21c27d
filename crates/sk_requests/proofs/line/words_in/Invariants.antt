use Rattle.sk_requests.proofs.Names.{◌≡◌, [], ◌++◌, drop, words_from, words_of}
use Rattle.sk_requests.proofs.line.words_in.Given as goal

-- the words so far and those of the bytes that are left are the line's
abbrev pub invariant-loop-byte : goal.invariant-loop-byte
invariant-loop-byte l = words_of l.words.items ++ words_from l.word.items (drop l.byte-index l.text) ≡ words_from [] l.text
