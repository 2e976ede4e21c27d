-- The bytes so far stand for themselves, where none was odd.
use Rattle.sk_report.proofs.Names.{take, false, ◌≡◌, flat_map, spelled_byte}
use Rattle.sk_report.proofs.placed.are_plain.Given as goal

abbrev pub invariant-loop-byte : goal.invariant-loop-byte
invariant-loop-byte l = l.odd ≡ false → flat_map spelled_byte (take l.byte-index l.bytes) ≡ take l.byte-index l.bytes
