use Rattle.sk_commands.proofs.Names.{◌≡◌, drop, list_any, is_special}
use Rattle.sk_commands.proofs.parse.has_special.Given as goal

abbrev pub invariant-loop-byte : goal.invariant-loop-byte
invariant-loop-byte l = list_any is_special (drop l.byte-index l.bytes) ≡ list_any is_special l.bytes
