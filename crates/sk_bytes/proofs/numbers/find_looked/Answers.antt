-- A key with a number is found by it.
use Rattle.std.proofs.Common.{refl, sym}
use Rattle.sk_bytes.proofs.numbers.find_looked.Goals as goal

pub returns-then-is_numbered : goal.returns-then-is_numbered
returns-then-is_numbered g c =
    sym (c.requires.back c.args.key.now c.in-Some.write.now.0 (c.if-is_numbered.ensures refl))
