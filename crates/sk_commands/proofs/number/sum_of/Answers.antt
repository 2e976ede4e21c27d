-- It is there just where it has 64 bits.
use Rattle.sk_commands.proofs.Names.{rules, arith, to_z-of_z}
use Rattle.sk_commands.proofs.Numbers.{fitting_is}
use Rattle.sk_commands.proofs.number.sum_of.Goals as goal

pub returns : goal.returns
returns c = first_of (search (rules, fitting_is, c.checked_add.ensures), grind (arith, to_z-of_z, fitting_is, c.checked_add.ensures))
