-- The text is that of the integer that was read, or of none.
use Rattle.sk_commands.proofs.Names.{◌≡◌, None, arith, number_of, to_z-of_z}
use Rattle.sk_commands.proofs.Numbers.{number_none, number_other, number_some}
use Rattle.sk_commands.proofs.number.number_of.Goals as goal

pub returns-in_err-number : goal.returns-in_err-number
returns-in_err-number c = let none : number_of c.args.text.now ≡ None = number_none c.args.text.now c.in_err-number.ensures.none in grind (arith, none)

pub returns-then-is_text_of : goal.returns-then-is_text_of
returns-then-is_text_of c = grind (arith, to_z-of_z, number_some)

pub returns-else-is_text_of : goal.returns-else-is_text_of
returns-else-is_text_of c = grind (arith, to_z-of_z, number_other)
