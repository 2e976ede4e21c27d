-- The first number of the type is that of the call.
use Rattle.sk_wire.proofs.wire.Wire.new.Given as goal

abbrev pub ghosts-laid : goal.ghosts-laid
ghosts-laid g a = record { first = a.first }
