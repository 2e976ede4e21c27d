use Rattle.sk_channels.proofs.Names.{◌≡◌, refused, told_text}
use Rattle.std.proofs.Common.{flat_map}
use Rattle.sk_channels.proofs.outlet.lost_lines.Given as goal

abbrev pub invariant-loop-ticket : goal.invariant-loop-ticket
invariant-loop-ticket l = l.lines.items ≡ flat_map told_text (refused l._ticket)
