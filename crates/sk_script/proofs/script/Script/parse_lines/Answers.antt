-- Where the labels find no room, that is told at the first line, before which there is none.
use Rattle.sk_script.proofs.Names.{◌≤◌, ◌+◌, arith, last_line}
use Rattle.sk_script.proofs.Told.{at_first}
use Rattle.sk_script.proofs.script.Script.parse_lines.Goals as goal

pub returns-in_default : goal.returns-in_default
returns-in_default c =
    let within : c.args.lines.now.line + 1 ≤ last_line c.args.lines.now = omega (arith, c.in_default.ensures.some) in
    rw c.line.ensures.value (at_first (c.args.lines.now.line + 1) (last_line c.args.lines.now) c.args.lines.now.lines within)
