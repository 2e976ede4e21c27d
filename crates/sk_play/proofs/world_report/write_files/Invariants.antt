-- The lines of the files before the loop's place are written.
use Rattle.sk_play.proofs.Names.{take, flat_map, Appends, remote_line}
use Rattle.std.specs.FinMap as map
use Rattle.sk_play.proofs.world_report.write_files.Given as goal

abbrev pub invariant-loop-name : goal.invariant-loop-name
invariant-loop-name g l =
    Appends (g.W.Write.contents l.fn.out) (g.W.Write.contents l.out) (flat_map (λ name. remote_line name (map.get l.server.files name)) (take l.name-index l.names))
