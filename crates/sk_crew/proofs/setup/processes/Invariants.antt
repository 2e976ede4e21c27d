use Rattle.sk_crew.proofs.Names.{◌≡◌, flat_map, take, process_of}
use Rattle.sk_crew.proofs.setup.processes.Given as goal

abbrev pub invariant-loop-entity : goal.invariant-loop-entity
invariant-loop-entity l = l.pids.items ≡ flat_map process_of (take l.entity-index l.entity-items)
