-- So many bytes were read.
use Rattle.sk_replay.proofs.Names.{◌-◌, length, HasCome}
use Rattle.sk_replay.proofs.payload.read.Given as goal

abbrev pub invariant-loop-reading : goal.invariant-loop-reading
invariant-loop-reading l = HasCome l.payload l.reading

abbrev pub decreases-loop-reading : goal.decreases-loop-reading
decreases-loop-reading l = length l.payload - l.reading.place
