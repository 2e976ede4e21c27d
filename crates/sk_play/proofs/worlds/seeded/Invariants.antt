-- The files that are left are seeded from here; no request was answered.
use Rattle.sk_play.proofs.Names.{◌≡◌, drop, new_server, seeded}
use Rattle.sk_play.proofs.worlds.seeded.Given as goal

abbrev pub invariant-loop-remote : goal.invariant-loop-remote
invariant-loop-remote l = record { first : l.server.next ≡ 1; left : seeded l.server (drop l.remote-index l.remotes) ≡ seeded new_server l.remotes }
