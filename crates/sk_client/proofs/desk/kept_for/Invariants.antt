use Rattle.sk_client.proofs.Names.{◌≡◌, drop, kept_for}
use Rattle.sk_client.proofs.desk.kept_for.Given as goal

abbrev pub invariant-loop-one : goal.invariant-loop-one
invariant-loop-one l = kept_for l.pid (drop l.one-index l.kept) ≡ kept_for l.pid l.kept
