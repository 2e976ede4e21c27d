use Rattle.sk_commands.proofs.Names.{◌≡◌, ◌+◌, ℕ, ◌≤◌, pos, drop, map, count_by, is_some, vec_items}
use Rattle.sk_commands.proofs.run.count.Given as goal

abbrev pub invariant-loop-key : goal.invariant-loop-key
invariant-loop-key g l =
    (n : ℕ) × (l.count ≡ pos n) × (n ≤ l.key-index)
    × (n + count_by (λ key. is_some (g.S.Look.look l.store key)) (map vec_items (drop l.key-index l.keys)) ≡ count_by (λ key. is_some (g.S.Look.look l.store key)) (map vec_items l.keys))
