-- What is written and replied so far, with what comes of the commands that are left, is what comes of all.
use Rattle.sk_commands.proofs.Names.{◌≡◌, ◌++◌, map, vec_items, into_iter_items, told, each}
use Rattle.sk_commands.proofs.Queued.{left_over}
use Rattle.sk_commands.proofs.work.run_each.Given as goal

abbrev pub invariant-loop-command : goal.invariant-loop-command
invariant-loop-command g l =
    (told l.so_far ++ (left_over (map vec_items l.known) (g.S.Look.look l.store) (into_iter_items l.command-iterator) (told l.so_far)).written
    ≡ (each (map vec_items l.known) l.fn.commands (g.S.Look.look l.store)).written)
    × (l.replies.items ++ (left_over (map vec_items l.known) (g.S.Look.look l.store) (into_iter_items l.command-iterator) (told l.so_far)).reply
    ≡ (each (map vec_items l.known) l.fn.commands (g.S.Look.look l.store)).reply)
