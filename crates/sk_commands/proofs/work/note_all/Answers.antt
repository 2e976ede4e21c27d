-- One write more stands there.
use Rattle.sk_commands.proofs.Names.{into_iter_items}
use Rattle.sk_commands.proofs.Placings.{noted_on}
use Rattle.sk_commands.proofs.work.note_all.Goals as goal

pub loop-write-preserved : goal.loop-write-preserved
loop-write-preserved c =
    noted_on c.loop-write.so_far (into_iter_items c.loop-write.write-iterator) (into_iter_items c.next.new.self) c.push.new.self c.in-Some.write _
    c.in-Some.ensures.steps.0 c.in_ok-push.ensures.ok c.loop-write.invariant
