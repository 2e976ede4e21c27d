use Rattle.sk_plain.specs.declared.refusal.Refusal.TheVariants.{Memory}
use Rattle.sk_workers.proofs.Steps.{turn_leaves}
use Rattle.sk_workers.proofs.book.turn_of.Goals as goal

pub returns-then-lacks_memory : goal.returns-then-lacks_memory
returns-then-lacks_memory c = turn_leaves c.args.desk.now c.turn-answer.new.self c.args.pid c.turn-answer.result Memory c.turn-answer.ensures (c.lacks_memory.ensures.0 c.if-lacks_memory.true)
