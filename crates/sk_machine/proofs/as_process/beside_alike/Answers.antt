-- The process depends on just these guesses, and so does the entity.
use Rattle.sk_machine.proofs.Names.{Proc, tags_in}
use Rattle.sk_machine.proofs.AsProcess.{alike_two}
use Rattle.sk_machine.proofs.as_process.beside_alike.Goals as goal

pub returns-in-One : goal.returns-in-One
returns-in-One c = λ is.
    rw c.in-One.is (alike_two c.args.logs.now.tags c.in-One.entity (Proc c.args.pid) (tags_in c.args.logs.now.slots) (c.is_alike.ensures is) c.requires.own)

pub returns-in-Gone : goal.returns-in-Gone
returns-in-Gone c = λ is.
    rw c.in-Gone.is (alike_two c.args.logs.now.tags (Proc c.args.pid) c.in-Gone.entity (tags_in c.args.logs.now.slots) c.requires.own (c.is_alike-in-Gone.ensures is))
