-- The process depends on just these guesses, and so does the copy that it gets, or the file that it writes.
use Rattle.sk_machine.proofs.Names.{Copy, Obj, Proc, tags_in}
use Rattle.sk_machine.proofs.AsProcess.{alike_two}
use Rattle.sk_machine.proofs.as_process.writes_alike.Goals as goal

pub returns-in-Received : goal.returns-in-Received
returns-in-Received c = λ is.
    rw c.in-Received.is (alike_two c.args.logs.now.tags (Copy c.in-Received.name) (Proc c.args.pid) (tags_in c.args.logs.now.slots) (c.is_alike-in-Received.ensures is) c.requires.own)

pub returns-in-WritesFile : goal.returns-in-WritesFile
returns-in-WritesFile c = λ is.
    rw c.in-WritesFile.is (alike_two c.args.logs.now.tags (Obj c.in-WritesFile.object) (Proc c.args.pid) (tags_in c.args.logs.now.slots) (c.is_alike.ensures is) c.requires.own)
