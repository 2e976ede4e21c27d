-- A frequent row that stands by itself fits whatever instruction it is the row of.
use Rattle.sk_plain.proofs.step.frequent.Goals as goal

pub returns-in-MakeFile : goal.returns-in-MakeFile
returns-in-MakeFile g c = rw c.in-MakeFile.is (c.put_made.ensures _)

pub returns-in-Look : goal.returns-in-Look
returns-in-Look g c = rw c.in-Look.is (c.put_look.ensures _)

pub returns-in-Link : goal.returns-in-Link
returns-in-Link g c = rw c.in-Link.is (c.put_link.ensures _)

pub returns-in-Unlink : goal.returns-in-Unlink
returns-in-Unlink g c = rw c.in-Unlink.is (c.put_unlink.ensures _)

pub returns-in-Read : goal.returns-in-Read
returns-in-Read g c = rw c.in-Read.is (c.put_read.ensures _)

pub returns-in-Write : goal.returns-in-Write
returns-in-Write g c = rw c.in-Write.is (c.put_write.ensures _)
