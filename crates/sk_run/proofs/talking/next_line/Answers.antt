-- What a reader gives up to a line feed is its next line.
use Rattle.sk_run.proofs.Talked.{taken}
use Rattle.sk_run.proofs.talking.next_line.Goals as goal

pub returns : goal.returns
returns g c = taken (g.R.Read.remaining c.args.reader.now) (g.R.Read.remaining c.read_until.new.self) c.read_until.new.buf.items (rw c.clear.ensures.items at c.in_ok-read_until.ensures.bytes) c.in_ok-read_until.ensures.rest
