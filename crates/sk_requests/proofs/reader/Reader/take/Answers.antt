use Rattle.sk_requests.proofs.Streams.{reads_on}
use Rattle.sk_requests.proofs.reader.Reader.take.Goals as goal

pub returns : goal.returns
returns c = λ limits told stream has.
    reads_on limits told stream c.args.bytes.now c.args.self.now c.read.new.self c.read.result c.read.ensures.read c.read.ensures.limits has
