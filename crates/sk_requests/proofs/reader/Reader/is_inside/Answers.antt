use Rattle.sk_requests.proofs.Names.{sym, subst, EndsWithin}
use Rattle.sk_requests.proofs.Streams.{ends_within}
use Rattle.sk_requests.proofs.reader.Reader.is_inside.Goals as goal

pub returns : goal.returns
returns c = λ limits told stream has.
    subst (EndsWithin limits told stream) (sym c.has_some.ensures) (ends_within limits told stream c.args.self.now has)
