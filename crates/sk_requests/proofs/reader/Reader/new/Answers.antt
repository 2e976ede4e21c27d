use Rattle.std.proofs.Common.{[], refl}
use Rattle.sk_requests.proofs.Steps.{nothing_left}
use Rattle.sk_requests.proofs.reader.Reader.new.Goals as goal

pub returns : goal.returns
returns c = record {
  same = refl;
  rest = [];
  splits = refl;
  behind = (c.requires, (c.new.ensures.items, nothing_left c.new.result.items c.args.limits.line c.new.ensures.items));
}
