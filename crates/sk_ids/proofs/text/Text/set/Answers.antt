-- The bytes, and zeros behind them as far as there were none, fill the cells.
use Rattle.sk_ids.proofs.Names.{◌≤◌, length, arith, TEXT_LIMIT}
use Rattle.sk_ids.proofs.Cells.{replaced_len, replaced_zeros, replaced_first}
use Rattle.sk_ids.proofs.text.Text.set.Goals as goal

pub invariant_of-self : goal.invariant_of-self
invariant_of-self c =
    let t = c.self.inside in
    let b = c.args.bytes.now in
    let short : length c.args.bytes.now ≤ c.max-end.result = omega (arith, c.max-end.ensures) in
    let most : c.self.inside.len ≤ c.max-end.result = omega (arith, c.max-end.ensures) in
    let room : c.max-end.result ≤ TEXT_LIMIT = omega (arith, c.max-end.ensures, c.requires, c.self.invariant.fits) in
    record {
      fits = c.requires;
      count = replaced_len TEXT_LIMIT b t.cells c.place.new.cells c.clear.new.cells t.len c.max-end.result c.self.invariant.count c.self.invariant.zeros short most room c.place.ensures c.clear.ensures;
      zeros = replaced_zeros TEXT_LIMIT b t.cells c.place.new.cells c.clear.new.cells t.len c.max-end.result c.self.invariant.count c.self.invariant.zeros short most room c.place.ensures c.clear.ensures;
    }

pub returns : goal.returns
returns c =
    let t = c.self.inside in
    let b = c.args.bytes.now in
    let short : length c.args.bytes.now ≤ c.max-end.result = omega (arith, c.max-end.ensures) in
    let most : c.self.inside.len ≤ c.max-end.result = omega (arith, c.max-end.ensures) in
    let room : c.max-end.result ≤ TEXT_LIMIT = omega (arith, c.max-end.ensures, c.requires, c.self.invariant.fits) in
    replaced_first TEXT_LIMIT b t.cells c.place.new.cells c.clear.new.cells t.len c.max-end.result c.self.invariant.count c.self.invariant.zeros short most room c.place.ensures c.clear.ensures
