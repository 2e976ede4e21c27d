-- A guess is decided by the token at its place.
use Rattle.sk_held.proofs.Names.{rules}
use Rattle.sk_held.proofs.Deciding.{fail_met, fail_holds}
use Rattle.sk_held.proofs.held.Held.fail.Goals as goal

pub unreachable-requires : goal.unreachable-requires
unreachable-requires c =
    let i = c.self.inside in
    let left = c.remove-token in
    fail_met i.kernel i.tokens.items left.new.self.items left.result c.in_ok-place.place c.args.guess c.self.invariant.0
    (search rules) (search rules) (search rules) c.fail.result c.in-Err._stranger c.fail.new.self c.fail.ensures c.in-Err.is

pub invariant_of-self : goal.invariant_of-self
invariant_of-self c =
    let i = c.self.inside in
    let left = c.remove-token in (
      fail_holds i.kernel i.tokens.items left.new.self.items left.result c.in_ok-place.place c.args.guess c.self.invariant.0
          (search rules) (search rules) (search rules) c.fail.result _ c.fail.new.self c.fail.ensures c.in-Ok.is,
      c.self.invariant.1,
    )
