-- The token of the guess that is drawn is pushed.
use Rattle.sk_held.proofs.Names.{rules, ◌≡◌, bytes_cmp, byte_deed}
use Rattle.sk_held.proofs.Kept.{drew}
use Rattle.sk_held.proofs.Written.{nothing_long}
use Rattle.sk_held.proofs.held.Held.guess.Goals as goal

pub invariant_of-self-2 : goal.invariant_of-self-2
invariant_of-self-2 c =
    let same : c.reserve.new.self.items ≡ c.self.inside.tokens.items = search rules in (
      rw (c.push_reserved.ensures.items, same) (drew c.self.inside.kernel.parts c.guess.new.self.parts c.self.inside.tokens.items c.self.invariant.0 bytes_cmp (byte_deed c.self.inside.step) c.in_ok-token.token
          c.in_ok-token.ensures.token c.in_ok-token.ensures.ok),
      nothing_long c.guess.new.step c.in_ok-token.ensures.emptied.looked c.in_ok-token.ensures.emptied.written,
    )
