use Rattle.sk_log.proofs.Names.{◌≡◌, ℕ, List, sym, ap, subst, arith, rules, Reading, Settles, HasRead, the_view}
use Rattle.sk_log.proofs.Reading.{fed_kept}
use Rattle.sk_log.proofs.recovery.Recovery.feed.Goals as goal

pub returns : goal.returns
returns c =
    let inside = c.self.inside in
    let settles = subst (λ (old : List ℕ). Settles inside.segment inside.number old c.settle-front.new.unread c.settle-front.result.0 c.settle-front.result.1) c.in_ok-push.ensures.ok c.settle-front.ensures in
    let fed : inside.fed ≡ c.args.self.now.fed = ap (λ (r : Reading). r.fed) c.self.view_is in
    record {
      ok = λ segment first payloads bytes read.
          fed_kept segment first payloads bytes c.args.piece.now (the_view inside) c.settle-front.new.unread c.settle-front.result.0 c.settle-front.result.1
          (subst (HasRead segment first payloads bytes) (sym c.self.view_is) read) c.in_default.not-Other settles;
      err = tt;
      too_long = (λ wrong. search rules, λ more. absurd (omega (arith, more, fed, c.if-len-self.false, c.self.invariant.limit)));
    }
