-- Where the frame counts it is taken; else it is none of those that do.
use Rattle.sk_recovered.proofs.Names.{rules, ◌≡◌, true, false, sym, subst, on_ok_weaker, with_one, HasTaken}
use Rattle.sk_recovered.proofs.frames.Frames.take_if.Goals as goal

pub returns-then-not-counts-clause-taken : goal.returns-then-not-counts-clause-taken
returns-then-not-counts-clause-taken c = λ first start payloads has number.
    let none : c.args.counts ≡ false = search rules in
    subst (λ b. HasTaken first start (with_one b payloads c.args.payload.now) c.args.self.now) (sym none) has

pub returns-clause-taken : goal.returns-clause-taken
returns-clause-taken c =
    let counts : c.args.counts ≡ true = search rules in
    on_ok_weaker c.take.result (λ goes first start payloads has number.
    subst (λ b. HasTaken first start (with_one b payloads c.args.payload.now) c.take.new.self) (sym counts)
    (goes first start payloads has (number counts))) c.take.ensures.taken
