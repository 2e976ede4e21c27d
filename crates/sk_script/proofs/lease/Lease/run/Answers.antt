-- One instruction more is done, or there is none to do, and then the rest does nothing.
use Rattle.sk_script.proofs.Names.{◌≡◌, ℕ, zero, suc, ◌+◌, ◌-◌, false, refl, sym, ◌∙◌, ap, subst, arith, LeaseView}
use Rattle.sk_script.proofs.Names.{advanced, ran, Advances}
use Rattle.sk_script.proofs.lease.Lease.run.Goals as goal

stuck : (n : ℕ) (l : LeaseView) → advanced l ≡ l → ran n l ≡ l
stuck zero l is = refl
stuck (suc n) l is = ap (ran n) is ∙ stuck n l is

pub loop-preserved : goal.loop-preserved
loop-preserved c =
    let left = c.args.n - (c.loop.counter + 1) in
    let next : c.args.n - c.loop.counter ≡ suc left = omega (arith, c.loop-test.true) in
    let done : c.advance.new.self ≡ advanced c.loop.self = subst (λ b. Advances b c.loop.self c.advance.new.self) c.if-not-advance.false c.advance.ensures in
    ap (ran left) done ∙ ap (λ k. ran k c.loop.self) (sym next) ∙ c.loop.invariant

pub returns-then-not-advance : goal.returns-then-not-advance
returns-then-not-advance c =
    let none : Advances false c.loop.self c.advance.new.self = subst (λ b. Advances b c.loop.self c.advance.new.self) c.if-not-advance.true c.advance.ensures in
    none.1 ∙ sym (stuck (c.args.n - c.loop.counter) c.loop.self none.0) ∙ c.loop.invariant
