-- One write is put back, the newest.
use Rattle.sk_slots.proofs.Names.{drop_all, take_all, ◌≤◌, length, take, drop, sym, ◌∙◌, ap, subst, arith, rewound}
use Rattle.sk_slots.proofs.Names.{CanGoBack}
use Rattle.sk_slots.proofs.Undoing.{can_less, drop_more, long_more, rewound_more, take_more}
use Rattle.sk_slots.proofs.notes.go_back.Goals as goal

pub put_back-requires : goal.put_back-requires
put_back-requires g c =
    (can_less g.I.Inversion.undone g.I.Inversion.fits c.loop-log.value c.pop.new.self.items c.in-Some.note
    (subst (CanGoBack g.I.Inversion.undone g.I.Inversion.fits c.loop-log.value) c.in-Some.ensures.items c.loop-log.invariant.0)).0

pub loop-log-preserved : goal.loop-log-preserved
loop-log-preserved g c =
    let undone = g.I.Inversion.undone in
    let fits = g.I.Inversion.fits in
    let l = c.loop-log in
    let place = c.args.place in
    let ns = c.pop.new.self.items in
    let n = c.in-Some.note in
    let items = c.in-Some.ensures.items in
    let can = can_less undone fits l.value ns n (subst (CanGoBack undone fits l.value) items l.invariant.0) in
    let long = ap length items ∙ long_more ns n in
    let le : place ≤ length ns = omega (arith, c.loop-log-test.true, c.len.ensures, l.log.ok.0, long) in (
      subst (λ v. CanGoBack undone fits v ns) (sym c.put_back.ensures) can.1,
      le,
      ap (λ v. rewound undone v (drop place ns)) c.put_back.ensures ∙ sym (rewound_more undone l.value (drop place ns) n) ∙ ap (rewound undone l.value) (sym (ap (drop place) items ∙ drop_more place ns n le)) ∙ l.invariant.2,
      sym (ap (take place) items ∙ take_more place ns n le) ∙ l.invariant.3,
      omega (arith, c.pop.ensures.len, l.invariant.4),
      c.pop.ensures.capacity ∙ l.invariant.5,
    )

pub loop-log-preserved-in-Some : goal.loop-log-preserved-in-Some
loop-log-preserved-in-Some g c =
    let undone = g.I.Inversion.undone in
    let fits = g.I.Inversion.fits in
    let l = c.loop-log in
    let place = c.args.place in
    let ns = c.pop.new.self.items in
    let n = c.in-Some.note in
    let items = c.in-Some.ensures.items in
    let can = can_less undone fits l.value ns n (subst (CanGoBack undone fits l.value) items l.invariant.0) in
    let long = ap length items ∙ long_more ns n in
    let le : place ≤ length ns = omega (arith, c.loop-log-test.true, c.len.ensures, l.log.ok.0, long) in (
      subst (λ v. CanGoBack undone fits v ns) (sym c.put_back.ensures) can.1,
      le,
      ap (λ v. rewound undone v (drop place ns)) c.put_back.ensures ∙ sym (rewound_more undone l.value (drop place ns) n) ∙ ap (rewound undone l.value) (sym (ap (drop place) items ∙ drop_more place ns n le)) ∙ l.invariant.2,
      sym (ap (take place) items ∙ take_more place ns n le) ∙ l.invariant.3,
      omega (arith, c.pop.ensures.len, l.invariant.4),
      c.pop.ensures.capacity ∙ l.invariant.5,
    )

pub returns-clause-value : goal.returns-clause-value
returns-clause-value g c =
    let l = c.loop-log in
    let far : length l.log.items ≤ c.args.place = omega (arith, c.loop-log-test.false, c.len.ensures, l.log.ok.0) in
    sym (ap (rewound g.I.Inversion.undone l.value) (drop_all c.args.place l.log.items far)) ∙ l.invariant.2

pub returns-clause-log : goal.returns-clause-log
returns-clause-log g c =
    let l = c.loop-log in
    let far : length l.log.items ≤ c.args.place = omega (arith, c.loop-log-test.false, c.len.ensures, l.log.ok.0) in
    sym (take_all c.args.place l.log.items far) ∙ l.invariant.3
