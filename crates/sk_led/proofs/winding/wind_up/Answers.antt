-- Once more what failed is cut off, and all is decided.
use Rattle.sk_led.proofs.Names.{◌≡◌, true, false, length, Ok, Err, subst, rules, err_from_is_err_and, FailPost}
use Rattle.sk_led.proofs.Last.{cut_and_decided, does_on, not_cut}
use Rattle.sk_led.proofs.winding.wind_up.Goals as goal

pub returns-in_err-has_failed : goal.returns-in_err-has_failed
returns-in_err-has_failed c =
    let p = err_from_is_err_and c.from_residual.result c.from_residual.ensures.1 in
    let room : length c.loop-store.room ≡ length c.args.room.now = search rules in
    let post = subst (λ n. FailPost (Err c.in_err-has_failed.field-0.0) n c.loop-store.store c.has_failed.new.store) room
    c.in_err-has_failed.ensures in
    rw (p.1, p.2) (does_on c.args.store.now c.loop-store.store c.has_failed.new.store c.loop-store.invariant.0 post.0, post.1)

pub returns-in_err-cut : goal.returns-in_err-cut
returns-in_err-cut c =
    let p = err_from_is_err_and c.from_residual-in_err-cut.result c.from_residual-in_err-cut.ensures.1 in
    let is : c.in_ok-has_failed.field-0 ≡ true = search rules in
    let post = subst (λ t. FailPost (Ok t) (length c.loop-store.room) c.loop-store.store c.has_failed.new.store) is
    c.in_ok-has_failed.ensures in
    let does = does_on c.args.store.now c.loop-store.store c.has_failed.new.store c.loop-store.invariant.0 post.0 in
    rw (p.1, p.2) (not_cut c.in_err-cut.field-0.0 (length c.args.room.now) c.args.store.now c.has_failed.new.store c.cut.new.self does
    post.1 c.in_err-cut.ensures)

pub loop-store-preserved : goal.loop-store-preserved
loop-store-preserved c =
    let is : c.in_ok-has_failed.field-0 ≡ true = search rules in
    let post = subst (λ t. FailPost (Ok t) (length c.loop-store.room) c.loop-store.store c.has_failed.new.store) is
    c.in_ok-has_failed.ensures in
    let goes = cut_and_decided c.loop-store.store c.has_failed.new.store c.cut.new.self c.decide_all-in-loop-store.new.store
    c.in_ok-cut.ensures.0 post.2 c.in_ok-cut.ensures.1 c.decide_all-in-loop-store.ensures in (
      does_on c.args.store.now c.loop-store.store c.decide_all-in-loop-store.new.store c.loop-store.invariant.0
          (does_on c.loop-store.store c.has_failed.new.store c.decide_all-in-loop-store.new.store post.0 goes.0),
      goes.1,
    )

pub loop-store-smaller : goal.loop-store-smaller
loop-store-smaller c =
    let is : c.in_ok-has_failed.field-0 ≡ true = search rules in
    let post = subst (λ t. FailPost (Ok t) (length c.loop-store.room) c.loop-store.store c.has_failed.new.store) is
    c.in_ok-has_failed.ensures in
    (cut_and_decided c.loop-store.store c.has_failed.new.store c.cut.new.self c.decide_all-in-loop-store.new.store
    c.in_ok-cut.ensures.0 post.2 c.in_ok-cut.ensures.1 c.decide_all-in-loop-store.ensures).2

pub returns : goal.returns
returns c =
    let is : c.in_ok-has_failed.field-0 ≡ false = search rules in
    let post = subst (λ t. FailPost (Ok t) (length c.loop-store.room) c.loop-store.store c.has_failed.new.store) is
    c.in_ok-has_failed.ensures in
    (does_on c.args.store.now c.loop-store.store c.has_failed.new.store c.loop-store.invariant.0 post.0, post.1)
