-- The newest note is the last.
use Rattle.std.proofs.Common.{◌≡◌, suc, ◌-◌, length, arith}
use Rattle.sk_slots.proofs.Undoing.{newest_can, newest_in}
use Rattle.sk_slots.proofs.notes.take_in_newest.Goals as goal

pub take_in-requires : goal.take_in-requires
take_in-requires g c =
    let ks = c.args.log.now.items in
    let last : suc (c.len-len.result - 1) ≡ length ks = omega (arith, c.len-len.ensures, c.args.log.now.ok.0, c.if-len-gt0.true) in
    newest_can g.I.Inversion.undone g.I.Inversion.fits c.requires.0 c.args.later (c.len-len.result - 1) ks c.index_mut.result.now last c.index_mut.ensures.value c.requires.1 c.requires.2

pub returns-then-len-gt0-clause-seen : goal.returns-then-len-gt0-clause-seen
returns-then-len-gt0-clause-seen g c = λ now fit can.
    let ks = c.args.log.now.items in
    let last : suc (c.len-len.result - 1) ≡ length ks = omega (arith, c.len-len.ensures, c.args.log.now.ok.0, c.if-len-gt0.true) in
    (newest_in g.I.Inversion.undone g.I.Inversion.fits now c.args.later (c.len-len.result - 1) ks c.index_mut.result.now c.take_in.new.note last c.index_mut.ensures.value c.take_in.ensures.tags
    (λ n f e. (c.take_in.ensures.fits n f e, c.take_in.ensures.back n f e)) fit can).0

pub returns-then-len-gt0-clause-can : goal.returns-then-len-gt0-clause-can
returns-then-len-gt0-clause-can g c = λ now fit can.
    let ks = c.args.log.now.items in
    let last : suc (c.len-len.result - 1) ≡ length ks = omega (arith, c.len-len.ensures, c.args.log.now.ok.0, c.if-len-gt0.true) in
    (newest_in g.I.Inversion.undone g.I.Inversion.fits now c.args.later (c.len-len.result - 1) ks c.index_mut.result.now c.take_in.new.note last c.index_mut.ensures.value c.take_in.ensures.tags
    (λ n f e. (c.take_in.ensures.fits n f e, c.take_in.ensures.back n f e)) fit can).1
