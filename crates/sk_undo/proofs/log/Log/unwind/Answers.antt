use Rattle.sk_undo.proofs.Cites.{refl, ap, ◌∙◌, sym, arith, list_all, reverse-reverse, reverse, FitsBy, undone_by}
use Rattle.sk_undo.proofs.SeenNotes.{all_left, one_less, all_off, all_reverse}
use Rattle.sk_undo.proofs.log.Log.unwind.Goals as goal

pub loop-guess-init : goal.loop-guess-init
loop-guess-init g c = (
  all_left (FitsBy g.V.Logged.fits) (undone_by g.V.Logged.undone) c.args.guess c.args.value.now (reverse c.args.self.now.notes.items) c.requires.can,
  omega arith,
  refl,
)

pub undo_last-requires-clause-can : goal.undo_last-requires-clause-can
undo_last-requires-clause-can g c = c.loop-guess.invariant.0.can

pub loop-guess-smaller : goal.loop-guess-smaller
loop-guess-smaller g c = let fewer = c.undo_last.ensures.fewer in omega arith

pub loop-guess-preserved : goal.loop-guess-preserved
loop-guess-preserved g c =
    let fewer = c.undo_last.ensures.fewer in
    let within = c.loop-guess.invariant.1 in (
      one_less (FitsBy g.V.Logged.fits) (undone_by g.V.Logged.undone) c.args.guess c.args.value.now c.loop-guess.value c.undo_last.new.value
          (reverse c.args.self.now.notes.items) (reverse c.loop-guess.self.notes.items) (reverse c.undo_last.new.self.notes.items)
          c.loop-guess.invariant.0 (sym c.loop-guess-test.ensures) c.undo_last.ensures.value c.undo_last.ensures.notes c.undo_last.ensures.can,
      omega arith,
      c.undo_last.ensures.capacity ∙ c.loop-guess.invariant.2,
    )

pub returns-clause-value : goal.returns-clause-value
returns-clause-value g c grows =
    (all_off (FitsBy g.V.Logged.fits) (undone_by g.V.Logged.undone) c.args.guess c.args.value.now c.loop-guess.value
    (reverse c.args.self.now.notes.items) (reverse c.loop-guess.self.notes.items) c.loop-guess.invariant.0 (sym c.loop-guess-test.ensures) grows).0

pub returns-clause-log : goal.returns-clause-log
returns-clause-log g c grows =
    (all_off (FitsBy g.V.Logged.fits) (undone_by g.V.Logged.undone) c.args.guess c.args.value.now c.loop-guess.value
    (reverse c.args.self.now.notes.items) (reverse c.loop-guess.self.notes.items) c.loop-guess.invariant.0 (sym c.loop-guess-test.ensures) grows).1

pub returns-clause-can : goal.returns-clause-can
returns-clause-can g c = c.loop-guess.invariant.0.can

pub returns-clause-left : goal.returns-clause-left
returns-clause-left g c p all =
    let new = c.loop-guess.self.notes.items in
    ap (list_all p) (sym (reverse-reverse new)) ∙ all_reverse p (reverse new) (c.loop-guess.invariant.0.left p (all_reverse p c.args.self.now.notes.items all))

pub returns-clause-room : goal.returns-clause-room
returns-clause-room g c room =
    let within = c.loop-guess.invariant.1 in
    let same = c.loop-guess.invariant.2 in
    omega (arith, room)
