-- One guess more is noted, or is not struck.
use Rattle.sk_guesses.proofs.Names.{◌≡◌, ◌<◌, ◌+◌, ◌++◌, ◌∷◌, drop, length, map, sym, ◌∙◌, ap, refl, arith, struck_with}
use Rattle.sk_guesses.proofs.Names.{opens_of}
use Rattle.sk_guesses.proofs.Kept.{strike_next}
use Rattle.sk_guesses.proofs.Opens.{guess_of}
use Rattle.sk_guesses.proofs.Passes.{next_of_all, none_struck_before}
use Rattle.sk_guesses.proofs.open_guesses.strike_all.Goals as goal

pub loop-place-preserved : goal.loop-place-preserved
loop-place-preserved g c =
    let ls = c.args.opens.now.items in
    let i = c.loop-place.place in
    let lt : i < length ls = omega (arith, c.loop-place-test.true, c.len-place-end.ensures) in
    let x = c.at.result in
    let next : drop i ls ≡ x ∷ drop (i + 1) ls = next_of_all ls i x lt c.at.ensures in (
      ap (λ ys. ys ++ struck_with c.args.id (opens_of (map guess_of (drop (i + 1) ls)))) c.note_struck.ensures.struck
          ∙ strike_next c.args.id c.loop-place.struck.items x.guess (map guess_of (drop (i + 1) ls))
          ∙ ap (λ ms. c.loop-place.struck.items ++ struck_with c.args.id (opens_of (map guess_of ms))) (sym next) ∙ c.loop-place.invariant.0,
      omega (arith, c.note_struck.ensures.more, c.loop-place.invariant.1, lt),
      c.note_struck.ensures.room ∙ c.loop-place.invariant.2,
    )

pub loop-place-init : goal.loop-place-init
loop-place-init g c = (
  ap (λ xs. c.args.struck.now.items ++ xs) (none_struck_before c.args.id c.args.from c.args.opens.now.items c.requires.none_before c.requires.bound),
  omega (arith, c.requires.room, c.requires.bound),
  refl,
)
