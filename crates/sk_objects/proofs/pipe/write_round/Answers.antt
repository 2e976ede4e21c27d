use Rattle.sk_objects.proofs.Names.{◌≡◌, ◌+◌, ◌-◌, ◌++◌, List, ℕ, length, take, drop, arith, ap, ◌∙◌, take-append-drop}
use Rattle.sk_objects.proofs.Names.{length-take-le, length-drop, overwritten, turned}
use Rattle.sk_objects.proofs.Rings.{written_high}
use Rattle.sk_objects.proofs.pipe.write_round.Goals as goal

pub returns-clause-cells : goal.returns-clause-cells
returns-clause-cells c =
    let n = 4096 - c.args.at in
    let b = c.args.bytes.now in
    let front_len : length (take n b) ≡ n = length-take-le n b (omega arith) in
    let back_len : length (drop n b) + n ≡ length b = omega (arith, length-drop n b) in
    let whole : take n b ++ drop n b ≡ b = take-append-drop n b in
    let now : c.place-3.new.cells ≡ overwritten (overwritten c.args.cells.now c.args.at (take n b)) 0 (drop n b) =
    c.place-3.ensures
    ∙ ap (λ (x : List ℕ). overwritten x 0 c.split_at.result.1.now) c.place-2.ensures
    ∙ ap (λ (x : List ℕ). overwritten (overwritten c.args.cells.now c.args.at x) 0 c.split_at.result.1.now) c.split_at.ensures.front
    ∙ ap (overwritten (overwritten c.args.cells.now c.args.at (take n b)) 0) c.split_at.ensures.back in
    ap (turned c.args.at) now
    ∙ written_high c.args.cells.now (take n b) c.args.at (drop n b) (omega (arith, c.requires.cells)) (omega (arith, c.requires.fits))
    ∙ ap (λ (l : List ℕ). l ++ drop (length l) (turned c.args.at c.args.cells.now)) whole
