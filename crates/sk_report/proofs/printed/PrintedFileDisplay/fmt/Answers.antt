-- One more block is written.
use Rattle.sk_report.proofs.Names.{◌≡◌, ◌+◌, ◌*◌, ◌∷◌, ◌++◌, List, ℕ, take, arith, sym, ap, ◌∙◌, flat_map, common_steps}
use Rattle.sk_report.proofs.Names.{spelled_byte}
use Rattle.sk_report.proofs.Spelled.{one_more}
use Rattle.sk_report.proofs.printed.PrintedFileDisplay.fmt.Goals as goal

pub loop-index-preserved : goal.loop-index-preserved
loop-index-preserved g c =
    let i = c.loop-index.index in
    let f = c.args.self.now.0.now in
    let next : 34 ∷ flat_map spelled_byte (take (512 * (c.loop-index.index + 1)) c.args.self.now.0.now) ≡ (34 ∷ flat_map spelled_byte (take (512 * c.loop-index.index) c.args.self.now.0.now)) ++ flat_map spelled_byte c.block.result.now =
    ap (λ (l : List ℕ). 34 ∷ l) (one_more spelled_byte f i ∙ ap (λ (l : List ℕ). flat_map spelled_byte (take (512 * i) f) ++ flat_map spelled_byte l) (sym c.block.ensures)) in
    rw next (grind (arith, common_steps, c.loop-index.invariant))
