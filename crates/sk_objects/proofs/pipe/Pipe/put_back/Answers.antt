use Rattle.sk_objects.proofs.Names.{◌≡◌, ◌+◌, ◌++◌, List, ℕ, length, drop, arith, sym, ap, subst, ◌∙◌, turned}
use Rattle.sk_objects.proofs.Names.{ring_bytes, wrapped, PipeView}
use Rattle.sk_objects.proofs.Rings.{after_put_back, ring_len, wrapped_back}
use Rattle.sk_objects.proofs.pipe.Pipe.put_back.Goals as goal

pub returns : goal.returns
returns c =
    let p = c.self.inside in
    let b = c.args.bytes.now in
    let s = c.write_round.new.cells in
    let at = c.wrapped-self-inside.result in
    let write : turned at s ≡ b ++ drop (length b) (turned at p.cells.value) =
    subst (λ (x : List ℕ). turned at s ≡ b ++ drop (length b) (turned at x)) c.as_mut.ensures.value c.write_round.ensures.cells in
    let held : length c.args.self.now.bytes ≡ p.len = ap (λ (v : PipeView). length v.bytes) (sym c.self.view_is) ∙ ring_len p.cells.value p.head p.len c.self.invariant.count c.self.invariant.starts c.self.invariant.fits in
    let there : wrapped (at + length b) ≡ p.head = ap (λ (x : ℕ). wrapped (x + length b)) c.wrapped-self-inside.ensures.value ∙ wrapped_back p.head (length b) c.self.invariant.starts (omega (arith, c.requires)) in
    let bytes : ring_bytes at (p.len + length b) s ≡ b ++ ring_bytes p.head p.len p.cells.value = after_put_back p.cells.value s b p.head p.len at c.self.invariant.count c.wrapped-self-inside.ensures.small (omega (arith, c.requires)) there write in
    ap (λ (l : List ℕ). let v : PipeView = record { bytes = l; shut = p.shut } in v) bytes
    ∙ ap (λ (v : PipeView). let w : PipeView = record { bytes = b ++ v.bytes; shut = v.shut } in w) c.self.view_is
