use Rattle.sk_objects.proofs.Names.{◌≡◌, ◌+◌, ◌++◌, List, ℕ, length, drop, arith, sym, ap, subst, ◌∙◌, turned}
use Rattle.sk_objects.proofs.Names.{ring_bytes, wrapped, PipeView}
use Rattle.sk_objects.proofs.Rings.{after_put, ring_len}
use Rattle.sk_objects.proofs.pipe.Pipe.put.Goals as goal

pub returns : goal.returns
returns c =
    let p = c.self.inside in
    let b = c.args.bytes.now in
    let s = c.write_round.new.cells in
    let write : turned (wrapped (p.head + p.len)) s ≡ b ++ drop (length b) (turned (wrapped (p.head + p.len)) p.cells.value) =
    subst (λ (h : ℕ). turned h s ≡ b ++ drop (length b) (turned h p.cells.value)) c.wrapped-end.ensures.value
    (subst (λ (x : List ℕ). turned c.wrapped-end.result s ≡ b ++ drop (length b) (turned c.wrapped-end.result x)) c.as_mut.ensures.value c.write_round.ensures.cells) in
    let held : length c.args.self.now.bytes ≡ p.len = ap (λ (v : PipeView). length v.bytes) (sym c.self.view_is) ∙ ring_len p.cells.value p.head p.len c.self.invariant.count c.self.invariant.starts c.self.invariant.fits in
    let bytes : ring_bytes p.head (p.len + length b) s ≡ ring_bytes p.head p.len p.cells.value ++ b = after_put p.cells.value p.head p.len c.self.invariant.count c.self.invariant.starts b s c.write_round.ensures.len (omega (arith, c.requires)) write in
    ap (λ (l : List ℕ). let v : PipeView = record { bytes = l; shut = p.shut } in v) bytes
    ∙ ap (λ (v : PipeView). let w : PipeView = record { bytes = v.bytes ++ b; shut = v.shut } in w) c.self.view_is
