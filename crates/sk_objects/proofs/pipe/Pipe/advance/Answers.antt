use Rattle.sk_objects.proofs.Names.{◌≡◌, ◌-◌, ◌≤◌, List, ℕ, length, drop, arith, sym, ap, ◌∙◌, ring_bytes, PipeView}
use Rattle.sk_objects.proofs.Rings.{after_advance, ring_len}
use Rattle.sk_objects.proofs.pipe.Pipe.advance.Goals as goal

pub returns : goal.returns
returns c =
    let p = c.self.inside in
    let n = c.args.count in
    let held : length c.args.self.now.bytes ≡ p.len = ap (λ (v : PipeView). length v.bytes) (sym c.self.view_is) ∙ ring_len p.cells.value p.head p.len c.self.invariant.count c.self.invariant.starts c.self.invariant.fits in
    let some : n ≤ p.len = omega (arith, c.requires) in
    let bytes : ring_bytes c.wrapped-self-inside.result (p.len - n) p.cells.value ≡ drop n (ring_bytes p.head p.len p.cells.value) =
    ap (λ (h : ℕ). ring_bytes h (p.len - n) p.cells.value) c.wrapped-self-inside.ensures.value ∙ after_advance p.cells.value p.head p.len c.self.invariant.count c.self.invariant.starts n some c.self.invariant.fits in
    ap (λ (l : List ℕ). let v : PipeView = record { bytes = l; shut = p.shut } in v) bytes
    ∙ ap (λ (v : PipeView). let w : PipeView = record { bytes = drop n v.bytes; shut = v.shut } in w) c.self.view_is
