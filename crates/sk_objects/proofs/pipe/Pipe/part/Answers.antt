-- A part of the bytes begins at its own place of the ring.
use Rattle.sk_objects.proofs.Names.{◌≡◌, ◌+◌, ◌-◌, ◌≤◌, List, ℕ, length, take, drop, arith, sym, ap, ◌∙◌, take_all}
use Rattle.sk_objects.proofs.Names.{take-take, length-drop, part, PipeView, turned, ring_bytes, wrapped}
use Rattle.sk_objects.proofs.Rings.{after_advance, ring_len}
use Rattle.sk_objects.proofs.pipe.Pipe.part.Goals as goal

pub returns-then-rest-count : goal.returns-then-rest-count
returns-then-rest-count c =
    let p = c.self.inside in
    let at = c.args.at in
    let n = c.args.count in
    let held = ring_bytes p.head p.len p.cells.value in
    let before : c.args.at ≤ p.len = omega (arith, c.if-at-self.false) in
    let long : length (drop at held) ≡ p.len - at = length-drop at held ∙ ap (λ (k : ℕ). k - at) (ring_len p.cells.value p.head p.len c.self.invariant.count c.self.invariant.starts c.self.invariant.fits) in
    let read : c.read_text.result ≡ ring_bytes (wrapped (p.head + at)) (p.len - at) p.cells.value =
    c.read_text.ensures ∙ ap (λ (l : List ℕ). take (p.len - at) (turned c.wrapped.result l)) (c.as_slice.ensures ∙ c.deref.ensures) ∙ ap (λ (h : ℕ). take (p.len - at) (turned h p.cells.value)) c.wrapped.ensures.value in
    read
    ∙ after_advance p.cells.value p.head p.len c.self.invariant.count c.self.invariant.starts at before c.self.invariant.fits
    ∙ sym (take_all n (drop at held) (omega (arith, long, c.if-rest-count.true)))
    ∙ ap (λ (v : PipeView). part v.bytes at n) c.self.view_is

pub returns-else-rest-count : goal.returns-else-rest-count
returns-else-rest-count c =
    let p = c.self.inside in
    let at = c.args.at in
    let n = c.args.count in
    let held = ring_bytes p.head p.len p.cells.value in
    let before : c.args.at ≤ p.len = omega (arith, c.if-at-self.false) in
    let read : c.read_text-else-rest-count.result ≡ take n (turned (wrapped (p.head + at)) p.cells.value) =
    c.read_text-else-rest-count.ensures ∙ ap (λ (l : List ℕ). take n (turned c.wrapped-else-rest-count.result l)) (c.as_slice-else-rest-count.ensures ∙ c.deref-else-rest-count.ensures) ∙ ap (λ (h : ℕ). take n (turned h p.cells.value)) c.wrapped-else-rest-count.ensures.value in
    read
    ∙ sym (take-take n (p.len - at) (turned (wrapped (p.head + at)) p.cells.value) (omega (arith, c.if-rest-count.false)))
    ∙ ap (take n) (after_advance p.cells.value p.head p.len c.self.invariant.count c.self.invariant.starts at before c.self.invariant.fits)
    ∙ ap (λ (v : PipeView). part v.bytes at n) c.self.view_is
