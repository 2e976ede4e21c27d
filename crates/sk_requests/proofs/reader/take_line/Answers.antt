use Rattle.sk_requests.proofs.Names.{◌≡◌, ◌≢◌, ℕ, ◌<◌, List, length, slice_index, take, refl, sym, ◌∙◌, ap, inl, inr}
use Rattle.sk_requests.proofs.Names.{arith, length-append, cases_lt, length-take-le, err_from_is_err_and}
use Rattle.sk_requests.proofs.Typed.{line_take}
use Rattle.sk_requests.proofs.reader.take_line.Goals as goal

-- as many bytes as the line has before its end
progress : (bytes : List ℕ) (len : ℕ) → (len < length bytes → slice_index bytes len ≡ 10) → slice_index bytes 0 ≢ 10 → 0 < length bytes → 0 < len
progress bytes len ends ne some =
    elim (cases_lt 0 len) [
      | inl more ↦ more
      | inr none ↦
          let zero : len ≡ 0 = omega (arith, none) in
          absurd (ne (ap (slice_index bytes) (sym zero) ∙ ends (omega (arith, zero, some))))
    ]

pub returns-then-len-room : goal.returns-then-len-room
returns-then-len-room c =
    let part : length c.as_slice.result.now ≡ length c.args.part.now.items = ap (λ (xs : List ℕ). length xs) c.as_slice.ensures.value in
    let within = c.line_len-len.ensures.within in
    (refl, (c.line_len-len.result, within, line_take c.args.bytes.now c.line_len-len.result within c.line_len-len.ensures.line, omega (arith, part, c.saturating_sub-room.ensures, c.if-len-room.true)))

pub returns-in_err-extend_from_slice : goal.returns-in_err-extend_from_slice
returns-in_err-extend_from_slice c = let p = err_from_is_err_and c.from_residual.result c.from_residual.ensures.1 in rw p.1 c.in_err-extend_from_slice.ensures.items

pub returns : goal.returns
returns c =
    let bytes = c.args.bytes.now in
    let len = c.line_len-len.result in
    let old = c.args.part.now.items in
    let part : length c.as_slice.result.now ≡ length old = ap (λ (xs : List ℕ). length xs) c.as_slice.ensures.value in
    let within = c.line_len-len.ensures.within in
    let grown = c.in_ok-extend_from_slice.ensures.items in (
      within,
      grown,
      line_take bytes len within c.line_len-len.ensures.line,
      λ low. omega (arith, low, part, c.saturating_sub-room.ensures, c.if-len-room.false, ap (λ (xs : List ℕ). length xs) grown, length-append old (take len bytes), length-take-le len bytes within),
      progress bytes len c.line_len-len.ensures.ends,
    )
