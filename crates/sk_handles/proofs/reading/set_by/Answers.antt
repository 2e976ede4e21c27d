-- All of the snapshot came.
use Rattle.sk_handles.proofs.Names.{rules, ◌≡◌, true, false, [], ◌∷◌, refl, snapshot_heads, FindsOf}
use Rattle.sk_handles.proofs.reading.set_by.Goals as goal

pub returns-then-is_damaged : goal.returns-then-is_damaged
returns-then-is_damaged c =
    let found = c.end-found.result in
    let finds : FindsOf c.args.now found = (
      c.end-found.ensures.damaged,
      λ bytes come. c.end-found.ensures.found [] 1 snapshot_heads (bytes ∷ []) 0 (c.in_ok-read.ensures [] 1 snapshot_heads [] 0 bytes come),
    ) in
    let is : found.is_damaged ≡ true = search rules in
    (found, finds, is)

pub returns : goal.returns
returns c =
    let found = c.end-found.result in
    let finds : FindsOf c.args.now found = (
      c.end-found.ensures.damaged,
      λ bytes come. c.end-found.ensures.found [] 1 snapshot_heads (bytes ∷ []) 0 (c.in_ok-read.ensures [] 1 snapshot_heads [] 0 bytes come),
    ) in
    let is : found.is_damaged ≡ false = search rules in
    (found, finds, is, refl)
