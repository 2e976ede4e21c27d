-- A key without tags has no notes.
use Rattle.sk_bytes.proofs.Names.{◌≡◌, List, ℕ, length, None, sym, ap, ◌∙◌, ◌==◌, is_none, nat_cmp, look_at, log_at}
use Rattle.sk_bytes.proofs.Names.{shown}
use Rattle.sk_bytes.proofs.Moves.{bare_told, map_none}
use Rattle.sk_bytes.proofs.numbers.is_bare.Goals as goal

pub returns-then-is_none : goal.returns-then-is_none
returns-then-is_none g c =
    let log = log_at nat_cmp c.args.kernel.now.slots c.args.number in
    let absent : look_at nat_cmp c.args.kernel.now.slots c.args.number ≡ None = sym c.value.ensures ∙ map_none _ c.value.result c.is_none.result c.is_none.ensures c.if-is_none.true in
    c.is_empty.ensures
    ∙ ap (λ (ts : List ℕ). length ts == 0) (c.ids.ensures.members ∙ c.tags_of.ensures)
    ∙ bare_told log c.requires
    ∙ ap (λ v. is_none (shown v log)) (sym absent)
