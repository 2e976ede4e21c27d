-- The number goes where its key is bare.
use Rattle.std.proofs.Common.{sym, ◌∙◌}
use Rattle.sk_bytes.proofs.Moves.{one_kept, removed}
use Rattle.sk_bytes.proofs.numbers.give_back.Goals as goal

pub returns-then-is_bare : goal.returns-then-is_bare
returns-then-is_bare g c =
    removed c.args.kernel.now.slots c.args.index.now c.remove.new.self c.args.number c.requires.two_way (sym c.is_bare.ensures ∙ c.if-is_bare.true)
    c.remove.result c.remove.ensures.some c.remove.ensures.none c.remove.ensures.same

pub returns-else-is_bare : goal.returns-else-is_bare
returns-else-is_bare g c = one_kept c.args.kernel.now.slots c.args.index.now c.args.number c.requires.two_way (sym c.is_bare.ensures ∙ c.if-is_bare.false)
