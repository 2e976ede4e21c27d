use Rattle.sk_machine.proofs.Names.{◌≡◌, ℕ, ◌||◌, take, has, any_rests}
use Rattle.sk_machine.proofs.machine.Machine.add_tags.Given as goal

abbrev pub invariant-loop-entity : goal.invariant-loop-entity
invariant-loop-entity l = (g : ℕ) → has g l.all ≡ (has g l.fn.tags || any_rests l.fn.self g (take l.entity-index l.entities))
