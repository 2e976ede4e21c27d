-- The names that the machine counts are those of the trace's state.
use Rattle.sk_kernel.proofs.Names.{◌≡◌, Option, subst, ap, ◌∙◌, Entity, EntityState, IsCount, name_there, names_in}
use Rattle.sk_kernel.proofs.Names.{one_count, names_counted, look_at, KernelView, state_at, the_view}
use Rattle.std.specs.FinMap as map
use Rattle.sk_kernel.proofs.Whole.{look_is}
use Rattle.sk_kernel.proofs.kernel.Kernel.names_of.Goals as goal

pub returns : goal.returns
returns c =
    let k = the_view c.self.inside in
    let d = c.args.directory.now in
    let look : look_at c.self.inside.machine.slots ≡ map.get (state_at k) = (λ i e. look_is k c.self.inside.machine c.self.invariant.0.stands e i) in
    one_count (name_there (map.get (state_at k))) d c.names.result (names_in (state_at k) d)
    (subst (λ (l : Entity → Option EntityState). IsCount (name_there l) d c.names.result) look c.names.ensures) (names_counted (state_at k) d)
    ∙ ap (λ (k : KernelView). names_in (state_at k) d) c.self.view_is
