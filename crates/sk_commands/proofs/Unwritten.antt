-- What may not write writes nothing.
use Rattle.sk_commands.proofs.Names.{◌≡◌, ℕ, false, List, [], ◌∷◌, ◌++◌, refl, ap, ◌∙◌, list_any, Command, Set, Del}
use Rattle.sk_commands.proofs.Names.{Add, Append, MSet, FlushAll, Work, may_write, outcome, Have, after, comes_to, each}
use Rattle.sk_commands.proofs.Names.{known_after, may_write_some, or_parts}
use Rattle.sk_commands.specs.declared.work.Work.TheVariants as works

pub nothing : (c : Command) (known : List (List ℕ)) (has : Have) → may_write c ≡ false → (outcome known c has).written ≡ []
nothing (Set key value options) known has h = cc
nothing (Del keys) known has h = cc
nothing (Add key by) known has h = cc
nothing (Append key more) known has h = cc
nothing (MSet words) known has h = cc
nothing FlushAll known has h = cc
nothing command known has h = refl

nothing_each : (cs : List Command) (known : List (List ℕ)) (has : Have) → list_any may_write cs ≡ false → (each known cs has).written ≡ []
nothing_each [] known has h = refl
nothing_each (c ∷ cs) known has h =
    let both = or_parts (may_write c) (list_any may_write cs) h in
    let one = outcome known c has in
    let rest = each (known_after one.written known) cs (after one.written has) in
    ap (λ ws. ws ++ rest.written) (nothing c known has both.0) ∙ nothing_each cs (known_after one.written known) (after one.written has) both.1

pub nothing_done : (w : Work) (known : List (List ℕ)) (has : Have) → may_write_some w ≡ false → (comes_to known w has).written ≡ []
nothing_done (works.Say reply) known has h = refl
nothing_done (works.One c) known has h = nothing c known has h
nothing_done (works.Each cs) known has h = nothing_each cs known has h
