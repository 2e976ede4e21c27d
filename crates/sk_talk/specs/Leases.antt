-- What comes of private instructions that a process of what is at play does away from its kernel.
use Rattle.std.specs.Prelude.{◌≡◌, ℕ, Option}
use Rattle.sk_talk.specs.Base.{KernelLeases, WorldLeases, LeaseTold, Play}

-- the kernel of a session leases it, and no token is drawn or spent; or the world's desk does, as what is at play is a kernel or a world
abbrev pub LeaseComes : Option LeaseTold → ℕ → ℕ → Play → Play → Type 0
LeaseComes told pid count (Play.Steps old) (Play.Steps new) =
    KernelLeases told pid count old.holder.kernel new.holder.kernel × (new.holder.held ≡ old.holder.held)
LeaseComes told pid count (Play.World old) (Play.World new) = WorldLeases told pid count old new
LeaseComes told pid count _ _ = ⊥
