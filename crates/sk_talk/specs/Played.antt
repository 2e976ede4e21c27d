-- What is at play: what declarations open, its kernel and its report.
use Rattle.std.specs.Prelude.{ℕ, List, [], Option, Some, None}
use Rattle.sk_talk.specs.Base.{Declared, SectionView, Steps, World, holding, KernelView, declared_kernel}
use Rattle.sk_talk.specs.Base.{declared_world, report_text, world_report_text, Play}

-- the kernel that is declared, with no guess held, or the world; nothing where the section is a trace, or has a line
abbrev pub opened_in : Declared → SectionView → Option Play
opened_in d (Steps []) = Some (Play.Steps (record { holder = holding (declared_kernel d) }))
opened_in d (World []) = Some (Play.World (declared_world d))
opened_in d _ = None

-- the kernel, or that of the world
abbrev pub kernel_of : Play → KernelView
kernel_of (Play.Steps s) = s.holder.kernel
kernel_of (Play.World w) = w.desk.kernel

abbrev pub report_of : Play → List ℕ
report_of (Play.Steps s) = report_text s.holder.kernel
report_of (Play.World w) = world_report_text w
