-- What a refusal of the kernel is told as.
use Rattle.sk_speculator.specs.declared.refusal.Refusal.{Refusal}
use Rattle.sk_speculator.specs.declared.refusal.Refusal.TheVariants as kernel
use Rattle.real_epochs.specs.declared.refused.Refused.{Refused}
use Rattle.real_epochs.specs.declared.refused.Refused.TheVariants.{TooMany, NoNumber, Memory}

abbrev pub refused_by : Refusal → Refused
refused_by kernel.TooMany = TooMany
refused_by kernel.NoNumber = NoNumber
refused_by kernel.Memory = Memory
