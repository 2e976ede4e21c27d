use Rattle.sk_log.proofs.Names.{slice_index, inl, inr, arith, and_le_r}
use Rattle.sk_log.proofs.laws.fade_law.Goals as goal

pub returns-clause-bytes : goal.returns-clause-bytes
returns-clause-bytes c = λ written left each i. elim (each i) [ inl lost ↦ omega (arith, lost) | inr same ↦ omega (arith, same) ]

pub returns-clause-bits : goal.returns-clause-bits
returns-clause-bits c = λ written left each i. omega (arith, each i, and_le_r (slice_index left i) (slice_index written i))
