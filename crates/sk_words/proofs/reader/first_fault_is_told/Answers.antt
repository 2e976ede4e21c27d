-- The fault that is told is that of the first faulty line: from the lines in turn.
use Rattle.sk_words.proofs.FirstFault.{fault_is_first}
use Rattle.sk_words.proofs.reader.first_fault_is_told.Goals as goal

pub returns : goal.returns
returns g c = λ s first ls f. fault_is_first g.R.Reader.said s first ls f
