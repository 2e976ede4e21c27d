-- In a declaration: by its words.
use Rattle.sk_words.specs.Words.{words}
use Rattle.sk_faults.proofs.Sections.{declaration_told}
use Rattle.sk_faults.proofs.laws.declarations.Goals as goal

pub returns : goal.returns
returns c = λ d line. declaration_told d (words line)
