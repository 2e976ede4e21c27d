-- In a line of a script: by its words.
use Rattle.sk_words.specs.Words.{words}
use Rattle.sk_faults.proofs.ScriptLines.{script_told}
use Rattle.sk_faults.proofs.laws.script_lines.Goals as goal

pub returns : goal.returns
returns c = λ s line e. script_told s (words line) e
