-- Printed lines: line by line.
use Rattle.sk_words.proofs.LinesAgain.{lines_again}
use Rattle.sk_words.proofs.laws.lines.Goals as goal

pub returns : goal.returns
returns c = lines_again
