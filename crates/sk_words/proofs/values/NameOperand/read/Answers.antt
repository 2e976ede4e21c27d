-- A word is a name just where the test of names passes.
use Rattle.std.proofs.Common.{◌∙◌}
use Rattle.sk_words.proofs.NameTest.{name_said}
use Rattle.sk_words.proofs.values.NameOperand.read.Goals as goal

pub returns : goal.returns
returns c = c.ok_or.ensures.value ∙ name_said c.new.result c.args.word.now c.new.ensures.some c.new.ensures.value
