-- Printed texts: item by item.
use Rattle.sk_words.proofs.ItemsAgain.{text_again}
use Rattle.sk_words.proofs.laws.texts.Goals as goal

pub returns : goal.returns
returns g c = text_again
