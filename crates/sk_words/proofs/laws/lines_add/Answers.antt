-- Lines that add: item by item.
use Rattle.sk_words.proofs.ItemsAgain.{items_again}
use Rattle.sk_words.proofs.laws.lines_add.Goals as goal

pub returns : goal.returns
returns g c = items_again g.R.Reader.said
