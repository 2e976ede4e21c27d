use Rattle.sk_undo.proofs.GivenBack.{gives_back}
use Rattle.sk_undo.proofs.laws.given_back.Goals as goal

pub returns : goal.returns
returns c = gives_back
