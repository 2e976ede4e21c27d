-- Of an edit that was refused the words are printed as they stand.
use Rattle.sk_play.proofs.Names.{◌∷◌, ◌∙◌, [], codes, decimal, sym, append_assoc}
use Rattle.sk_play.proofs.told.put_told.Goals as goal

pub returns-in-OtherVersion : goal.returns-in-OtherVersion
returns-in-OtherVersion c = rw c.in-OtherVersion.is (c.tell-in-OtherVersion.ensures ∙ sym (append_assoc (decimal c.args.number) (32 ∷ codes "refused 1 Version") (10 ∷ [])))
