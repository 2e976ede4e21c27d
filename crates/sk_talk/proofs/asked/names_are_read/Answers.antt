-- What the report prints of an entity: word by word.
use Rattle.sk_talk.proofs.Again.{text_again, text_once, named_is_found}
use Rattle.sk_talk.proofs.asked.names_are_read.Goals as goal

pub returns-clause-again : goal.returns-clause-again
returns-clause-again c = text_again

pub returns-clause-once : goal.returns-clause-once
returns-clause-once c = text_once

pub returns-clause-found : goal.returns-clause-found
returns-clause-found c = named_is_found
