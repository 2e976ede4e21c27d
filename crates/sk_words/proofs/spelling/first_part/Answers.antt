-- The plain bytes at the front are themselves.
use Rattle.sk_words.proofs.Plain.{plain_cut}
use Rattle.sk_words.proofs.spelling.first_part.Goals as goal

pub returns-clause-text : goal.returns-clause-text
returns-clause-text c = plain_cut c.args.bytes.now c.plain_len-len.result c.plain_len-len.ensures.plain
