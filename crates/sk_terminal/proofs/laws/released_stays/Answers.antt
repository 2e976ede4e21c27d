-- That released texts stay released: as for the machine of records.
use Rattle.sk_terminal.proofs.Names.{said_more, fewer_tags, fewer_texts}
use Rattle.std.specs.Prelude.{[], ◌∷◌}
use Rattle.sk_terminal.proofs.laws.released_stays.Goals as goal

pub returns-clause-said : goal.returns-clause-said
returns-clause-said c = λ texts next. said_more texts (next ∷ [])

pub returns-clause-committed : goal.returns-clause-committed
returns-clause-committed c = λ texts id. fewer_tags id texts

pub returns-clause-thrown_away : goal.returns-clause-thrown_away
returns-clause-thrown_away c = λ texts id. fewer_texts id texts
