use Rattle.sk_durable.proofs.Plain.{answers_are_plain, map_is_plain}
use Rattle.sk_durable.proofs.laws.plain_law.Goals as goal

pub returns-clause-map : goal.returns-clause-map
returns-clause-map c = map_is_plain

pub returns-clause-answers : goal.returns-clause-answers
returns-clause-answers c = answers_are_plain
