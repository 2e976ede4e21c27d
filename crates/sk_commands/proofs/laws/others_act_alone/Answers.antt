-- It looks at no list of keys.
use Rattle.sk_commands.proofs.Alone.{work_alone}
use Rattle.sk_commands.proofs.Queued.{alone, asks_alone}
use Rattle.sk_commands.proofs.laws.others_act_alone.Goals as goal

pub returns-clause-asks : goal.returns-clause-asks
returns-clause-asks c = λ command known others h. asks_alone command known others h

pub returns-clause-outcome : goal.returns-clause-outcome
returns-clause-outcome c = λ command known others has h. alone command known others has h

pub returns-clause-work : goal.returns-clause-work
returns-clause-work c = λ work known others has h. work_alone work known others has h
