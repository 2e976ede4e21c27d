use Rattle.sk_log.proofs.Blanked.{blanked_log, blanked_ready}
use Rattle.sk_log.proofs.blanking.blank.Goals as goal

pub returns-clause-read : goal.returns-clause-read
returns-clause-read c = λ segment number payloads is ends. blanked_log segment number c.args.place payloads _ _ is ends c.write_zeros.ensures.kept c.write_zeros.ensures.zeros

pub returns-clause-ready : goal.returns-clause-ready
returns-clause-ready c = λ segment number payloads is ends. blanked_ready segment number c.args.place payloads _ _ is ends c.write_zeros.ensures.kept c.write_zeros.ensures.zeros
