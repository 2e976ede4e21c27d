-- An answer stands behind the word of an event.
use Rattle.sk_run.proofs.Names.{◌++◌, codes, refl, Appends-trans, answer_line, told_line}
use Rattle.sk_run.proofs.talking.write_line.Goals as goal

pub returns-in_ok-write_answer-in-Answered-clause-written : goal.returns-in_ok-write_answer-in-Answered-clause-written
returns-in_ok-write_answer-in-Answered-clause-written g c =
    let event = c.in_ok-write_all-in-Answered.ensures.bytes in
    let line = c.in_ok-write_answer-in-Answered.ensures in
    (codes "event " ++ answer_line c.args.number c.in-Answered.answer, rw c.in-Answered.is refl, Appends-trans _ _ _ _ _ event line)

pub returns-in_ok-write_told-in-Happened-clause-written : goal.returns-in_ok-write_told-in-Happened-clause-written
returns-in_ok-write_told-in-Happened-clause-written g c =
    let event = c.in_ok-write_all-in-Happened.ensures.bytes in
    let line = c.in_ok-write_told-in-Happened.ensures in
    (codes "event " ++ told_line c.args.number c.in-Happened.told, rw c.in-Happened.is refl, Appends-trans _ _ _ _ _ event line)
