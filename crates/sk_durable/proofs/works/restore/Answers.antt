-- The answer is taken out, if it may go out.
use Rattle.sk_durable.proofs.Causes.{lets_out, restored}
use Rattle.sk_durable.proofs.works.restore.Goals as goal

pub returns-clause-post : goal.returns-clause-post
returns-clause-post c =
    let done = c.take_alone-done in
    let behind = done.new.batched in
    let out = c.released-answer in
    let lets = lets_out c.args.nobody.channel behind out.new.self out.result out.ensures.some out.ensures.none
    out.ensures.held out.ensures.rest in
    restored c.args.nobody c.args.work c.args.batched.now behind out.new.self out.result lets done.result
    done.ensures.ok done.ensures.err
