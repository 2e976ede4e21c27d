-- What came of the event is what is told; what was served is the newest reply.
use Rattle.sk_play.proofs.Names.{rules, ◌≡◌, Result, Ok, subst, Reply, Cause, WorldNews, EventPost, NewsPost, newest_is, event_in}
use Rattle.sk_client.specs.declared.world.WorldNews.TheVariants as news
use Rattle.sk_client.specs.declared.world.WorldAnswer.TheVariants as answers
use Rattle.sk_play.proofs.Happened.{told_answer}
use Rattle.sk_play.proofs.worlds.happen_line.Goals as goal

pub returns-in-Ok-Turn : goal.returns-in-Ok-Turn
returns-in-Ok-Turn c =
    let is : c.advance.result ≡ Ok (news.Turn c.in-Ok-Turn.turn) = search rules in
    told_answer c.args.number c.args.world.now (event_in c.args.event) c.advance.new.self c.put_turn.new.line (answers.Turn c.in-Ok-Turn.turn)
    (subst (λ (r : Result WorldNews Cause). NewsPost r c.args.world.now (event_in c.args.event) c.advance.new.self) is c.advance.ensures) c.put_turn.ensures

pub returns-in-Some : goal.returns-in-Some
returns-in-Some c =
    let old = c.args.world.now in
    let new = c.advance.new.self in
    let event = event_in c.args.event in
    let reply : Reply = c.in-Some.reply.now in
    let is : c.advance.result ≡ Ok news.Served = search rules in
    let served : NewsPost (Ok news.Served) old event new = subst (λ (r : Result WorldNews Cause). NewsPost r old event new) is c.advance.ensures in
    let same = newest_is new.replies served.1 served.0 reply served.2 c.in-Some.ensures.last in
    told_answer c.args.number old event new c.put_reply.new.line (answers.Served reply)
    (subst (λ (x : Reply). EventPost (Ok (answers.Served x)) old event new) same served.3) c.put_reply.ensures

pub returns-in-Ok-Given : goal.returns-in-Ok-Given
returns-in-Ok-Given c =
    let is : c.advance.result ≡ Ok (news.Given c.in-Ok-Given.given) = search rules in
    told_answer c.args.number c.args.world.now (event_in c.args.event) c.advance.new.self c.put_given.new.line (answers.Given c.in-Ok-Given.given)
    (subst (λ (r : Result WorldNews Cause). NewsPost r c.args.world.now (event_in c.args.event) c.advance.new.self) is c.advance.ensures) c.put_given.ensures

pub returns-in-Ok-Edited : goal.returns-in-Ok-Edited
returns-in-Ok-Edited c =
    let is : c.advance.result ≡ Ok (news.Edited c.in-Ok-Edited.version) = search rules in
    told_answer c.args.number c.args.world.now (event_in c.args.event) c.advance.new.self c.put_edited.new.line (answers.Edited c.in-Ok-Edited.version)
    (subst (λ (r : Result WorldNews Cause). NewsPost r c.args.world.now (event_in c.args.event) c.advance.new.self) is c.advance.ensures) c.put_edited.ensures
