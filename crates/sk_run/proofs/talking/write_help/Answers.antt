-- The three parts are written in turn.
use Rattle.sk_run.proofs.Names.{codes, ◌++◌, List, ℕ, subst, Appends, Appends-trans}
use Rattle.sk_command.specs.declared.help.TheConstants.{TALK_FORMS}
use Rattle.sk_run.proofs.talking.write_help.Goals as goal

pub returns-clause-written : goal.returns-clause-written
returns-clause-written g c =
    let before = g.W.Write.contents c.write_all.new.self in
    let behind = g.W.Write.contents c.write_all-2.new.self in
    let forms = subst (λ (text : List ℕ). Appends before behind text) c.as_bytes.ensures.value c.in_ok-write_all-2.ensures.bytes in
    Appends-trans _ _ _ (codes "help\n") (TALK_FORMS.now ++ codes "\nend\n") c.in_ok-write_all.ensures.bytes
    (Appends-trans _ _ _ TALK_FORMS.now (codes "\nend\n") forms c.in_ok-write_all-3.ensures.bytes)
