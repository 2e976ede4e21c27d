-- What is written where it stands is settled at the end.
use Rattle.sk_speculator.proofs.Names.{refl, sym, ◌∙◌, ap, subst, first_tags, keys_of, look_at, made_by}
use Rattle.sk_speculator.proofs.Names.{says, written_value, SettledBut}
use Rattle.sk_speculator.proofs.asking.perform_on.Goals as goal

pub settle_rest-requires : goal.settle_rest-requires
settle_rest-requires g c = λ done. c.write_all_on-done.ensures.done done (λ k s is _. c.requires.settled k s is refl)

pub returns-clause-settled : goal.returns-clause-settled
returns-clause-settled g c =
    let R = g.K.Key.order in
    c.settle_rest.ensures.settled (subst (λ ks. SettledBut R ks c.write_all_on-done.new.slots) (sym c.write_all_on-done.ensures.keys)
    (c.write_all_on-done.ensures.settled (λ k s is _. c.requires.settled k s is refl)))

pub returns-clause-look : goal.returns-clause-look
returns-clause-look g c = λ q.
    let R = g.K.Key.order in
    let old = c.args.slots.now in
    c.settle_rest.ensures.look q
    ∙ c.write_all_on-done.ensures.look q
    ∙ ap (λ xs. written_value R (made_by R g.I.Inversion.written (look_at R old) xs) q (look_at R old q)) c.as_mut_slice-written.ensures.value

pub returns-clause-log : goal.returns-clause-log
returns-clause-log g c = λ q. c.settle_rest.ensures.log q ∙ c.write_all_on-done.ensures.log q

pub returns-clause-says : goal.returns-clause-says
returns-clause-says g c =
    let R = g.K.Key.order in
    c.in_ok-say_on.ensures.ok
    ∙ ap (λ ts. says c.args.step.now.said ts c.args.said.now.said) (c.first_tags-tags.ensures ∙ ap (λ xs. first_tags R c.args.slots.now (keys_of xs)) c.as_slice.ensures.value)
