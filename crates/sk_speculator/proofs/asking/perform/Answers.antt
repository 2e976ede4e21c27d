-- The slots of what was written are settled at the end.
use Rattle.sk_speculator.proofs.Names.{sym, subst, keys_of, look_at, SettledBut, made_by, Performed}
use Rattle.sk_speculator.proofs.Writing.{performed_settled}
use Rattle.sk_speculator.proofs.asking.perform.Goals as goal

pub returns-in-Some-clause-writes : goal.returns-in-Some-clause-writes
returns-in-Some-clause-writes g c =
    let R = g.K.Key.order in
    performed_settled R c.args.slots.now c.write_all-done.new.slots c.settle_rest.new.slots c.args.tags (made_by R g.I.Inversion.written (look_at R c.args.slots.now) c.args.step.now.written.items) c.settle_rest.ensures.look c.settle_rest.ensures.log
    (subst (λ xs. Performed R c.args.slots.now c.args.tags (made_by R g.I.Inversion.written (look_at R c.args.slots.now) xs) c.write_all-done.new.slots) c.as_mut_slice-written.ensures.value c.write_all-done.ensures.performed)

pub returns-in_default-clause-writes : goal.returns-in_default-clause-writes
returns-in_default-clause-writes g c =
    let R = g.K.Key.order in
    performed_settled R c.args.slots.now c.write_all-done.new.slots c.settle_rest.new.slots c.args.tags (made_by R g.I.Inversion.written (look_at R c.args.slots.now) c.args.step.now.written.items) c.settle_rest.ensures.look c.settle_rest.ensures.log
    (subst (λ xs. Performed R c.args.slots.now c.args.tags (made_by R g.I.Inversion.written (look_at R c.args.slots.now) xs) c.write_all-done.new.slots) c.as_mut_slice-written.ensures.value c.write_all-done.ensures.performed)

pub returns-in-Some-clause-settled : goal.returns-in-Some-clause-settled
returns-in-Some-clause-settled g c =
    let R = g.K.Key.order in
    c.settle_rest.ensures.settled (subst (λ ks. SettledBut R ks c.write_all-done.new.slots) (sym c.write_all-done.ensures.keys)
    (c.write_all-done.ensures.settled (subst (λ xs. SettledBut R (keys_of xs) c.args.slots.now) (sym c.as_mut_slice-written.ensures.value) c.requires.unsettled)))

pub returns-in_default-clause-settled : goal.returns-in_default-clause-settled
returns-in_default-clause-settled g c =
    let R = g.K.Key.order in
    c.settle_rest.ensures.settled (subst (λ ks. SettledBut R ks c.write_all-done.new.slots) (sym c.write_all-done.ensures.keys)
    (c.write_all-done.ensures.settled (subst (λ xs. SettledBut R (keys_of xs) c.args.slots.now) (sym c.as_mut_slice-written.ensures.value) c.requires.unsettled)))

pub settle_rest-requires : goal.settle_rest-requires
settle_rest-requires g c = λ done.
    let R = g.K.Key.order in
    c.write_all-done.ensures.done done
    (subst (λ xs. SettledBut R (keys_of xs) c.args.slots.now) (sym c.as_mut_slice-written.ensures.value) c.requires.unsettled)
