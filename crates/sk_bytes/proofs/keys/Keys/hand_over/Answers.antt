-- The step over numbers is the step.
use Rattle.sk_bytes.proofs.Names.{sym, ◌∙◌, number_of}
use Rattle.sk_bytes.proofs.Steps.{deed_told, handed, lengths, same_names}
use Rattle.sk_bytes.proofs.keys.Keys.hand_over.Goals as goal

pub swap_steps-requires : goal.swap_steps-requires
swap_steps-requires g c = lengths c.args.step.now c.args.step.now c.number_step.new.numbered c.number_step.new.numbered (number_of c.number_step.new.index) c.in_ok-number_step.ensures.written

pub returns-clause-deed : goal.returns-clause-deed
returns-clause-deed g c =
    deed_told c.args.step.now c.swap_steps.new.step c.number_step.new.numbered c.swap_steps.new.numbered c.swap_steps.ensures (number_of c.number_step.new.index) c.in_ok-number_step.ensures.looked
    c.in_ok-number_step.ensures.written

pub returns-clause-loose : goal.returns-clause-loose
returns-clause-loose g c =
    c.in_ok-number_step.ensures.loose ∙ sym (same_names c.args.step.now c.swap_steps.new.step c.number_step.new.numbered c.swap_steps.new.numbered c.swap_steps.ensures)

pub returns-clause-handed : goal.returns-clause-handed
returns-clause-handed g c =
    handed c.args.step.now c.swap_steps.new.step c.number_step.new.numbered c.swap_steps.new.numbered c.swap_steps.ensures
    (lengths c.args.step.now c.args.step.now c.number_step.new.numbered c.number_step.new.numbered (number_of c.number_step.new.index) c.in_ok-number_step.ensures.written)
    (c.number_step.ensures.said ∙ c.requires.said)
