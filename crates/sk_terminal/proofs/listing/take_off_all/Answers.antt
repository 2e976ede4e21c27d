-- One terminal more is taken off.
use Rattle.sk_terminal.proofs.Names.{◌≡◌, ◌&&◌, Bool, true, false, refl, rules, is_listed}
use Rattle.sk_terminal.proofs.Listed.{taken_more}
use Rattle.sk_terminal.proofs.listing.take_off_all.Goals as goal

all_first : (a : Bool) → a ≡ (a && true)
all_first true = refl
all_first false = refl

pub loop-number-init : goal.loop-number-init
loop-number-init c = (c.requires, λ g t. all_first (is_listed g t c.args.lists.now.items))

pub loop-number-preserved : goal.loop-number-preserved
loop-number-preserved c = (
  c.take_off.ensures.tidy,
  taken_more c.args.lists.now.items c.loop-number.lists.items c.take_off.new.lists.items c.args.numbered.now c.args.numbers.now c.loop-number.number-index _
      c.loop-number-test.true (search rules) c.loop-number.invariant.1 c.take_off.ensures.left,
)
