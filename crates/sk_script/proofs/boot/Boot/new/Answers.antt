-- Nothing is declared, and nothing is found.
use Rattle.sk_script.proofs.Boots.{empty_boot, none_found}
use Rattle.sk_script.proofs.boot.Boot.new.Goals as goal

pub invariant_of-result : goal.invariant_of-result
invariant_of-result c =
    rw c.new.ensures (rw c.new-2.ensures.items (rw c.new-3.ensures.items (rw c.new-4.ensures (rw c.new-5.ensures.items (rw c.new-6.ensures (empty_boot, none_found))))))
