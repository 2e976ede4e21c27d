-- What was added, and what is left, are all of each kind.
use Rattle.sk_undo.proofs.Cites.{◌≡◌, ◌++◌, each, Proc, Sig, Exit, Obj, Copy}
use Rattle.sk_undo.specs.Kinds.{link_of}
use Rattle.sk_undo.proofs.entity_map.EntityMap.list.Given as goal

abbrev pub invariant-loop-process : goal.invariant-loop-process
invariant-loop-process g l = l.all.items ++ each Proc l.process-iterator ≡ l.initial.all.items ++ each Proc l.initial.process-iterator

abbrev pub invariant-loop-signals : goal.invariant-loop-signals
invariant-loop-signals g l = l.all.items ++ each Sig l.signals-iterator ≡ l.initial.all.items ++ each Sig l.initial.signals-iterator

abbrev pub invariant-loop-exit : goal.invariant-loop-exit
invariant-loop-exit g l = l.all.items ++ each Exit l.exit-iterator ≡ l.initial.all.items ++ each Exit l.initial.exit-iterator

abbrev pub invariant-loop-object : goal.invariant-loop-object
invariant-loop-object g l = l.all.items ++ each Obj l.object-iterator ≡ l.initial.all.items ++ each Obj l.initial.object-iterator

abbrev pub invariant-loop-link : goal.invariant-loop-link
invariant-loop-link g l = l.all.items ++ each link_of l.link-iterator ≡ l.initial.all.items ++ each link_of l.initial.link-iterator

abbrev pub invariant-loop-copy : goal.invariant-loop-copy
invariant-loop-copy g l = l.all.items ++ each Copy l.copy-iterator ≡ l.initial.all.items ++ each Copy l.initial.copy-iterator
