-- What was added, and what is left, are all of each kind.
use Rattle.sk_undo.proofs.Cites.{◌≡◌, ◌++◌, each, Proc, Sig, Exit, Obj, Copy}
use Rattle.std.specs.List.{flat_map}
use Rattle.sk_undo.specs.Kinds.{link_of, lifted}
use Rattle.sk_store.specs.Present.{shown}
use Rattle.sk_undo.specs.Present.{shown_at}
use Rattle.sk_undo.proofs.entries.list.Given as goal

abbrev pub invariant-loop-process : goal.invariant-loop-process
invariant-loop-process l =
    each shown l.all.items ++ flat_map shown_at (lifted Proc l.process-iterator) ≡ each shown l.initial.all.items ++ flat_map shown_at (lifted Proc l.initial.process-iterator)

abbrev pub invariant-loop-signals : goal.invariant-loop-signals
invariant-loop-signals l =
    each shown l.all.items ++ flat_map shown_at (lifted Sig l.signals-iterator) ≡ each shown l.initial.all.items ++ flat_map shown_at (lifted Sig l.initial.signals-iterator)

abbrev pub invariant-loop-exit : goal.invariant-loop-exit
invariant-loop-exit l =
    each shown l.all.items ++ flat_map shown_at (lifted Exit l.exit-iterator) ≡ each shown l.initial.all.items ++ flat_map shown_at (lifted Exit l.initial.exit-iterator)

abbrev pub invariant-loop-object : goal.invariant-loop-object
invariant-loop-object l =
    each shown l.all.items ++ flat_map shown_at (lifted Obj l.object-iterator) ≡ each shown l.initial.all.items ++ flat_map shown_at (lifted Obj l.initial.object-iterator)

abbrev pub invariant-loop-link : goal.invariant-loop-link
invariant-loop-link l =
    each shown l.all.items ++ flat_map shown_at (lifted link_of l.link-iterator) ≡ each shown l.initial.all.items ++ flat_map shown_at (lifted link_of l.initial.link-iterator)

abbrev pub invariant-loop-copy : goal.invariant-loop-copy
invariant-loop-copy l =
    each shown l.all.items ++ flat_map shown_at (lifted Copy l.copy-iterator) ≡ each shown l.initial.all.items ++ flat_map shown_at (lifted Copy l.initial.copy-iterator)
