-- The keys rise.
use Rattle.sk_undo.proofs.Cites.{sym, subst, IsStrictlySortedBy, entity_cmp}
use Rattle.sk_undo.proofs.ByKind.{keys_rise}
use Rattle.sk_undo.proofs.entity_map.EntityMap.entities.Goals as goal

pub returns-clause-rising : goal.returns-clause-rising
returns-clause-rising g c = subst (IsStrictlySortedBy entity_cmp) (sym c.in_ok-list.ensures) (keys_rise c.args.self.now)
