-- The keys that are left give the same from here.
use Rattle.sk_slots.proofs.Names.{◌≡◌, drop, cond, is_in, unwound, cut, look_at, log_at}
use Rattle.sk_slots.proofs.Names.{AllSettled}
use Rattle.sk_slots.proofs.slots.Slots.unwind.Given as goal

abbrev pub invariant-loop-key : goal.invariant-loop-key
invariant-loop-key g l =
    let R = g.K.Key.order in
    ((q : _) → cond (is_in R (drop l.key-index l.keys) q) (unwound l.id (log_at R l.self q) (look_at R l.self q)) (look_at R l.self q) ≡ cond (is_in R l.keys q) (unwound l.id (log_at R l.fn.self q) (look_at R l.fn.self q)) (look_at R l.fn.self q))
    × ((q : _) → cond (is_in R (drop l.key-index l.keys) q) (cut l.id (log_at R l.self q)) (log_at R l.self q) ≡ cond (is_in R l.keys q) (cut l.id (log_at R l.fn.self q)) (log_at R l.fn.self q))
    × (AllSettled R l.fn.self → AllSettled R l.self)
