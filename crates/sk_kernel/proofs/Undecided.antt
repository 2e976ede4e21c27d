-- The undecided guesses, as they are computed and as they are defined.
use Rattle.sk_kernel.proofs.Names.{◌≡◌, ℕ, true, false, Option, Some, None, sym, ◌∙◌, subst, ◌↔◌, nat_cmp}
use Rattle.sk_kernel.proofs.Names.{IsStrictlySortedBy, sorted_from_strictly_increasing, has, Undecided, Struck}
use Rattle.sk_kernel.proofs.Names.{status_in, StatusOr, Status, StatusIs, beyond, since_undecided, undecided_now}
use Rattle.sk_kernel.proofs.Names.{undecided_rises, plain, KernelView, HasStatus, events_of, undecided_at}
use Rattle.sk_kernel.proofs.Names.{HasSoundTrace, WasDrawn}
use Rattle.sk_kernel.proofs.Names.{false_from_ne_true}

pub undecided_is : (k : KernelView) → HasSoundTrace k → (g : ℕ) → (has g (undecided_at k) ≡ true) ↔ HasStatus k g Undecided
undecided_is k sound g = ((λ here. since_undecided (plain k.scripts) k.start k.earlier (events_of k) sound g here), λ is. undecided_now (plain k.scripts) k.start k.earlier (events_of k) sound g is)

-- a guess of the trace has the status that it has there
pub drawn_here : (k : KernelView) → HasSoundTrace k → (g : ℕ) (s : Status) → WasDrawn k g → StatusIs (plain k.scripts) k.start (events_of k) g s → HasStatus k g s
drawn_here k sound g s drawn is = subst (λ o. StatusOr (plain k.scripts) k.start o (events_of k) g s) (sym (beyond k.earlier g (sound.above g drawn))) is

pub undecided_sorted : (k : KernelView) → HasSoundTrace k → IsStrictlySortedBy nat_cmp (undecided_at k)
undecided_sorted k sound = sorted_from_strictly_increasing (undecided_at k) (undecided_rises (plain k.scripts) k.start (events_of k) sound.sound)

not_both : (k : KernelView) (g : ℕ) (o : Option Status) → StatusOr (plain k.scripts) k.start o (events_of k) g Undecided → StatusOr (plain k.scripts) k.start o (events_of k) g Struck → ⊥
not_both k g None is struck = struck.3 is.2
not_both k g (Some was) is struck = let both : Undecided ≡ Struck = sym is ∙ struck in cc

pub struck_is_decided : (k : KernelView) → HasSoundTrace k → (g : ℕ) → HasStatus k g Struck → has g (undecided_at k) ≡ false
struck_is_decided k sound g struck = false_from_ne_true (has g (undecided_at k)) (λ here. not_both k g (status_in k.earlier g) ((undecided_is k sound g).0 here) struck)
