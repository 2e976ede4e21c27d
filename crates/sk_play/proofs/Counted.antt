-- The last line of a desk, by what was counted.
use Rattle.sk_play.proofs.Names.{◌≡◌, ℕ, length, ap, ◌∙◌, KernelView, DeskView, pending, counts_of, desk_line}

pub counted : (d : DeskView) (k : KernelView) (requests : ℕ) → k ≡ d.kernel → requests ≡ length (pending d) → counts_of k requests ≡ desk_line d
counted d k requests kernel all = ap (λ x. counts_of x requests) kernel ∙ ap (λ n. counts_of d.kernel n) all
