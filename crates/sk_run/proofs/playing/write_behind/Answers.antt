-- The counts, and then the trace.
use Rattle.sk_run.proofs.Names.{◌≡◌, Bool, true, false, ℕ, List, [], ◌++◌, Option, refl, Appends, Appends-trans}
use Rattle.sk_run.proofs.Names.{on_ok_weaker, KernelView, IsCounted, Prints, WritesCounts, counts_lines}
use Rattle.sk_run.proofs.Names.{trace_section, where_wanted}
use Rattle.sk_run.proofs.playing.write_behind.Goals as goal

abbrev Both : Bool → KernelView → List ℕ → List ℕ → Type 0
Both wanted k rest text = (counts : List ℕ) × IsCounted wanted k counts × (text ≡ counts ++ rest)

behind : (wanted : Bool) (k : KernelView) (old mid new : Option (List ℕ)) (rest : List ℕ) → WritesCounts wanted k old mid → Appends mid new rest → Prints (Both wanted k rest) old new
behind false k old mid new rest counted written = ([] ++ rest, ([], refl, refl), Appends-trans old mid new [] rest counted written)
behind true k old mid new rest counted written =
    let text = counts_lines counted.0 in
    (text ++ rest, (text, (counted.0, counted.1, refl), refl), Appends-trans old mid new text rest counted.2 written)

pub returns : goal.returns
returns g c =
    on_ok_weaker c.write_trace.result
    (λ written. behind c.args.shows.counts c.args.kernel.now _ _ _ (where_wanted c.args.shows.trace (trace_section c.args.kernel.now)) c.in_ok-write_counted.ensures written)
    c.write_trace.ensures
