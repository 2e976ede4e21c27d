-- The kernel inside refuses alike.
use Rattle.sk_bytes.proofs.Names.{sym, subst, RefusesNext}
use Rattle.sk_bytes.proofs.Fitting.{next_refused}
use Rattle.sk_bytes.proofs.bytes.next_number.Goals as goal

pub returns-in-Err-clause-why : goal.returns-in-Err-clause-why
returns-in-Err-clause-why g c =
    let why = c.in-Err.ensures.why in
    subst (RefusesNext c.args.kernel.now) (sym c.named.ensures) (next_refused c.args.kernel.now c.in-Err.refusal why.0 why.1)
