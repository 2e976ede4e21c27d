-- When two plain kernels are the same. The test of it is exact.
use Rattle.std.specs.Prelude.{Bool, ◌&&◌}
use Rattle.std.proofs.Common.{ap}
use Rattle.std.proofs.lemmas.Bool.Decides.{Decides-and, Decides-like}
use Rattle.sk_ids.specs.Same.{IsExact}
use Rattle.sk_script.specs.Same.{same_scripts}
use Rattle.sk_script.specs.SameLemma.{exact_scripts}
use Rattle.sk_store.specs.Same.{same_state}
use Rattle.sk_store.specs.SameLemma.{exact_state}
use Rattle.sk_terminal.specs.Same.{same_terminals}
use Rattle.sk_terminal.specs.SameLemma.{exact_terminals}
use Rattle.sk_plain.specs.Plain.{PlainView}

-- whether two plain kernels have the same scripts, entities that have the same, and the same texts
abbrev pub same_plain : PlainView → PlainView → Bool
same_plain k l = same_scripts k.scripts l.scripts && (same_state k.state l.state && same_terminals k.texts l.texts)

pub exact_plain : IsExact same_plain
exact_plain k l =
    let scripts = same_scripts k.scripts l.scripts in
    let state = same_state k.state l.state in
    let texts = same_terminals k.texts l.texts in
    Decides-like (same_plain k l) (λ h i. record { scripts = h.0 i; state = h.1.0 i; texts = h.1.1 i })
    (λ h. (ap (λ m. m.scripts) h, (ap (λ m. m.state) h, ap (λ m. m.texts) h)))
    (Decides-and scripts (state && texts) (exact_scripts k.scripts l.scripts) (Decides-and state texts (exact_state k.state l.state) (exact_terminals k.texts l.texts)))
