-- What the map of terminals has at a number after a change.
use Rattle.sk_terminal.proofs.Names.{arith, ◌≡◌, ℕ, cond, List, [], Option, Some, None, refl, sym, option_map}
use Rattle.sk_terminal.proofs.Names.{unwrap_or, nat_cmp_total, eq_by_cmp_equiv, ◌==◌, tells_apart, TaggedText}
use Rattle.sk_terminal.proofs.Names.{TerminalMap}
use Rattle.std.specs.FinMap as map
use Rattle.sk_terminal.proofs.SaidTo.{others}
use Rattle.std.proofs.lemmas.Bool.Decides.{nat_tests}

-- the texts that are there, put again
pub put_same : (m : TerminalMap) (t : ℕ) (texts : List TaggedText) → map.get m t ≡ Some texts → map.insert m t texts ≡ m
put_same m t texts here = map.same_map nat_cmp_total map.nat_cmp-IsAntisymmetric _ _ (λ q.
    grind (arith, map.get-insert nat_cmp_total m t texts q, tells_apart map.nat_cmp-IsAntisymmetric q t))

-- one terminal is changed, or there is none
pub changed_at : (change : List TaggedText → List TaggedText) (m : TerminalMap) (k : ℕ) (v w : List TaggedText) → Some v ≡ map.get m k → w ≡ change v
    → (t : ℕ) → map.get (map.insert m k w) t ≡ cond (k == t) (option_map change (map.get m t)) (map.get m t)
changed_at change m k v w here is t =
    grind (arith, nat_tests, map.get-insert nat_cmp_total m k w t, others t k, (eq_by_cmp_equiv nat_cmp_total).refl t)

pub none_at : (change : List TaggedText → List TaggedText) (m : TerminalMap) (k : ℕ) → None ≡ map.get m k → (t : ℕ) → map.get m t ≡ cond (k == t) (option_map change (map.get m t)) (map.get m t)
none_at change m k none t = grind (arith, nat_tests)

-- a change of no texts gives none, so that it can be read where a terminal is absent
pub changed_texts : (change : List TaggedText → List TaggedText) → change [] ≡ [] → (old : Option (List TaggedText)) → unwrap_or (option_map change old) [] ≡ change (unwrap_or old [])
changed_texts change none None = sym none
changed_texts change none (Some texts) = refl
