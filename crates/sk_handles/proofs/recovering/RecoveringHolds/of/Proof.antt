-- The cell's pointer is the handle's, with what is owned there.
use Rattle.sk_handles.proofs.Names.{refl, plain, yes, Goes-dropped}
use Rattle.sk_cells.proofs.Passing.{passes}
use Rattle.sk_handles.proofs.reading.Reading.TheLaws.{the_row_laws}
use Rattle.sk_cells.proofs.cell.Cell.TheLaws.{lowers}
use Rattle.sk_handles.specs.contracts.reading.Reading.{the_row as R}
use Rattle.sk_cells.specs.contracts.cell.Cell as cell
use Rattle.sk_handles.specs.contracts.recovering.Recovering.{the_row}
use Rattle.sk_handles.specs.contracts.recovering.RecoveringHolds.of as f
use Rattle.sk_handles.proofs.recovering.RecoveringHolds.of.Statement.{statement}
use Rattle.sk_handles.proofs.recovering.RecoveringHolds.of.Code as code

pub of_spec : {M : Type 1} → statement M
of_spec 𝓤 𝓛 𝓜 𝓡 wired =
    passes R (cell.the_row R) the_row (λ c. c.at) (λ c. c.held) (λ p x. record { at = p; held = x }) (λ h. h.held) 𝓤 𝓛 𝓜 𝓡 _ _
    (Goes-dropped 𝓛 0 (plain (λ _. cell.the_row R)) yes (λ κs x w. refl)) (lowers R the_row_laws).val_is
    (λ c. tt) (λ c. refl) (λ p x. refl) (λ p x. refl) f.Key.name (code.unfolded 𝓤 𝓛.H 𝓜 𝓡 wired)
