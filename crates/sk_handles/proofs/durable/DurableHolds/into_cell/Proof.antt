-- The handle's pointer is the cell's, with what is owned there.
use Rattle.sk_handles.proofs.Names.{refl, plain, yes, Goes-dropped}
use Rattle.sk_cells.proofs.Passing.{passes}
use Rattle.sk_handles.proofs.durable.Durable.TheLaws.{lowers}
use Rattle.sk_durable.specs.contracts.store.Store.{the_row as R}
use Rattle.sk_cells.specs.contracts.cell.Cell as cell
use Rattle.sk_handles.specs.contracts.durable.Durable.{the_row}
use Rattle.sk_handles.specs.contracts.durable.DurableHolds.into_cell as f
use Rattle.sk_handles.proofs.durable.DurableHolds.into_cell.Statement.{statement}
use Rattle.sk_handles.proofs.durable.DurableHolds.into_cell.Code as code

pub into_cell_spec : {M : Type 1} → statement M
into_cell_spec 𝓤 𝓛 𝓜 𝓡 wired =
    passes R the_row (cell.the_row R) (λ h. h.at) (λ h. h.held) (λ p x. record { at = p; held = x }) (λ c. c.held) 𝓤 𝓛 𝓜 𝓡 _ _
    (Goes-dropped 𝓛 0 (plain (λ _. the_row)) yes (λ κs x w. refl)) lowers.val_is
    (λ h. tt) (λ h. refl) (λ p x. refl) (λ p x. refl) f.Key.name (code.unfolded 𝓤 𝓛.H 𝓜 𝓡 wired)
