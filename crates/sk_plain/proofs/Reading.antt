-- The bytes that come to a process's buffer.
use Rattle.sk_plain.proofs.Cites.{◌≡◌, ℕ, ◌+◌, ◌<◌, ◌≤◌, ◌^◌, List, [], ◌∷◌, length, Option, Some, None, Ok, sym, ◌∙◌}
use Rattle.sk_plain.proofs.Cites.{ap, take_all, Ask, perform, with_read, Entity, Proc, Copy, ContentView, Process}
use Rattle.sk_plain.proofs.Cites.{EntityState, filled, from_copy, PlansRow, text_at, Fills}
use Rattle.sk_objects.specs.declared.value.Value.TheVariants as values
use Rattle.sk_store.specs.declared.entity_state.EntityState.TheVariants as stored
use Rattle.sk_plain.specs.declared.plan.Looks.TheVariants as looks
use Rattle.sk_plain.specs.declared.plan.Beside.TheVariants as beside

-- a fetch from the copy that is there
pub fetch_plans : (look : Entity → Option EntityState) (p : Process) (pid : ℕ) (name : List ℕ) (content : ContentView) → look (Copy name) ≡ Some (stored.Value (values.Copy content))
    → length content.bytes ≤ 512 → content.version < 2 ^ 63 → p.place + 1 < 2 ^ 32
    → PlansRow look p pid (Ask (Copy name) (from_copy pid p)) (Ok (record { change = Fills 0 512 (Some content.version); looks = looks.At (Copy name); beside = beside.Nothing }))
fetch_plans look p pid name content here short below small =
    let bytes : text_at (look (Copy name)) 0 512 ≡ content.bytes = ap (λ o. text_at o 0 512) here ∙ take_all 512 content.bytes short in
    record {
      plans =
          ap (λ o. with_read (Copy name) (look (Copy name)) (perform look (from_copy pid p o))) here
          ∙ (λ i. Ok (record { read = (Copy name, look (Copy name)) ∷ []; written = (Proc pid, Some (stored.Process (filled p (sym bytes i) content.version))) ∷ []; said = None }));
      can = tt;
      apart = tt;
      fits = ((small, below), tt);
      named = tt;
    }
