-- How long the pieces of a snapshot are.
use Rattle.sk_handles.proofs.Names.{ℕ, zero, suc, ◌+◌, ◌<◌, ◌≤◌, ◌^◌, List, [], ◌∷◌, ◌++◌, length, ap, arith}
use Rattle.sk_handles.proofs.Names.{length-append, head, said, bulk, bulks, length-said, text_of, log_text, Entries}
use Rattle.sk_handles.proofs.Names.{set_of, IsFilled, IsPiece}
use Rattle.sk_commands.specs.declared.name.Name.TheVariants as named

head_short : (mark n : ℕ) → n < 2 ^ 32 → length (head mark n) ≤ 13
head_short mark n small = omega (arith, length-append (said mark n) (10 ∷ []), length-said mark n small)

bulk_short : (w : List ℕ) → length w < 2 ^ 32 → length (bulk w) ≤ 15 + length w
bulk_short w small =
    omega (arith, length-append (head 36 (length w)) (w ++ 13 ∷ 10 ∷ []), length-append w (13 ∷ 10 ∷ []), head_short 36 (length w) small)

-- that of one entry
entry_short : (e : List ℕ × List ℕ) → length e.0 < 2 ^ 32 → length e.1 < 2 ^ 32
    → length (log_text (set_of e)) ≤ 64 + length e.0 + length e.1
entry_short e key value =
    let name = text_of named.Set in
    let all = length-append (head 42 3 ++ bulks (name ∷ e.0 ∷ e.1 ∷ [])) [] in
    let first = length-append (head 42 3) (bulks (name ∷ e.0 ∷ e.1 ∷ [])) in
    let named = length-append (bulk name) (bulks (e.0 ∷ e.1 ∷ [])) in
    let keyed = length-append (bulk e.0) (bulks (e.1 ∷ [])) in
    let valued = length-append (bulk e.1) [] in
    omega (arith, all, first, named, keyed, valued, head_short 42 3 (omega arith), bulk_short name (omega arith), bulk_short e.0 key, bulk_short e.1 value)

few : (most count : ℕ) (e : List ℕ × List ℕ) (entries : Entries) (text : List ℕ) → IsFilled most (e ∷ entries) count text
    → 64 + length e.0 + length e.1 ≤ most → most < 2 ^ 32 → length text ≤ most
few most zero e entries text filled room small = absurd (omega (arith, filled.some (omega arith)))
few most (suc zero) e entries text filled room small =
    omega (arith, ap length filled.is, length-append (log_text (set_of e)) [], entry_short e (omega (arith, room, small)) (omega (arith, room, small)), room)
few most (suc (suc n)) e entries text filled room small = filled.fits (omega arith)

-- a piece is no longer than its room, where the first entry has room in it
pub piece_fits : (most : ℕ) (e : List ℕ × List ℕ) (entries left : Entries) (text : List ℕ) → IsPiece most (e ∷ entries) text left
    → 64 + length e.0 + length e.1 ≤ most → most < 2 ^ 32 → length text ≤ most
piece_fits most e entries left text piece room small = few most piece.count e entries text piece.filled room small
