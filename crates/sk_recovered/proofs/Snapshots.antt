-- What is found of a snapshot.
use Rattle.sk_recovered.proofs.Names.{◌≡◌, ℕ, suc, List, [], ◌∷◌, ◌++◌, flat_map, length, map, take, drop, Some, None}
use Rattle.sk_recovered.proofs.Names.{refl, sym, ap, subst, ◌∙◌, arith, length-map, map-append, take_all}
use Rattle.sk_recovered.proofs.Names.{take-append-drop, Crashed, log, AreFrames, text_of, log_text, AreAsked, Work}
use Rattle.sk_recovered.proofs.Names.{says, Entries, payloads_of, works_in, AreLogged, after_works, entries_text}
use Rattle.sk_recovered.proofs.Names.{set_of, restored, short_is_within, AreWritten, Written, ArePieces}
use Rattle.sk_recovered.proofs.Names.{SnapshotsAreRead, snapshot_heads, ◌+◌, ◌==◌, true, if◌then◌else◌, drop_all, eq-eqb}
use Rattle.sk_recovered.proofs.Names.{crash_keeps_prefix, dropped_of, is_below, reached, used, AreRead, Head, Part}
use Rattle.sk_commands.specs.declared.name.Name.TheVariants as named
use Rattle.sk_recovered.proofs.Crashed.{crashes_recovered}

-- the works of each frame of a snapshot
abbrev frames_of : (entries : Entries) (payloads : List (List ℕ)) → ArePieces entries payloads → List (List Work)
frames_of entries [] none = []
frames_of entries (payload ∷ payloads) (room, left, piece, more) = map set_of (take piece.count entries) ∷ frames_of left payloads more

payloads_are : (entries : Entries) (payloads : List (List ℕ)) (pieces : ArePieces entries payloads) → payloads_of (frames_of entries payloads pieces) ≡ payloads
payloads_are entries [] none = refl
payloads_are entries (payload ∷ payloads) (room, left, piece, more) =
    ap (λ ps. entries_text (take piece.count entries) ∷ ps) (payloads_are left payloads more) ∙ ap (λ p. p ∷ payloads) (sym piece.filled.is)

works_are : (entries : Entries) (payloads : List (List ℕ)) (pieces : ArePieces entries payloads) → works_in (frames_of entries payloads pieces) ≡ map set_of entries
works_are entries [] none = ap (map set_of) (sym none)
works_are entries (payload ∷ payloads) (room, left, piece, more) =
    let first = take piece.count entries in
    ap (λ ws. map set_of first ++ ws) (works_are left payloads more)
    ∙ ap (λ es. map set_of first ++ map set_of es) piece.left
    ∙ sym (map-append set_of first (drop piece.count entries))
    ∙ ap (map set_of) (take-append-drop piece.count entries)

asked : (entries : Entries) → AreAsked (map set_of entries)
asked [] = tt
asked (e ∷ entries) = ((text_of named.Set ∷ e.0 ∷ e.1 ∷ [], says named.Set (e.0 ∷ e.1 ∷ [])), asked entries)

logged : (number : ℕ) (entries : Entries) (payloads : List (List ℕ)) (pieces : ArePieces entries payloads) → AreFrames 0 number payloads → AreLogged (frames_of entries payloads pieces)
logged number entries [] none made = tt
logged number entries (payload ∷ payloads) (room, left, piece, more) made =
    let works = map set_of (take piece.count entries) in (
      asked (take piece.count entries),
      short_is_within works (omega (arith, ap length piece.filled.is, made.0.short)),
      logged (suc number) left payloads more made.1,
    )

-- all of it was written, and no byte is lost
written : (payloads : List (List ℕ)) → AreFrames 0 1 payloads → Crashed 0 1 payloads (length payloads) (log 0 1 payloads)
written payloads made = record {
  frames = made;
  within = omega arith;
  room = omega arith;
  faded = λ i. omega arith;
  kept = λ i less. refl;
}

none_is : {A : Type 0} {P : Type 0} (a : A) → None ≡ Some a → P
none_is a e = cc

-- nothing stands behind its frames
none_dropped : (payloads : List (List ℕ)) (bytes : List ℕ) (parts : List Part) → AreRead snapshot_heads (bytes ∷ []) parts → AreFrames 0 1 payloads
    → bytes ≡ log 0 1 payloads → (reached 1 snapshot_heads (bytes ∷ []) parts).dropped ≡ 0
none_dropped payloads bytes [] read made is = absurd read
none_dropped payloads bytes (p ∷ q ∷ parts) read made is = absurd read.1
none_dropped payloads bytes (p ∷ []) read made is =
    let head : Head = record { segment = 0; first = 1 } in
    let crashed = subst (Crashed 0 1 payloads (length payloads)) (sym is) (written payloads made) in
    let front = crash_keeps_prefix 0 1 (length payloads) payloads p.payloads bytes crashed read.0.log in
    let same : p.payloads ≡ payloads = front.3 ∙ take_all front.0 payloads front.1 in
    let rest : drop (length (log 0 1 p.payloads)) bytes ≡ [] =
    (λ i. drop (length (log 0 1 (same i))) (is i)) ∙ drop_all (length (log 0 1 payloads)) (log 0 1 payloads) (omega arith) in
    let first : (p.first == 1) ≡ true = eq-eqb p.first 1 read.0.first in
    ap (λ t. 0 + dropped_of t head p bytes) first
    ∙ (λ i. 0 + (if is_below (read.0.bound i) (p.first + length p.payloads) then used (rest i) else 0))

pub snapshots_read : SnapshotsAreRead
snapshots_read entries bytes found rises (payloads, pieces, made, is) finds =
    let frames = frames_of entries payloads pieces in
    let same = payloads_are entries payloads pieces in
    let few : length frames ≡ length payloads = sym (length-map frames (flat_map log_text)) ∙ ap length same in
    let all : Crashed 0 1 payloads (length payloads) bytes = subst (Crashed 0 1 payloads (length payloads)) (sym is) (written payloads made) in
    let crashed : Crashed 0 1 (payloads_of frames) (length frames) bytes =
    subst (λ ps. Crashed 0 1 ps (length frames) bytes) (sym same) (subst (λ n. Crashed 0 1 payloads n bytes) (sym few) all) in
    let one : Written = record { head = record { segment = 0; first = 1 }; frames = frames; synced = length frames; left = bytes } in
    let writes : AreWritten (one ∷ []) = (record { crashed = crashed; logged = logged 1 entries payloads pieces made; on = λ bound e. none_is bound e }, tt) in
    let recovered = crashes_recovered (one ∷ []) 1 0 [] found writes refl finds in
    let dropped = none_dropped payloads bytes finds.parts finds.read made is in
    let whole = recovered.2 in
    let stored : found.store ≡ after_works (works_in frames) [] =
    whole.3 ∙ ap (λ fs. after_works (works_in fs) []) (take_all whole.0 frames whole.1) in
    (recovered.0 0 0 (omega arith) (omega (arith, finds.dropped, dropped)), stored ∙ ap (λ ws. after_works ws []) (works_are entries payloads pieces) ∙ restored entries rises)
