-- What is found after a crash.
use Rattle.sk_recovered.proofs.Names.{logged_front, ◌≡◌, ℕ, Err, zero, suc, ◌+◌, ◌-◌, ◌≤◌, List, [], ◌∷◌, ◌++◌}
use Rattle.sk_recovered.proofs.Names.{flat_map, length, take, Option, Some, None, refl, sym, ap, subst, ◌∙◌, arith}
use Rattle.sk_recovered.proofs.Names.{length-append, length-map, map-append, take-map, ReadsPrefix, joined, synced_of}
use Rattle.sk_recovered.proofs.Names.{crash_keeps_prefix, segments_join, log_text, requests_of, AreAsked, AreWithin}
use Rattle.sk_recovered.proofs.Names.{Work, Entries, payloads_of, AreLogged, log_limits, read_as, bytes_of, heads_of}
use Rattle.sk_recovered.proofs.Names.{synced_at, synced_in, whole, whole_at, AreWritten, CrashesAreRecovered, Written}
use Rattle.sk_recovered.proofs.Names.{IsMade, joined_all, joined_at, least_first, AreBounded, counted, least, lower}
use Rattle.sk_recovered.proofs.Names.{AreRead, Part, Damage, Found, Bool, true, false, ◌<◌, ◌&&◌, ◌||◌, nat_lt, is_some}
use Rattle.sk_recovered.proofs.Names.{is_damaged, is_missing, ltb-true}
use Rattle.sk_recovered.proofs.Joined.{counted_joined, counted_restored}

-- ---- bounds

same_least : (segments : List Written) (parts : List Part) → AreRead (heads_of segments) (bytes_of segments) parts
    → least_first parts ≡ least (heads_of segments)
same_least [] [] read = refl
same_least [] (p ∷ parts) read = absurd read
same_least (s ∷ segments) [] read = absurd read
same_least (s ∷ segments) (p ∷ parts) read =
    let rest = same_least segments parts read.1 in
    (λ i. Some (lower (read.0.first i) (rest i)))

bounded : (segments : List Written) (parts : List Part) → AreRead (heads_of segments) (bytes_of segments) parts
    → AreBounded parts
bounded [] [] read = tt
bounded [] (p ∷ parts) read = absurd read
bounded (s ∷ segments) [] read = absurd read
bounded (s ∷ segments) (p ∷ parts) read = (read.0.bound ∙ sym (same_least segments parts read.1), bounded segments parts read.1)

-- ---- what is joined is a front part of what was written

payloads_joined : (c : ℕ) (frames later : List (List Work))
    → payloads_of (take c frames ++ later) ≡ take c (payloads_of frames) ++ payloads_of later
payloads_joined c frames later =
    map-append (flat_map log_text) (take c frames) later
    ∙ ap (λ ps. ps ++ payloads_of later) (sym (take-map (flat_map log_text) c frames))

joins : (o : Option ℕ) (s : Written) (p : Part) (frames : List (List Work)) (synced : ℕ) (read : List (List ℕ))
    → p.first ≡ s.head.first
    → ((bound : ℕ) → o ≡ Some bound → bound ≤ s.head.first + length s.frames)
    → ReadsPrefix (payloads_of s.frames) s.synced p.payloads → ReadsPrefix (payloads_of frames) synced read
    → ReadsPrefix (payloads_of (whole_at o s frames)) (synced_at o s synced) (joined_at o p read)
joins None s p frames synced read first on one later = one
joins (Some b) s p frames synced read first on one later =
    let c = b - s.head.first in
    let low : b ≤ s.head.first + length s.frames = on b refl in
    let both = segments_join c s.synced synced (payloads_of s.frames) (payloads_of frames) p.payloads read (omega (arith, low, length-map s.frames (flat_map log_text))) one later in
    subst (λ ps. ReadsPrefix ps (synced_of c s.synced synced) (joined (b - p.first) p.payloads read)) (sym (payloads_joined c s.frames frames))
    (subst (λ k. ReadsPrefix (take c (payloads_of s.frames) ++ payloads_of frames) (synced_of c s.synced synced) (joined (b - k) p.payloads read)) (sym first) both)

reads_front : (segments : List Written) (parts : List Part) → AreWritten segments
    → AreRead (heads_of segments) (bytes_of segments) parts
    → ReadsPrefix (payloads_of (whole segments)) (synced_in segments) (joined_all parts)
reads_front [] [] written read = (0, omega arith, omega arith, refl)
reads_front [] (p ∷ parts) written read = absurd read
reads_front (s ∷ segments) [] written read = absurd read
reads_front (s ∷ segments) (p ∷ parts) written read =
    let one = crash_keeps_prefix s.head.segment s.head.first s.synced (payloads_of s.frames) p.payloads s.left written.0.crashed read.0.log in
    let later = reads_front segments parts written.1 read.1 in
    subst (λ o. ReadsPrefix (payloads_of (whole (s ∷ segments))) (synced_in (s ∷ segments)) (joined_at o p (joined_all parts))) (sym read.0.bound)
    (joins (least (heads_of segments)) s p (whole segments) (synced_in segments) (joined_all parts) read.0.first written.0.on one later)

-- ---- the frames were logged

logged_both : (xs ys : List (List Work)) → AreLogged xs → AreLogged ys → AreLogged (xs ++ ys)
logged_both [] ys one two = two
logged_both (x ∷ xs) ys one two = (one.0, one.1, logged_both xs ys one.2 two)

logged_at : (o : Option ℕ) (s : Written) (later : List (List Work)) → AreLogged s.frames → AreLogged later
    → AreLogged (whole_at o s later)
logged_at None s later one two = one
logged_at (Some b) s later one two = logged_both (take (b - s.head.first) s.frames) later (logged_front (b - s.head.first) s.frames one) two

logged_all : (segments : List Written) → AreWritten segments → AreLogged (whole segments)
logged_all [] written = tt
logged_all (s ∷ segments) written = logged_at (least (heads_of segments)) s (whole segments) written.0.logged (logged_all segments written.1)

-- ---- so none is damaged

is_logged : (frames : List (List Work)) (n : ℕ) (taken : List (List ℕ)) (p : List ℕ) (more : List (List ℕ))
    → AreLogged frames → take n (payloads_of frames) ≡ taken ++ p ∷ more
    → (ws : List Work) × AreAsked ws × AreWithin log_limits (flat_map requests_of ws) × (p ≡ flat_map log_text ws)
is_logged frames zero [] p more logged is = absurd (omega (arith, ap length is))
is_logged frames zero (t ∷ taken) p more logged is = absurd (omega (arith, ap length is))
is_logged [] (suc n) [] p more logged is = absurd (omega (arith, ap length is))
is_logged [] (suc n) (t ∷ taken) p more logged is = absurd (omega (arith, ap length is))
is_logged (ws ∷ frames) (suc n) [] p more logged is = (ws, logged.0, logged.1, cc)
is_logged (ws ∷ frames) (suc n) (t ∷ taken) p more logged is = is_logged frames n taken p more logged.2 cc

pub undamaged : (first n : ℕ) (start store : Entries) (frames : List (List Work)) (payloads : List (List ℕ)) (damage : Option Damage)
    → AreLogged frames → payloads ≡ take n (payloads_of frames)
    → IsMade first start payloads store damage → damage ≡ None
undamaged first n start store frames payloads None logged is made = refl
undamaged first n start store frames payloads (Some damage) logged is made =
    let left = made.left_is in
    let at = is_logged frames n made.taken left.0 left.1 logged (sym is ∙ made.all ∙ ap (λ ps. made.taken ++ ps) left.2) in
    absurd (left.4 (read_as log_limits left.0 (Err damage.why) left.3 at.0 at.1 at.2 at.3))

pub all_taken : (first : ℕ) (start store : Entries) (payloads : List (List ℕ)) (damage : Option Damage) (made : IsMade first start payloads store damage)
    → damage ≡ None → length payloads ≡ length made.taken
all_taken first start store payloads None made none = omega (arith, ap length made.all, length-append made.taken made.left, ap length made.left_is)
all_taken first start store payloads (Some damage) made none = cc

not_true : (t : Bool) → (t ≡ true → ⊥) → t ≡ false
not_true true none = absurd (none refl)
not_true false none = refl

and_false : (t : Bool) → (t && false) ≡ false
and_false true = refl
and_false false = refl

-- nothing is told where the next frame is behind all that were told as synced
pub untold : (synced in_flight known : ℕ) (found : Found) → found.damage ≡ None → synced ≤ found.number → known < synced → found.dropped ≤ in_flight
    → is_damaged in_flight known found ≡ false
untold synced in_flight known found none upto below few =
    (λ i. is_some (none i) || not_less in_flight found.dropped few i || missing i)
  where
    not_less : (a b : ℕ) → b ≤ a → nat_lt a b ≡ false
    not_less a b less = not_true (nat_lt a b) (λ is. absurd (omega (arith, less, ltb-true a b is)))

    missing : is_missing known found.number ≡ false
    missing = ap (λ t. nat_lt 0 known && t) (not_less found.number (known + 1) (omega (arith, upto, below))) ∙ and_false (nat_lt 0 known)

pub crashes_recovered : CrashesAreRecovered
crashes_recovered segments first left start found written lowest is =
    let frames = whole segments in
    let logged = logged_all segments written in
    let same = counted_joined is.parts first (bounded segments is.parts is.read) (same_least segments is.parts is.read ∙ lowest) in
    let reads : ReadsPrefix (payloads_of frames) (synced_in segments) (counted first is.parts) =
    subst (ReadsPrefix (payloads_of frames) (synced_in segments)) (sym same) (reads_front segments is.parts written is.read) in
    let none = undamaged first reads.0 start found.store frames (counted first is.parts) found.damage logged reads.3 is.made in
    let made = subst (IsMade first start (counted first is.parts) found.store) none is.made in
    let restored = counted_restored first (synced_in segments) start found.store frames (counted first is.parts) logged reads made in
    let number : found.number ≡ first + restored.0 =
    omega (arith, is.number, restored.3, all_taken first start found.store (counted first is.parts) found.damage is.made none) in (
      (λ in_flight known below few.
          untold (first + synced_in segments) in_flight known found none (omega (arith, number, restored.1)) below few),
      none,
      (restored.0, restored.1, restored.2, restored.4, number),
    )
