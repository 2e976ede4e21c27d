-- What counts of segments, with one more, or with a frame more.
use Rattle.sk_recovered.proofs.Names.{◌≡◌, ◌==◌, ◌&&◌, ℕ, ◌+◌, ◌-◌, ◌<◌, ◌≤◌, Bool, true, false, nat_lt, List, [], ◌∷◌}
use Rattle.sk_recovered.proofs.Names.{◌++◌, length, take, drop, Option, Some, None, refl, sym, ap, subst, ◌∙◌, arith}
use Rattle.sk_recovered.proofs.Names.{length-append, add-zero, if◌then◌else◌, slice_get, ltb-false, ltb-true, eqb-true}
use Rattle.sk_recovered.proofs.Names.{append_assoc, append-nil, drop_more, take_all, take-append-le}
use Rattle.sk_recovered.proofs.Names.{get_or_from_slice_get, slice_get_within, IsLog, HasRead, Reading, Entries}
use Rattle.sk_recovered.proofs.Names.{with_one, HasTaken, IsMade, below, counted, counting, is_below, least, AreRead}
use Rattle.sk_recovered.proofs.Names.{IsPart, Part, counted_with, place_of, part_of, HasRecovered, IsFound, IsWithin}
use Rattle.sk_recovered.proofs.Names.{capped, drops, reached, reached_by, DamagedAt, EndsAt, EndsIn, End, HasReached, Place}
use Rattle.sk_recovered.proofs.Names.{Reached, IfSome, Stands, ◌⊎◌, inl, dropped_of, frames_length}
use Rattle.sk_recovered.proofs.Reached.{damaged_more, drops_are, number_is, reached_more, some_more, stands_more}
use Rattle.sk_recovered.proofs.Names.{Damage, Frames, Head, Segment, Found, Recovered}
use Rattle.sk_recovered.specs.Frames.{IsLeft}

pub counted_more : (next : ℕ) (parts : List Part) (p : Part)
    → counted next (parts ++ p ∷ []) ≡ counted next parts ++ counting (p.first == next + length (counted next parts)) p
counted_more next [] p = append-nil (counting (p.first == next) p) ∙ ap (λ n. counting (p.first == n) p) (sym (add-zero next))
counted_more next (q ∷ parts) p =
    let own = counting (q.first == next) q in
    let n = next + length own in
    let same : n + length (counted n parts) ≡ next + length (own ++ counted n parts) = omega (arith, length-append own (counted n parts)) in
    ap (λ x. own ++ x) (counted_more n parts p)
    ∙ sym (append_assoc own (counted n parts) (counting (p.first == n + length (counted n parts)) p))
    ∙ ap (λ k. (own ++ counted n parts) ++ counting (p.first == k) p) same

pub counting_none : (counts : Bool) (first : ℕ) (bound : Option ℕ)
    → counting counts (record { first = first; bound = bound; payloads = [] }) ≡ []
counting_none false first bound = refl
counting_none true first None = refl
counting_none true first (Some b) = take_all (b - first) [] (omega arith)

below_more : (first bound number : ℕ) (payloads : List (List ℕ)) (payload : List ℕ) (b : Bool)
    → number ≡ first + length payloads → nat_lt number bound ≡ b
    → take (bound - first) (payloads ++ payload ∷ []) ≡ with_one b (take (bound - first) payloads) payload
below_more first bound number payloads payload true is less =
    let small : number < bound = ltb-true number bound less in
    take_all (bound - first) (payloads ++ payload ∷ []) (omega (arith, small, is, length-append payloads (payload ∷ [])))
    ∙ ap (λ ps. ps ++ payload ∷ []) (sym (take_all (bound - first) payloads (omega (arith, small, is))))
below_more first bound number payloads payload false is less =
    take-append-le (bound - first) payloads (payload ∷ []) (omega (arith, is, ltb-false number bound less))

pub counting_more : (counts : Bool) (first : ℕ) (bound : Option ℕ) (payloads : List (List ℕ)) (payload : List ℕ) (number : ℕ)
    → number ≡ first + length payloads
    → counting counts (record { first = first; bound = bound; payloads = payloads ++ payload ∷ [] })
    ≡ with_one (counts && is_below bound number) (counting counts (record { first = first; bound = bound; payloads = payloads })) payload
counting_more false first bound payloads payload number is = refl
counting_more true first None payloads payload number is = refl
counting_more true first (Some b) payloads payload number is = below_more first b number payloads payload (nat_lt number b) is refl

-- where the next frame counts all before it in its segment do
pub counting_full : (counts : Bool) (first : ℕ) (bound : Option ℕ) (payloads : List (List ℕ)) (number : ℕ)
    → number ≡ first + length payloads → (counts && is_below bound number) ≡ true
    → (counts ≡ true) × (counting counts (record { first = first; bound = bound; payloads = payloads }) ≡ payloads)
counting_full false first bound payloads number is below = cc
counting_full true first None payloads number is below = (refl, refl)
counting_full true first (Some b) payloads number is below =
    let small : number < b = ltb-true number b below in
    (refl, take_all (b - first) payloads (omega (arith, small, is)))

-- so its number is the next
pub number_next : (s : Segment) (next : ℕ) (before payloads : List (List ℕ)) (number : ℕ)
    → s.counts ≡ (s.head.first == next + length before) → number ≡ s.head.first + length payloads
    → (s.counts && is_below s.bound number) ≡ true → number ≡ next + length (before ++ counting s.counts (part_of s payloads))
number_next s next before payloads number counts is below =
    let full = counting_full s.counts s.head.first s.bound payloads number is below in
    let first : s.head.first ≡ next + length before = eqb-true s.head.first (next + length before) (sym counts ∙ full.0) in
    omega (arith, is, first, length-append before (counting s.counts (part_of s payloads)), ap length full.1)

length_one : (b : Bool) (payloads : List (List ℕ)) (payload : List ℕ) (next old new number : ℕ)
    → (b ≡ true → number ≡ next + length payloads) → old ≡ next + length payloads
    → new ≡ (if b then number + 1 else old) → new ≡ next + length (with_one b payloads payload)
length_one true payloads payload next old new number is e h = omega (arith, h, is refl, length-append payloads (payload ∷ []))
length_one false payloads payload next old new number is e h = h ∙ e

with_front : (b : Bool) (before own : List (List ℕ)) (payload : List ℕ)
    → with_one b (before ++ own) payload ≡ before ++ with_one b own payload
with_front true before own payload = append_assoc before own (payload ∷ [])
with_front false before own payload = refl

-- ---- a frame more

pub counted_one : (s : Segment) (first : ℕ) (before payloads : List (List ℕ)) (payload : List ℕ) (number : ℕ)
    → number ≡ s.head.first + length payloads
    → with_one (s.counts && is_below s.bound number) (before ++ counting s.counts (part_of s payloads)) payload ≡ before ++ counting s.counts (part_of s (payloads ++ payload ∷ []))
counted_one s first before payloads payload number is =
    with_front (s.counts && is_below s.bound number) before (counting s.counts (part_of s payloads)) payload
    ∙ ap (λ ps. before ++ ps) (sym (counting_more s.counts s.head.first s.bound payloads payload number is))

-- ---- segments that were read

pub read_few : (heads : List Head) (bytes : List (List ℕ)) (parts : List Part) → AreRead heads bytes parts
    → length bytes ≤ length heads
read_few heads [] [] read = omega arith
read_few heads [] (p ∷ parts) read = absurd read
read_few heads (b ∷ bytes) [] read = absurd read
read_few [] (b ∷ bytes) (p ∷ parts) read = absurd read
read_few (h ∷ heads) (b ∷ bytes) (p ∷ parts) read = omega (arith, read_few heads bytes parts read.1)

pub read_more : (heads : List Head) (bytes : List (List ℕ)) (parts : List Part) (h : Head) (later : List Head) (came : List ℕ) (p : Part)
    → AreRead heads bytes parts → drop (length bytes) heads ≡ h ∷ later
    → IsPart h later came p → AreRead heads (bytes ++ came ∷ []) (parts ++ p ∷ [])
read_more heads [] [] h later came p read is part = subst (λ hs. AreRead hs (came ∷ []) (p ∷ [])) (sym is) (part, tt)
read_more heads [] (q ∷ parts) h later came p read is part = absurd read
read_more heads (b ∷ bytes) [] h later came p read is part = absurd read
read_more [] (b ∷ bytes) (q ∷ parts) h later came p read is part = absurd read
read_more (k ∷ heads) (b ∷ bytes) (q ∷ parts) h later came p read is part = (read.0, read_more heads bytes parts h later came p read.1 is part)

-- ---- calls

-- a frame more was read
pub stepped : (start : Entries) (first : ℕ) (heads : List Head) (bytes : List (List ℕ)) (left : ℕ) (came payload : List ℕ) (old : Segment) (log : Reading) (frames : Frames) (next : ℕ) (place : Place)
    (w : IsWithin start first heads bytes left came old) → HasRead old.head.segment old.head.first (w.payloads ++ payload ∷ []) came log
    → HasTaken first start (with_one (old.counts && is_below old.bound old.log.number) (counted_with first w.parts old w.payloads) payload) frames
    → place ≡ record { segment = old.head.segment; offset = old.log.place; number = old.log.number }
    → DamagedAt (old.counts && is_below old.bound old.log.number) place old.recovered.frames.damage frames.damage
    → next ≡ (if (old.counts && is_below old.bound old.log.number) then log.number else old.recovered.next)
    → IsWithin start first heads bytes left came (record old { log = log; recovered = record old.recovered { frames = frames; next = next } })
stepped start first heads bytes left came payload old log frames next place w read taken at damaged is =
    let takes = old.counts && is_below old.bound old.log.number in
    let all = counted_with first w.parts old w.payloads in
    let one = counted_one old first (counted first w.parts) w.payloads payload old.log.number w.log.number in
    let more : log.number ≡ old.log.number + 1 = omega (arith, read.number, w.log.number, length-append w.payloads (payload ∷ [])) in
    let number = length_one takes all payload first old.recovered.next next old.log.number
    (λ t. number_next old first (counted first w.parts) w.payloads old.log.number w.counts w.log.number t) w.next
    (is ∙ ap (λ n. if takes then n else old.recovered.next) more) in record {
      parts = w.parts;
      read = w.read;
      heads_are = w.heads_are;
      opened = w.opened;
      first_is = w.first_is;
      later = w.later;
      is = w.is;
      bound = w.bound;
      counts = w.counts;
      payloads = w.payloads ++ payload ∷ [];
      log = read;
      taken = subst (λ ps. HasTaken first start ps frames) one taken;
      next = number ∙ ap (λ ps. first + length ps) one;
      reached = record { segment = w.reached.segment; offset = w.reached.offset; dropped = w.reached.dropped };
      damaged = damaged_more old heads w.parts w.payloads payload came place old.recovered.frames.damage frames.damage w.log at damaged w.damaged;
    }

-- its number is the next, where it counts
pub place_next : (start : Entries) (first : ℕ) (heads : List Head) (bytes : List (List ℕ)) (left : ℕ) (came : List ℕ) (s : Segment) (w : IsWithin start first heads bytes left came s)
    → (s.counts && is_below s.bound s.log.number) ≡ true → s.log.number ≡ first + length (counted_with first w.parts s w.payloads)
place_next start first heads bytes left came s w t = number_next s first (counted first w.parts) w.payloads s.log.number w.counts w.log.number t

-- a piece came
pub fed : (start : Entries) (first : ℕ) (heads : List Head) (bytes : List (List ℕ)) (left : ℕ) (came piece : List ℕ) (old : Segment) (log : Reading)
    (w : IsWithin start first heads bytes left came old) → HasRead old.head.segment old.head.first w.payloads (came ++ piece) log
    → IsWithin start first heads bytes left (came ++ piece) (record old { log = log })
fed start first heads bytes left came piece old log w read = record {
  parts = w.parts;
  read = w.read;
  heads_are = w.heads_are;
  opened = w.opened;
  first_is = w.first_is;
  later = w.later;
  is = w.is;
  bound = w.bound;
  counts = w.counts;
  payloads = w.payloads;
  log = read;
  taken = w.taken;
  next = w.next;
  reached = w.reached;
  damaged = w.damaged;
}

-- all of a segment came
pub closed : (start : Entries) (first : ℕ) (heads : List Head) (bytes : List (List ℕ)) (left : ℕ) (came : List ℕ) (s : Segment) (end : End) (limit : ℕ)
    (dropped segment offset : ℕ) (w : IsWithin start first heads bytes left came s)
    → EndsAt s.head.segment s.head.first w.payloads came limit end
    → dropped ≡ capped (s.recovered.dropped + capped (drops s end))
    → segment ≡ (if s.counts && is_below s.bound end.number then s.head.segment else s.recovered.segment)
    → offset ≡ (if s.counts && is_below s.bound end.number then end.place else s.recovered.offset)
    → HasRecovered start first heads (bytes ++ came ∷ []) left (record s.recovered { dropped = dropped; segment = segment; offset = offset })
closed start first heads bytes left came s end limit dropped segment offset w ends drop_is segment_is offset_is =
    let p = part_of s w.payloads in
    let same : counted_with first w.parts s w.payloads ≡ counted first (w.parts ++ p ∷ []) =
    ap (λ b. counted first w.parts ++ counting b p) w.counts ∙ sym (counted_more first w.parts p) in
    let longer : length bytes + 1 ≡ length (bytes ++ came ∷ []) = omega (arith, length-append bytes (came ∷ [])) in
    let was : Reached = reached first heads bytes w.parts in
    let now : reached first heads (bytes ++ came ∷ []) (w.parts ++ p ∷ []) ≡ reached_by s.head p came was =
    reached_more (record { number = first; segment = 0; offset = 0; dropped = 0 }) heads bytes w.parts s.head w.later came p w.read w.is in
    let number : was.number ≡ first + length (counted first w.parts) =
    number_is (record { number = first; segment = 0; offset = 0; dropped = 0 }) heads bytes w.parts w.read in
    let counts : s.counts ≡ (p.first == was.number) = w.counts ∙ ap (λ n. p.first == n) (sym number) in
    let total : (reached first heads (bytes ++ came ∷ []) (w.parts ++ p ∷ [])).dropped ≡ was.dropped + dropped_of (p.first == was.number) s.head p came =
    ap (λ (r : Reached). r.dropped) now in
    let drops_is = drops_are s w.payloads came limit end (p.first == was.number) ends counts in record {
      parts = w.parts ++ p ∷ [];
      read = read_more heads bytes w.parts s.head w.later came p w.read w.is (record { first = refl; bound = w.bound; log = ends.log_is });
      heads_are = w.heads_are;
      opened = w.opened ∙ longer;
      first_is = w.first_is;
      taken = subst (λ ps. HasTaken first start ps s.recovered.frames) same w.taken;
      next = w.next ∙ ap (λ ps. first + length ps) same;
      reached = record {
        segment = segment_is ∙ (λ i. if counts i && is_below s.bound (ends.number i) then s.head.segment else w.reached.segment i)
            ∙ ap (λ (r : Reached). r.segment) (sym now);
        offset = offset_is ∙ (λ i. if counts i && is_below s.bound (ends.number i) then ends.place i else w.reached.offset i)
            ∙ ap (λ (r : Reached). r.offset) (sym now);
        dropped = omega (arith, drop_is, drops_is, w.reached.dropped, total);
      };
      damaged = some_more s.recovered.frames.damage _ _ (λ d has. stands_more heads bytes w.parts s.head w.later p d.place w.read w.is has) w.damaged;
    }

drop_get : (heads : List Head) (i : ℕ) (h : Head) → slice_get heads i ≡ Some h → drop i heads ≡ h ∷ drop (i + 1) heads
drop_get heads i h is =
    drop_more heads i h (slice_get_within heads i h is)
    ∙ ap (λ x. x ∷ drop (i + 1) heads) (get_or_from_slice_get heads i h h is)

-- the next segment is begun
pub begun : (start : Entries) (first : ℕ) (heads : List Head) (bytes : List (List ℕ)) (left : ℕ) (r : Recovered) (head : Head) (log : Reading) (bound : Option ℕ) (counts : Bool)
    (has : HasRecovered start first heads bytes left r) → slice_get r.heads r.opened ≡ Some head → HasRead head.segment head.first [] [] log → bound ≡ least (drop (r.opened + 1) r.heads)
    → counts ≡ (head.first == r.next)
    → IsWithin start first heads bytes left [] (record { recovered = record r { opened = r.opened + 1 }; log = log; head = head; bound = bound; counts = counts })
begun start first heads bytes left r head log bound counts has is read bounded next =
    let at : slice_get heads (length bytes) ≡ Some head = ap (λ n. slice_get heads n) (sym has.opened) ∙ ap (λ hs. slice_get hs r.opened) (sym has.heads_are) ∙ is in
    let none : counted first has.parts ++ counting counts (record { first = head.first; bound = bound; payloads = [] }) ≡ counted first has.parts =
    ap (λ ps. counted first has.parts ++ ps) (counting_none counts head.first bound)
    ∙ append-nil (counted first has.parts) in record {
      parts = has.parts;
      read = has.read;
      heads_are = has.heads_are;
      opened = ap (λ n. n + 1) has.opened;
      first_is = has.first_is;
      later = drop (length bytes + 1) heads;
      is = drop_get heads (length bytes) head at;
      bound = bounded ∙ ap (λ n. least (drop (n + 1) r.heads)) has.opened
          ∙ ap (λ hs. least (drop (length bytes + 1) hs)) has.heads_are;
      counts = next ∙ ap (λ n. head.first == n) has.next;
      payloads = [];
      log = read;
      taken = subst (λ ps. HasTaken first start ps r.frames) (sym none) has.taken;
      next = has.next ∙ ap (λ ps. first + length ps) (sym none);
      reached = record { segment = has.reached.segment; offset = has.reached.offset; dropped = has.reached.dropped };
      damaged = some_more r.frames.damage _ _ (λ d stands. inl stands) has.damaged;
    }

-- more was dropped
pub left_more : (start : Entries) (first : ℕ) (heads : List Head) (bytes : List (List ℕ)) (left more : ℕ) (r : Recovered) (dropped : ℕ)
    → dropped ≡ capped (r.dropped + more) → HasRecovered start first heads bytes left r
    → HasRecovered start first heads bytes (left + more) (record r { dropped = dropped })
left_more start first heads bytes left more r dropped is has = record {
  parts = has.parts;
  read = has.read;
  heads_are = has.heads_are;
  opened = has.opened;
  first_is = has.first_is;
  taken = has.taken;
  next = has.next;
  reached = record { segment = has.reached.segment; offset = has.reached.offset; dropped = omega (arith, is, has.reached.dropped) };
  damaged = has.damaged;
}

-- all segments were read
pub all_read : (start : Entries) (first : ℕ) (heads : List Head) (bytes : List (List ℕ)) (left : ℕ) (r : Recovered) (has : HasRecovered start first heads bytes left r)
    → length r.heads ≤ r.opened → length bytes ≡ length heads
all_read start first heads bytes left r has past = omega (arith, past, has.opened, ap length has.heads_are, read_few heads bytes has.parts has.read)

-- ---- the end

taken_next : (first next : ℕ) (start store : Entries) (payloads : List (List ℕ)) (damage : Option Damage) (made : IsMade first start payloads store damage)
    (end : Place) → end.number ≡ first + length payloads → (place_of damage end).number ≡ first + length made.taken
taken_next first next start store payloads None made end is = omega (arith, is, ap length made.all, length-append made.taken made.left, ap length made.left_is)
taken_next first next start store payloads (Some damage) made end is = made.left_is.5

ends_in : (damage : Option Damage) (heads : List Head) (parts : List Part) (r : Reached) (end : Place) (f : Found)
    → IfSome damage (λ d. Stands heads parts d.place) → end.segment ≡ r.segment → end.offset ≡ r.offset
    → f.segment ≡ (place_of damage end).segment → f.offset ≡ (place_of damage end).offset → EndsIn damage heads parts r f
ends_in None heads parts r end f stands segment offset here there = (here ∙ segment, there ∙ offset)
ends_in (Some damage) heads parts r end f stands segment offset here there = (stands, here, there)

pub found : (start : Entries) (first : ℕ) (heads : List Head) (bytes : List (List ℕ)) (left : ℕ) (r : Recovered) (f : Found)
    (has : HasRecovered start first heads bytes left r)
    → f.store ≡ r.frames.store → f.damage ≡ r.frames.damage → f.works ≡ r.frames.works → f.dropped ≡ r.dropped
    → let end : Place = record { segment = r.segment; offset = r.offset; number = r.next } in
    f.segment ≡ (place_of r.frames.damage end).segment → f.offset ≡ (place_of r.frames.damage end).offset
    → f.number ≡ (place_of r.frames.damage end).number → f.frames ≡ f.number - r.first → IsFound start first heads bytes left f
found start first heads bytes left r f has store damage works dropped at_segment at_offset at_number frames =
    let end : Place = record { segment = r.segment; offset = r.offset; number = r.next } in
    let ps = counted first has.parts in
    let number : f.number ≡ first + length has.taken.0.taken =
    at_number ∙ taken_next first r.next start r.frames.store ps r.frames.damage has.taken.0 end has.next in
    let one = made r.frames.store r.frames.damage (sym store) (sym damage) has.taken.0 in record {
      parts = has.parts;
      read = has.read;
      made = one.0;
      number = number ∙ ap (λ n. first + n) (sym one.1);
      frames = omega (arith, frames, number, has.first_is, one.1);
      works = works ∙ has.taken.1 ∙ ap capped (sym one.2);
      place = subst (λ d. EndsIn d heads has.parts (reached first heads bytes has.parts) f) (sym damage)
          (ends_in r.frames.damage heads has.parts (reached first heads bytes has.parts) end f has.damaged has.reached.segment has.reached.offset
          at_segment at_offset);
      dropped = dropped ∙ has.reached.dropped;
    }
  where
    made : (s : Entries) (d : Option Damage) → s ≡ f.store → d ≡ f.damage → (m : IsMade first start (counted first has.parts) s d)
        → (n : IsMade first start (counted first has.parts) f.store f.damage) × (length n.taken ≡ length m.taken) × (length n.works ≡ length m.works)
    made s d store damage m =
        let left = subst (λ o. IsLeft (first + length m.taken) o m.left) damage m.left_is in (
          record { taken = m.taken; left = m.left; all = m.all; works = m.works; say = m.say; store_is = sym store ∙ m.store_is; left_is = left },
          refl,
          refl,
        )
