-- What is read of earlier segments is what a later life began with.
use Rattle.sk_crashed.proofs.Names.{◌≡◌, ◌==◌, ℕ, suc, ◌+◌, ◌-◌, ◌≤◌, min, Bool, true, false, List, [], ◌∷◌, ◌++◌}
use Rattle.sk_crashed.proofs.Names.{length, take, Option, Some, None, refl, sym, ap, subst, ◌∙◌, arith, length-append}
use Rattle.sk_crashed.proofs.Names.{eqb-true, append_assoc, append-nil, length-take, Work, Entries, SayAll, after_works}
use Rattle.sk_crashed.proofs.Names.{log_limits, IsRefused, Says, says_once, Damage, Head, Found, IsMade, IsFound, below}
use Rattle.sk_crashed.proofs.Names.{counted, counting, least, lower, AreRead, Part, after_append, cut_due, AreLeft}
use Rattle.sk_crashed.proofs.Names.{AreKept, LivesAreRecovered, begun, written, same_log, not_refused}
use Rattle.sk_recovered.specs.Frames.{IsLeft}
use Rattle.sk_durable.specs.History.{synced as synced_of}
use Rattle.sk_crashed.specs.Disk.{IsLeft as IsLeftDisk}
use Rattle.sk_crashed.proofs.Names.{told_none, AreAdded, AreSynced, Call, HasDone, IsFront, IsLeftOf, IsRecovered, Limits}
use Rattle.sk_crashed.proofs.Names.{Next, StoreView, Stored}
use Rattle.sk_crashed.proofs.Disks.{all_taken, far, heads_from, recovered}
use Rattle.sk_crashed.proofs.Done.{are_synced}
use Rattle.sk_crashed.proofs.Joins.{below_as, lower_least, lower_less, lower_min, lower_twice}
use Rattle.sk_crashed.proofs.Scanned.{bytes_of, heads_of, scanned}

-- ---- the earlier segments are read as before, under other bounds

abbrev pub AreAlike : List Head → List Head → List Part → List Part → Type 0
AreAlike heads later [] [] = Unit {0}
AreAlike heads later [] (q ∷ qs) = ⊥
AreAlike heads later (p ∷ ps) [] = ⊥
AreAlike [] later (p ∷ ps) (q ∷ qs) = ⊥
AreAlike (h ∷ heads) later (p ∷ ps) (q ∷ qs) = (q.first ≡ p.first) × (q.payloads ≡ p.payloads)
    × (p.bound ≡ least heads) × (q.bound ≡ least (heads ++ later)) × AreAlike heads later ps qs

record Parted (heads later : List Head) (more : List (List ℕ)) (ps all : List Part) : Type 0 where
  mine : List Part
  others : List Part
  are : all ≡ mine ++ others
  read : AreRead later more others
  alike : AreAlike heads later ps mine

parted : (heads : List Head) (bytes again : List (List ℕ)) (later : List Head) (more : List (List ℕ)) (ps all : List Part)
    → AreRead heads bytes ps → AreKept heads bytes again → AreRead (heads ++ later) (again ++ more) all
    → Parted heads later more ps all
parted [] [] [] later more [] all was kept now = record { mine = []; others = all; are = refl; read = now; alike = tt }
parted [] [] [] later more (p ∷ ps) all was kept now = absurd was
parted [] [] (new ∷ again) later more ps all was kept now = absurd kept
parted [] (old ∷ bytes) again later more ps all was kept now = absurd kept
parted (h ∷ heads) [] again later more ps all was kept now = absurd kept
parted (h ∷ heads) (old ∷ bytes) [] later more ps all was kept now = absurd kept
parted (h ∷ heads) (old ∷ bytes) (new ∷ again) later more [] all was kept now = absurd was
parted (h ∷ heads) (old ∷ bytes) (new ∷ again) later more (p ∷ ps) [] was kept now = absurd now
parted (h ∷ heads) (old ∷ bytes) (new ∷ again) later more (p ∷ ps) (q ∷ all) was kept now =
    let rest = parted heads bytes again later more ps all was.1 kept.1 now.1 in
    let one = was.0 in
    let two = now.0 in
    record {
      mine = q ∷ rest.mine;
      others = rest.others;
      are = ap (λ xs. q ∷ xs) rest.are;
      read = rest.read;
      alike = (
        two.first ∙ sym one.first,
        sym (same_log h.segment h.first p.payloads q.payloads new (kept.0 p.payloads one.log) two.log),
        one.bound,
        two.bound,
        rest.alike,
      );
    }

-- ---- the same counts of them

module _ (last : ℕ) (later : List Head) (from : lower last (least later) ≡ last) where
  same_below : (heads : List Head) → lower last (least (heads ++ later)) ≡ lower last (least heads)
  same_below [] = from
  same_below (h ∷ heads) =
      let near = lower_less (min last h.first) last (least (heads ++ later)) (least heads) (omega arith) (same_below heads) in
      lower_twice last h.first (least (heads ++ later)) ∙ near ∙ sym (lower_twice last h.first (least heads))

  lower_more : (n : ℕ) (heads : List Head) → lower n (least (heads ++ later)) ≤ lower n (least heads)
  lower_more n [] = lower_least n (least later)
  lower_more n (h ∷ heads) =
      let rest = lower_more h.first heads in
      let one = lower_min n (lower h.first (least (heads ++ later))) in
      let two = lower_min n (lower h.first (least heads)) in omega (arith, rest, one, two)

  same_end : (f n : ℕ) (o p : Option ℕ) → lower last p ≡ lower last o → lower n p ≤ lower n o → f + (lower n o - f) ≤ last
      → lower n p - f ≡ lower n o - f
  same_end f n None None same less short = refl
  same_end f n None (Some b) same less short =
      let one = lower_min last b in
      let two = lower_min n b in omega (arith, one, two, same, less, short)
  same_end f n (Some b) None same less short =
      let one = lower_min last b in
      let two = lower_min n b in omega (arith, one, two, same, less, short)
  same_end f n (Some b) (Some c) same less short =
      let one = lower_min last b in
      let two = lower_min n b in
      let three = lower_min last c in
      let four = lower_min n c in omega (arith, one, two, three, four, same, less, short)

  -- a segment's own, up to the last
  own_same : (heads : List Head) (p : Part) (t : Bool) → p.bound ≡ least heads → p.first + length (counting t p) ≤ last
      → counting t (record p { bound = least (heads ++ later) }) ≡ counting t p
  own_same heads p false bound short = refl
  own_same heads p true bound short =
      let ps = p.payloads in
      let n = p.first + length ps in
      let as_was = below_as (least heads) p.first (length ps) ps (omega arith) in
      let as_now = below_as (least (heads ++ later)) p.first (length ps) ps (omega arith) in
      let own : below p.bound p.first ps ≡ below (least heads) p.first ps = ap (λ o. below o p.first ps) bound in
      let size = ap length (own ∙ as_was) in
      let took = length-take (lower n (least heads) - p.first) ps in
      let high = lower_least n (least heads) in
      let same = same_end p.first n (least heads) (least (heads ++ later)) (same_below heads) (lower_more n heads)
      (omega (arith, short, size, took, high)) in
      as_now ∙ ap (λ k. take k ps) same ∙ sym as_was ∙ sym own

  pub same_counted : (heads : List Head) (ps qs : List Part) (next : ℕ) → AreAlike heads later ps qs
      → next + length (counted next ps) ≤ last → counted next qs ≡ counted next ps
  same_counted heads [] [] next alike short = refl
  same_counted heads [] (q ∷ qs) next alike short = absurd alike
  same_counted heads (p ∷ ps) [] next alike short = absurd alike
  same_counted [] (p ∷ ps) (q ∷ qs) next alike short = absurd alike
  same_counted (h ∷ heads) (p ∷ ps) (q ∷ qs) next (first, payloads, bound, bounded, rest) short =
      let t = p.first == next in
      let own = counting t p in
      let size = length-append own (counted (next + length own) ps) in
      let turned : counting (q.first == next) q ≡ counting t (record p { bound = least (heads ++ later) }) =
      (λ i. counting (first i == next) (record { first = first i; bound = bounded i; payloads = payloads i })) in
      let mine : counting (q.first == next) q ≡ own = turned ∙ one_same heads p t bound next refl (omega (arith, short, size)) in
      ap (λ xs. xs ++ counted (next + length xs) qs) mine
      ∙ ap (λ xs. own ++ xs) (same_counted heads ps qs (next + length own) rest (omega (arith, short, size)))
    where
      one_same : (heads : List Head) (p : Part) (t : Bool) → p.bound ≡ least heads → (next : ℕ) → (p.first == next) ≡ t
          → next + length (counting t p) ≤ last → counting t (record p { bound = least (heads ++ later) }) ≡ counting t p
      one_same heads p false bound next is short = refl
      one_same heads p true bound next is short =
          let at = eqb-true p.first next is in own_same heads p true bound (omega (arith, at, short))

pub counted_both : (ps qs : List Part) (next : ℕ) → counted next (ps ++ qs) ≡ counted next ps ++ counted (next + length (counted next ps)) qs
counted_both [] qs next = let same : next ≡ next + 0 = omega arith in ap (λ n. counted n qs) same
counted_both (p ∷ ps) qs next =
    let own = counting (p.first == next) p in
    let rest = counted (next + length own) ps in
    let size = length-append own rest in
    let same : (next + length own) + length rest ≡ next + length (own ++ rest) = omega (arith, size) in
    ap (λ xs. own ++ xs) (counted_both ps qs (next + length own)) ∙ sym (append_assoc own rest _)
    ∙ ap (λ n. (own ++ rest) ++ counted n qs) same

-- ---- what they say is carried out as before

one_later : (first : ℕ) (base store : Entries) (p : List ℕ) (ps : List (List ℕ)) (damage : Option Damage) (works : List Work)
    → Says log_limits p works → IsMade first base (p ∷ ps) store damage → IsMade (first + 1) (after_works works base) ps store damage
one_later first base store p ps damage works says made = at made.taken made.left made.works made.all made.say made.store_is damage made.left_is
  where
    at : (taken left : List (List ℕ)) (all : List Work) → p ∷ ps ≡ taken ++ left → SayAll taken all → store ≡ after_works all base
        → (damage : Option Damage) → IsLeft (first + length taken) damage left
        → IsMade (first + 1) (after_works works base) ps store damage
    at [] left all are say is None none = absurd (omega (arith, ap length are, ap length none))
    at [] left all are say is (Some damage) (payload, more, first_left, refused, not_memory, number) =
        let same : payload ≡ p = cc in
        absurd (not_memory (not_refused log_limits p works damage.why says (subst (λ q. IsRefused log_limits q damage.why) same refused)))
    at (q ∷ taken) left all are (mine, others, say_first, say_rest, both) is damage left_is =
        let same : q ≡ p = cc in
        let as_was : mine ≡ works = says_once log_limits p mine works (subst (λ x. Says log_limits x mine) same say_first) says in
        let more : first + suc (length taken) ≡ (first + 1) + length taken = omega arith in
        record {
          taken = taken;
          left = left;
          all = cc;
          works = others;
          say = say_rest;
          store_is = is ∙ ap (λ ws. after_works ws base) both ∙ after_append mine others base
              ∙ ap (λ ws. after_works others (after_works ws base)) as_was;
          left_is = subst (λ n. IsLeft n damage left) more left_is;
        }

all_later : (ps qs : List (List ℕ)) (first : ℕ) (base store : Entries) (damage : Option Damage) (works : List Work) → SayAll ps works
    → IsMade first base (ps ++ qs) store damage → IsMade (first + length ps) (after_works works base) qs store damage
all_later [] qs first base store damage works say made =
    let same : first ≡ first + 0 = omega arith in
    subst (λ n. IsMade n (after_works works base) qs store damage) same
    (subst (λ ws. IsMade first (after_works ws base) qs store damage) (sym say) made)
all_later (p ∷ ps) qs first base store damage works (mine, others, says, rest, are) made =
    let later = all_later ps qs (first + 1) (after_works mine base) store damage others rest
    (one_later first base store p (ps ++ qs) damage mine says made) in
    let more : (first + 1) + length ps ≡ first + suc (length ps) = omega arith in
    subst (λ n. IsMade n (after_works works base) qs store damage) more
    (subst (λ es. IsMade ((first + 1) + length ps) es qs store damage)
    (sym (ap (λ ws. after_works ws base) are ∙ after_append mine others base)) later)

-- ---- a later life

-- what is found behind the earlier segments is what is made of the later ones
record IsLater (store : Entries) (number : ℕ) (later : List Head) (more : List (List ℕ)) (found : Found) : Type 0 where
  parts : List Part
  read : AreRead later more parts
  made : IsMade number store (counted number parts) found.store found.damage
  reach : found.damage ≡ None → found.number ≡ number + length (counted number parts)

found_later : (base : Entries) (first dropped left : ℕ) (heads : List Head) (bytes again : List (List ℕ)) (before : Found)
    → IsFound base first heads bytes dropped before → before.damage ≡ None → AreKept heads bytes again
    → (later : List Head) (more : List (List ℕ)) (found : Found) → lower before.number (least later) ≡ before.number
    → IsFound base first (heads ++ later) (again ++ more) left found → IsLater before.store before.number later more found
found_later base first dropped left heads bytes again before was none kept later more found from is =
    let parts = parted heads bytes again later more was.parts is.parts was.read kept is.read in
    let old = counted first was.parts in
    let new = counted before.number parts.others in
    let taken = all_taken first base before.store old before.damage was.made none in
    let number : first + length old ≡ before.number = ap (λ xs. first + length xs) (sym taken) ∙ sym was.number in
    let same = same_counted before.number later from heads was.parts parts.mine first parts.alike (omega (arith, number)) in
    let counts : counted first is.parts ≡ old ++ new =
    ap (counted first) parts.are ∙ counted_both parts.mine parts.others first
    ∙ (λ i. same i ++ counted (first + length (same i)) parts.others)
    ∙ ap (λ n. old ++ counted n parts.others) number in
    let made = all_later old new first base found.store found.damage was.made.works
    (subst (λ xs. SayAll xs was.made.works) taken was.made.say)
    (subst (λ xs. IsMade first base xs found.store found.damage) counts is.made) in
    record {
      parts = parts.others;
      read = parts.read;
      made = subst (λ n. IsMade n before.store new found.store found.damage) number
          (subst (λ es. IsMade (first + length old) es new found.store found.damage) (sym was.made.store_is) made);
      reach = λ undamaged.
          let all = all_taken first base found.store (counted first is.parts) found.damage is.made undamaged in
          omega (arith, is.number, ap length all, ap length counts, length-append old new, number);
    }

-- what a crash leaves is found, with all that was told as synced
pub record IsLived (start : Entries) (next : Next) (cs : List Call) (s : StoreView) (found : Found) : Type 0 where
  pub undamaged : found.damage ≡ None
  pub reach : (count : ℕ) → AreSynced next.frame count cs → next.frame + count ≤ found.number
  pub recovered : IsRecovered start cs s found.store

pub lived : (base : Entries) (first dropped : ℕ) (heads : List Head) (bytes again : List (List ℕ)) (before : Found)
    → IsFound base first heads bytes dropped before → before.damage ≡ None → AreKept heads bytes again
    → (limits : Limits) (next : Next) (cs : List Call) (s : StoreView) → HasDone limits next before.store cs s
    → IsFront next → (begun next).first ≡ before.number
    → (disk : List Stored) (all : List Head) (more : List (List ℕ)) (left : ℕ) (found : Found)
    → IsLeftDisk next cs s disk → AreAdded heads disk all more → IsFound base first all (again ++ more) left found
    → IsLived before.store next cs s found
lived base first dropped heads bytes again before was none kept limits next cs s done front begins disk all more left found is_left added is_found =
    let synced = are_synced limits next before.store cs s done in
    let scan = scanned heads disk all more added in
    let left_of = subst (AreLeft (synced_of cs) (cut_due s.batched.queue) (written next cs)) (sym scan.disk) is_left in
    let at = (begun next).first in
    let from = heads_from limits next before.store cs s done front synced.0 synced.1 scan.scans scan.told left_of in
    let later = found_later base first dropped left heads bytes again before was none kept (heads_of scan.scans) (bytes_of scan.scans) found
    (subst (λ n. lower n (least (heads_of scan.scans)) ≡ n) begins from)
    (subst (λ hs. IsFound base first hs (again ++ bytes_of scan.scans) left found) scan.heads_are
    (subst (λ bs. IsFound base first all (again ++ bs) left found) scan.bytes_are is_found)) in
    let made = subst (λ n. IsMade n before.store (counted n later.parts) found.store found.damage) (sym begins) later.made in
    let result = recovered limits next before.store cs s done front synced.0 synced.1 scan.scans scan.told left_of
    later.parts found.store found.damage later.read made in
    record {
      undamaged = result.0;
      reach = λ count those.
          let reaches = far limits next before.store cs s done front count those scan.scans scan.told left_of
          later.parts found.store found.damage later.read made in
          let same = ap (λ n. n + length (counted n later.parts)) begins in omega (arith, reaches, same, later.reach result.0);
      recovered = result.1;
    }

pub as_left : (start : Entries) (next : Next) (cs : List Call) (s : StoreView) (found : Found) → IsLived start next cs s found
    → IsLeftOf start next cs s found
as_left start next cs s found lives = record {
  undamaged = lives.undamaged;
  untold = λ count those in_flight known. told_none (next.frame + count) in_flight known found lives.undamaged (lives.reach count those);
  recovered = lives.recovered;
}

pub lives_are_recovered : LivesAreRecovered
lives_are_recovered base first dropped heads bytes again before was none kept limits next cs s done front begins disk all more left found is_left added is_found =
    as_left before.store next cs s found
    (lived base first dropped heads bytes again before was none kept limits next cs s done front begins disk all more left found is_left added is_found)
