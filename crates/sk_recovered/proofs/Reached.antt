-- Where the frames of segments end, where a frame stands, and how many bytes count for nothing.
use Rattle.sk_recovered.proofs.Names.{◌≡◌, ◌==◌, ◌&&◌, ◌⊎◌, inl, inr, ℕ, zero, suc, ◌+◌, ◌<◌, ◌≤◌, Bool, true, false}
use Rattle.sk_recovered.proofs.Names.{List, [], ◌∷◌, ◌++◌, length, take, drop, Option, Some, None, IfSome, refl, sym, ap}
use Rattle.sk_recovered.proofs.Names.{subst, ◌∙◌, arith, length-append, if◌then◌else◌, eqb-true, take_all, and_parts}
use Rattle.sk_recovered.proofs.Names.{take-append-le, log, UsesFront, HasRead, RestIs, EndsAt, End, Rest, Head, Segment}
use Rattle.sk_recovered.proofs.Names.{Part, Place, Reached, AreRead, IsAt, Stands, counted, counting, dropped_of, drops}
use Rattle.sk_recovered.proofs.Names.{is_below, length_of, part_of, reached_by, reached_from, used, used_behind, capped}
use Rattle.sk_recovered.proofs.Names.{Damage, DamagedAt}
use Rattle.sk_log.specs.declared.recovery.Rest.TheVariants as rests

-- ---- bytes up to the last that is not 0

not_equal : (a b : ℕ) (t : Bool) → (a == b) ≡ t → (a ≡ b → ⊥) → (a == b) ≡ false
not_equal a b true e differ = absurd (differ (eqb-true a b e))
not_equal a b false e differ = e

chosen : (u b : ℕ) (t s : Bool) → (u == 0) ≡ t → (b == 0) ≡ s → (if u == 0 && b == 0 then 0 else u + 1) ≡ (if t && s then 0 else u + 1)
chosen u b t s here there = λ i. if here i && there i then 0 else u + 1

behind_first : (n b : ℕ) (bytes : List ℕ) → UsesFront n (b ∷ bytes) → (m : ℕ) → n ≤ suc m → m ≤ length bytes → ((i : ℕ) → m ≡ suc i → n ≡ suc m)
    → UsesFront m bytes
behind_first n b bytes front m low within last = record {
  within = within;
  last = λ i is. front.last (suc i) (last i is ∙ ap suc is);
  zeros = λ i from. front.zeros (suc i) (omega (arith, from, low));
}

pub used_is : (n : ℕ) (bytes : List ℕ) → UsesFront n bytes → used bytes ≡ n
used_is zero [] front = refl
used_is (suc n) [] front = absurd (omega (arith, front.within))
used_is zero (b ∷ bytes) front =
    let rest = behind_first zero b bytes front zero (omega arith) (omega arith) (λ i wrong. absurd (omega (arith, wrong))) in
    let none = used_is zero bytes rest in
    let first : b ≡ 0 = front.zeros 0 (omega arith) in
    ap (λ u. if u == 0 && b == 0 then 0 else u + 1) none ∙ ap (λ c. if 0 == 0 && c == 0 then 0 else 0 + 1) first
used_is (suc zero) (b ∷ bytes) front =
    let rest = behind_first (suc zero) b bytes front zero (omega arith) (omega arith) (λ i wrong. absurd (omega (arith, wrong))) in
    let none = used_is zero bytes rest in
    let first = not_equal b 0 (b == 0) refl (front.last 0 refl) in
    ap (λ u. if u == 0 && b == 0 then 0 else u + 1) none ∙ chosen 0 b true false refl first
used_is (suc (suc n)) (b ∷ bytes) front =
    let rest = behind_first (suc (suc n)) b bytes front (suc n) (omega arith) (omega (arith, front.within)) (λ i is. refl) in
    let some = used_is (suc n) bytes rest in
    let first = not_equal (suc n) 0 (suc n == 0) refl (λ wrong. absurd (omega (arith, wrong))) in
    let more : suc n + 1 ≡ suc (suc n) = omega arith in
    ap (λ u. if u == 0 && b == 0 then 0 else u + 1) some ∙ chosen (suc n) b false (b == 0) first refl ∙ more

length_is : (n : ℕ) (bytes : List ℕ) (rest : Rest) → RestIs n bytes rest → length_of rest ≡ used bytes
length_is n bytes rests.Zeros is = sym (used_is 0 bytes is)
length_is n bytes (rests.Torn m) is = sym (used_is m bytes is.0)
length_is n bytes (rests.Damaged m) is = sym (used_is m bytes is.0)

-- ---- a segment more

pub number_is : (r : Reached) (heads : List Head) (bytes : List (List ℕ)) (parts : List Part) → AreRead heads bytes parts
    → (reached_from r heads bytes parts).number ≡ r.number + length (counted r.number parts)
number_is r heads [] [] read = omega arith
number_is r heads [] (q ∷ parts) read = absurd read
number_is r heads (b ∷ bytes) [] read = absurd read
number_is r [] (b ∷ bytes) (q ∷ parts) read = absurd read
number_is r (h ∷ heads) (b ∷ bytes) (q ∷ parts) read =
    let own = counting (q.first == r.number) q in
    let rest = number_is (reached_by h q b r) heads bytes parts read.1 in
    omega (arith, rest, length-append own (counted (r.number + length own) parts))

pub reached_more : (r : Reached) (heads : List Head) (bytes : List (List ℕ)) (parts : List Part) (h : Head) (later : List Head) (came : List ℕ) (p : Part)
    → AreRead heads bytes parts → drop (length bytes) heads ≡ h ∷ later
    → reached_from r heads (bytes ++ came ∷ []) (parts ++ p ∷ []) ≡ reached_by h p came (reached_from r heads bytes parts)
reached_more r heads [] [] h later came p read is = ap (λ hs. reached_from r hs (came ∷ []) (p ∷ [])) is
reached_more r heads [] (q ∷ parts) h later came p read is = absurd read
reached_more r heads (b ∷ bytes) [] h later came p read is = absurd read
reached_more r [] (b ∷ bytes) (q ∷ parts) h later came p read is = absurd read
reached_more r (k ∷ heads) (b ∷ bytes) (q ∷ parts) h later came p read is =
    reached_more (reached_by k q b r) heads bytes parts h later came p read.1 is

-- what is dropped of a segment that ends so
pub drops_are : (s : Segment) (payloads : List (List ℕ)) (came : List ℕ) (n : ℕ) (end : End) (t : Bool)
    → EndsAt s.head.segment s.head.first payloads came n end → s.counts ≡ t → drops s end ≡ dropped_of t s.head (part_of s payloads) came
drops_are s payloads came n end t ends counts =
    let size = length_is n (drop end.place came) end.rest ends.rest ∙ ap (λ k. used (drop k came)) ends.place in
    (λ i. if counts i then (if is_below s.bound (ends.number i) then size i else 0)
    else (if is_below s.bound s.head.first then ends.place i + size i else 0)) ∙ same t
  where
    same : (t : Bool) → (if t then (if is_below s.bound (s.head.first + length payloads) then used_behind s.head (part_of s payloads) came else 0)
        else (if is_below s.bound s.head.first then length (log s.head.segment s.head.first payloads) + used_behind s.head (part_of s payloads) came else 0))
        ≡ dropped_of t s.head (part_of s payloads) came
    same true = refl
    same false = refl

-- ---- where a frame stands

pub some_more : {T : Type 0} (o : Option T) (P Q : T → Type 0) → ((x : T) → P x → Q x) → IfSome o P → IfSome o Q
some_more None P Q goes has = tt
some_more (Some x) P Q goes has = goes x has

pub stands_more : (heads : List Head) (bytes : List (List ℕ)) (parts : List Part) (h : Head) (later : List Head) (p : Part) (place : Place)
    → AreRead heads bytes parts → drop (length bytes) heads ≡ h ∷ later → Stands heads parts place ⊎ IsAt h p place
    → Stands heads (parts ++ p ∷ []) place
stands_more heads [] [] h later p place read is (inl none) = absurd none
stands_more heads [] [] h later p place read is (inr at) = subst (λ hs. Stands hs (p ∷ []) place) (sym is) (inl at)
stands_more heads [] (q ∷ parts) h later p place read is has = absurd read
stands_more heads (b ∷ bytes) [] h later p place read is has = absurd read
stands_more [] (b ∷ bytes) (q ∷ parts) h later p place read is has = absurd read
stands_more (k ∷ heads) (b ∷ bytes) (q ∷ parts) h later p place read is (inl (inl at)) = inl at
stands_more (k ∷ heads) (b ∷ bytes) (q ∷ parts) h later p place read is (inl (inr has)) =
    inr (stands_more heads bytes parts h later p place read.1 is (inl has))
stands_more (k ∷ heads) (b ∷ bytes) (q ∷ parts) h later p place read is (inr at) =
    inr (stands_more heads bytes parts h later p place read.1 is (inr at))

at_more : (s : Segment) (payloads : List (List ℕ)) (payload : List ℕ) (place : Place) → IsAt s.head (part_of s payloads) place
    → IsAt s.head (part_of s (payloads ++ payload ∷ [])) place
at_more s payloads payload place at = record {
  segment = at.segment;
  before = at.before;
  number = at.number;
  there = omega (arith, at.there, length-append payloads (payload ∷ []));
  counts = at.counts;
  offset = at.offset
      ∙ ap (λ ps. length (log s.head.segment s.head.first ps)) (sym (take-append-le at.before payloads (payload ∷ []) (omega (arith, at.there))));
}

at_last : (s : Segment) (payloads : List (List ℕ)) (payload came : List ℕ) (place : Place) → HasRead s.head.segment s.head.first payloads came s.log
    → (s.counts && is_below s.bound s.log.number) ≡ true → place ≡ record { segment = s.head.segment; offset = s.log.place; number = s.log.number }
    → IsAt s.head (part_of s (payloads ++ payload ∷ [])) place
at_last s payloads payload came place read takes is =
    let n = length payloads in
    let all : take n (payloads ++ payload ∷ []) ≡ payloads =
    take-append-le n payloads (payload ∷ []) (omega arith) ∙ take_all n payloads (omega arith) in
    subst (IsAt s.head (part_of s (payloads ++ payload ∷ []))) (sym is) (record {
      segment = refl;
      before = n;
      number = read.number;
      there = omega (arith, length-append payloads (payload ∷ []));
      counts = (and_parts s.counts (is_below s.bound s.log.number) takes).1;
      offset = read.place ∙ ap (λ ps. length (log s.head.segment s.head.first ps)) (sym all);
    })

-- a frame more was read, and is damaged or not
pub damaged_more : (s : Segment) (heads : List Head) (parts : List Part) (payloads : List (List ℕ)) (payload came : List ℕ) (place : Place) (old new : Option Damage)
    → HasRead s.head.segment s.head.first payloads came s.log → place ≡ record { segment = s.head.segment; offset = s.log.place; number = s.log.number }
    → DamagedAt (s.counts && is_below s.bound s.log.number) place old new
    → IfSome old (λ d. Stands heads parts d.place ⊎ IsAt s.head (part_of s payloads) d.place)
    → IfSome new (λ d. Stands heads parts d.place ⊎ IsAt s.head (part_of s (payloads ++ payload ∷ [])) d.place)
damaged_more s heads parts payloads payload came place old new read is (inl same) has =
    some_more new (λ d. Stands heads parts d.place ⊎ IsAt s.head (part_of s payloads) d.place) _
    (λ d one. on d.place one) (subst (λ o. IfSome o (λ d. Stands heads parts d.place ⊎ IsAt s.head (part_of s payloads) d.place)) (sym same) has)
  where
    on : (place : Place) → Stands heads parts place ⊎ IsAt s.head (part_of s payloads) place
        → Stands heads parts place ⊎ IsAt s.head (part_of s (payloads ++ payload ∷ [])) place
    on place (inl stands) = inl stands
    on place (inr at) = inr (at_more s payloads payload place at)
damaged_more s heads parts payloads payload came place old new read is (inr (takes, here)) has =
    some_more new (λ d. d.place ≡ place) _ (λ d at. inr (at_last s payloads payload came d.place read takes (at ∙ is))) here
