-- What counts of segments is what is joined of them, and is restored.
use Rattle.sk_recovered.proofs.Names.{◌≡◌, ◌==◌, ℕ, zero, suc, ◌+◌, ◌-◌, ◌<◌, ◌≤◌, Bool, true, false, nat_lt, List, []}
use Rattle.sk_recovered.proofs.Names.{◌∷◌, ◌++◌, flat_map, length, map, take, Option, Some, None, if◌then◌else◌, refl}
use Rattle.sk_recovered.proofs.Names.{sym, ap, subst, ◌∙◌, arith, eq-eqb, eqb-true, ltb-false, ltb-true, append-nil}
use Rattle.sk_recovered.proofs.Names.{length-map, length-take-le, take_all, joined, log_text, SayAll, restore}
use Rattle.sk_recovered.proofs.Names.{joined_all, joined_at, least_first, CountedIsJoined, CountedIsRestored, counted}
use Rattle.sk_recovered.proofs.Names.{counting, lower, Part, same_Some}

other_number : (a b : ℕ) (t : Bool) → (a == b) ≡ t → (a ≡ b → ⊥) → (a == b) ≡ false
other_number a b true e differ = absurd (differ (eqb-true a b e))
other_number a b false e differ = e

lower_low : (first bound : ℕ) → (lower first (Some bound) ≤ first) × (lower first (Some bound) ≤ bound)
lower_low first bound =
    elim (nat_lt bound first) as (λ t. nat_lt bound first ≡ t → ((if t then bound else first) ≤ first) × ((if t then bound else first) ≤ bound)) [
      | true ↦ λ e. let small : bound < first = ltb-true bound first e in (omega (arith, small), omega arith)
      | false ↦ λ e. let small : first ≤ bound = ltb-false bound first e in (omega arith, small)
    ] refl

none_first : (p : Part) (parts : List Part) (next : ℕ) → (p.first ≡ next → ⊥)
    → counted next (p ∷ parts) ≡ counted next parts
none_first p parts next differ =
    let test : (p.first == next) ≡ false = other_number p.first next (p.first == next) refl differ in
    let same : next + 0 ≡ next = omega arith in
    ap (λ t. counting t p ++ counted (next + length (counting t p)) parts) test ∙ ap (λ n. counted n parts) same

-- Of segments that all go on from higher numbers nothing counts.
above : (parts : List Part) (next : ℕ) (least : Option ℕ) → least_first parts ≡ least
    → ((bound : ℕ) → least ≡ Some bound → next < bound) → counted next parts ≡ []
above [] next least is high = refl
above (p ∷ parts) next least is high =
    elim (least_first parts) as (λ o. least_first parts ≡ o → Some (lower p.first o) ≡ least → counted next (p ∷ parts) ≡ []) [
      | None ↦ λ e here.
          let low : next < p.first = high p.first (sym here) in
          none_first p parts next (λ same. omega (arith, low, same))
          ∙ above parts next None e (λ bound none. cc)
      | Some b ↦ λ e here.
          let lows = lower_low p.first b in
          let low : next < lower p.first (Some b) = high (lower p.first (Some b)) (sym here) in
          none_first p parts next (λ same. omega (arith, low, lows.0, same))
          ∙ above parts next (Some b) e (λ bound is. omega (arith, low, lows.1, same_Some b bound is))
    ] refl is

joined_enough : (c : ℕ) (ps later : List (List ℕ)) → c ≤ length ps → joined c ps later ≡ take c ps ++ later
joined_enough zero ps later enough = refl
joined_enough (suc c) [] later enough = absurd (omega (arith, enough))
joined_enough (suc c) (p ∷ ps) later enough = ap (λ x. p ∷ x) (joined_enough c ps later (omega (arith, enough)))

joined_few : (c : ℕ) (ps later : List (List ℕ)) → length ps < c → joined c ps later ≡ ps
joined_few zero ps later few = absurd (omega (arith, few))
joined_few (suc c) [] later few = refl
joined_few (suc c) (p ∷ ps) later few = ap (λ x. p ∷ x) (joined_few c ps later (omega (arith, few)))

no_parts : (parts : List Part) → least_first parts ≡ None → parts ≡ []
no_parts [] e = refl
no_parts (p ∷ parts) e = cc

-- the first segment begins with the next number, and later ones go on from this one
first_joined : (p : Part) (parts : List Part) (b : ℕ) → p.first ≤ b → least_first parts ≡ Some b
    → counted b parts ≡ joined_all parts
    → take (b - p.first) p.payloads ++ counted (p.first + length (take (b - p.first) p.payloads)) parts ≡ joined (b - p.first) p.payloads (joined_all parts)
first_joined p parts b low is later =
    let c = b - p.first in
    elim (nat_lt (length p.payloads) c) as (λ t. nat_lt (length p.payloads) c ≡ t → take c p.payloads ++ counted (p.first + length (take c p.payloads)) parts ≡ joined c p.payloads (joined_all parts)) [
      | true ↦ λ e.
          let few : length p.payloads < c = ltb-true (length p.payloads) c e in
          let all : take c p.payloads ≡ p.payloads = take_all c p.payloads (omega (arith, few)) in
          let none = above parts (p.first + length p.payloads) (Some b) is (λ bound same. omega (arith, few, low, same_Some b bound same)) in
          ap (λ own. own ++ counted (p.first + length own) parts) all ∙ ap (λ x. p.payloads ++ x) none
          ∙ append-nil p.payloads
          ∙ sym (joined_few c p.payloads (joined_all parts) few)
      | false ↦ λ e.
          let enough : c ≤ length p.payloads = ltb-false (length p.payloads) c e in
          let next : p.first + length (take c p.payloads) ≡ b = omega (arith, low, length-take-le c p.payloads enough) in
          ap (λ n. take c p.payloads ++ counted n parts) next ∙ ap (λ x. take c p.payloads ++ x) later
          ∙ sym (joined_enough c p.payloads (joined_all parts) enough)
    ] refl

true_first : (p : Part) (parts : List Part) (next : ℕ) → p.first ≡ next
    → counted next (p ∷ parts) ≡ counting true p ++ counted (p.first + length (counting true p)) parts
true_first p parts next is =
    let test : (p.first == next) ≡ true = eq-eqb p.first next is in
    ap (λ t. counting t p ++ counted (next + length (counting t p)) parts) test
    ∙ ap (λ n. counting true p ++ counted (n + length (counting true p)) parts) (sym is)

pub counted_joined : CountedIsJoined
counted_joined [] first bounded least = cc
counted_joined (p ∷ parts) first bounded least =
    elim (least_first parts) as (λ o. least_first parts ≡ o → p.bound ≡ o → Some (lower p.first o) ≡ Some first → counted first (p ∷ parts) ≡ joined_all (p ∷ parts)) [
      | None ↦ λ e bound here.
          let none = no_parts parts e in
          let own : counting true p ≡ p.payloads = ap (λ o. counting true (record p { bound = o })) bound in
          true_first p parts first (same_Some p.first first here)
          ∙ ap (λ x. x ++ counted (p.first + length x) parts) own
          ∙ ap (λ ps. p.payloads ++ counted (p.first + length p.payloads) ps) none ∙ append-nil p.payloads
          ∙ ap (λ o. joined_at o p (joined_all parts)) (sym bound)
      | Some b ↦ λ e bound here.
          let own : counting true p ≡ take (b - p.first) p.payloads = ap (λ o. counting true (record p { bound = o })) bound in
          let later = counted_joined parts b bounded.1 e in
          elim (nat_lt b p.first) as (λ t. nat_lt b p.first ≡ t → Some (if t then b else p.first) ≡ Some first → counted first (p ∷ parts) ≡ joined_all (p ∷ parts)) [
            | true ↦ λ t here.
                let small : b < p.first = ltb-true b p.first t in
                let is : b ≡ first = same_Some b first here in
                let cut : b - p.first ≡ 0 = omega (arith, small) in
                none_first p parts first (λ same. omega (arith, small, is, same))
                ∙ ap (λ n. counted n parts) (sym is) ∙ later
                ∙ ap (λ c. joined c p.payloads (joined_all parts)) (sym cut)
                ∙ ap (λ o. joined_at o p (joined_all parts)) (sym bound)
            | false ↦ λ t here.
                let small : p.first ≤ b = ltb-false b p.first t in
                true_first p parts first (same_Some p.first first here)
                ∙ ap (λ x. x ++ counted (p.first + length x) parts) own
                ∙ first_joined p parts b small e later
                ∙ ap (λ o. joined_at o p (joined_all parts)) (sym bound)
          ] refl here
    ] refl bounded.0 least

pub counted_restored : CountedIsRestored
counted_restored first synced start store frames payloads logged reads made =
    let all : payloads ≡ made.taken = made.all ∙ ap (λ ps. made.taken ++ ps) made.left_is ∙ append-nil made.taken in
    let say = subst (λ ps. SayAll ps made.works) (sym all ∙ reads.3) made.say in
    let many = length-map frames (flat_map log_text) in (
      reads.0,
      reads.1,
      omega (arith, reads.2, many),
      ap length reads.3 ∙ length-take-le reads.0 (map (flat_map log_text) frames) reads.2,
      made.store_is ∙ restore reads.0 frames made.works start logged say,
    )
