-- What is told of whole requests.
use Rattle.sk_replay.proofs.Names.{◌≡◌, ℕ, ◌<◌, List, [], ◌∷◌, ◌++◌, length, map, unwrap_or, Option, Some, None, true}
use Rattle.sk_replay.proofs.Names.{refl, sym, ap, subst, ◌∙◌, inl, arith, append-nil, array, HasFault, EndsWithin}
use Rattle.sk_replay.proofs.Names.{IsPart, IsTold, Splits, Limits, fault_is_final, told_once, request_within}
use Rattle.sk_replay.proofs.Names.{line_is_part}
use Rattle.sk_requests.specs.declared.fault.Fault.{Fault}

-- Nothing begins with a request.
none_is_part : (limits : Limits) → IsPart limits []
none_is_part limits = line_is_part limits [] (λ i lt same. omega (arith, lt))

none_told : (limits : Limits) (t : Option (List (List ℕ))) (text more : List ℕ) → IsTold limits t text → [] ≡ text ++ more → ⊥
none_told limits (Some words) text more told is = none_is_part limits words text more (request_within limits words text told) is
none_told limits None text more told is = none_is_part limits told.0 text more (inl told.1) is

-- What is told of bytes that are whole requests are the first of these, and the rest are the others.
pub aligned : (limits : Limits) (qs rs : List (List (List ℕ))) (rest stream : List ℕ) → Splits limits (map Some qs) rest stream → Splits limits (map Some rs) [] stream
    → (left : List (List (List ℕ))) × (rs ≡ qs ++ left) × Splits limits (map Some left) [] rest
aligned limits [] rs rest stream one two = (rs, refl, subst (Splits limits (map Some rs) []) one two)
aligned limits (q ∷ qs) [] rest stream one two = absurd (none_told limits (Some q) one.0 one.1 one.2 (sym two ∙ one.3))
aligned limits (q ∷ qs) (r ∷ rs) rest stream one two =
    let same = told_once limits (Some q) (Some r) one.0 two.0 one.1 two.1 one.2 two.2 (sym one.3 ∙ two.3) in
    let behind = aligned limits qs rs rest two.1 (subst (Splits limits (map Some qs) rest) same.1 one.4) two.4 in
    let here : r ≡ q = sym (ap (λ o. unwrap_or o []) same.0) in
    (behind.0, λ i. here i ∷ behind.1 i, behind.2)

no_large : (r : List (List ℕ)) → ◌≡◌ {A = Option (List (List ℕ))} None (Some r) → ⊥
no_large r e = cc

-- None of them is beyond the limits.
pub none_large : (limits : Limits) (qs rs : List (List (List ℕ))) (rest stream : List ℕ) → Splits limits (map Some qs ++ None ∷ []) rest stream → Splits limits (map Some rs) [] stream → ⊥
none_large limits [] [] rest stream one two = none_told limits None one.0 one.1 one.2 (sym two ∙ one.3)
none_large limits [] (r ∷ rs) rest stream one two =
    let same = told_once limits None (Some r) one.0 two.0 one.1 two.1 one.2 two.2 (sym one.3 ∙ two.3) in no_large r same.0
none_large limits (q ∷ qs) [] rest stream one two = none_told limits (Some q) one.0 one.1 one.2 (sym two ∙ one.3)
none_large limits (q ∷ qs) (r ∷ rs) rest stream one two =
    let same = told_once limits (Some q) (Some r) one.0 two.0 one.1 two.1 one.2 two.2 (sym one.3 ∙ two.3) in
    none_large limits qs rs rest two.1 (subst (Splits limits (map Some qs ++ None ∷ []) rest) same.1 one.4) two.4

-- A fault stands in none of them.
no_fault_in : (limits : Limits) (fault : Fault) (left : List (List (List ℕ))) (rest : List ℕ) → HasFault limits fault rest → Splits limits (map Some left) [] rest → ⊥
no_fault_in limits fault [] rest has is =
    fault_is_final limits fault rest has [] (array []) (array []) [] (inl (record { few = omega arith; each = tt; is = refl }))
    (ap (λ r. r ++ array []) is ∙ sym (append-nil (array [])))
no_fault_in limits fault (l ∷ left) rest has is =
    fault_is_final limits fault rest has l is.0 [] is.1 (request_within limits l is.0 is.2) (append-nil rest ∙ is.3)

pub no_fault : (limits : Limits) (fault : Fault) (qs rs : List (List (List ℕ))) (rest stream : List ℕ) → Splits limits (map Some qs) rest stream → HasFault limits fault rest → Splits limits (map Some rs) [] stream → ⊥
no_fault limits fault qs rs rest stream one has two =
    let on = aligned limits qs rs rest stream one two in no_fault_in limits fault on.0 rest has on.2

-- They end within none.
no_part_in : (limits : Limits) (left : List (List (List ℕ))) (rest : List ℕ) → 0 < length rest → IsPart limits rest → Splits limits (map Some left) [] rest → ⊥
no_part_in limits [] rest some part is = omega (arith, some, ap length is)
no_part_in limits (l ∷ left) rest some part is = part l is.0 is.1 (request_within limits l is.0 is.2) is.3

pub no_part : (limits : Limits) (qs rs : List (List (List ℕ))) (stream : List ℕ) → EndsWithin limits (map Some qs) stream true → Splits limits (map Some rs) [] stream → ⊥
no_part limits qs rs stream one two =
    let on = aligned limits qs rs one.0 stream one.1 two in no_part_in limits on.0 one.0 one.2 one.3 on.2

none_left : (limits : Limits) (left : List (List (List ℕ))) → Splits limits (map Some left) [] [] → left ≡ []
none_left limits [] is = refl
none_left limits (l ∷ left) is = absurd (none_told limits (Some l) is.0 is.1 is.2 is.3)

-- Bytes are whole requests in one way.
pub same_requests : (limits : Limits) (qs rs : List (List (List ℕ))) (stream : List ℕ) → Splits limits (map Some qs) [] stream → Splits limits (map Some rs) [] stream → rs ≡ qs
same_requests limits qs rs stream one two =
    let on = aligned limits qs rs [] stream one two in on.1 ∙ ap (λ l. qs ++ l) (none_left limits on.0 on.2) ∙ append-nil qs
