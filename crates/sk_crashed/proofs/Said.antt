-- What is carried out of frames that were logged.
use Rattle.sk_crashed.proofs.Names.{◌≡◌, ℕ, Err, zero, suc, ◌+◌, ◌-◌, ◌≤◌, List, [], ◌∷◌, ◌++◌, flat_map, length, take}
use Rattle.sk_crashed.proofs.Names.{Option, Some, None, inl, inr, refl, sym, ap, subst, ◌∙◌, arith, length-append, ◌⊎◌}
use Rattle.sk_crashed.proofs.Names.{AllByRecursion, length-take-le, take-append-le, take_all, take-take, log_text}
use Rattle.sk_crashed.proofs.Names.{requests_of, AreAsked, AreWithin, Work, Entries, payloads_of, AreLogged, SayAll}
use Rattle.sk_crashed.proofs.Names.{log_limits, Says, read_as, says_again, IsMade, Damage}
use Rattle.sk_crashed.proofs.Writing.{order}

-- ---- payloads that were logged

abbrev pub IsLogged : List ℕ → Type 0
IsLogged payload = (ws : List Work) × AreAsked ws × AreWithin log_limits (flat_map requests_of ws) × (payload ≡ flat_map log_text ws)

abbrev pub AllLogged : List (List ℕ) → Type 0
AllLogged ps = AllByRecursion IsLogged ps

pub none_logged : IsLogged []
none_logged = ([], tt, tt, refl)

pub of_works : (frames : List (List Work)) → AreLogged frames → AllLogged (payloads_of frames)
of_works [] all = tt
of_works (ws ∷ frames) all = ((ws, all.0, all.1, refl), of_works frames all.2)

pub both_logged : (ps qs : List (List ℕ)) → AllLogged ps → AllLogged qs → AllLogged (ps ++ qs)
both_logged [] qs one two = two
both_logged (p ∷ ps) qs one two = (one.0, both_logged ps qs one.1 two)

pub front_logged : (n : ℕ) (ps : List (List ℕ)) → AllLogged ps → AllLogged (take n ps)
front_logged zero ps all = tt
front_logged (suc n) [] all = tt
front_logged (suc n) (p ∷ ps) all = (all.0, front_logged n ps all.1)

later_logged : (ps : List (List ℕ)) (q : List ℕ) (qs : List (List ℕ)) → AllLogged (ps ++ q ∷ qs) → IsLogged q
later_logged [] q qs all = all.0
later_logged (p ∷ ps) q qs all = later_logged ps q qs all.1

-- none of them is damaged
pub undamaged : (first : ℕ) (start store : Entries) (payloads : List (List ℕ)) (damage : Option Damage) → AllLogged payloads
    → IsMade first start payloads store damage → damage ≡ None
undamaged first start store payloads None logged made = refl
undamaged first start store payloads (Some damage) logged made =
    let left = made.left_is in
    let at = later_logged made.taken left.0 left.1
    (subst AllLogged (made.all ∙ ap (λ ps. made.taken ++ ps) left.2) logged) in
    absurd (left.4 (read_as log_limits left.0 (Err damage.why) left.3 at.0 at.1 at.2 at.3))

-- ---- what they say

-- an empty frame says nothing
says_none : (works : List Work) → Says log_limits [] works → works ≡ []
says_none works says = says_again log_limits [] works [] tt tt refl says

pub without_first : (ps : List (List ℕ)) (works : List Work) → SayAll ([] ∷ ps) works → SayAll ps works
without_first ps works (first, others, says, rest, is) =
    subst (SayAll ps) (sym (is ∙ ap (λ ws. ws ++ others) (says_none first says))) rest

pub without_last : (ps : List (List ℕ)) (works : List Work) → SayAll (ps ++ [] ∷ []) works → SayAll ps works
without_last [] works (first, others, says, rest, is) =
    is ∙ ap (λ ws. ws ++ others) (says_none first says) ∙ rest
without_last (p ∷ ps) works (first, others, says, rest, is) = (first, others, says, without_last ps others rest, is)

-- ---- how many of them

abbrev pub Reaches : ℕ → ℕ → List (List ℕ) → Type 0
Reaches count n ps = (count ≤ n) ⊎ (length ps ≤ n)

-- the first of these, at least so many, say the works
pub record AreSaid (count : ℕ) (ps : List (List ℕ)) (works : List Work) : Type 0 where
  pub n : ℕ
  pub enough : count ≤ n
  pub say : SayAll (take n ps) works

-- all of them are more than enough
pub all_said : (count n : ℕ) (ps : List (List ℕ)) (works : List Work) → Reaches count n ps → SayAll (take n ps) works
    → AreSaid count ps works
all_said count n ps works (inl enough) say = record { n = n; enough = enough; say = say }
all_said count n ps works (inr all) say = record {
  n = n + count;
  enough = omega arith;
  say = subst (λ qs. SayAll qs works) (take_all n ps all ∙ sym (take_all (n + count) ps (omega (arith, all)))) say;
}

-- as `all_said`, where just a front part of the frames stands before an empty frame that cut the others off
pub cut_said : (count n d : ℕ) (ps : List (List ℕ)) (works : List Work) → d ≤ length ps → count ≤ d
    → Reaches count n (take d ps ++ [] ∷ []) → SayAll (take n (take d ps ++ [] ∷ [])) works → AreSaid count ps works
cut_said count n d ps works within enough reach say =
    let size = length-append (take d ps) ([] ∷ []) in
    let front = length-take-le d ps within in
    elim (order d n) [
      | inl few ↦ record {
        n = n;
        enough = elim reach [
          | inl far ↦ far
          | inr all ↦ absurd (omega (arith, all, size, front, few))
        ];
        say = subst (λ qs. SayAll qs works) (take-append-le n (take d ps) ([] ∷ []) (omega (arith, few, front)) ∙ take-take n d ps few) say;
      }
      | inr many ↦ record {
        n = d;
        enough = enough;
        say = without_last (take d ps) works
            (subst (λ qs. SayAll qs works) (take_all n (take d ps ++ [] ∷ []) (omega (arith, size, front, many))) say);
      }
    ]

-- what a start left at the front of its segment says nothing
pub record IsBehind (count : ℕ) (ps : List (List ℕ)) (works : List Work) : Type 0 where
  pub n : ℕ
  pub reach : Reaches count n ps
  pub say : SayAll (take n ps) works

pub behind_front : (op : List (List ℕ)) → (op ≡ []) ⊎ (op ≡ [] ∷ []) → (count n synced : ℕ) (ps : List (List ℕ)) (works : List Work)
    → synced ≤ n → (length op + count ≤ synced) ⊎ (length (op ++ ps) ≤ synced) → SayAll (take n (op ++ ps)) works → IsBehind count ps works
behind_front op (inl none) count n synced ps works few reach say =
    let size = ap length none in
    let all = length-append op ps in
    record {
      n = n;
      reach = elim reach [
        | inl far ↦ inl (omega (arith, size, far, few))
        | inr most ↦ inr (omega (arith, size, all, most, few))
      ];
      say = subst (λ qs. SayAll (take n (qs ++ ps)) works) none say;
    }
behind_front op (inr one) count zero synced ps works few reach say =
    let size = ap length one in
    let all = length-append op ps in
    absurd (elim reach [
      | inl far ↦ omega (arith, size, far, few)
      | inr most ↦ omega (arith, size, all, most, few)
    ])
behind_front op (inr one) count (suc n) synced ps works few reach say =
    let size = ap length one in
    let all = length-append op ps in
    record {
      n = n;
      reach = elim reach [
        | inl far ↦ inl (omega (arith, size, far, few))
        | inr most ↦ inr (omega (arith, size, all, most, few))
      ];
      say = without_first (take n ps) works (subst (λ qs. SayAll (take (suc n) (qs ++ ps)) works) one say);
    }
