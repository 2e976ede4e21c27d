-- What was carried out may be told only once a round that was taken later has held.
use Rattle.sk_engine.proofs.Names.{◌≡◌, ℕ, ◌<◌, ◌≤◌, Bool, true, false, cond, List, [], ◌∷◌, inl, inr, refl, sym, ap}
use Rattle.sk_engine.proofs.Names.{subst, arith, ◌⊎◌, nat_lt}
use Rattle.sk_engine.proofs.Names.{ltb-true, ltb-false, Has, after_still, no_rounds, CarriesOut, Holds, IsHeld, Loses}
use Rattle.sk_engine.proofs.Names.{RoundCall, RoundRuns}
use Rattle.sk_engine.proofs.Names.{RoundsView, Takes, ToldBehindARound}
use Rattle.sk_engine.proofs.Steps.{order}

-- a round that has held, or what was known
pub record AfterStill (round : ℕ) (r s : RoundsView) : Type 0 where
  pub taken : s.taken ≡ r.taken
  pub held : (s.held ≡ round) ⊎ (s.held ≡ r.held)

after_still_by : (round : ℕ) (r : RoundsView) (t : Bool) → AfterStill round r (cond t (record r { held = round }) r)
after_still_by round r true = record { taken = refl; held = inl refl }
after_still_by round r false = record { taken = refl; held = inr refl }

pub stilled : (round : ℕ) (r s : RoundsView) → s ≡ after_still round r → AfterStill round r s
stilled round r s e = subst (λ x. AfterStill round r x) (sym e) (after_still_by round r (nat_lt r.held round))

-- no more is known than that rounds up to this one have held, and in the end a later one is
record LaterHeld (bound : ℕ) (cs : List RoundCall) : Type 0 where
  pub held : ℕ
  pub known : Has (Holds held) cs
  pub behind : bound ≤ held

later : (c : RoundCall) (cs : List RoundCall) (bound : ℕ) → LaterHeld bound cs → LaterHeld bound (c ∷ cs)
later c cs bound l = record { held = l.held; known = inr l.known; behind = l.behind }

find_held : (cs : List RoundCall) (r s : RoundsView) (bound : ℕ) → RoundRuns r cs s → r.held < bound → bound ≤ s.held
    → LaterHeld bound cs
find_held [] r s bound runs less more = let same = ap (λ (x : RoundsView). x.held) runs in absurd (omega arith)
find_held (CarriesOut mark ∷ cs) r s bound runs less more =
    let same = ap (λ (x : RoundsView). x.held) runs.1.1 in
    later (CarriesOut mark) cs bound (find_held cs runs.0 s bound runs.2 (omega arith) more)
find_held (Takes round ∷ cs) r s bound runs less more =
    let same = ap (λ (x : RoundsView). x.held) runs.1.2 in
    later (Takes round) cs bound (find_held cs runs.0 s bound runs.2 (omega arith) more)
find_held (Loses ∷ cs) r s bound runs less more =
    let same = ap (λ (x : RoundsView). x.held) runs.1 in
    later Loses cs bound (find_held cs runs.0 s bound runs.2 (omega arith) more)
find_held (Holds round ∷ cs) r s bound runs less more = elim (order bound round) as
    (λ _. LaterHeld bound (Holds round ∷ cs)) [
      | inl le ↦ record { held = round; known = inl refl; behind = le }
      | inr lt ↦
          let at = stilled round r runs.0 runs.1.1 in
          let low : runs.0.held < bound = elim at.held as (λ _. runs.0.held < bound)
          [ inl is ↦ omega arith | inr is ↦ omega arith ] in
          later (Holds round) cs bound (find_held cs runs.0 s bound runs.2 low more)
    ]

behind : (c : RoundCall) (cs : List RoundCall) → IsHeld cs → IsHeld (c ∷ cs)
behind c cs l = record {
  round = l.round;
  before = c ∷ l.before;
  after = l.after;
  at = ap (λ (xs : List RoundCall). c ∷ xs) l.at;
  held = l.held;
  known = l.known;
  behind = l.behind;
}

find_taken : (cs : List RoundCall) (r s : RoundsView) (mark : ℕ) → RoundRuns r cs s → r.taken ≡ mark → r.held ≤ mark
    → mark < s.held → IsHeld cs
find_taken [] r s mark runs taken low more = let same = ap (λ (x : RoundsView). x.held) runs in absurd (omega arith)
find_taken (CarriesOut m ∷ cs) r s mark runs taken low more =
    let same = ap (λ (x : RoundsView). x.held) runs.1.1 in
    let still = ap (λ (x : RoundsView). x.taken) runs.1.1 in
    behind (CarriesOut m) cs (find_taken cs runs.0 s mark runs.2 (omega arith) (omega arith) more)
find_taken (Loses ∷ cs) r s mark runs taken low more =
    let same = ap (λ (x : RoundsView). x.held) runs.1 in
    let still = ap (λ (x : RoundsView). x.taken) runs.1 in
    behind Loses cs (find_taken cs runs.0 s mark runs.2 (omega arith) (omega arith) more)
find_taken (Holds round ∷ cs) r s mark runs taken low more =
    let at = stilled round r runs.0 runs.1.1 in
    let most = ltb-false r.taken round runs.1.0 in
    let still = at.taken in
    let bound : runs.0.held ≤ mark = elim at.held as (λ _. runs.0.held ≤ mark)
    [ inl is ↦ omega arith | inr is ↦ omega arith ] in
    behind (Holds round) cs (find_taken cs runs.0 s mark runs.2 (omega arith) bound more)
find_taken (Takes round ∷ cs) r s mark runs taken low more =
    let same = ap (λ (x : RoundsView). x.held) runs.1.2 in
    let is = runs.1.1 in
    let l = find_held cs runs.0 s round runs.2 (omega arith) (omega arith) in
    record { round = round; before = []; after = cs; at = refl; held = l.held; known = l.known; behind = l.behind }

-- no round has held that was not taken
pub held_within : (cs : List RoundCall) (r s : RoundsView) → RoundRuns r cs s → r.held ≤ r.taken → s.held ≤ s.taken
held_within [] r s runs le = subst (λ (x : RoundsView). x.held ≤ x.taken) runs le
held_within (CarriesOut m ∷ cs) r s runs le = held_within cs runs.0 s runs.2
    (subst (λ (x : RoundsView). x.held ≤ x.taken) (sym runs.1.1) le)
held_within (Loses ∷ cs) r s runs le = held_within cs runs.0 s runs.2
    (subst (λ (x : RoundsView). x.held ≤ x.taken) (sym runs.1) le)
held_within (Takes round ∷ cs) r s runs le =
    let is = runs.1.1 in
    let more : r.held ≤ round = omega arith in
    held_within cs runs.0 s runs.2 (subst (λ (x : RoundsView). x.held ≤ x.taken) (sym runs.1.2) more)
held_within (Holds round ∷ cs) r s runs le =
    let at = stilled round r runs.0 runs.1.1 in
    let most = ltb-false r.taken round runs.1.0 in
    let still = at.taken in
    held_within cs runs.0 s runs.2 (elim at.held as (λ _. runs.0.held ≤ runs.0.taken)
    [ inl is ↦ omega arith | inr is ↦ omega arith ])

pub told_behind_a_round : ToldBehindARound
told_behind_a_round before after r s mark past runs told =
    let within = held_within before no_rounds r past (omega arith) in
    let same = ap (λ (x : RoundsView). x.held) runs.1.1 in
    let still = ap (λ (x : RoundsView). x.taken) runs.1.1 in
    let is = runs.1.0 in
    find_taken after runs.0 s mark runs.2 (omega arith) (omega arith) (ltb-true mark s.held told)
