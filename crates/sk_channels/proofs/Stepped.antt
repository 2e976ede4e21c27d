-- What was fed, step by step.
use Rattle.sk_channels.proofs.Names.{◌≡◌, ℕ, ◌+◌, ◌-◌, ◌<◌, ◌≤◌, Bool, true, false, List, ◌++◌, length, take, drop}
use Rattle.sk_channels.proofs.Names.{Option, Some, None, Ok, refl, sym, ◌∙◌, ap, subst, inl, inr, arith, append_assoc}
use Rattle.sk_channels.proofs.Names.{length-drop, take-append-drop, take-take, drop-take, drop-drop, drop_all, cases_lt}
use Rattle.sk_channels.proofs.Names.{iff_false, true≢false, ◌↔◌, ◌||◌, IsTrue, Asked, Limits, Ask, Fed, Inlet}
use Rattle.sk_channels.proofs.Names.{only_posed, HasHeard, Feeds}
use Rattle.std.specs.Prelude.{is_some}
use Rattle.sk_channels.proofs.Heard.{HasHeardOn}

-- how many bytes came, where these are left
abbrev pub gone : List ℕ → List ℕ → ℕ
gone bytes rest = length bytes - length rest

-- These are left of the bytes, and the others came.
pub record IsLeft (old new : Inlet) (bytes rest : List ℕ) (steps : ℕ) : Type 0 where
  pub within : length rest ≤ length bytes
  pub left : rest ≡ drop (gone bytes rest) bytes
  pub heard : (limits : Limits) (asked : List Ask) (stream : List ℕ) → HasHeard limits asked stream old
      → HasHeard limits asked (stream ++ take (gone bytes rest) bytes) new × (0 < steps → length rest < length bytes)

-- Some bytes and more of those behind them.
taken_on : (n k : ℕ) (xs : List ℕ) → take n xs ++ take k (drop n xs) ≡ take (n + k) xs
taken_on n k xs =
    (λ i. sym (take-take n (n + k) xs (omega arith)) i ++ sym (drop-take n k xs) i)
    ∙ take-append-drop n (take (n + k) xs)

came_on : (stream bytes rest : List ℕ) (k : ℕ) → length rest ≤ length bytes → rest ≡ drop (gone bytes rest) bytes
    → k ≤ length rest
    → (stream ++ take (gone bytes rest) bytes) ++ take k rest ≡ stream ++ take (gone bytes (drop k rest)) bytes
came_on stream bytes rest k within left few =
    let n = gone bytes rest in
    let same : n + k ≡ gone bytes (drop k rest) = omega (arith, within, few, length-drop k rest) in
    append_assoc stream (take n bytes) (take k rest)
    ∙ ap (λ xs. stream ++ xs) ((λ i. take n bytes ++ take k (left i)) ∙ taken_on n k bytes
    ∙ ap (λ m. take m bytes) same)

left_behind : (bytes rest : List ℕ) (k : ℕ) → length rest ≤ length bytes → rest ≡ drop (gone bytes rest) bytes
    → drop k rest ≡ drop (gone bytes (drop k rest)) bytes
left_behind bytes rest k within left = elim (cases_lt (length rest) k) [
  | inr few ↦
      ap (λ xs. drop k xs) left ∙ drop-drop k (gone bytes rest) bytes
      ∙ ap (λ n. drop n bytes) (omega (arith, within, few, length-drop k rest))
  | inl many ↦
      drop_all k rest (omega (arith, many))
      ∙ sym (drop_all (gone bytes (drop k rest)) bytes (omega (arith, many, length-drop k rest)))
]

-- A step took some, and asks for something or nothing.
pub step_on : (old mid new : Inlet) (bytes rest : List ℕ) (steps : ℕ) (fed : Fed) → IsLeft old mid bytes rest steps
    → ((limits : Limits) (asked : List Ask) (stream : List ℕ) → HasHeard limits asked stream mid
    → Feeds (λ asked stream. HasHeard limits asked stream new) asked stream rest (Ok fed) new)
    → (limits : Limits) (asked : List Ask) (stream : List ℕ) → HasHeard limits asked stream old
    → HasHeardOn limits asked (stream ++ take (gone bytes (drop fed.count rest)) bytes) fed.asked new ×
    (fed.count ≤ length rest)
    × (0 < length rest → only_posed fed.asked new ≡ false → 0 < fed.count)
step_on old mid new bytes rest steps fed was feeds limits asked stream has =
    let fed_so = feeds limits asked (stream ++ take (gone bytes rest) bytes) (was.heard limits asked stream has).0 in (
      subst (λ s. HasHeardOn limits asked s fed.asked new)
          (came_on stream bytes rest fed.count was.within was.left fed_so.0) fed_so.2,
      fed_so.0,
      fed_so.1,
    )

-- What is left behind a step that asks for nothing, and the host for nothing.
pub less_left : (old mid new : Inlet) (bytes rest rest' : List ℕ) (steps steps' : ℕ) (fed : Fed)
    → IsLeft old mid bytes rest steps
    → 0 < length rest → fed.asked ≡ None → is_some new.posed ≡ false → rest' ≡ drop fed.count rest
    → ((limits : Limits) (asked : List Ask) (stream : List ℕ) → HasHeard limits asked stream mid
    → Feeds (λ asked stream. HasHeard limits asked stream new) asked stream rest (Ok fed) new)
    → IsLeft old new bytes rest' steps'
less_left old mid new bytes rest rest' steps steps' fed was some none idle is feeds =
    let left : drop fed.count rest ≡ drop (gone bytes (drop fed.count rest)) bytes = left_behind bytes rest fed.count
    was.within was.left in
    subst (λ r. IsLeft old new bytes r steps') (sym is) (record {
      within = omega (arith, was.within, length-drop fed.count rest);
      left = left;
      heard = λ limits asked stream has.
          let on = step_on old mid new bytes rest steps fed was feeds limits asked stream has in (
            subst (λ a. HasHeardOn limits asked (stream ++ take (gone bytes (drop fed.count rest)) bytes) a new) none
                on.0,
            (λ more. omega (arith, was.within, some, on.1, on.2 some (ap (λ a. only_posed a new) none ∙ idle), length-drop fed.count rest)),
          );
    })

pub asked_on : (old mid new : Inlet) (bytes rest rest' : List ℕ) (steps : ℕ) (fed : Fed)
    → IsLeft old mid bytes rest steps
    → 0 < length rest → rest' ≡ drop fed.count rest
    → ((limits : Limits) (asked : List Ask) (stream : List ℕ) → HasHeard limits asked stream mid
    → Feeds (λ asked stream. HasHeard limits asked stream new) asked stream rest (Ok fed) new)
    → (limits : Limits) (asked : List Ask) (stream : List ℕ) → HasHeard limits asked stream old
    → (gone bytes rest' ≤ length bytes) × (0 < length bytes → only_posed fed.asked new ≡ false → 0 < gone bytes rest')
    × HasHeardOn limits asked (stream ++ take (gone bytes rest') bytes) fed.asked new
asked_on old mid new bytes rest rest' steps fed was some is feeds limits asked stream has =
    let on = step_on old mid new bytes rest steps fed was feeds limits asked stream has in
    subst (λ r. (gone bytes r ≤ length bytes) × (0 < length bytes → only_posed fed.asked new ≡ false → 0 < gone bytes r)
    × HasHeardOn limits asked (stream ++ take (gone bytes r) bytes) fed.asked new) (sym is) (
      omega arith,
      (λ more none.
          let taken = on.2 some none in
          omega (arith, was.within, some, on.1, taken, length-drop fed.count rest)),
      on.0,
    )

pub some_left : (none : Bool) (n : ℕ) → IsTrue none ↔ (n ≡ 0) → none ≡ false → 0 < n
some_left none n iff is = omega (arith, iff_false {b = none} {P = n ≡ 0} iff is)

pub nothing_asked : (asked : Option Asked) (some : Bool) → some ≡ is_some asked → some ≡ false → asked ≡ None
nothing_asked None some same is = refl
nothing_asked (Some one) some same is = absurd (true≢false (sym same ∙ is))

-- neither was asked
pub neither : (one other some : Bool) → some ≡ (one || other) → some ≡ false → (one ≡ false) × (other ≡ false)
neither true other some same is = absurd (true≢false (sym same ∙ is))
neither false other some same is = (refl, sym same ∙ is)
