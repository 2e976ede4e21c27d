-- Outputs of a channel by their tickets, and what tickets were told.
use Rattle.std.proofs.lemmas.Bool.Decides.{nat_tests}
use Rattle.sk_durable.proofs.Contained.{first_or_later, at_first, at_later, nothing_there, from_map, to_map}
use Rattle.sk_durable.proofs.Contained.{from_filter}
use Rattle.sk_durable.proofs.Names.{◌≡◌, ℕ, zero, suc, ◌+◌, ◌-◌, ◌<◌, ◌≤◌, Bool, true, false, cond, not, List, []}
use Rattle.sk_durable.proofs.Names.{◌∷◌, ◌++◌, length, map, Option, Some, None, inl, inr, refl, sym, ◌∙◌, ap, subst}
use Rattle.sk_durable.proofs.Names.{arith, append_assoc, length-append, ◌==◌, ◌⊎◌, slice_get, filter, list_any}
use Rattle.sk_durable.proofs.Names.{Contains, true≢false, or_right, length-replicate, filter-append}
use Rattle.sk_durable.proofs.Names.{Contains-append_left, Contains-append_right, Contains-append_cases}
use Rattle.sk_durable.proofs.Names.{slice_get_within, Tagged, has, said_by, is_struck, kept, resting_among, said_to}
use Rattle.sk_durable.proofs.Names.{refused, refused_up_to, Told, Answer, answer_text, served, Command}

-- what a command says: a ticket with its answer, to a channel; and what it depends on
abbrev pub Output : Type 0
Output = Tagged (ℕ × (ℕ × Answer))

abbrev pub ticket_of : Output → ℕ
ticket_of x = x.0.1.0

-- ---- elements of lists

module _ {A : Type 0} where
  -- a list of nothing is empty
  pub is_none : (xs : List A) → ((x : A) → Contains xs x → ⊥) → xs ≡ []
  is_none [] none = refl
  is_none (x ∷ xs) none = absurd (none x (at_first x xs))

  pub none_long : (xs : List A) → length xs ≤ 0 → xs ≡ []
  none_long [] le = refl
  none_long (x ∷ xs) le = absurd (omega (arith, le))

  -- an element by its place, with more behind
  pub got_before : (xs ys : List A) (k : ℕ) (v : A) → slice_get xs k ≡ Some v → slice_get (xs ++ ys) k ≡ Some v
  got_before [] ys k v is = cc
  got_before (x ∷ xs) ys zero v is = is
  got_before (x ∷ xs) ys (suc k) v is = got_before xs ys k v is

  pub got_last : (xs : List A) (y : A) (k : ℕ) → k ≡ length xs → slice_get (xs ++ y ∷ []) k ≡ Some y
  got_last [] y zero is = refl
  got_last [] y (suc k) is = absurd (omega (arith, is))
  got_last (x ∷ xs) y zero is = absurd (omega (arith, is))
  got_last (x ∷ xs) y (suc k) is = got_last xs y k (omega (arith, is))

  pub got_cases : (xs ys : List A) (k : ℕ) (v : A) → slice_get (xs ++ ys) k ≡ Some v
      → (slice_get xs k ≡ Some v) ⊎ ((j : ℕ) × (k ≡ length xs + j) × (slice_get ys j ≡ Some v))
  got_cases [] ys k v is = inr (k, omega arith, is)
  got_cases (x ∷ xs) ys zero v is = inl is
  got_cases (x ∷ xs) ys (suc k) v is = grind (arith, nat_tests, got_cases xs ys k v is)

module _ {A B : Type 0} (f : A → B) where
  pub mapped_none : (xs : List A) → map f xs ≡ [] → xs ≡ []
  mapped_none [] is = refl
  mapped_none (x ∷ xs) is = cc

  -- two lists that are the same, where the first part of one is the first part of the first part of the other
  pub parted : (us vs xs ys : List A) (zs : List B) → us ++ vs ≡ xs ++ ys → map f xs ≡ map f us ++ zs
      → (more : List A) × (xs ≡ us ++ more) × (vs ≡ more ++ ys) × (map f more ≡ zs)
  parted [] vs xs ys zs is maps = (xs, refl, is, maps)
  parted (u ∷ us) vs [] ys zs is maps = cc
  parted (u ∷ us) vs (x ∷ xs) ys zs is maps = grind (arith, nat_tests, parted us vs xs ys zs)

-- ---- tickets that rise

-- each is above the one before it, the first above one number, and the last at most another
abbrev pub Rises : ℕ → List Output → ℕ → Type 0
Rises n [] m = n ≤ m
Rises n (x ∷ xs) m = (n < ticket_of x) × Rises (ticket_of x) xs m

pub rises_to : (n m k : ℕ) (xs : List Output) → Rises n xs m → m ≤ k → Rises n xs k
rises_to n m k [] le more = omega (arith, le, more)
rises_to n m k (x ∷ xs) (less, rest) more = (less, rises_to (ticket_of x) m k xs rest more)

pub rises_from : (l n m : ℕ) (xs : List Output) → l ≤ n → Rises n xs m → Rises l xs m
rises_from l n m [] le rises = omega (arith, le, rises)
rises_from l n m (x ∷ xs) le (less, rest) = (omega (arith, le, less), rest)

pub rises_push : (n m k : ℕ) (xs : List Output) (x : Output) → Rises n xs m → m < ticket_of x → ticket_of x ≤ k
    → Rises n (xs ++ x ∷ []) k
rises_push n m k [] x le less most = (omega (arith, le, less), most)
rises_push n m k (y ∷ xs) x (above, rest) less most = (above, rises_push (ticket_of y) m k xs x rest less most)

pub rises_above : (n m : ℕ) (xs : List Output) (x : Output) → Rises n xs m → Contains xs x → n < ticket_of x
rises_above n m [] x le there = nothing_there x there
rises_above n m (y ∷ xs) x (less, rest) there =
    elim (first_or_later y xs x there) [
      | inl is ↦ subst (λ z. n < ticket_of z) is less
      | inr more ↦ let after = rises_above (ticket_of y) m xs x rest more in omega (arith, less, after)
    ]

-- the first is the least
pub rises_first : (n m : ℕ) (y x : Output) (ys : List Output) → Rises n (y ∷ ys) m → Contains (y ∷ ys) x
    → ticket_of y ≤ ticket_of x
rises_first n m y x ys (less, rest) there =
    elim (first_or_later y ys x there) [
      | inl is ↦ subst (λ z. ticket_of y ≤ ticket_of z) is (omega arith)
      | inr more ↦ let after = rises_above (ticket_of y) m ys x rest more in omega (arith, after)
    ]

-- one that stands in front of another is less
pub rises_apart : (n m : ℕ) (xs ys : List Output) (x y : Output) → Rises n (xs ++ ys) m → Contains xs x → Contains ys y
    → ticket_of x < ticket_of y
rises_apart n m [] ys x y rises there that = nothing_there x there
rises_apart n m (z ∷ xs) ys x y (less, rest) there that =
    elim (first_or_later z xs x there) [
      | inl is ↦ subst (λ w. ticket_of w < ticket_of y) is
          (rises_above (ticket_of z) m (xs ++ ys) y rest (Contains-append_right xs ys y that))
      | inr more ↦ rises_apart (ticket_of z) m xs ys x y rest more that
    ]

pub rises_behind : (n m : ℕ) (xs ys : List Output) → Rises n (xs ++ ys) m → Rises n ys m
rises_behind n m [] ys rises = rises
rises_behind n m (x ∷ xs) ys (less, rest) =
    rises_from n (ticket_of x) m ys (omega (arith, less)) (rises_behind (ticket_of x) m xs ys rest)

-- what is behind is less
rises_thin : (n m : ℕ) (xs ys zs : List Output) → ((k : ℕ) → Rises k ys m → Rises k zs m) → Rises n (xs ++ ys) m
    → Rises n (xs ++ zs) m
rises_thin n m [] ys zs thin rises = thin n rises
rises_thin n m (x ∷ xs) ys zs thin (less, rest) = (less, rises_thin (ticket_of x) m xs ys zs thin rest)

pub rises_resting : (gs : List ℕ) (n m : ℕ) (xs : List Output) → Rises n xs m → Rises n (resting_among gs xs) m
rises_resting gs n m [] le = le
rises_resting gs n m (x ∷ xs) (less, rest) = (less, rises_resting gs (ticket_of x) m xs rest)

-- ---- outputs that wait

pub rested : (gs : List ℕ) (ys : List Output) (x : Output) → Contains (resting_among gs ys) x
    → (y : Output) × Contains ys y × (x.0 ≡ y.0)
rested gs ys x there = grind (arith, nat_tests, from_map (λ (z : Output). (z.0, filter (λ g. has g z.1) gs)) ys x there)

pub resting : (gs : List ℕ) (ys : List Output) (y : Output) → Contains ys y
    → (x : Output) × Contains (resting_among gs ys) x × (x.0 ≡ y.0)
resting gs ys y there =
    ((y.0, filter (λ g. has g y.1) gs), to_map (λ (z : Output). (z.0, filter (λ g. has g z.1) gs)) ys y there, refl)

-- ---- what commands said to a channel

none_of : (p : ℕ → Bool) (gs : List ℕ) → ((g : ℕ) → has g gs ≡ true → p g ≡ false) → list_any p gs ≡ false
none_of p [] none = refl
none_of p (g ∷ gs) none =
    grind (arith, nat_tests, none_of p gs (λ h there. none h (or_right (g == h) (has h gs) there)))

module _ (t : ℕ) where
  pub said_append : (xs ys : List Command) → said_to served t (xs ++ ys) ≡ said_to served t xs ++ said_to served t ys
  said_append [] ys = refl
  said_append (r ∷ xs) ys = grind (arith, nat_tests, said_append xs ys)

  pub kept_append : (gs : List ℕ) (xs ys : List Command)
      → said_to served t (kept gs (xs ++ ys)) ≡ said_to served t (kept gs xs) ++ said_to served t (kept gs ys)
  kept_append gs xs ys =
      ap (said_to served t) (filter-append (λ (r : Command). not (is_struck gs r)) xs ys)
      ∙ said_append (kept gs xs) (kept gs ys)

  -- what one command said
  its_own : (said : Option (ℕ × (ℕ × Answer))) (rests : List ℕ) (y : Output) → Contains (said_by served t said rests) y
      → (said ≡ Some y.0) × (rests ≡ y.1) × ((y.0.0 == t) ≡ true)
  its_own None rests y there = nothing_there y there
  its_own (Some w) rests y there =
      elim (w.0 == t) as (λ b. (w.0 == t) ≡ b → Contains (cond b ((w, rests) ∷ []) []) y
      → (Some w ≡ Some y.0) × (rests ≡ y.1) × ((y.0.0 == t) ≡ true)) [
        | true ↦ λ to at. elim (first_or_later (w, rests) [] y at) [
          | inl is ↦ (
            ap (λ (z : Output). Some z.0) is,
            ap (λ (z : Output). z.1) is,
            ap (λ (z : Output). z.0.0 == t)
                (sym is) ∙ to,
          )
          | inr more ↦ nothing_there y more
        ]
        | false ↦ λ to at. nothing_there y at
      ] refl there

  own_said : (r : Command) (w : ℕ × (ℕ × Answer)) → r.said ≡ Some w → (w.0 == t) ≡ true
      → Contains (said_by served t r.said r.rests) (w, r.rests)
  own_said r w is to = grind (arith, nat_tests, at_first)

  -- each output is what a command said
  pub says_it : (log : List Command) (y : Output) → Contains (said_to served t log) y
      → (r : Command) × Contains log r × (r.said ≡ Some y.0) × (r.rests ≡ y.1) × ((y.0.0 == t) ≡ true)
  says_it [] y there = nothing_there y there
  says_it (r ∷ log) y there =
      elim (Contains-append_cases (said_by served t r.said r.rests) (said_to served t log) y there) [
        | inl own ↦ let one = its_own r.said r.rests y own in (r, at_first r log, one.0, one.1, one.2)
        | inr more ↦ let rest = says_it log y more in (rest.0, at_later r log rest.0 rest.1, rest.2, rest.3, rest.4)
      ]

  -- and what a command said is there
  pub it_says : (log : List Command) (r : Command) (w : ℕ × (ℕ × Answer)) → Contains log r → r.said ≡ Some w
      → (w.0 == t) ≡ true
      → Contains (said_to served t log) (w, r.rests)
  it_says [] r w there is to = nothing_there r there
  it_says (q ∷ log) r w there is to =
      elim (first_or_later q log r there) [
        | inl same ↦ Contains-append_left (said_by served t q.said q.rests) (said_to served t log) (w, r.rests)
            (subst (λ (z : Command). Contains (said_by served t z.said z.rests) (w, r.rests)) (sym same)
            (own_said r w is to))
        | inr more ↦ Contains-append_right (said_by served t q.said q.rests) (said_to served t log) (w, r.rests)
            (it_says log r w more is to)
      ]

  -- what is left of it was there
  pub less_said : (gs : List ℕ) (log : List Command) (y : Output) → Contains (said_to served t (kept gs log)) y
      → Contains (said_to served t log) y
  less_said gs log y there =
      let at = says_it (kept gs log) y there in
      subst (λ rests. Contains (said_to served t log) (y.0, rests)) at.3
      (it_says log at.0 y.0 ((from_filter (λ (r : Command). not (is_struck gs r)) log at.0 at.1).0) at.2 at.4)

  pub fewer_said : (gs : List ℕ) (log : List Command)
      → length (said_to served t (kept gs log)) ≤ length (said_to served t log)
  fewer_said gs [] = omega arith
  fewer_said gs (r ∷ log) = grind (arith, nat_tests, fewer_said gs log, length-append)

  pub rises_kept : (gs : List ℕ) (log : List Command) (n m : ℕ) → Rises n (said_to served t log) m
      → Rises n (said_to served t (kept gs log)) m
  rises_kept gs [] n m le = le
  rises_kept gs (r ∷ log) n m rises =
      grind (arith, nat_tests, rises_thin n m, rises_kept gs log, rises_kept gs log n m, rises_behind n m)

  -- where what was said depends on none of some guesses, all of it is left once these fail
  pub settled_kept : (gs : List ℕ) (log : List Command)
      → ((x : Output) (g : ℕ) → Contains (said_to served t log) x → has g x.1 ≡ true → has g gs ≡ false)
      → said_to served t (kept gs log) ≡ said_to served t log
  settled_kept gs [] none = refl
  settled_kept gs (r ∷ log) none =
      let own = said_by served t r.said r.rests in
      let rest = settled_kept gs log
      (λ x g there. none x g (Contains-append_right own (said_to served t log) x there)) in
      let stands : (x : Output) → Contains own x → is_struck gs r ≡ false =
      λ x there. none_of (λ g. has g gs) r.rests
      (λ g at. none x g (Contains-append_left own (said_to served t log) x there)
      (subst (λ hs. has g hs ≡ true) (its_own r.said r.rests x there).1 at)) in
      elim (is_struck gs r) as
      (λ b. is_struck gs r ≡ b → said_to served t (cond (not b) (r ∷ kept gs log) (kept gs log))
      ≡ own ++ said_to served t log) [
        | true ↦ λ struck. rest
            ∙ sym (ap (λ l. l ++ said_to served t log)
            (is_none own (λ x there. true≢false (sym struck ∙ stands x there))))
        | false ↦ λ struck. ap (λ l. own ++ l) rest
      ] refl

-- ---- what tickets were told

-- texts were told to just the tickets of these answers, each its own
pub record IsToldOf (told : Told) (taken : List (ℕ × (ℕ × Answer))) : Type 0 where
  pub texts : (k : ℕ) (text : List ℕ) → slice_get told k ≡ Some (Some text)
      → (w : ℕ × (ℕ × Answer)) × Contains taken w × (w.1.0 ≡ k + 1) × (text ≡ answer_text w.1.1)
  pub nones : (k : ℕ) (w : ℕ × (ℕ × Answer)) → slice_get told k ≡ Some None → Contains taken w → w.1.0 ≡ k + 1 → ⊥
  pub below : (w : ℕ × (ℕ × Answer)) → Contains taken w → w.1.0 ≤ length told

pub nothing_told : IsToldOf [] []
nothing_told = grind (arith, nat_tests, nothing_there)

got_refused : (n j : ℕ) (v : Option (List ℕ)) → slice_get (refused n) j ≡ Some v → v ≡ None
got_refused zero j v is = cc
got_refused (suc n) zero v is = cc
got_refused (suc n) (suc j) v is = got_refused n j v is

pub refused_long : (n : ℕ) → length (refused n) ≡ n
refused_long n = length-replicate {A = Option (List ℕ)} n None

pub refused_told : (told : Told) (taken : List (ℕ × (ℕ × Answer))) (n : ℕ) → IsToldOf told taken
    → IsToldOf (told ++ refused n) taken
refused_told told taken n one = record {
  texts = λ k text is. elim (got_cases told (refused n) k (Some text) is) [
    | inl at ↦ one.texts k text at
    | inr more ↦ let no : Some text ≡ None = got_refused n more.0 (Some text) more.2 in cc no
  ];
  nones = λ k w is there same. elim (got_cases told (refused n) k None is) [
    | inl at ↦ one.nones k w at there same
    | inr more ↦ let le = one.below w there in let far = more.1 in omega (arith, le, same, far)
  ];
  below = λ w there. let le = one.below w there in let long = length-append told (refused n) in omega (arith, le, long);
}

last_text : (w : ℕ × (ℕ × Answer)) (j : ℕ) (text : List ℕ)
    → slice_get {X = Option (List ℕ)} (Some (answer_text w.1.1) ∷ []) j ≡ Some (Some text)
    → (j ≡ 0) × (text ≡ answer_text w.1.1)
last_text w zero text is = let same : answer_text w.1.1 ≡ text = cc in (refl, sym same)
last_text w (suc j) text is = cc

no_last : (text : List ℕ) (j : ℕ) → slice_get {X = Option (List ℕ)} (Some text ∷ []) j ≡ Some None → ⊥
no_last text zero is = cc
no_last text (suc j) is = cc

text_told : (told : Told) (taken : List (ℕ × (ℕ × Answer))) (w : ℕ × (ℕ × Answer)) → IsToldOf told taken
    → w.1.0 ≡ length told + 1
    → IsToldOf (told ++ Some (answer_text w.1.1) ∷ []) (taken ++ w ∷ [])
text_told told taken w one next =
    let last : Told = Some (answer_text w.1.1) ∷ [] in
    record {
      texts = λ k text is. elim (got_cases told last k (Some text) is) [
        | inl at ↦ let old =
            one.texts k text at in (old.0, Contains-append_left taken (w ∷ []) old.0 old.1, old.2, old.3)
        | inr more ↦
            let now = last_text w more.0 text more.2 in
            let none = now.0 in
            let far = more.1 in
            (w, Contains-append_right taken (w ∷ []) w (at_first w []), omega (arith, next, far, none), now.1)
      ];
      nones = λ k v is there same. elim (got_cases told last k None is) [
        | inl at ↦ elim (Contains-append_cases taken (w ∷ []) v there) [
          | inl old ↦ one.nones k v at old same
          | inr new ↦ elim (first_or_later w [] v new) [
            | inl own ↦ let within =
                slice_get_within told k None at in let its =
                ap (λ (u : ℕ × (ℕ × Answer)). u.1.0) own in omega (arith, next, same, within, its)
            | inr more ↦ nothing_there v more
          ]
        ]
        | inr more ↦ no_last (answer_text w.1.1) more.0 more.2
      ];
      below = λ v there.
          let long = length-append told last in
          elim (Contains-append_cases taken (w ∷ []) v there) [
            | inl old ↦ let le = one.below v old in omega (arith, le, long)
            | inr new ↦ elim (first_or_later w [] v new) [
              | inl own ↦ let its = ap (λ (u : ℕ × (ℕ × Answer)). u.1.0) own in omega (arith, next, its, long)
              | inr more ↦ nothing_there v more
            ]
          ];
    }

-- a ticket is told its answer, and those before it that were told nothing that nothing was done
pub answer_told : (told : Told) (taken : List (ℕ × (ℕ × Answer))) (w : ℕ × (ℕ × Answer)) → IsToldOf told taken
    → length told < w.1.0
    → IsToldOf (told ++ (refused_up_to told w.1.0 ++ Some (answer_text w.1.1) ∷ [])) (taken ++ w ∷ [])
answer_told told taken w one less =
    let n = w.1.0 - (length told + 1) in
    let long = length-append told (refused n) in
    let some = refused_long n in
    subst (λ ts. IsToldOf ts (taken ++ w ∷ [])) (append_assoc told (refused n) (Some (answer_text w.1.1) ∷ []))
    (text_told (told ++ refused n) taken w (refused_told told taken n one) (omega (arith, less, long, some)))

-- how many were told then
pub told_long : (told : Told) (ticket : ℕ) (text : List ℕ) → length told < ticket
    → length (told ++ (refused_up_to told ticket ++ Some text ∷ [])) ≡ ticket
told_long told ticket text less =
    let n = ticket - (length told + 1) in
    let all = length-append told (refused n ++ Some text ∷ []) in
    let more = length-append (refused n) (Some text ∷ []) in
    let some = refused_long n in
    omega (arith, less, all, more, some)
