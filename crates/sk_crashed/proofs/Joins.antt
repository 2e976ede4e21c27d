-- What is read of segments, some of which have no head yet, is a front part of what stands in them.
use Rattle.sk_crashed.proofs.Names.{◌≡◌, ◌==◌, ℕ, zero, suc, ◌+◌, ◌-◌, ◌<◌, ◌≤◌, min, Bool, true, false, nat_lt, List}
use Rattle.sk_crashed.proofs.Names.{[], ◌∷◌, ◌++◌, length, map, take, Option, Some, None, inl, inr, if◌then◌else◌, refl}
use Rattle.sk_crashed.proofs.Names.{sym, ap, subst, ◌∙◌, arith, length-append, ◌⊎◌, ltb-false, ltb-true, length-take}
use Rattle.sk_crashed.proofs.Names.{take_all, ReadsPrefix, synced_of, SegmentsJoin, joined_all, joined_at, least_first}
use Rattle.sk_crashed.proofs.Names.{AreBounded, CountedIsJoined, below, counted, counting, lower, Part, end_of}
use Rattle.sk_crashed.proofs.Names.{least_of, live, Written, same_Some}

-- ---- the lower of two numbers

pub lower_min : (a b : ℕ) → lower a (Some b) ≡ min a b
lower_min a b =
    elim (nat_lt b a) as (λ t. nat_lt b a ≡ t → (if t then b else a) ≡ min a b) [
      | true ↦ λ e. let lt = ltb-true b a e in omega (arith, lt)
      | false ↦ λ e. let le = ltb-false b a e in omega (arith, le)
    ] refl

pub lower_least : (a : ℕ) (o : Option ℕ) → lower a o ≤ a
lower_least a None = omega arith
lower_least a (Some b) = let is = lower_min a b in omega (arith, is)

pub lower_twice : (a b : ℕ) (o : Option ℕ) → lower a (Some (lower b o)) ≡ lower (min a b) o
lower_twice a b None = lower_min a b
lower_twice a b (Some c) =
    let one = lower_min b c in
    let two = lower_min a (lower b (Some c)) in
    let three = lower_min (min a b) c in omega (arith, one, two, three)

pub lower_less : (a b : ℕ) (o p : Option ℕ) → a ≤ b → lower b o ≡ lower b p → lower a o ≡ lower a p
lower_less a b o p le same =
    let one : min a b ≡ a = omega (arith, le) in
    ap (λ n. lower n o) (sym one) ∙ sym (lower_twice a b o) ∙ ap (λ n. lower a (Some n)) same ∙ lower_twice a b p
    ∙ ap (λ n. lower n p) one

-- ---- segments with what was read of them

-- a segment, how many of its frames were told as synced, and what was read of it; nothing where no head stood there
pub record Seen : Type 0 where
  pub w : Written
  pub kept : ℕ
  pub read : Option (List (List ℕ))

abbrev pub got : Option (List (List ℕ)) → List (List ℕ)
got None = []
got (Some ps) = ps

abbrev pub written_of : List Seen → List Written
written_of xs = map (λ x. x.w) xs

-- the least number from which one of those goes on that have a head
abbrev pub least_there : List Seen → Option ℕ
least_there [] = None
least_there (x ∷ xs) = elim x.read [
  | None ↦ least_there xs
  | Some ps ↦ Some (lower x.w.first (least_there xs))
]

abbrev pub part_there : Seen → Option ℕ → List (List ℕ) → Part
part_there x bound ps = record { first = x.w.first; bound = bound; payloads = ps }

abbrev pub parts_there : List Seen → List Part
parts_there [] = []
parts_there (x ∷ xs) = elim x.read [
  | None ↦ parts_there xs
  | Some ps ↦ part_there x (least_there xs) ps ∷ parts_there xs
]

-- all, where those without a head have no frames
abbrev parts_all : List Seen → List Part
parts_all [] = []
parts_all (x ∷ xs) = part_there x (least_of (written_of xs)) (got x.read) ∷ parts_all xs

-- what is known of one, behind one that ends so, where all frames before E were told as synced
pub record IsSeen (E base e : ℕ) (x : Seen) (later : List Written) : Type 0 where
  pub reads : ReadsPrefix x.w.payloads x.kept (got x.read)
  pub upto : x.w.first ≤ e
  pub from : base ≤ x.w.first
  pub gone : x.read ≡ None → x.w.first ≡ e
  pub enough : (E ≤ x.w.first + x.kept) ⊎ (live x.w later ≤ x.kept)

abbrev pub AreSeen : ℕ → ℕ → ℕ → List Seen → Type 0
AreSeen E base e [] = Unit {0}
AreSeen E base e (x ∷ xs) = IsSeen E base e x (written_of xs) × AreSeen E base (end_of x.w) xs

-- ---- the bounds

module _ (E base : ℕ) where
  pub same_bound : (e : ℕ) (xs : List Seen) → AreSeen E base e xs → lower e (least_of (written_of xs)) ≡ lower e (least_there xs)
  same_bound e [] all = refl
  same_bound e (x ∷ xs) all =
      let rest = same_bound (end_of x.w) xs all.1 in
      let near : lower x.w.first (least_of (written_of xs)) ≡ lower x.w.first (least_there xs) =
      lower_less x.w.first (end_of x.w) (least_of (written_of xs)) (least_there xs) (omega arith) rest in
      elim x.read as (λ r. x.read ≡ r → lower e (Some (lower x.w.first (least_of (written_of xs))))
      ≡ lower e (elim r [ None ↦ least_there xs | Some ps ↦ Some (lower x.w.first (least_there xs)) ])) [
        | None ↦ λ is.
            let same = all.0.gone is in
            let one : min e x.w.first ≡ x.w.first = omega (arith, same) in
            lower_twice e x.w.first (least_of (written_of xs)) ∙ ap (λ n. lower n (least_of (written_of xs))) one ∙ near
            ∙ ap (λ n. lower n (least_there xs)) same
        | Some ps ↦ λ is. ap (λ n. lower e (Some n)) near
      ] refl

-- ---- what counts of them

pub below_as : (o : Option ℕ) (f n : ℕ) (ps : List (List ℕ)) → length ps ≤ n → below o f ps ≡ take (lower (f + n) o - f) ps
below_as None f n ps few = sym (take_all ((f + n) - f) ps (omega (arith, few)))
below_as (Some b) f n ps few =
    elim (nat_lt b (f + n)) as (λ t. nat_lt b (f + n) ≡ t → take (b - f) ps ≡ take ((if t then b else (f + n)) - f) ps) [
      | true ↦ λ e. refl
      | false ↦ λ e. let le = ltb-false b (f + n) e in
          take_all (b - f) ps (omega (arith, le, few)) ∙ sym (take_all ((f + n) - f) ps (omega (arith, few)))
    ] refl

below_same : (o p : Option ℕ) (f n : ℕ) (ps : List (List ℕ)) → lower (f + n) o ≡ lower (f + n) p → length ps ≤ n
    → below o f ps ≡ below p f ps
below_same o p f n ps same few =
    below_as o f n ps few ∙ ap (λ b. take (b - f) ps) same ∙ sym (below_as p f n ps few)

abbrev pub no_payloads : List (List ℕ)
no_payloads = []

pub take_none : (n : ℕ) → take n no_payloads ≡ no_payloads
take_none zero = refl
take_none (suc n) = refl

counting_none : (t : Bool) (x : Seen) (o : Option ℕ) → counting t (part_there x o []) ≡ []
counting_none false x o = refl
counting_none true x None = refl
counting_none true x (Some b) = take_none (b - x.w.first)

counting_same : (t : Bool) (x : Seen) (o p : Option ℕ) (ps : List (List ℕ)) → lower (end_of x.w) o ≡ lower (end_of x.w) p
    → length ps ≤ length x.w.payloads → counting t (part_there x o ps) ≡ counting t (part_there x p ps)
counting_same false x o p ps same few = refl
counting_same true x o p ps same few = below_same o p x.w.first (length x.w.payloads) ps same few

few_read : (ws read : List (List ℕ)) (kept : ℕ) → ReadsPrefix ws kept read → length read ≤ length ws
few_read ws read kept reads =
    let is = ap length reads.3 in
    let size = length-take reads.0 ws in omega (arith, is, size)

module _ (E base : ℕ) where
  same_counted : (e next : ℕ) (xs : List Seen) → AreSeen E base e xs
      → counted next (parts_there xs) ≡ counted next (parts_all xs)
  same_counted e next [] all = refl
  same_counted e next (x ∷ xs) all =
      let least = least_of (written_of xs) in
      elim x.read as (λ r. x.read ≡ r → counted next (elim r [
        | None ↦ parts_there xs
        | Some ps ↦ part_there x (least_there xs) ps ∷ parts_there xs
      ]) ≡ counted next (part_there x least (got r) ∷ parts_all xs)) [
        | None ↦ λ is.
            let same : next + 0 ≡ next = omega arith in
            same_counted (end_of x.w) next xs all.1
            ∙ ap (λ n. counted n (parts_all xs)) (sym same)
            ∙ ap (λ own. own ++ counted (next + length own) (parts_all xs)) (sym (counting_none (x.w.first == next) x least))
        | Some ps ↦ λ is.
            let few : length ps ≤ length x.w.payloads =
            few_read x.w.payloads ps x.kept (subst (λ r. ReadsPrefix x.w.payloads x.kept (got r)) is all.0.reads) in
            let own = counting_same (x.w.first == next) x (least_there xs) least ps
            (sym (same_bound E base (end_of x.w) xs all.1)) few in
            let mine = counting (x.w.first == next) (part_there x least ps) in
            ap (λ ps. ps ++ counted (next + length ps) (parts_there xs)) own
            ∙ ap (λ later. mine ++ later) (same_counted (end_of x.w) (next + length mine) xs all.1)
      ] refl

least_all : (xs : List Seen) → least_first (parts_all xs) ≡ least_of (written_of xs)
least_all [] = refl
least_all (x ∷ xs) = ap (λ o. Some (lower x.w.first o)) (least_all xs)

bounded_all : (xs : List Seen) → AreBounded (parts_all xs)
bounded_all [] = tt
bounded_all (x ∷ xs) = (sym (least_all xs), bounded_all xs)

-- ---- what stands in segments

abbrev pub stands_at : Option ℕ → Written → List (List ℕ) → List (List ℕ)
stands_at None w later = w.payloads
stands_at (Some b) w later = take (b - w.first) w.payloads ++ later

-- the frames that no later segment goes on from, nor from one before them
abbrev pub stands : List Written → List (List ℕ)
stands [] = []
stands (w ∷ ws) = stands_at (least_of ws) w (stands ws)

abbrev total_at : Option ℕ → Seen → ℕ → ℕ
total_at None x later = x.kept
total_at (Some b) x later = synced_of (b - x.w.first) x.kept later

abbrev total : List Seen → ℕ
total [] = 0
total (x ∷ xs) = total_at (least_of (written_of xs)) x (total xs)

synced_cases : (c k t : ℕ) → ((k < c) × (synced_of c k t ≡ k)) ⊎ ((c ≤ k) × (synced_of c k t ≡ c + t))
synced_cases zero k t = inr (omega arith, omega arith)
synced_cases (suc c) zero t = inl (omega arith, refl)
synced_cases (suc c) (suc k) t = elim (synced_cases c k t) [
  | inl few ↦ inl (omega (arith, few.0), ap suc few.1)
  | inr all ↦ inr (omega (arith, all.0), omega (arith, all.1))
]

module _ (E base : ℕ) where
  bound_upto : (e : ℕ) (xs : List Seen) (b : ℕ) → AreSeen E base e xs → least_of (written_of xs) ≡ Some b → b ≤ e
  bound_upto e [] b all is = cc
  bound_upto e (x ∷ xs) b all is =
      let least = least_of (written_of xs) in
      let same = same_Some (lower x.w.first least) b is in
      let low = lower_least x.w.first least in
      let upto = all.0.upto in omega (arith, same, low, upto)

  from_base : (f e : ℕ) (xs : List Seen) → base ≤ f → AreSeen E base e xs → base ≤ lower f (least_of (written_of xs))
  from_base f e [] from all = from
  from_base f e (x ∷ xs) from all =
      let rest = from_base x.w.first (end_of x.w) xs all.0.from all.1 in
      let is = lower_min f (lower x.w.first (least_of (written_of xs))) in omega (arith, from, rest, is)

  all_read : SegmentsJoin → (e : ℕ) (xs : List Seen) → AreSeen E base e xs
      → ReadsPrefix (stands (written_of xs)) (total xs) (joined_all (parts_all xs))
  all_read joins e [] all = (0, omega arith, omega arith, refl)
  all_read joins e (x ∷ xs) all =
      let ws = written_of xs in
      let part = part_there x (least_of ws) (got x.read) in
      elim (least_of ws) as (λ o. least_of ws ≡ o → ReadsPrefix (stands_at o x.w (stands ws)) (total_at o x (total xs))
      (joined_at o part (joined_all (parts_all xs)))) [
        | None ↦ λ is. all.0.reads
        | Some b ↦ λ is.
            let upto = bound_upto (end_of x.w) xs b all.1 is in
            joins (b - x.w.first) x.kept (total xs) x.w.payloads (stands ws) (got x.read) (joined_all (parts_all xs))
            (omega (arith, upto)) all.0.reads (all_read joins (end_of x.w) xs all.1)
      ] refl

  reach : (e : ℕ) (x : Seen) (xs : List Seen) → AreSeen E base e (x ∷ xs)
      → (E ≤ lower x.w.first (least_of (written_of xs)) + total (x ∷ xs))
      ⊎ (length (stands (written_of (x ∷ xs))) ≤ total (x ∷ xs))
  reach e x [] all = elim all.0.enough [
    | inl far ↦ inl far
    | inr few ↦ inr (omega (arith, few))
  ]
  reach e x (y ∷ ys) all =
      let f = x.w.first in
      let k = x.kept in
      let later = stands (written_of (y ∷ ys)) in
      let t = total (y ∷ ys) in
      let b = lower y.w.first (least_of (written_of ys)) in
      let c = b - f in
      let upto : b ≤ end_of x.w = bound_upto (end_of x.w) (y ∷ ys) b all.1 refl in
      let low = lower_min f b in
      let high = lower_min (end_of x.w) b in
      let rest = reach (end_of x.w) y ys all.1 in
      elim (synced_cases c k t) [
        | inl few ↦ elim all.0.enough [
          | inl far ↦ inl (omega (arith, far, few.0, few.1, low))
          | inr short ↦ absurd (omega (arith, short, few.0, high, upto))
        ]
        | inr most ↦ elim rest [
          | inl far ↦ inl (omega (arith, far, most.1, low))
          | inr short ↦
              let size = length-append (take c x.w.payloads) later in
              let front = length-take c x.w.payloads in inr (omega (arith, short, most.1, size, front))
        ]
      ]

-- What is read is a front part of what stands in the segments, with all before E, or all.
pub record IsReadOf (E base : ℕ) (ws : List Written) (read : List (List ℕ)) : Type 0 where
  pub synced : ℕ
  pub reads : ReadsPrefix (stands ws) synced read
  pub reach : (E ≤ base + synced) ⊎ (length (stands ws) ≤ synced)

pub read_of : CountedIsJoined → SegmentsJoin → (E e : ℕ) (x : Seen) (xs : List Seen) → AreSeen E x.w.first e (x ∷ xs)
    → IsReadOf E x.w.first (written_of (x ∷ xs)) (counted x.w.first (parts_there (x ∷ xs)))
read_of counts joins E e x xs all =
    let base = x.w.first in
    let least = least_of (written_of xs) in
    let from = from_base E base base (end_of x.w) xs (omega arith) all.1 in
    let low = lower_least base least in
    let lowest : lower base least ≡ base = omega (arith, from, low) in
    let same = same_counted E base e base (x ∷ xs) all ∙ counts (parts_all (x ∷ xs)) base (bounded_all (x ∷ xs))
    (least_all (x ∷ xs) ∙ ap Some lowest) in
    record {
      synced = total (x ∷ xs);
      reads = subst (ReadsPrefix (stands (written_of (x ∷ xs))) (total (x ∷ xs))) (sym same) (all_read E base joins e (x ∷ xs) all);
      reach = subst (λ b. (E ≤ b + total (x ∷ xs)) ⊎ (length (stands (written_of (x ∷ xs))) ≤ total (x ∷ xs))) lowest
          (reach E base e x xs all);
    }
