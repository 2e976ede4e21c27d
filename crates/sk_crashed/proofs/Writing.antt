-- What calls write in segments stands there as the frames of the log.
use Rattle.sk_crashed.proofs.Names.{◌≡◌, ℕ, zero, suc, ◌+◌, ◌-◌, ◌<◌, ◌≤◌, true, false, nat_lt, List, [], ◌∷◌, ◌++◌}
use Rattle.sk_crashed.proofs.Names.{length, map, take, Some, inl, inr, if◌then◌else◌, refl, sym, ap, subst, ◌∙◌, arith}
use Rattle.sk_crashed.proofs.Names.{length-append, ◌⊎◌, unwrap_or, ltb-false, ltb-true, append_assoc, append-nil}
use Rattle.sk_crashed.proofs.Names.{length-map, length-take, map-append, take-map, take-take, take_all, payload}
use Rattle.sk_crashed.proofs.Names.{RecordView, has, lower, Call, Cuts, Sends, Turns, frames_by, frames_from, cut_at}
use Rattle.sk_crashed.proofs.Names.{end_of, least_of, run, turned, with_frame, written_from, Written}
use Rattle.sk_crashed.proofs.Joins.{lower_least, lower_min, stands, stands_at}

pub order : (a b : ℕ) → (b ≤ a) ⊎ (a < b)
order a zero = inl (omega arith)
order zero (suc b) = inr (omega arith)
order (suc a) (suc b) = elim (order a b) [
  | inl le ↦ inl (omega (arith, le))
  | inr lt ↦ inr (omega (arith, lt))
]

-- ---- frames that are told as synced, one after another

pub run_far : (told : List ℕ) (E f n : ℕ) → ((k : ℕ) → f ≤ k → k < E → has k told ≡ true)
    → (E ≤ f + run told f n) ⊎ (n ≤ run told f n)
run_far told E f zero all = inr (omega arith)
run_far told E f (suc n) all = elim (nat_lt f E) as (λ t. nat_lt f E ≡ t
    → (E ≤ f + run told f (suc n)) ⊎ (suc n ≤ run told f (suc n))) [
      | true ↦ λ e.
          let lt = ltb-true f E e in
          subst (λ t. (E ≤ f + (if t then suc (run told (f + 1) n) else 0)) ⊎ (suc n ≤ (if t then suc (run told (f + 1) n) else 0)))
          (sym (all f (omega arith) lt))
          (elim (run_far told E (f + 1) n (λ k from upto. all k (omega (arith, from)) upto)) [
            | inl far ↦ inl (omega (arith, far))
            | inr most ↦ inr (omega (arith, most))
          ])
      | false ↦ λ e. let le = ltb-false f E e in inl (omega (arith, le))
    ] refl

-- ---- front parts of lists

take_both : (n : ℕ) (xs ys : List (List ℕ)) → take n (xs ++ ys) ≡ take n xs ++ take (n - length xs) ys
take_both zero [] ys = refl
take_both (suc n) [] ys = let same : suc n - 0 ≡ suc n = omega arith in ap (λ k. take k ys) (sym same)
take_both zero (x ∷ xs) ys = let none : 0 - suc (length xs) ≡ 0 = omega arith in ap (λ k. take k ys) (sym none)
take_both (suc n) (x ∷ xs) ys =
    let less : n - length xs ≡ suc n - suc (length xs) = omega arith in
    ap (λ zs. x ∷ zs) (take_both n xs ys) ∙ ap (λ k. x ∷ (take n xs ++ take k ys)) less

-- of two parts, up to a number, where the second begins with this one
take_parts : (base b f : ℕ) (xs ys : List (List ℕ)) → base + length xs ≡ f
    → take (b - base) (xs ++ ys) ≡ take (lower f (Some b) - base) xs ++ take (b - f) ys
take_parts base b f xs ys at =
    let is = lower_min f b in
    let second : (b - base) - length xs ≡ b - f = omega (arith, at) in
    let first : take (b - base) xs ≡ take (lower f (Some b) - base) xs =
    elim (nat_lt b f) as (λ t. nat_lt b f ≡ t → take (b - base) xs ≡ take (lower f (Some b) - base) xs) [
      | true ↦ λ e. let lt = ltb-true b f e in
          let same : b ≡ lower f (Some b) = omega (arith, is, lt) in ap (λ n. take (n - base) xs) same
      | false ↦ λ e. let le = ltb-false b f e in
          take_all (b - base) xs (omega (arith, at, le)) ∙ sym (take_all (lower f (Some b) - base) xs (omega (arith, at, le, is)))
    ] refl in
    take_both (b - base) xs ys ∙ (λ i. first i ++ take (second i) ys)

-- ---- the segments that calls write

abbrev pub low : List Written → ℕ
low ws = unwrap_or (least_of ws) 0

pub record IsFirst (w : Written) (ws : List Written) : Type 0 where
  pub first : Written
  pub later : List Written
  pub are : ws ≡ first ∷ later
  pub number : first.first ≡ w.first

pub first_of : (w : Written) (cs : List Call) → IsFirst w (written_from w cs)
first_of w [] = record { first = w; later = []; are = refl; number = refl }
first_of w (Sends sealed records ∷ cs) =
    let rest = first_of (with_frame records w) cs in
    record { first = rest.first; later = rest.later; are = rest.are; number = rest.number }
first_of w (Turns ∷ cs) = record { first = w; later = written_from (turned w) cs; are = refl; number = refl }
first_of w (Cuts cut ∷ cs) = record { first = w; later = written_from (cut_at cut.frame w) cs; are = refl; number = refl }
first_of w (c ∷ cs) = first_of w cs

least_some : (w : Written) (cs : List Call) → least_of (written_from w cs) ≡ Some (low (written_from w cs))
least_some w cs =
    let is = first_of w cs in
    subst (λ ws. least_of ws ≡ Some (low ws)) (sym is.are) refl

low_upto : (w : Written) (cs : List Call) → low (written_from w cs) ≤ w.first
low_upto w cs =
    let is = first_of w cs in
    let number = is.number in
    let least = lower_least is.first.first (least_of is.later) in
    subst (λ ws. low ws ≤ w.first) (sym is.are) (omega (arith, number, least))

-- each cut goes on from a frame of the log, or from the next
abbrev pub IsWithin : ℕ → List (List RecordView) → Call → Type 0
IsWithin nf log (Cuts cut) = (nf ≤ cut.frame) × (cut.frame ≤ nf + length log)
IsWithin nf log other = Unit {0}

abbrev pub AreWithin : ℕ → List (List RecordView) → List Call → Type 0
AreWithin nf log [] = Unit {0}
AreWithin nf log (c ∷ cs) = IsWithin nf log c × AreWithin nf (frames_by nf c log) cs

-- what stands before a segment and in it: what stood at the start, and the frames of the log
pub record Stands (base nf : ℕ) (op pre : List (List ℕ)) (w : Written) (log : List (List RecordView)) : Type 0 where
  pub all : op ++ map payload log ≡ pre ++ w.payloads
  pub before : base + length pre ≡ w.first
  pub opened : base + length op ≡ nf

module _ (base nf : ℕ) (op : List (List ℕ)) where
  -- a segment is left
  on_left : (pre : List (List ℕ)) (w : Written) (ws : List Written) (frames : List (List ℕ)) (l : ℕ)
      → base + length pre ≡ w.first → least_of ws ≡ Some l
      → frames ≡ take (l - base) (pre ++ w.payloads) ++ stands ws
      → frames ≡ take (low (w ∷ ws) - base) pre ++ stands (w ∷ ws)
  on_left pre w ws frames l at least are =
      are ∙ ap (λ xs. xs ++ stands ws) (take_parts base l w.first pre w.payloads at)
      ∙ append_assoc (take (lower w.first (Some l) - base) pre) (take (l - w.first) w.payloads) (stands ws)
      ∙ ap (λ o. take (lower w.first o - base) pre ++ stands_at o w (stands ws)) (sym least)

  with_one : (log : List (List RecordView)) (records : List RecordView)
      → op ++ map payload (log ++ records ∷ []) ≡ (op ++ map payload log) ++ payload records ∷ []
  with_one log records =
      ap (λ ps. op ++ ps) (map-append payload log (records ∷ [])) ∙ sym (append_assoc op (map payload log) (payload records ∷ []))

  cut_frames : (frame : ℕ) (log : List (List RecordView)) → base + length op ≡ nf → nf ≤ frame
      → op ++ map payload (take (frame - nf) log) ≡ take (frame - base) (op ++ map payload log)
  cut_frames frame log opened from =
      let rest : (frame - base) - length op ≡ frame - nf = omega (arith, opened) in
      let all = take_all (frame - base) op (omega (arith, opened, from)) in
      sym (take_both (frame - base) op (map payload log) ∙ (λ i. all i ++ take (rest i) (map payload log))
      ∙ ap (λ ps. op ++ ps) (take-map payload (frame - nf) log))

  pub stands_are : (cs : List Call) (pre : List (List ℕ)) (w : Written) (log : List (List RecordView))
      → AreWithin nf log cs → Stands base nf op pre w log
      → op ++ map payload (frames_from nf log cs)
      ≡ take (low (written_from w cs) - base) pre ++ stands (written_from w cs)
  stands_are [] pre w log within so =
      let at = so.before in
      so.all ∙ ap (λ ps. ps ++ w.payloads) (sym (take_all (w.first - base) pre (omega (arith, at))))
  stands_are (Sends sealed records ∷ cs) pre w log within so =
      stands_are cs pre (with_frame records w) (log ++ records ∷ []) within.1 (record {
        all = with_one log records ∙ ap (λ ps. ps ++ payload records ∷ []) so.all ∙ append_assoc pre w.payloads (payload records ∷ []);
        before = so.before;
        opened = so.opened;
      })
  stands_are (Turns ∷ cs) pre w log within so =
      let at = so.before in
      let size = length-append pre w.payloads in
      on_left pre w (written_from (turned w) cs) (op ++ map payload (frames_from nf log cs))
      (low (written_from (turned w) cs)) so.before (least_some (turned w) cs)
      (stands_are cs (pre ++ w.payloads) (turned w) log within.1 (record {
        all = so.all ∙ sym (append-nil (pre ++ w.payloads));
        before = omega (arith, at, size);
        opened = so.opened;
      }))
  stands_are (Cuts cut ∷ cs) pre w log within so =
      let c = cut.frame in
      let next = cut_at c w in
      let ws = written_from next cs in
      let whole = op ++ map payload log in
      let at = so.before in
      let opened = so.opened in
      let from = within.0.0 in
      let upto = within.0.1 in
      let sized = length-append op (map payload log) in
      let mapped = length-map log payload in
      let cut_size = length-take (c - base) whole in
      on_left pre w ws (op ++ map payload (frames_from nf (take (c - nf) log ++ [] ∷ []) cs)) (low ws) so.before (least_some next cs)
      (stands_are cs (take (c - base) whole) next (take (c - nf) log ++ [] ∷ []) within.1 (record {
        all = with_one (take (c - nf) log) [] ∙ ap (λ ps. ps ++ payload [] ∷ []) (cut_frames c log so.opened within.0.0);
        before = omega (arith, opened, from, upto, sized, mapped, cut_size);
        opened = so.opened;
      })
      ∙ ap (λ ps. ps ++ stands ws) (take-take (low ws - base) (c - base) whole (let least = low_upto next cs in omega (arith, least))
      ∙ ap (take (low ws - base)) so.all))
  stands_are (c ∷ cs) pre w log within so = stands_are cs pre w log within.1 so

-- ---- each segment goes on from one before

pub record Follows (base nf e : ℕ) (w : Written) : Type 0 where
  pub upto : w.first ≤ e
  pub from : base ≤ w.first
  pub turned : w.head ≡ 0 → w.first ≡ e
  pub above : nf ≤ w.first + w.head

abbrev pub AreFollowing : ℕ → ℕ → ℕ → List Written → Type 0
AreFollowing base nf e [] = Unit {0}
AreFollowing base nf e (w ∷ ws) = Follows base nf e w × AreFollowing base nf (end_of w) ws

module _ (base nf : ℕ) (small : base ≤ nf) where
  pub are_following : (cs : List Call) (e : ℕ) (w : Written) (log : List (List RecordView)) → AreWithin nf log cs
      → Follows base nf e w → end_of w ≡ nf + length log → AreFollowing base nf e (written_from w cs)
  are_following [] e w log within so at = (so, tt)
  are_following (Sends sealed records ∷ cs) e w log within so at =
      let one = length-append w.payloads (payload records ∷ []) in
      let more = length-append log (records ∷ []) in
      are_following cs e (with_frame records w) (log ++ records ∷ []) within.1
      (record { upto = so.upto; from = so.from; turned = so.turned; above = so.above }) (omega (arith, at, one, more))
  are_following (Turns ∷ cs) e w log within so at = (
    so,
    are_following cs (end_of w) (turned w) log within.1 (record {
      upto = omega arith;
      from = omega (arith, at, small);
      turned = λ _. refl;
      above = omega (arith, at);
    }) (omega (arith, at)),
  )
  are_following (Cuts cut ∷ cs) e w log within so at =
      let from = within.0.0 in
      let upto = within.0.1 in
      let size = length-append (take (cut.frame - nf) log) ([] ∷ []) in
      let front = length-take (cut.frame - nf) log in (
        so,
        are_following cs (end_of w) (cut_at cut.frame w) (take (cut.frame - nf) log ++ [] ∷ []) within.1 (record {
          upto = omega (arith, at, upto);
          from = omega (arith, small, from);
          turned = λ none. cc;
          above = omega (arith, from);
        }) (omega (arith, from, upto, size, front)),
      )
  are_following (c ∷ cs) e w log within so at = are_following cs e w log within.1 so at
