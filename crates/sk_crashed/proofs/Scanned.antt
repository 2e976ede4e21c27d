-- What is read of the segments of a disk is a front part of what was written in each.
use Rattle.sk_crashed.proofs.Names.{none-some, ◌≡◌, ℕ, zero, suc, ◌+◌, ◌-◌, ◌<◌, ◌≤◌, true, false, List, [], ◌∷◌, ◌++◌}
use Rattle.sk_crashed.proofs.Names.{map, Option, Some, None, inl, inr, refl, sym, ap, subst, ◌∙◌, arith, ◌⊎◌}
use Rattle.sk_crashed.proofs.Names.{append_assoc, append-nil, Crashed, BeginsAs, IsLog, crash_keeps_prefix, has, Cut}
use Rattle.sk_crashed.proofs.Names.{Head, least, lower, AreRead, Part, TellsFirst, AreAdded, AreLeft, AreTried, Stored}
use Rattle.sk_crashed.proofs.Names.{cut_at, end_of, least_of, live, synced_in, Written}
use Rattle.sk_crashed.proofs.Joins.{least_there, lower_least, lower_min, part_there, parts_there, written_of, AreSeen, Seen}
use Rattle.sk_crashed.proofs.Writing.{run_far, AreFollowing}

-- ---- the heads of a disk

-- a segment, and the number that its head told
abbrev pub Scan : Type 0
Scan = Stored × Option ℕ

abbrev pub heads_of : List Scan → List Head
heads_of [] = []
heads_of ((d, None) ∷ scans) = heads_of scans
heads_of ((d, Some first) ∷ scans) = record { segment = d.segment; first = first } ∷ heads_of scans

abbrev pub bytes_of : List Scan → List (List ℕ)
bytes_of [] = []
bytes_of ((d, None) ∷ scans) = bytes_of scans
bytes_of ((d, Some first) ∷ scans) = d.bytes ∷ bytes_of scans

abbrev pub disk_of : List Scan → List Stored
disk_of scans = map (λ p. p.0) scans

abbrev pub IsTold : Scan → Type 0
IsTold p = (front : List ℕ) × BeginsAs p.0.bytes front × TellsFirst p.0.segment front p.1

abbrev pub AreTold : List Scan → Type 0
AreTold [] = Unit {0}
AreTold (p ∷ scans) = IsTold p × AreTold scans

pub record Scanned (old : List Head) (ds : List Stored) (heads : List Head) (bytes : List (List ℕ)) : Type 0 where
  pub scans : List Scan
  pub disk : disk_of scans ≡ ds
  pub heads_are : heads ≡ old ++ heads_of scans
  pub bytes_are : bytes ≡ bytes_of scans
  pub told : AreTold scans

pub scanned : (old : List Head) (ds : List Stored) (heads : List Head) (bytes : List (List ℕ)) → AreAdded old ds heads bytes
    → Scanned old ds heads bytes
scanned old [] heads bytes is = record {
  scans = [];
  disk = refl;
  heads_are = is.0 ∙ sym (append-nil old);
  bytes_are = is.1;
  told = tt;
}
scanned old (d ∷ ds) heads bytes (front, true, mid, later, begins, (first, says, tells, new), are, more) =
    let rest = scanned mid ds heads later more in
    let head : Head = record { segment = d.segment; first = first } in
    record {
      scans = (d, Some first) ∷ rest.scans;
      disk = ap (λ es. d ∷ es) rest.disk;
      heads_are = rest.heads_are ∙ ap (λ hs. hs ++ heads_of rest.scans) new
          ∙ append_assoc old (head ∷ []) (heads_of rest.scans);
      bytes_are = are ∙ ap (λ bs. d.bytes ∷ bs) rest.bytes_are;
      told = ((front, begins, tells), rest.told);
    }
scanned old (d ∷ ds) heads bytes (front, false, mid, later, begins, (same, tells, ends), are, more) =
    let rest = scanned mid ds heads later more in
    record {
      scans = (d, None) ∷ rest.scans;
      disk = ap (λ es. d ∷ es) rest.disk;
      heads_are = rest.heads_are ∙ ap (λ hs. hs ++ heads_of rest.scans) same;
      bytes_are = are ∙ rest.bytes_are;
      told = ((front, begins, tells), rest.told);
    }

-- ---- the last segment, and those in which a cut is tried

abbrev pub last_of : Written → List Written → Written
last_of prev [] = prev
last_of prev (w ∷ ws) = last_of w ws

-- as if the cut was made so often
abbrev pub tried_from : ℕ → Written → ℕ → List Written
tried_from k prev zero = []
tried_from k prev (suc n) = cut_at k prev ∷ tried_from k (cut_at k prev) n

abbrev pub cut_in : Option Cut → Cut
cut_in None = record { frame = 0; first = 0; last = 0 }
cut_in (Some cut) = cut

abbrev pub due_frame : Option Cut → ℕ
due_frame due = (cut_in due).frame

-- ---- small lemmas

none_kept : (kept f : ℕ) → (0 < kept → None ≡ Some f) → kept ≡ 0
none_kept zero f all = refl
none_kept (suc n) f all = absurd (none-some f (all (omega arith)))

some_none : (ps : List (List ℕ)) {P : Type 0} → Some ps ≡ None → P
some_none ps e = cc

least_less : (e : ℕ) (ws more : List Written) → lower e (least_of (ws ++ more)) ≤ lower e (least_of ws)
least_less e [] more = lower_least e (least_of more)
least_less e (w ∷ ws) more =
    let rest = least_less w.first ws more in
    let one = lower_min e (lower w.first (least_of (ws ++ more))) in
    let two = lower_min e (lower w.first (least_of ws)) in omega (arith, rest, one, two)

module _ (E base nf : ℕ) (told : List ℕ) (due : Option Cut) (all_told : (n : ℕ) → nf ≤ n → n < E → has n told ≡ true)
    (fits : (cut : Cut) → due ≡ Some cut → (base ≤ cut.frame) × (E ≤ cut.frame)) where
  abbrev k : ℕ
  k = due_frame due

  -- no head is before the first
  pub above_base : (ws : List Written) (scans : List Scan) (prev : Written) → AreFollowing base nf (end_of prev) ws
      → AreLeft told due ws (disk_of scans) → AreTold scans → (n : ℕ) → base ≤ n → base ≤ lower n (least (heads_of scans))
  above_base [] [] prev follow left are n from = from
  above_base [] ((d, None) ∷ scans) prev follow (cut, is, crashed, more) are n from = above_base [] scans prev follow more are.1 n from
  above_base [] ((d, Some f) ∷ scans) prev follow (cut, is, crashed, more) are n from =
      let tells = (are.0.2 cut.frame 0 ([] ∷ []) d.bytes are.0.1 crashed).0 in
      let low = (fits cut is).0 in
      let rest = above_base [] scans prev follow more are.1 f (omega (arith, tells, low)) in
      let least_is = lower_min n (lower f (least (heads_of scans))) in omega (arith, from, rest, least_is)
  above_base (w ∷ ws) [] prev follow left are n from = absurd left
  above_base (w ∷ ws) ((d, None) ∷ scans) prev follow left are n from = above_base ws scans w follow.1 left.2 are.1 n from
  above_base (w ∷ ws) ((d, Some f) ∷ scans) prev follow left are n from =
      let kept = synced_in told w ws in
      let crashed = subst (λ n. Crashed n w.first w.payloads kept d.bytes) (sym left.0) left.1 in
      let tells = (are.0.2 w.first kept w.payloads d.bytes are.0.1 crashed).0 in
      let low = follow.0.from in
      let rest = above_base ws scans w follow.1 left.2 are.1 f (omega (arith, tells, low)) in
      let least_is = lower_min n (lower f (least (heads_of scans))) in omega (arith, from, rest, least_is)

  -- the segments behind one, with what was read of them
  pub record Built (prev : Written) (ws : List Written) (scans : List Scan) (parts : List Part) : Type 0 where
    pub xs : List Seen
    pub tries : ℕ
    pub are : written_of xs ≡ ws ++ tried_from (due_frame due) (last_of prev ws) tries
    pub some : 0 < tries → (cut : Cut) × (due ≡ Some cut)
    pub parts_are : parts ≡ parts_there xs
    pub least_is : least_there xs ≡ least (heads_of scans)
    pub seen : AreSeen E base (end_of prev) xs

  one_part : (x : Seen) (p : Part) (bound : Option ℕ) → p.first ≡ x.w.first → p.bound ≡ bound → p ≡ part_there x bound p.payloads
  one_part x p bound first at = λ i. record { first = first i; bound = at i; payloads = p.payloads }

  build_tries : (scans : List Scan) (parts : List Part) (prev : Written) → ((cut : Cut) → due ≡ Some cut → cut.frame ≤ end_of prev)
      → AreTried due (disk_of scans) → AreTold scans → AreRead (heads_of scans) (bytes_of scans) parts → Built prev [] scans parts
  build_tries [] [] prev upto tried are read =
      record { xs = []; tries = 0; are = refl; some = λ wrong. absurd (omega (arith, wrong)); parts_are = refl; least_is = refl; seen = tt }
  build_tries [] (p ∷ parts) prev upto tried are read = absurd read
  build_tries ((d, None) ∷ scans) parts prev upto (cut, is, crashed, more) are read =
      let rest = build_tries scans parts prev upto more are.1 read in
      record { xs = rest.xs; tries = rest.tries; are = rest.are; some = rest.some; parts_are = rest.parts_are; least_is = rest.least_is; seen = rest.seen }
  build_tries ((d, Some f) ∷ scans) [] prev upto (cut, is, crashed, more) are read = absurd read
  build_tries ((d, Some f) ∷ scans) (p ∷ parts) prev upto (cut, is, crashed, more) are read =
      let w = cut_at k prev in
      let at : cut.frame ≡ k = ap due_frame (sym is) in
      let tells = (are.0.2 cut.frame 0 ([] ∷ []) d.bytes are.0.1 crashed).0 in
      let reads = crash_keeps_prefix d.segment cut.frame 0 ([] ∷ []) p.payloads d.bytes crashed
      (subst (λ n. IsLog d.segment n p.payloads d.bytes) tells read.0.log) in
      let x : Seen = record { w = w; kept = 0; read = Some p.payloads } in
      let fit = fits cut is in
      let from = fit.0 in
      let far = fit.1 in
      let high = upto cut is in
      let rest = build_tries scans parts w
      (λ other same. let also : other.frame ≡ k = ap due_frame (sym same) in omega (arith, also)) more are.1 read.1 in
      record {
        xs = x ∷ rest.xs;
        tries = suc rest.tries;
        are = ap (λ ws. w ∷ ws) rest.are;
        some = λ _. (cut, is);
        parts_are = λ i. one_part x p (least_there rest.xs) (read.0.first ∙ tells ∙ at) (read.0.bound ∙ sym rest.least_is) i
            ∷ rest.parts_are i;
        least_is = λ i. Some (lower ((sym at ∙ sym tells) i) (rest.least_is i));
        seen = (
          record {
            reads = reads;
            upto = omega (arith, at, high);
            from = omega (arith, at, from);
            gone = λ none. some_none p.payloads none;
            enough = inl (omega (arith, at, far));
          },
          rest.seen,
        );
      }

  own_enough : (w : Written) (ws more : List Written) → nf ≤ w.first + w.head
      → (E ≤ w.first + synced_in told w ws) ⊎ (live w (ws ++ more) ≤ synced_in told w ws)
  own_enough w ws more above =
      let less = least_less (end_of w) ws more in
      elim (run_far told E (w.first + w.head) (live w ws - w.head) (λ n from upto. all_told n (omega (arith, above, from)) upto)) [
        | inl far ↦ inl (omega (arith, far))
        | inr most ↦ inr (omega (arith, most, less))
      ]

  pub build : (ws : List Written) (scans : List Scan) (parts : List Part) (prev : Written)
      → AreFollowing base nf (end_of prev) ws → ((cut : Cut) → due ≡ Some cut → cut.frame ≤ end_of (last_of prev ws))
      → AreLeft told due ws (disk_of scans) → AreTold scans → AreRead (heads_of scans) (bytes_of scans) parts
      → Built prev ws scans parts
  build [] scans parts prev follow upto left are read = build_tries scans parts prev upto left are read
  build (w ∷ ws) [] parts prev follow upto left are read = absurd left
  build (w ∷ ws) ((d, None) ∷ scans) parts prev follow upto left are read =
      let kept = synced_in told w ws in
      let crashed = subst (λ n. Crashed n w.first w.payloads kept d.bytes) (sym left.0) left.1 in
      let none = none_kept kept w.first (are.0.2 w.first kept w.payloads d.bytes are.0.1 crashed).1 in
      let x : Seen = record { w = w; kept = kept; read = None } in
      let rest = build ws scans parts w follow.1 upto left.2 are.1 read in
      record {
        xs = x ∷ rest.xs;
        tries = rest.tries;
        are = ap (λ vs. w ∷ vs) rest.are;
        some = rest.some;
        parts_are = rest.parts_are;
        least_is = rest.least_is;
        seen = (
          record {
            reads = (0, omega (arith, none), omega arith, refl);
            upto = follow.0.upto;
            from = follow.0.from;
            gone = λ _. follow.0.turned (omega (arith, none));
            enough = subst (λ vs. (E ≤ w.first + kept) ⊎ (live w vs ≤ kept)) (sym rest.are)
                (own_enough w ws (tried_from k (last_of w ws) rest.tries) follow.0.above);
          },
          rest.seen,
        );
      }
  build (w ∷ ws) ((d, Some f) ∷ scans) [] prev follow upto left are read = absurd read
  build (w ∷ ws) ((d, Some f) ∷ scans) (p ∷ parts) prev follow upto left are read =
      let kept = synced_in told w ws in
      let crashed = subst (λ n. Crashed n w.first w.payloads kept d.bytes) (sym left.0) left.1 in
      let tells = (are.0.2 w.first kept w.payloads d.bytes are.0.1 crashed).0 in
      let reads = crash_keeps_prefix d.segment w.first kept w.payloads p.payloads d.bytes crashed
      (subst (λ n. IsLog d.segment n p.payloads d.bytes) tells read.0.log) in
      let x : Seen = record { w = w; kept = kept; read = Some p.payloads } in
      let rest = build ws scans parts w follow.1 upto left.2 are.1 read.1 in
      record {
        xs = x ∷ rest.xs;
        tries = rest.tries;
        are = ap (λ vs. w ∷ vs) rest.are;
        some = rest.some;
        parts_are = λ i. one_part x p (least_there rest.xs) (read.0.first ∙ tells) (read.0.bound ∙ sym rest.least_is) i
            ∷ rest.parts_are i;
        least_is = λ i. Some (lower (sym tells i) (rest.least_is i));
        seen = (
          record {
            reads = reads;
            upto = follow.0.upto;
            from = follow.0.from;
            gone = λ none. some_none p.payloads none;
            enough = subst (λ vs. (E ≤ w.first + kept) ⊎ (live w vs ≤ kept)) (sym rest.are)
                (own_enough w ws (tried_from k (last_of w ws) rest.tries) follow.0.above);
          },
          rest.seen,
        );
      }
