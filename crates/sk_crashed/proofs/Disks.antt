-- What is found on a disk after a crash.
use Rattle.sk_crashed.proofs.Names.{◌≡◌, ◌==◌, ℕ, zero, suc, ◌+◌, ◌-◌, ◌<◌, ◌≤◌, Bool, true, false, List, [], ◌∷◌, ◌++◌}
use Rattle.sk_crashed.proofs.Names.{length, map, take, Option, Some, None, inl, inr, if◌then◌else◌, refl, sym, ap}
use Rattle.sk_crashed.proofs.Names.{subst, ◌∙◌, arith, ◌⊎◌, true≢false, eq-eqb, append-nil, length-map, map-append}
use Rattle.sk_crashed.proofs.Names.{take-map, segments_join, Cut, cut_due, payload, RecordView, has, Entries, SayAll}
use Rattle.sk_crashed.proofs.Names.{Damage, IsMade, counted, least, lower, AreRead, Part, counted_joined, Limits, Next}
use Rattle.sk_crashed.proofs.Names.{Call, frames, frames_from, synced, AreSynced, HasDone, IsRecovered, StoreView}
use Rattle.sk_crashed.proofs.Names.{crashes_are_recovered, frames_are_logged, AreLeft, IsLeft, DisksAreRecovered}
use Rattle.sk_crashed.proofs.Names.{IsFront, begun, end_of, written_from, Written}
use Rattle.sk_crashed.proofs.Done.{all_untold, all_within, are_synced, due_within, few_synced}
use Rattle.sk_crashed.proofs.Names.{length-append, length-take-le, told_none, Found, IsFound, IsLeftOf}
use Rattle.sk_crashed.proofs.Joins.{lower_least, parts_there, read_of, stands, take_none, written_of, AreSeen, IsReadOf}
use Rattle.sk_crashed.proofs.Joins.{Seen}
use Rattle.sk_crashed.proofs.Said.{all_said, behind_front, both_logged, cut_said, front_logged, none_logged, of_works, undamaged, AllLogged, AreSaid, IsBehind, Reaches}
use Rattle.sk_crashed.proofs.Scanned.{above_base, build, bytes_of, cut_in, disk_of, due_frame, heads_of, last_of}
use Rattle.sk_crashed.proofs.Scanned.{scanned, tried_from, AreTold, Built, Scan}
use Rattle.sk_crashed.proofs.Tried.{cuts_of, end_now, frames_both, frames_cuts, last_now, push_cuts, within_both, within_cuts}
use Rattle.sk_crashed.proofs.Untold.{due_untold}
use Rattle.sk_crashed.proofs.Writing.{are_following, first_of, low, order, stands_are, AreFollowing, AreWithin}

abbrev pub no_records : List (List RecordView)
no_records = []

-- ---- where a store begins

pub record IsBegun (nf : ℕ) (w : Written) : Type 0 where
  pub at : end_of w ≡ nf
  pub op : (w.payloads ≡ []) ⊎ (w.payloads ≡ [] ∷ [])
  pub above : nf ≤ w.first + w.head

begun_at : (t : Bool) (next : Next) → (t ≡ false → 0 < next.frame) → IsBegun next.frame
    (if t then record { segment = next.segment; first = next.frame; head = 0; payloads = [] }
    else record { segment = next.segment; first = next.frame - 1; head = 1; payloads = [] ∷ [] })
begun_at true next numbered = record { at = omega arith; op = inl refl; above = omega arith }
begun_at false next numbered =
    let some = numbered refl in record { at = omega (arith, some); op = inr refl; above = omega (arith, some) }

pub is_begun : (next : Next) → IsFront next → IsBegun next.frame (begun next)
is_begun next (inl at) = begun_at (next.offset == 0) next (λ no. absurd (true≢false (sym (eq-eqb next.offset 0 at) ∙ no)))
is_begun next (inr behind) = begun_at (next.offset == 0) next (λ _. behind.1)

-- ---- what is read of them all

abbrev first_written : Written → List Written → Written
first_written w [] = w
first_written w (v ∷ vs) = v

read_from : (E base e : ℕ) (v : Written) (vs : List Written) (xs : List Seen) → written_of xs ≡ v ∷ vs → v.first ≡ base
    → AreSeen E base e xs → IsReadOf E base (written_of xs) (counted base (parts_there xs))
read_from E base e v vs [] are first seen = absurd (omega (arith, ap length are))
read_from E base e v vs (x ∷ xs) are first seen =
    let same : x.w.first ≡ base = ap (λ ws. (first_written v ws).first) are ∙ first in
    subst (λ n. IsReadOf E n (written_of (x ∷ xs)) (counted n (parts_there (x ∷ xs)))) same
    (read_of counted_joined segments_join E e x xs (subst (λ n. AreSeen E n e (x ∷ xs)) (sym same) seen))

module _ (limits : Limits) (next : Next) (start : Entries) (cs : List Call) (s : StoreView)
    (done : HasDone limits next start cs s) (front : IsFront next) (count : ℕ) (first_synced : AreSynced next.frame count cs)
    (scans : List Scan) (told : AreTold scans) (left : IsLeft next cs s (disk_of scans)) where
  abbrev w : Written
  w = begun next

  abbrev base : ℕ
  base = w.first

  abbrev nf : ℕ
  nf = next.frame

  abbrev op : List (List ℕ)
  op = w.payloads

  abbrev due : Option Cut
  due = cut_due s.batched.queue

  abbrev log : List (List RecordView)
  log = frames nf cs

  abbrev ends : ℕ
  ends = nf + count

  abbrev nothing : Written
  nothing = record { segment = 0; first = base; head = 0; payloads = [] }

  begins : IsBegun nf w
  begins = is_begun next front

  within : AreWithin nf [] cs
  within = all_within limits next start cs s done

  low_base : base ≤ nf
  low_base = let at = begins.at in omega (arith, at)

  all_told : (n : ℕ) → nf ≤ n → n < ends → has n (synced cs) ≡ true
  all_told n from upto =
      let at : nf + (n - nf) ≡ n = omega (arith, from) in
      subst (λ k. has k (synced cs) ≡ true) at (first_synced.those (n - nf) (omega (arith, from, upto)))

  -- the cut that is due is behind all that is synced
  fits : (cut : Cut) → due ≡ Some cut → (base ≤ cut.frame) × (ends ≤ cut.frame)
  fits cut is =
      let from = (due_within limits next start cs s done cut is).0 in
      let none = due_untold s.batched.queue (synced cs) cut (all_untold limits next start cs s done) is in
      let far : ends ≤ cut.frame = elim (order cut.frame ends) [
        | inl le ↦ le
        | inr lt ↦ absurd (true≢false (sym (all_told cut.frame from lt) ∙ none))
      ] in (omega (arith, low_base, from), far)

  -- ---- the segments, with what was read of them

  abbrev ws : List Written
  ws = written_from w cs

  end_at : end_of w ≡ nf + length no_records
  end_at = let at = begins.at in omega (arith, at)

  follows : AreFollowing base nf (end_of nothing) ws
  follows =
      let above = begins.above in
      are_following base nf low_base cs (end_of nothing) w [] within
      (record { upto = omega arith; from = omega arith; turned = λ _. omega arith; above = omega (arith, above) }) end_at

  upto : (cut : Cut) → due ≡ Some cut → cut.frame ≤ end_of (last_of nothing ws)
  upto cut is =
      let before = (due_within limits next start cs s done cut is).1 in
      let at = end_now nf cs w [] within end_at in
      subst (λ v. cut.frame ≤ end_of v) (sym (last_now nothing w cs)) (omega (arith, before, at))

  -- no head is before the first
  pub heads_from : lower base (least (heads_of scans)) ≡ base
  heads_from =
      let from = above_base ends base nf (synced cs) due all_told fits ws scans nothing follows left told base (omega arith) in
      let upto = lower_least base (least (heads_of scans)) in omega (arith, from, upto)

  module _ (parts : List Part) (store : Entries) (damage : Option Damage)
      (read : AreRead (heads_of scans) (bytes_of scans) parts) (made_so : IsMade base start (counted base parts) store damage) where
    built : Built ends base nf (synced cs) due all_told fits nothing ws scans parts
    built = build ends base nf (synced cs) due all_told fits ws scans parts nothing follows upto
        left told read

    abbrev cut : Cut
    cut = cut_in due

    abbrev tries : List Call
    tries = cuts_of cut built.tries

    are : written_of built.xs ≡ written_from w (cs ++ tries)
    are = built.are ∙ ap (λ v. ws ++ tried_from cut.frame v built.tries) (last_now nothing w cs) ∙ sym (push_cuts cut built.tries w cs)

    read_all : IsReadOf ends base (written_of built.xs) (counted base (parts_there built.xs))
    read_all =
        let first = first_of w (cs ++ tries) in
        read_from ends base (end_of nothing) first.first first.later built.xs (are ∙ first.are) first.number built.seen

    -- ---- what stands in them

    abbrev texts : List (List ℕ)
    texts = map payload log

    abbrev all_texts : List (List ℕ)
    all_texts = map payload (frames_from nf [] (cs ++ tries))

    due_at : (n : ℕ) → (0 < n → (c : Cut) × (due ≡ Some c)) → 0 < n → (nf ≤ cut.frame) × (cut.frame ≤ nf + length log) × (ends ≤ cut.frame)
    due_at n some more =
        let found = some more in
        let within = due_within limits next start cs s done found.0 found.1 in
        let from = within.0 in
        let before = within.1 in
        let far = (fits found.0 found.1).1 in
        let same : cut.frame ≡ found.0.frame = ap due_frame found.1 in
        (omega (arith, same, from), omega (arith, same, before), omega (arith, same, far))

    tries_within : (n : ℕ) → (0 < n → (c : Cut) × (due ≡ Some c)) → AreWithin nf log (cuts_of cut n)
    tries_within zero some = tt
    tries_within (suc n) some = let at = due_at (suc n) some (omega arith) in within_cuts nf cut at.0 (suc n) log at.1

    stand : stands (written_of built.xs) ≡ op ++ all_texts
    stand =
        let at = begins.at in
        ap stands are
        ∙ sym (stands_are base nf op (cs ++ tries) [] w [] (within_both nf cs tries [] within (tries_within built.tries built.some)) (record {
          all = append-nil op;
          before = omega arith;
          opened = omega (arith, at);
        })
        ∙ ap (λ ps. ps ++ stands (written_from w (cs ++ tries))) (take_none (low (written_from w (cs ++ tries)) - base)))

    -- the frames of the log; or those before a cut that is tried, and its head
    abbrev IsCut : List (List ℕ) → Type 0
    IsCut ps = (d : ℕ) × (d ≤ length texts) × (count ≤ d) × (ps ≡ take d texts ++ [] ∷ [])

    shape : (n : ℕ) → (0 < n → (c : Cut) × (due ≡ Some c))
        → (map payload (frames_from nf [] (cs ++ cuts_of cut n)) ≡ texts) ⊎ IsCut (map payload (frames_from nf [] (cs ++ cuts_of cut n)))
    shape zero some = inl (ap (map payload) (frames_both nf cs [] []))
    shape (suc n) some =
        let at = due_at (suc n) some (omega arith) in
        let d = cut.frame - nf in
        let size = length-map log payload in
        let upto = at.1 in
        let far = at.2 in
        inr (
          d,
          omega (arith, size, upto),
          omega (arith, far),
          ap (map payload) (frames_both nf cs (cuts_of cut (suc n)) [] ∙ frames_cuts nf cut at.0 n log at.1)
              ∙ map-append payload (take d log) ([] ∷ []) ∙ ap (λ ps. ps ++ [] ∷ []) (sym (take-map payload d log)),
        )

    shaped : (all_texts ≡ texts) ⊎ IsCut all_texts
    shaped = shape built.tries built.some

    texts_logged : AllLogged texts
    texts_logged =
        let works = frames_are_logged limits next start cs s done in
        subst AllLogged (sym works.1) (of_works works.0 works.2)

    all_logged : AllLogged all_texts
    all_logged = elim shaped [
      | inl is ↦ subst AllLogged (sym is) texts_logged
      | inr cut ↦ subst AllLogged (sym cut.3) (both_logged (take cut.0 texts) ([] ∷ []) (front_logged cut.0 texts texts_logged) (none_logged, tt))
    ]

    op_logged : AllLogged op
    op_logged = elim begins.op [
      | inl none ↦ subst AllLogged (sym none) tt
      | inr one ↦ subst AllLogged (sym one) (none_logged, tt)
    ]

    -- ---- what is found

    counts : counted base parts ≡ take read_all.reads.0 (op ++ all_texts)
    counts = ap (counted base) built.parts_are ∙ read_all.reads.3 ∙ ap (take read_all.reads.0) stand

    none_damaged : damage ≡ None
    none_damaged = undamaged base start store (counted base parts) damage
        (subst AllLogged (sym counts) (front_logged read_all.reads.0 (op ++ all_texts) (both_logged op all_texts op_logged all_logged)))
        made_so

    made : IsMade base start (counted base parts) store None
    made = subst (IsMade base start (counted base parts) store) none_damaged made_so

    say : SayAll (take read_all.reads.0 (op ++ all_texts)) made.works
    say = subst (λ ps. SayAll ps made.works)
        (sym (made.all ∙ ap (λ ps. made.taken ++ ps) made.left_is ∙ append-nil made.taken) ∙ counts) made.say

    behind : IsBehind count all_texts made.works
    behind =
        let at = begins.at in
        behind_front op begins.op count read_all.reads.0 read_all.synced all_texts made.works read_all.reads.1 (elim read_all.reach [
          | inl far ↦ inl (omega (arith, at, far))
          | inr all ↦ inr (subst (λ ps. length ps ≤ read_all.synced) stand all)
        ]) say

    said : AreSaid count texts made.works
    said = elim shaped [
      | inl is ↦ all_said count behind.n texts made.works (subst (Reaches count behind.n) is behind.reach)
          (subst (λ ps. SayAll (take behind.n ps) made.works) is behind.say)
      | inr cut ↦ cut_said count behind.n cut.0 texts made.works cut.1 cut.2 (subst (Reaches count behind.n) cut.3 behind.reach)
          (subst (λ ps. SayAll (take behind.n ps) made.works) cut.3 behind.say)
    ]

    -- all that was told as synced counts
    pub far : ends ≤ base + length (counted base parts)
    far =
        let n = read_all.reads.0 in
        let at = begins.at in
        let many = ap length stand in
        let both = length-append op all_texts in
        let upto : n ≤ length (op ++ all_texts) = omega (arith, many, read_all.reads.2) in
        let size = length-take-le n (op ++ all_texts) upto in
        let few = few_synced limits next start cs s count done first_synced in
        let texts_size = length-map log payload in
        let logged : count ≤ length all_texts = elim shaped [
          | inl is ↦ omega (arith, ap length is, few, texts_size)
          | inr cut ↦ omega (arith, ap length cut.3, cut.1, cut.2, length-append (take cut.0 texts) ([] ∷ []), length-take-le cut.0 texts cut.1)
        ] in
        elim read_all.reach [
          | inl reach ↦ omega (arith, reach, read_all.reads.1, ap length counts, size)
          | inr all ↦ omega (arith, all, many, read_all.reads.1, ap length counts, size, both, at, logged)
        ]

    pub recovered : (damage ≡ None) × IsRecovered start cs s store
    recovered = (
      none_damaged,
      subst (IsRecovered start cs s) (sym made.store_is)
          (crashes_are_recovered limits next start cs s done count said.n made.works first_synced said.enough said.say),
    )

-- what was taken is all that counts
pub all_taken : (first : ℕ) (base store : Entries) (ps : List (List ℕ)) (damage : Option Damage) (made : IsMade first base ps store damage)
    → damage ≡ None → made.taken ≡ ps
all_taken first base store ps None made none = sym (made.all ∙ ap (λ xs. made.taken ++ xs) made.left_is ∙ append-nil made.taken)
all_taken first base store ps (Some damage) made none = cc

pub disks_are_recovered : DisksAreRecovered
disks_are_recovered limits next start cs s done front disk heads bytes left found is_left added is_found =
    let first = are_synced limits next start cs s done in
    let scan = scanned [] disk heads bytes added in
    let left_of = subst (AreLeft (synced cs) (cut_due s.batched.queue) (written_from (begun next) cs)) (sym scan.disk) is_left in
    let read = subst (λ hs. AreRead hs (bytes_of scan.scans) is_found.parts) scan.heads_are
    (subst (λ bs. AreRead heads bs is_found.parts) scan.bytes_are is_found.read) in
    let all = recovered limits next start cs s done front first.0 first.1 scan.scans scan.told left_of
    is_found.parts found.store found.damage read is_found.made in
    let taken = all_taken (begun next).first start found.store (counted (begun next).first is_found.parts) found.damage is_found.made all.0 in
    record {
      undamaged = all.0;
      untold = λ count those in_flight known.
          let reaches = far limits next start cs s done front count those scan.scans scan.told left_of
          is_found.parts found.store found.damage read is_found.made in
          told_none (next.frame + count) in_flight known found all.0 (omega (arith, reaches, is_found.number, ap length taken));
      recovered = all.1;
    }
