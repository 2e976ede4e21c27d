-- What is found of a snapshot and the later segments is what is found of all.
use Rattle.sk_crashed.proofs.Names.{◌≡◌, ℕ, ◌+◌, List, [], ◌∷◌, ◌++◌, length, Option, Some, None, inl, inr, refl, sym, ap}
use Rattle.sk_crashed.proofs.Names.{subst, ◌∙◌, arith, length-append, append_assoc, append-nil, Work, Entries, SayAll}
use Rattle.sk_crashed.proofs.Names.{after_works, after_append, Damage, Head, Found, IsMade, IsFound, IsPart, counted, least}
use Rattle.sk_crashed.proofs.Names.{place_of, reached, told_most, told_none, AreRead, EndsIn, Part, Place, Reached, Stands}
use Rattle.sk_crashed.proofs.Names.{SnapshotsAreRecovered, SnapshotsStandFor, IsRecovered}
use Rattle.sk_recovered.specs.Frames.{IsLeft}
use Rattle.sk_crashed.proofs.Disks.{all_taken}
use Rattle.sk_crashed.proofs.Lives.{counted_both, lived, same_counted, AreAlike}

-- ---- the first segments are read under the bounds of all

record Both (others newer heads : List Head) (bytes later : List (List ℕ)) (ps rest : List Part) : Type 0 where
  mine : List Part
  read : AreRead ((heads ++ others) ++ newer) (bytes ++ later) (mine ++ rest)
  alike : AreAlike (heads ++ others) newer ps mine
  stand : (place : Place) → Stands (others ++ newer) rest place → Stands ((heads ++ others) ++ newer) (mine ++ rest) place

both : (others newer heads : List Head) (bytes later : List (List ℕ)) (ps rest : List Part) → AreRead (heads ++ others) bytes ps
    → length bytes ≡ length heads → AreRead (others ++ newer) later rest → Both others newer heads bytes later ps rest
both others newer [] [] later [] rest read whole behind = record { mine = []; read = behind; alike = tt; stand = λ place stands. stands }
both others newer [] [] later (p ∷ ps) rest read whole behind = absurd read
both others newer [] (b ∷ bytes) later ps rest read whole behind = absurd (omega (arith, whole))
both others newer (h ∷ heads) [] later ps rest read whole behind = absurd (omega (arith, whole))
both others newer (h ∷ heads) (b ∷ bytes) later [] rest read whole behind = absurd read
both others newer (h ∷ heads) (b ∷ bytes) later (p ∷ ps) rest read whole behind =
    let more = both others newer heads bytes later ps rest read.1 (omega (arith, whole)) behind in
    record {
      mine = record p { bound = least ((heads ++ others) ++ newer) } ∷ more.mine;
      read = (record { first = read.0.first; bound = refl; log = read.0.log }, more.read);
      alike = (refl, refl, read.0.bound, refl, more.alike);
      stand = λ place stands. inr (more.stand place stands);
    }

-- ---- what both say is carried out

say_both : (xs ys : List (List ℕ)) (vs ws : List Work) → SayAll xs vs → SayAll ys ws → SayAll (xs ++ ys) (vs ++ ws)
say_both [] ys vs ws none say = subst (λ us. SayAll ys (us ++ ws)) (sym none) say
say_both (x ∷ xs) ys vs ws (own, others, says, rest, are) say =
    (own, others ++ ws, says, say_both xs ys others ws rest say, ap (λ us. us ++ ws) are ∙ append_assoc own others ws)

record Joined (first : ℕ) (base store : Entries) (ps : List (List ℕ)) (damage : Option Damage) (number : ℕ) : Type 0 where
  made : IsMade first base ps store damage
  reach : first + length made.taken ≡ number

joined : (first next : ℕ) (base middle store : Entries) (ps qs : List (List ℕ)) (damage : Option Damage) (number : ℕ) → first + length ps ≡ next
    → IsMade first base ps middle None → (n : IsMade next middle qs store damage) → next + length n.taken ≡ number
    → Joined first base store (ps ++ qs) damage number
joined first next base middle store ps qs damage number is m n reach =
    let taken : m.taken ≡ ps = sym (m.all ∙ ap (λ xs. m.taken ++ xs) m.left_is ∙ append-nil m.taken) in
    let far : next + length n.taken ≡ first + length (m.taken ++ n.taken) =
    omega (arith, is, length-append m.taken n.taken, ap length taken) in
    record {
      made = record {
        taken = m.taken ++ n.taken;
        left = n.left;
        all = (λ i. sym taken i ++ n.all i) ∙ sym (append_assoc m.taken n.taken n.left);
        works = m.works ++ n.works;
        say = say_both m.taken n.taken m.works n.works m.say n.say;
        store_is = n.store_is ∙ ap (after_works n.works) m.store_is ∙ sym (after_append m.works n.works base);
        left_is = subst (λ k. IsLeft k damage n.left) far n.left_is;
      };
      reach = sym far ∙ reach;
    }

ends_behind : (damage : Option Damage) (heads later : List Head) (ps rest : List Part) (r old : Reached) (found all : Found)
    → ((place : Place) → Stands later rest place → Stands heads ps place) → EndsIn damage later rest old found
    → all.segment ≡ (place_of damage (record { segment = r.segment; offset = r.offset; number = r.number })).segment
    → all.offset ≡ (place_of damage (record { segment = r.segment; offset = r.offset; number = r.number })).offset
    → EndsIn damage heads ps r all
ends_behind None heads later ps rest r old found all stand ends here there = (here, there)
ends_behind (Some damage) heads later ps rest r old found all stand ends here there = (stand damage.place ends.0, here, there)

pub snapshots_stand_for : SnapshotsStandFor
snapshots_stand_for base first left heads others newer bytes later made found stands is =
    let was = stands.found in
    let parts = both others newer heads bytes later was.parts is.parts was.read stands.whole is.read in
    let old = counted first was.parts in
    let new = counted made.number is.parts in
    let taken = all_taken first base made.store old made.damage was.made stands.undamaged in
    let number : first + length old ≡ made.number = ap (λ xs. first + length xs) (sym taken) ∙ sym was.number in
    let same = same_counted made.number newer stands.behind (heads ++ others) was.parts parts.mine first parts.alike (omega (arith, number)) in
    let counts : counted first (parts.mine ++ is.parts) ≡ old ++ new =
    counted_both parts.mine is.parts first ∙ (λ i. same i ++ counted (first + length (same i)) is.parts)
    ∙ ap (λ n. old ++ counted n is.parts) number in
    let first_made = subst (IsMade first base old made.store) stands.undamaged was.made in
    let one = joined first made.number base made.store found.store old new found.damage found.number number first_made is.made (sym is.number) in
    let at = reached first ((heads ++ others) ++ newer) (bytes ++ later) (parts.mine ++ is.parts) in
    let end : Place = record { segment = at.segment; offset = at.offset; number = at.number } in
    let all_made = subst (λ ps. Joined first base found.store ps found.damage found.number) (sym counts) one in
    let all : Found = record found {
      frames = length all_made.made.taken;
      works = told_most (length all_made.made.works);
      segment = (place_of found.damage end).segment;
      offset = (place_of found.damage end).offset;
      dropped = told_most (at.dropped + left);
    } in (
      all,
      record {
        parts = parts.mine ++ is.parts;
        read = parts.read;
        made = all_made.made;
        number = sym all_made.reach;
        frames = refl;
        works = refl;
        place = ends_behind found.damage ((heads ++ others) ++ newer) (others ++ newer) (parts.mine ++ is.parts) is.parts at
            (reached made.number (others ++ newer) later is.parts) found all parts.stand is.place refl refl;
        dropped = refl;
      },
      refl,
      refl,
      refl,
    )

pub snapshots_are_recovered : SnapshotsAreRecovered
snapshots_are_recovered base first dropped heads bytes again before was none kept limits next cs s done begins front disk all more is_left added
    ahead others newer old later left made found heads_are bytes_are stands is_found =
    let whole = snapshots_stand_for base first left ahead others newer old later made found stands is_found in
    let lives = lived base first dropped heads bytes again before was none kept limits next cs s done front begins disk all more left whole.0
    is_left added (subst (λ hs. IsFound base first hs (again ++ more) left whole.0) (sym heads_are)
    (subst (λ bs. IsFound base first ((ahead ++ others) ++ newer) bs left whole.0) (sym bytes_are) whole.1)) in
    let undamaged = sym whole.4 ∙ lives.undamaged in
    record {
      undamaged = undamaged;
      untold = λ count those in_flight known.
          told_none (next.frame + count) in_flight known found undamaged (omega (arith, lives.reach count those, whole.3));
      recovered = subst (IsRecovered before.store cs s) whole.2 lives.recovered;
    }
