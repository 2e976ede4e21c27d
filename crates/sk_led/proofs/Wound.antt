-- What cuts leave of the frames before the first of them.
use Rattle.sk_led.proofs.Names.{take-take, ◌≡◌, ℕ, zero, suc, ◌+◌, ◌-◌, ◌<◌, ◌≤◌, Bool, true, false, List, [], ◌∷◌}
use Rattle.sk_led.proofs.Names.{◌++◌, refl, sym, ◌∙◌, ap, subst, arith, ◌==◌, cond, inl, inr, Some, length, take}
use Rattle.sk_led.proofs.Names.{nat_lt, ◌⊎◌, slice_get, filter, eqb-true, ltb-true, or_cases, or_left, or_right}
use Rattle.sk_led.proofs.Names.{length-append, length-map, length-take-le, take-append-le, append_assoc, append-nil}
use Rattle.sk_led.proofs.Names.{has, RecordView, synced_after, Cut, Call, Sends, Learns, Cuts, StoreDoes, Serves}
use Rattle.sk_led.proofs.Names.{StoreView, frames, frames_by, synced, synced_by, HasDone, Limits, Next, Entries}
use Rattle.sk_led.proofs.Names.{NoneSynced, stands_densely, cut_is_range, queued, no_story, in_frames, serves_on}
use Rattle.sk_led.proofs.Names.{cut_due, after_cut, none-some, false≢true}
use Rattle.sk_batches.specs.declared.batch.Stage.TheVariants as stages
use Rattle.sk_led.proofs.Grows.{frames_split, get_front, synced_split}
use Rattle.sk_led.proofs.Late.{due_between, late_due, late_first, late_once, late_run, AreLate}

abbrev pub Log : Type 0
Log = List (List RecordView)

-- The frames before the cut are as they were, and so is what was told of them; each from the cut on that counts as
-- synced has nothing.
pub record IsWound (first at : ℕ) (log : Log) (told : List ℕ) (later : Log) (now : List ℕ) : Type 0 where
  pub front : take (at - first) later ≡ take (at - first) log
  pub long : at < first + length later
  pub empty : (n : ℕ) → at ≤ n → has n now ≡ true → slice_get later (n - first) ≡ Some []
  pub below : (n : ℕ) → n < at → has n now ≡ true → has n told ≡ true

get_last : {A : Type 0} (xs : List A) (x : A) → slice_get (xs ++ x ∷ []) (length xs) ≡ Some x
get_last [] x = refl
get_last (y ∷ xs) x = get_last xs x

pub get_taken : {A : Type 0} (xs : List A) (k n : ℕ) (x : A) → k < n → slice_get xs k ≡ Some x
    → slice_get (take n xs) k ≡ Some x
get_taken [] k n x lt e = absurd (none-some x e)
get_taken (y ∷ xs) k zero x lt e = absurd (omega arith)
get_taken (y ∷ xs) zero (suc n) x lt e = e
get_taken (y ∷ xs) (suc k) (suc n) x lt e = get_taken xs k n x (omega arith) e

pub get_of_taken : {A : Type 0} (xs : List A) (k n : ℕ) (x : A) → slice_get (take n xs) k ≡ Some x
    → slice_get xs k ≡ Some x
get_of_taken [] k zero x e = e
get_of_taken [] k (suc n) x e = e
get_of_taken (y ∷ xs) k zero x e = absurd (none-some x e)
get_of_taken (y ∷ xs) zero (suc n) x e = e
get_of_taken (y ∷ xs) (suc k) (suc n) x e = get_of_taken xs k n x e

-- a frame that is synced is one of those that a test lets by
has_filtered : (n : ℕ) (p : ℕ → Bool) (ns : List ℕ) → has n (filter p ns) ≡ true → (has n ns ≡ true) × (p n ≡ true)
has_filtered n p [] is = absurd (false≢true is)
has_filtered n p (m ∷ ns) is = elim (p m) as (λ t. p m ≡ t → has n (cond t (m ∷ filter p ns) (filter p ns)) ≡ true
    → (has n (m ∷ ns) ≡ true) × (p n ≡ true)) [
      | true ↦ λ e has_it. elim (or_cases (m == n) (has n (filter p ns)) has_it) as
          (λ _. (has n (m ∷ ns) ≡ true) × (p n ≡ true)) [
            | inl same ↦ (or_left (m == n) (has n ns) same, subst (λ k. p k ≡ true) (eqb-true m n same) e)
            | inr more ↦ let rest = has_filtered n p ns more in (or_right (m == n) (has n ns) rest.0, rest.1)
          ]
      | false ↦ λ e has_it. let rest = has_filtered n p ns has_it in (or_right (m == n) (has n ns) rest.0, rest.1)
    ] refl is

-- what counts as synced behind a cut is the cut, or was before it
cut_cases : (n : ℕ) (cut : Cut) (now : List ℕ) → has n (synced_after cut now) ≡ true
    → (cut.frame ≡ n) ⊎ ((n < cut.frame) × (has n now ≡ true))
cut_cases n cut now is = elim (or_cases (cut.frame == n) (has n (filter (λ frame. nat_lt frame cut.frame) now)) is) as
    (λ _. (cut.frame ≡ n) ⊎ ((n < cut.frame) × (has n now ≡ true))) [
      | inl same ↦ inl (eqb-true cut.frame n same)
      | inr more ↦ let rest = has_filtered n (λ frame. nat_lt frame cut.frame) now more in
          inr (ltb-true n cut.frame rest.1, rest.0)
    ]

cut_long : (count : ℕ) (log : Log) → count ≤ length log → length (take count log ++ [] ∷ []) ≡ count + 1
cut_long count log le = length-append (take count log) ([] ∷ []) ∙ ap (λ n. n + 1) (length-take-le count log le)

cut_here : (count : ℕ) (log : Log) → count ≤ length log → slice_get (take count log ++ [] ∷ []) count ≡ Some []
cut_here count log le = subst (λ n. slice_get (take count log ++ [] ∷ []) n ≡ Some [])
    (length-take-le count log le) (get_last (take count log) [])

-- the first cut
pub wound_first : (first : ℕ) (cut : Cut) (log : Log) (told : List ℕ) → first ≤ cut.frame
    → cut.frame < first + length log
    → IsWound first cut.frame log told (take (cut.frame - first) log ++ [] ∷ []) (synced_after cut told)
wound_first first cut log told from lt =
    let count = cut.frame - first in
    let le : count ≤ length log = omega arith in
    let size = length-take-le count log le in
    record {
      front = take-append-le count (take count log) ([] ∷ []) (omega arith) ∙ take-take count count log (omega arith);
      long = let more = cut_long count log le in omega arith;
      empty = λ n ge is. elim (cut_cases n cut told is) as
          (λ _. slice_get (take count log ++ [] ∷ []) (n - first) ≡ Some []) [
            | inl same ↦ subst (λ k. slice_get (take count log ++ [] ∷ []) (k - first) ≡ Some []) same
                (cut_here count log le)
            | inr less ↦ let lt = less.0 in absurd (omega arith)
          ];
      below = λ n lt is. elim (cut_cases n cut told is) as (λ _. has n told ≡ true) [
        | inl same ↦ absurd (omega arith)
        | inr less ↦ less.1
      ];
    }

-- one more
pub wound_cut : (first at : ℕ) (log : Log) (told : List ℕ) (later : Log) (now : List ℕ) (cut : Cut) → first ≤ at
    → at < cut.frame
    → cut.frame < first + length later → IsWound first at log told later now
    → IsWound first at log told (take (cut.frame - first) later ++ [] ∷ []) (synced_after cut now)
wound_cut first at log told later now cut from behind lt so =
    let count = cut.frame - first in
    let le : count ≤ length later = omega arith in
    let size = length-take-le count later le in
    record {
      front = take-append-le (at - first) (take count later) ([] ∷ []) (omega arith)
          ∙ take-take (at - first) count later (omega arith) ∙ so.front;
      long = let more = cut_long count later le in omega arith;
      empty = λ n ge is. elim (cut_cases n cut now is) as
          (λ _. slice_get (take count later ++ [] ∷ []) (n - first) ≡ Some []) [
            | inl same ↦ subst (λ k. slice_get (take count later ++ [] ∷ []) (k - first) ≡ Some []) same
                (cut_here count later le)
            | inr less ↦ let lt = less.0 in get_front (take count later) ([] ∷ []) (n - first) []
                (get_taken later (n - first) count [] (omega arith) (so.empty n ge less.1))
          ];
      below = λ n lt is. elim (cut_cases n cut now is) as (λ _. has n told ≡ true) [
        | inl same ↦ absurd (omega arith)
        | inr less ↦ so.below n lt less.1
      ];
    }

pub wound_sent : (first at : ℕ) (log : Log) (told : List ℕ) (later : Log) (now : List ℕ) (records : List RecordView)
    → first ≤ at
    → IsWound first at log told later now → IsWound first at log told (later ++ records ∷ []) now
wound_sent first at log told later now records from so =
    let long = so.long in
    record {
      front = take-append-le (at - first) later (records ∷ []) (omega arith) ∙ so.front;
      long = let more = length-append later (records ∷ []) in omega arith;
      empty = λ n ge is. get_front later (records ∷ []) (n - first) [] (so.empty n ge is);
      below = so.below;
    }

-- ---- over the calls of a store

tells_first : (c : Call) (cs : List Call) → NoneSynced (c ∷ cs) → NoneSynced (c ∷ [])
tells_first (Learns frame stages.Synced) cs tells = absurd tells
tells_first c cs tells = tt

pub tells_later : (c : Call) (cs : List Call) → NoneSynced (c ∷ cs) → NoneSynced cs
tells_later (Learns frame stages.Synced) cs tells = absurd tells
tells_later c cs tells = tells

-- the log is as long as the queue has it
log_long : (limits : Limits) (origin : Next) (start : Entries) (cs : List Call) (m : StoreView)
    → HasDone limits origin start cs m
    → m.batched.queue.frame ≡ origin.frame + length (frames origin.frame cs)
log_long limits origin start cs m done =
    let so = in_frames limits origin start cs m done in
    so.next ∙ ap (λ n. origin.frame + n) (sym (length-map so.sent _) ∙ ap (λ (xs : Log). length xs) so.sent_are)

cut_parts : (m n : StoreView) (cut : Cut) → StoreDoes m (Cuts cut) n
    → (cut_due m.batched.queue ≡ Some cut) × (n.batched.queue ≡ after_cut cut m.batched.queue)
cut_parts m n cut (going, due, (segment, more, is)) = (due, ap (λ (b : StoreView). b.batched.queue) is)

late_after : (at : ℕ) (m n : StoreView) (c : Call) → StoreDoes m c n → NoneSynced (c ∷ [])
    → AreLate at m.batched.queue → AreLate at n.batched.queue
late_after at m n (Learns frame stages.Synced) does tells late = absurd tells
late_after at m n (Cuts cut) does tells late =
    let parts = cut_parts m n cut does in
    subst (AreLate at) (sym parts.1) (late_once at cut m.batched.queue parts.0 late)
late_after at m n c does tells late =
    let led = queued m no_story (c ∷ []) n (n, does, refl) in
    late_run at led.calls m.batched.queue n.batched.queue no_story led.last led.runs led.synced_are late

late_all : (at : ℕ) (ds : List Call) (m s : StoreView) → Serves m ds s → NoneSynced ds
    → AreLate at m.batched.queue → AreLate at s.batched.queue
late_all at [] m s serves tells late = subst (λ (x : StoreView). AreLate at x.batched.queue) serves late
late_all at (c ∷ ds) m s (n, does, rest) tells late =
    late_all at ds n s rest (tells_later c ds tells) (late_after at m n c does (tells_first c ds tells) late)

module _ (limits : Limits) (origin : Next) (start : Entries) (at : ℕ) (log : Log) (told : List ℕ)
    (from : origin.frame ≤ at) where
  abbrev WoundBy : List Call → Type 0
  WoundBy cs = IsWound origin.frame at log told (frames origin.frame cs) (synced cs)

  one_more : (cs : List Call) (m n : StoreView) (c : Call) → HasDone limits origin start cs m → StoreDoes m c n
      → NoneSynced (c ∷ [])
      → AreLate at m.batched.queue → WoundBy cs
      → IsWound origin.frame at log told (frames_by origin.frame c (frames origin.frame cs)) (synced_by c (synced cs))
  one_more cs m n (Sends sealed records) done does tells late so =
      wound_sent origin.frame at log told (frames origin.frame cs) (synced cs) records from so
  one_more cs m n (Cuts cut) done does tells late so =
      let due = (cut_parts m n cut does).0 in
      let stands = due_between origin.frame cut m.batched.queue (stands_densely limits origin start cs m done).1 due in
      let behind = late_due at cut m.batched.queue late.each due in
      let long = log_long limits origin start cs m done in
      let under = stands.1 in
      wound_cut origin.frame at log told (frames origin.frame cs) (synced cs) cut from behind (omega arith) so
  one_more cs m n (Learns frame stages.Synced) done does tells late so = absurd tells
  one_more cs m n c done does tells late so = so

  wound_run : (cs ds : List Call) (m s : StoreView) → HasDone limits origin start cs m → Serves m ds s
      → NoneSynced ds
      → AreLate at m.batched.queue → WoundBy cs → WoundBy (cs ++ ds)
  wound_run cs [] m s done serves tells late so = subst WoundBy (sym (append-nil cs)) so
  wound_run cs (c ∷ ds) m s done (n, does, rest) tells late so =
      subst WoundBy (append_assoc cs (c ∷ []) ds)
      (wound_run (cs ++ c ∷ []) ds n s
      (record {
        first = done.first;
        new = done.new;
        serves
            = serves_on done.first m n cs (c ∷ []) done.serves (n, does, refl);
      })
      rest (tells_later c ds tells) (late_after at m n c does (tells_first c ds tells) late)
      (subst (λ (f : Log). IsWound origin.frame at log told f (synced (cs ++ c ∷ [])))
      (sym (frames_split origin.frame [] cs (c ∷ [])))
      (subst (λ ns. IsWound origin.frame at log told (frames_by origin.frame c (frames origin.frame cs)) ns)
      (sym (synced_split [] cs (c ∷ []))) (one_more cs m n c done does (tells_first c ds tells) late so))))

-- from the first cut on
pub record IsCutAt (first : ℕ) (cs : List Call) (cut : Cut) (ds : List Call) (s : StoreView) : Type 0 where
  pub from : first ≤ cut.frame
  pub late : AreLate cut.frame s.batched.queue
  pub wound : IsWound first cut.frame (frames first cs) (synced cs) (frames first (cs ++ Cuts cut ∷ ds))
      (synced (cs ++ Cuts cut ∷ ds))

pub cut_at : (limits : Limits) (origin : Next) (start : Entries) (cs : List Call) (cut : Cut) (ds : List Call)
    (m s : StoreView)
    → HasDone limits origin start cs m → Serves m (Cuts cut ∷ ds) s → NoneSynced ds → IsCutAt origin.frame cs cut ds s
cut_at limits origin start cs cut ds m s done (n, does, rest) tells =
    let first = origin.frame in
    let parts = cut_parts m n cut does in
    let dense = (stands_densely limits origin start cs m done).1 in
    let stands = due_between first cut m.batched.queue dense parts.0 in
    let long = log_long limits origin start cs m done in
    let under = stands.1 in
    let late : AreLate cut.frame n.batched.queue = subst (AreLate cut.frame) (sym parts.1)
    (late_first first cut m.batched.queue dense parts.0 (cut_is_range limits origin start cs m done cut parts.0)) in
    let begun = wound_first first cut (frames first cs) (synced cs) stands.0 (omega arith) in
    let here : IsWound first cut.frame (frames first cs) (synced cs) (frames first (cs ++ Cuts cut ∷ []))
    (synced (cs ++ Cuts cut ∷ []))
    = subst (λ (f : Log). IsWound first cut.frame (frames first cs) (synced cs) f (synced (cs ++ Cuts cut ∷ [])))
    (sym (frames_split first [] cs (Cuts cut ∷ [])))
    (subst (λ ns. IsWound first cut.frame (frames first cs) (synced cs)
    (take (cut.frame - first) (frames first cs) ++ [] ∷ []) ns)
    (sym (synced_split [] cs (Cuts cut ∷ []))) begun) in
    record {
      from = stands.0;
      late = late_all cut.frame ds n s rest tells late;
      wound = subst (λ xs. IsWound first cut.frame (frames first cs) (synced cs) (frames first xs) (synced xs))
          (append_assoc cs (Cuts cut ∷ []) ds)
          (wound_run limits origin start cut.frame (frames first cs) (synced cs) stands.0 (cs ++ Cuts cut ∷ []) ds n s
          (record {
            first = done.first;
            new = done.new;
            serves
                = serves_on done.first m n cs (Cuts cut ∷ []) done.serves (n, does, refl);
          })
          rest tells late here);
    }
