-- Frames and words of the host only become more, where no cut is made.
use Rattle.sk_led.proofs.Names.{◌≡◌, ◌==◌, ℕ, zero, suc, ◌<◌, ◌≤◌, Bool, true, false, List, [], ◌∷◌, ◌++◌, length, map}
use Rattle.sk_led.proofs.Names.{take, Some, inl, inr, refl, sym, ◌∙◌, ap, subst, append_assoc, arith, ◌⊎◌, slice_get}
use Rattle.sk_led.proofs.Names.{or_right, append-nil, has, payload, RecordView, Call, Sends, Learns, Cuts, frames_by}
use Rattle.sk_led.proofs.Names.{frames_from, synced_by, synced_from, order, AreUncut, none-some}
use Rattle.sk_batches.specs.declared.batch.Stage.TheVariants as stages

pub uncut_behind : (cs ds : List Call) → AreUncut (cs ++ ds) → AreUncut ds
uncut_behind [] ds uncut = uncut
uncut_behind (Cuts cut ∷ cs) ds uncut = absurd uncut
uncut_behind (c ∷ cs) ds uncut = uncut_behind cs ds uncut

pub frames_grow : (first : ℕ) (log : List (List RecordView)) (cs : List Call) → AreUncut cs
    → (more : List (List RecordView)) × (frames_from first log cs ≡ log ++ more)
frames_grow first log [] uncut = ([], sym (append-nil log))
frames_grow first log (Sends sealed records ∷ cs) uncut =
    let rest = frames_grow first (log ++ records ∷ []) cs uncut in
    (records ∷ rest.0, rest.1 ∙ append_assoc log (records ∷ []) rest.0)
frames_grow first log (Cuts cut ∷ cs) uncut = absurd uncut
frames_grow first log (c ∷ cs) uncut = frames_grow first log cs uncut

pub frames_split : (first : ℕ) (log : List (List RecordView)) (cs ds : List Call)
    → frames_from first log (cs ++ ds) ≡ frames_from first (frames_from first log cs) ds
frames_split first log [] ds = refl
frames_split first log (c ∷ cs) ds = frames_split first (frames_by first c log) cs ds

pub synced_split : (told : List ℕ) (cs ds : List Call) → synced_from told (cs ++ ds) ≡ synced_from (synced_from told cs) ds
synced_split told [] ds = refl
synced_split told (c ∷ cs) ds = synced_split (synced_by c told) cs ds

synced_more : (n : ℕ) (told : List ℕ) (cs : List Call) → AreUncut cs → has n told ≡ true → has n (synced_from told cs) ≡ true
synced_more n told [] uncut is = is
synced_more n told (Learns frame stages.Synced ∷ cs) uncut is =
    synced_more n (frame ∷ told) cs uncut (or_right (frame == n) (has n told) is)
synced_more n told (Cuts cut ∷ cs) uncut is = absurd uncut
synced_more n told (c ∷ cs) uncut is = synced_more n told cs uncut is

pub synced_grow : (n : ℕ) (cs ds : List Call) → AreUncut (cs ++ ds) → has n (synced_from [] cs) ≡ true → has n (synced_from [] (cs ++ ds)) ≡ true
synced_grow n cs ds uncut is =
    subst (λ ns. has n ns ≡ true) (sym (synced_split [] cs ds)) (synced_more n (synced_from [] cs) ds (uncut_behind cs ds uncut) is)

-- ---- lists

pub get_front : {A : Type 0} (xs ys : List A) (k : ℕ) (x : A) → slice_get xs k ≡ Some x → slice_get (xs ++ ys) k ≡ Some x
get_front [] ys k x e = absurd (none-some x e)
get_front (y ∷ xs) ys zero x e = e
get_front (y ∷ xs) ys (suc k) x e = get_front xs ys k x e

-- the frame at a place stays there
pub frame_stays : (first : ℕ) (cs ds : List Call) (k : ℕ) (records : List RecordView) → AreUncut (cs ++ ds)
    → slice_get (frames_from first [] cs) k ≡ Some records → slice_get (frames_from first [] (cs ++ ds)) k ≡ Some records
frame_stays first cs ds k records uncut is =
    let more = frames_grow first (frames_from first [] cs) ds (uncut_behind cs ds uncut) in
    subst (λ log. slice_get log k ≡ Some records) (sym (frames_split first [] cs ds ∙ more.1))
    (get_front (frames_from first [] cs) more.0 k records is)

-- these payloads are the first of those frames'
pub same_payloads : (read : List ℕ → List ℕ) (values : List (List ℕ)) (log : List (List RecordView))
    → ((k : ℕ) (v : List ℕ) → slice_get values k ≡ Some v → (records : List RecordView) × (slice_get log k ≡ Some records) × (read v ≡ payload records))
    → map read values ≡ take (length values) (map payload log)
same_payloads read [] log each = refl
same_payloads read (v ∷ values) [] each = absurd (none-some (each zero v refl).0 (each zero v refl).1)
same_payloads read (v ∷ values) (records ∷ log) each =
    let first = each zero v refl in
    let is : records ≡ first.0 = (let e = first.1 in cc) in
    let here : read v ≡ payload records = first.2 ∙ ap (λ r. payload r) (sym is) in
    let later = same_payloads read values log (λ k u e. each (suc k) u e) in
    ap (λ x. x ∷ map read values) here ∙ ap (λ xs. payload records ∷ xs) later

-- so many first numbers pass a test, and the next doesn't, or is the bound
abbrev pub IsFirstOff : (ℕ → Bool) → ℕ → ℕ → Type 0
IsFirstOff p bound count = (count ≤ bound) × ((i : ℕ) → i < count → p i ≡ true) × ((p count ≡ false) ⊎ (count ≡ bound))

upto : (p : ℕ → Bool) (bound : ℕ) → p bound ≡ true → ((i : ℕ) → i < bound → p i ≡ true) → (i : ℕ) → (bound ≤ i) ⊎ (i < bound) → i < suc bound → p i ≡ true
upto p bound e all i (inl ge) lt = let is : bound ≡ i = omega arith in subst (λ n. p n ≡ true) is e
upto p bound e all i (inr less) lt = all i less

at_bound : (p : ℕ → Bool) (bound : ℕ) (t : Bool) → p bound ≡ t → ((i : ℕ) → i < bound → p i ≡ true) → (count : ℕ) × IsFirstOff p (suc bound) count
at_bound p bound false e all = (bound, (omega arith, all, inl e))
at_bound p bound true e all = (suc bound, (omega arith, λ i lt. upto p bound e all i (order bound i) lt, inr refl))

one_more : (p : ℕ → Bool) (bound : ℕ) → ((count : ℕ) × IsFirstOff p bound count) → (count : ℕ) × IsFirstOff p (suc bound) count
one_more p bound found = elim found.1.2 as (λ _. (count : ℕ) × IsFirstOff p (suc bound) count) [
  | inl is_off ↦ (found.0, (let le = found.1.0 in omega arith, found.1.1, inl is_off))
  | inr here ↦ at_bound p bound (p bound) refl (λ i lt. found.1.1 i (omega arith))
]

-- the first number up to a bound that a test does not pass
pub first_off : (p : ℕ → Bool) (bound : ℕ)
    → (count : ℕ) × IsFirstOff p bound count
first_off p zero = (zero, (omega arith, λ i lt. absurd (omega arith), inr refl))
first_off p (suc bound) = one_more p bound (first_off p bound)
