-- The numbers of undecided batches behind each call of the queue, and the row of guesses with them.
use Rattle.sk_batched.proofs.Names.{◌≡◌, ℕ, suc, ◌+◌, ◌*◌, ◌<◌, ◌≤◌, Bool, true, false, cond, ◌||◌, List, [], ◌∷◌, ◌++◌}
use Rattle.sk_batched.proofs.Names.{length, map, Option, Some, None, Result, Ok, Err, refl, sym, ◌∙◌, ap, subst, arith}
use Rattle.sk_batched.proofs.Names.{◌==◌, nat_lt, slice_index_or, if◌then◌else◌, remove, eq-eqb, append-nil, map-append}
use Rattle.sk_batched.proofs.Names.{has, numbers, KeptView, none_drawn, struck_with, Token, look_at, log_at, bytes_cmp}
use Rattle.sk_batched.proofs.Names.{Deed, next_of, Commits, FailsIn, Takes, Parts, IsSame, Stage, Kept, Sent, Synced}
use Rattle.sk_batched.proofs.Names.{Batch, Cut, Decision, Refusal, Stopped, NoCut, new_queue, CutPost, WordPost, kept}
use Rattle.sk_batched.proofs.Names.{QueueView, after_cut, after_take, after_word, awaits, cut_off, decided, decision_of}
use Rattle.sk_batched.proofs.Names.{is_decided, is_kept, left, open_batch, send, tell, batch_key, opening, alone}
use Rattle.sk_batched.proofs.Names.{not_yet, open_if, open_numbers, tokens_of, IsInStep, IsRow, none-some}
use Rattle.sk_batches.specs.declared.batch.Stage.TheVariants.{Refused}
use Rattle.sk_batches.specs.declared.queue.Decision.TheVariants as decision
use Rattle.sk_batched.proofs.Rows.{strikes_none, tokens_more}
use Rattle.sk_batched.proofs.Moves.{committed_row, drew, failed_row, let_out, stepped, still, Spares}

abbrev number_of : Batch → ℕ
number_of b = b.number

-- what keeps the number of each batch
kept_numbers : (f : Batch → Batch) → ((b : Batch) → number_of (f b) ≡ number_of b) → (bs : List Batch) → map number_of (map f bs) ≡ map number_of bs
kept_numbers f keeps [] = refl
kept_numbers f keeps (b ∷ bs) = (λ i. keeps b i ∷ kept_numbers f keeps bs i)

told_number : (frame : ℕ) (stage : Stage) (b : Batch) → number_of (tell frame stage b) ≡ number_of b
told_number frame stage b = elim (awaits frame b) as (λ c. number_of (cond c (record b { stage = stage }) b) ≡ number_of b) [
  | true ↦ refl
  | false ↦ refl
]

sent_number : (frame : ℕ) (b : Batch) → number_of (send frame b) ≡ number_of b
sent_number frame b = elim (is_kept b.stage) as (λ c. number_of (cond c (record b { frame = frame; stage = Sent }) b) ≡ number_of b) [
  | true ↦ refl
  | false ↦ refl
]

cut_number : (c : Cut) (b : Batch) → number_of (cut_off c b) ≡ number_of b
cut_number c b =
    elim (nat_lt b.frame c.frame) as (λ e. number_of (cond e b (cond (b.frame == c.frame) (record b { stage = Refused }) (record b { stage = Kept; records = kept c.first c.last b.records }))) ≡ number_of b) [
      | true ↦ refl
      | false ↦ elim (b.frame == c.frame) as (λ e. number_of (cond e (record b { stage = Refused }) (record b { stage = Kept; records = kept c.first c.last b.records })) ≡ number_of b) [
        | true ↦ refl
        | false ↦ refl
      ]
    ]

-- the open batch and those before it have the numbers that they had
abbrev pub IsNumbered : QueueView → QueueView → Type 0
IsNumbered q q' = (map number_of q'.batches ≡ map number_of q.batches) × (q'.number ≡ q.number)

pub word_kept : (frame : ℕ) (stage : Stage) (q q' : QueueView) → q' ≡ after_word frame stage q → IsNumbered q q'
word_kept frame stage q q' is = (ap (λ p. map number_of p.batches) is ∙ kept_numbers (tell frame stage) (told_number frame stage) q.batches, ap (λ p. p.number) is)

pub cut_kept : (c : Cut) (q q' : QueueView) → q' ≡ after_cut c q → IsNumbered q q'
cut_kept c q q' is = (ap (λ p. map number_of p.batches) is ∙ kept_numbers (cut_off c) (cut_number c) q.batches, ap (λ p. p.number) is)

pub word_numbered : (stage : Stage) (r : Result (Unit {0}) Refusal) (frame : ℕ) (q q' : QueueView) → WordPost stage r frame q q' → IsNumbered q q'
word_numbered stage (Ok u) frame q q' told = word_kept frame stage q q' told.1
word_numbered stage (Err why) frame q q' told = (ap (λ p. map number_of p.batches) told.1, ap (λ p. p.number) told.1)

pub cut_numbered : (made : Bool) (r : Result (Unit {0}) Refusal) (q q' : QueueView) → CutPost made r q q' → IsNumbered q q'
cut_numbered true (Ok u) q q' (going, c, due, is) = cut_kept c q q' is
cut_numbered false (Ok u) q q' (going, c, due, is) = (ap (λ p. map number_of p.batches) is, ap (λ p. p.number) is)
cut_numbered made (Err why) q q' told = let same = unmoved made why q q' told in (ap (λ p. map number_of p.batches) same, ap (λ p. p.number) same) where
  unmoved : (made : Bool) (why : Refusal) (q q' : QueueView) → CutPost made (Err why) q q' → q' ≡ q
  unmoved true Stopped q q' told = told.1
  unmoved true NoCut q q' told = told.2
  unmoved true other q q' told = absurd told
  unmoved false Stopped q q' told = told.1
  unmoved false NoCut q q' told = told.2
  unmoved false other q q' told = absurd told

module _ {V O : Type 0} (m : Parts (List ℕ) V O) (q : QueueView) (begun : Bool) (ts : List Token) (h : IsInStep m q begun ts) where
  pub requeued : (q' : QueueView) → IsNumbered q q' → IsInStep m q' begun ts
  requeued q' same =
      let ns : open_numbers q begun ≡ open_numbers q' begun = (λ i. sym same.0 i ++ open_if begun (sym same.1 i)) in
      record {
        row = subst (IsRow m) ns h.row;
        number = h.number ∙ sym same.1;
        tokens_are = h.tokens_are ∙ ap (tokens_of m.guesses.kernel) ns;
      }

  -- the kernel was changed, and no guess drawn or decided
  rekernelled : (n : Parts (List ℕ) V O) → IsRow n (open_numbers q begun) → n.guesses ≡ m.guesses → IsInStep n q begun ts
  rekernelled n row guesses = record {
    row = row;
    number = ap (λ (v : KeptView). v.drawn + not_yet begun) guesses ∙ h.number;
    tokens_are = h.tokens_are ∙ ap (λ (v : KeptView). tokens_of v.kernel (open_numbers q begun)) (sym guesses);
  }

  pub same_seen : (n : Parts (List ℕ) V O) → IsSame bytes_cmp m n → IsInStep n q begun ts
  same_seen n same = rekernelled n (still m (open_numbers q begun) h.row n same) same.guesses

  pub said_less : (n : Parts (List ℕ) V O) → n ≡ record m { said = n.said } → IsInStep n q begun ts
  said_less n is = rekernelled n (let_out m (open_numbers q begun) h.row n is) (ap (λ (p : Parts (List ℕ) V O). p.guesses) is)

  pub step_taken : (n : Parts (List ℕ) V O) (d : Deed (List ℕ) V O) → Spares d → Takes bytes_cmp m d None n → IsInStep n q begun ts
  step_taken n d spares takes = rekernelled n (stepped m (open_numbers q begun) h.row n d spares takes) takes.guesses

-- the guess of the open batch is drawn
pub begins : {V O : Type 0} (m n : Parts (List ℕ) V O) (q : QueueView) (ts us : List Token) (t : Token) → IsInStep m q false ts → length m.opens < m.guesses.limit
    → t ≡ record { kernel = m.guesses.kernel; id = next_of m.guesses } → us ≡ ts ++ t ∷ [] → Takes bytes_cmp m (opening q.number) (Some q.number) n → IsInStep n q true us
begins m n q ts us t h less is more takes =
    let plain : open_numbers q false ≡ map number_of q.batches = append-nil (map number_of q.batches) in
    let few : length (map number_of q.batches) < m.guesses.limit = subst (λ k. k < m.guesses.limit) (ap length h.row.opens ∙ many (open_numbers q false) ∙ ap length plain) less in
    record {
      row = drew m (map number_of q.batches) (subst (IsRow m) plain h.row) n q.number (sym h.number) few takes;
      number = ap (λ (v : KeptView). v.drawn + 0) takes.guesses ∙ (let at = h.number in omega (arith, at));
      tokens_are =
          more
          ∙ (λ i. (h.tokens_are ∙ ap (tokens_of m.guesses.kernel) plain) i ++ (is ∙ (λ j. record { kernel = m.guesses.kernel; id = h.number j })) i ∷ [])
          ∙ tokens_more m.guesses.kernel (map number_of q.batches) q.number
          ∙ ap (λ (v : KeptView). tokens_of v.kernel (open_numbers q true)) (sym takes.guesses);
    } where
      many : (ns : List ℕ) → length (alone ns) ≡ length ns
      many [] = refl
      many (x ∷ ns) = ap suc (many ns)

-- the open batch is sent
pub taken : {V O : Type 0} (m : Parts (List ℕ) V O) (q : QueueView) (ts : List Token) → IsInStep m q true ts → IsInStep m (after_take q) false ts
taken m q ts h =
    let ns : open_numbers q true ≡ open_numbers (after_take q) false =
    (λ i. sym (kept_numbers (send q.frame) (sent_number q.frame) q.batches) i ++ q.number ∷ [])
    ∙ sym (map-append number_of (map (send q.frame) q.batches) (open_batch q ∷ []))
    ∙ sym (append-nil (map number_of (map (send q.frame) q.batches ++ open_batch q ∷ []))) in
    record {
      row = subst (IsRow m) ns h.row;
      number = let at = h.number in omega (arith, at);
      tokens_are = h.tokens_are ∙ ap (tokens_of m.guesses.kernel) ns;
    }

-- ---- the oldest guess is decided
module _ {V O : Type 0} (m : Parts (List ℕ) V O) (n : ℕ) (ns : List ℕ) (ts us : List Token) (t : Token) (row : IsRow m (n ∷ ns)) (are : ts ≡ tokens_of m.guesses.kernel (n ∷ ns))
    (value : t ≡ slice_index_or ts 0 t) (rest : us ≡ remove ts 0) where
  pub first_is : t ≡ record { kernel = m.guesses.kernel; id = n }
  first_is = value ∙ ap (λ xs. slice_index_or xs 0 t) are

  pub first_own : t.kernel ≡ m.guesses.kernel
  first_own = ap (λ (u : Token). u.kernel) first_is

  pub first_id : t.id ≡ n
  first_id = ap (λ (u : Token). u.id) first_is

  pub first_undecided : has t.id (numbers m.opens) ≡ true
  first_undecided = (λ i. has (first_id i) (numbers (row.opens i))) ∙ ap (λ b. b || has n (numbers (alone ns))) (eq-eqb n n refl)

  pub first_alone : struck_with t.id m.opens ≡ []
  first_alone = (λ i. struck_with (first_id i) (row.opens i)) ∙ strikes_none n (n ∷ ns)

  others : us ≡ tokens_of m.guesses.kernel ns
  others = rest ∙ ap (λ xs. remove xs 0) are

  module _ (new : Parts (List ℕ) V O) where
    pub row_committed : Commits bytes_cmp m t.id new → IsRow new ns
    row_committed commits = committed_row m new n ns row (subst (λ g. Commits bytes_cmp m g new) first_id commits)

    pub others_committed : Commits bytes_cmp m t.id new → us ≡ tokens_of new.guesses.kernel ns
    others_committed commits = others ∙ ap (λ (v : KeptView). tokens_of v.kernel ns) (sym commits.guesses)

    pub row_failed : FailsIn bytes_cmp m t.id new → IsRow new ns
    row_failed fails = failed_row m new n ns row (subst (λ g. FailsIn bytes_cmp m g new) first_id fails)

    pub others_failed : FailsIn bytes_cmp m t.id new → us ≡ tokens_of new.guesses.kernel ns
    others_failed fails = others ∙ ap (λ (v : KeptView). tokens_of v.kernel ns) (sym fails.guesses)

-- the number that a decision names
abbrev pub batch_of : Decision → ℕ
batch_of (decision.Logged n) = n
batch_of (decision.Refused n) = n

abbrev batch_or : ℕ → Option Decision → ℕ
batch_or n None = n
batch_or n (Some d) = batch_of d

-- it is that of the oldest batch, which goes
first_of : (s : Stage) (b : Batch) (bs : List Batch) (d : Decision) → decision_of s b.number ≡ Some d → b.number ∷ map number_of bs ≡ batch_of d ∷ map number_of (if is_decided s then bs else b ∷ bs)
first_of Synced b bs d is = ap (λ o. batch_or b.number o ∷ map number_of bs) is
first_of Refused b bs d is = ap (λ o. batch_or b.number o ∷ map number_of bs) is
first_of s b bs d is = absurd (none-some d is)

pub decided_first : (bs : List Batch) (d : Decision) → decided bs ≡ Some d → map number_of bs ≡ batch_of d ∷ map number_of (left bs)
decided_first [] d is = absurd (none-some d is)
decided_first (b ∷ bs) d is = first_of b.stage b bs d is

module _ {V O : Type 0} (m : Parts (List ℕ) V O) (q : QueueView) (begun : Bool) (ts us : List Token) (t : Token) (h : IsInStep m q begun ts) (d : Decision) (decides : decided q.batches ≡ Some d)
    (value : t ≡ slice_index_or ts 0 t) (rest : us ≡ remove ts 0) where
  abbrev later : List ℕ
  later = map number_of (left q.batches) ++ open_if begun q.number

  all : open_numbers q begun ≡ batch_of d ∷ later
  all = ap (λ ns. ns ++ open_if begun q.number) (decided_first q.batches d decides)

  row : IsRow m (batch_of d ∷ later)
  row = subst (IsRow m) all h.row

  are : ts ≡ tokens_of m.guesses.kernel (batch_of d ∷ later)
  are = h.tokens_are ∙ ap (tokens_of m.guesses.kernel) all

  pub oldest_alone : struck_with t.id m.opens ≡ []
  oldest_alone = first_alone m (batch_of d) later ts us t row are value rest

  module _ (new : Parts (List ℕ) V O) (q' : QueueView) (is : q' ≡ record q { batches = left q.batches }) where
    pub oldest_committed : Commits bytes_cmp m t.id new → IsInStep new q' begun us
    oldest_committed commits = subst (λ p. IsInStep new p begun us) (sym is) (record {
      row = row_committed m (batch_of d) later ts us t row are value rest new commits;
      number = ap (λ (v : KeptView). v.drawn + not_yet begun) commits.guesses ∙ h.number;
      tokens_are = others_committed m (batch_of d) later ts us t row are value rest new commits;
    })

    pub oldest_failed : FailsIn bytes_cmp m t.id new → IsInStep new q' begun us
    oldest_failed fails = subst (λ p. IsInStep new p begun us) (sym is) (record {
      row = row_failed m (batch_of d) later ts us t row are value rest new fails;
      number = ap (λ (v : KeptView). v.drawn + not_yet begun) fails.guesses ∙ h.number;
      tokens_are = others_failed m (batch_of d) later ts us t row are value rest new fails;
    })

-- ---- nothing has happened
pub new_row : {V O : Type 0} (m : Parts (List ℕ) V O) (number most : ℕ) → most ≤ 63 → m.guesses ≡ none_drawn number (2 * most + 1) → m.opens ≡ []
    → ((k : List ℕ) → look_at bytes_cmp m.slots k ≡ None) → ((k : List ℕ) → log_at bytes_cmp m.slots k ≡ []) → IsRow m []
new_row m number most small guesses opens look log = record {
  row = tt;
  opens = opens;
  struck = ap (λ (v : KeptView). v.struck) guesses;
  few = omega arith;
  limit = let at = ap (λ (v : KeptView). v.limit) guesses in omega (arith, at, small);
  look = λ n. look (batch_key n);
  log = λ n. log (batch_key n);
}

pub new_in_step : {V O : Type 0} (m : Parts (List ℕ) V O) (q : QueueView) (ts : List Token) (number most bytes frame cap : ℕ) → IsRow m [] → m.guesses ≡ none_drawn number cap → q ≡ new_queue most bytes frame → ts ≡ [] → IsInStep m q false ts
new_in_step m q ts number most bytes frame cap row guesses queue none = subst (λ p. IsInStep m p false ts) (sym queue) (record {
  row = row;
  number = ap (λ (v : KeptView). v.drawn + 1) guesses;
  tokens_are = none;
})

-- ---- tokens that are left
abbrev pub Holds : {V O : Type 0} → Parts (List ℕ) V O → List Token → Type 0
Holds m ts = (ns : List ℕ) × IsRow m ns × (ts ≡ tokens_of m.guesses.kernel ns)

none_left : (ts : List Token) (kernel : ℕ) → 0 < length ts → ts ≡ tokens_of kernel [] → ⊥
none_left ts kernel some are = let many = ap length are in omega (arith, many, some)

module _ {V O : Type 0} (m : Parts (List ℕ) V O) (ts us : List Token) (t : Token) where
  pub left_own : Holds m ts → 0 < length ts → t ≡ slice_index_or ts 0 t → us ≡ remove ts 0 → t.kernel ≡ m.guesses.kernel
  left_own ([], r, are) some value rest = absurd (none_left ts m.guesses.kernel some are)
  left_own (n ∷ ns, r, are) some value rest = first_own m n ns ts us t r are value rest

  pub left_undecided : Holds m ts → 0 < length ts → t ≡ slice_index_or ts 0 t → us ≡ remove ts 0 → has t.id (numbers m.opens) ≡ true
  left_undecided ([], r, are) some value rest = absurd (none_left ts m.guesses.kernel some are)
  left_undecided (n ∷ ns, r, are) some value rest = first_undecided m n ns ts us t r are value rest

  pub left_after : (new : Parts (List ℕ) V O) → Holds m ts → 0 < length ts → t ≡ slice_index_or ts 0 t → us ≡ remove ts 0 → Commits bytes_cmp m t.id new → Holds new us
  left_after new ([], r, are) some value rest commits = absurd (none_left ts m.guesses.kernel some are)
  left_after new (n ∷ ns, r, are) some value rest commits =
      (ns, row_committed m n ns ts us t r are value rest new commits, others_committed m n ns ts us t r are value rest new commits)
