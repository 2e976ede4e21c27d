-- What commands said to a channel since it was connected: what was taken out of it, and what waits there.
use Rattle.sk_durable.proofs.Names.{arith, ◌≡◌, ℕ, true, false, List, [], ◌∷◌, ◌++◌, map, refl, sym, ◌∙◌, ap, subst}
use Rattle.sk_durable.proofs.Names.{◌==◌, filter, Contains, or_right, false_from_ne_true, append-nil}
use Rattle.sk_durable.proofs.Names.{Contains-append_left, Contains-append_right, list_any-append, has, numbers}
use Rattle.sk_durable.proofs.Names.{said_at, IsSaid, failed_in, kept, said_to, failed_more, kept_more, served}
use Rattle.sk_durable.proofs.Names.{Entries, Limits, Next, StoreView, Call, Connects, Decides, Logged, carried}
use Rattle.sk_durable.proofs.Names.{decided, failed, stands, stands_on, Command, HasDone}
use Rattle.std.proofs.lemmas.Bool.Decides.{nat_tests}
use Rattle.sk_durable.proofs.Machines.{machine, runs_work, Machine, Quiet}
use Rattle.sk_durable.proofs.Served.{carried_behind, decided_behind, outs_from}
use Rattle.sk_durable.proofs.Plain.{as_log, failed_is, fails_are, led, logged_is}
use Rattle.sk_durable.proofs.Pasts.{carried_reset, outs_behind, outs_taken, since_says, taken, taken_from, taken_reset, Never, Said}
use Rattle.sk_durable.proofs.Tickets.{kept_append, mapped_none, parted, settled_kept, Output}

-- what began batches said nothing
quiet_said : (t : ℕ) (gs : List ℕ) (log : List Command) → Quiet log
    → said_to served t (kept gs (filter (λ r. runs_work r.entry) log)) ≡ said_to served t (kept gs log)
quiet_said t gs [] quiet = refl
quiet_said t gs (r ∷ log) quiet = grind (arith, nat_tests, quiet_said t gs log quiet.1, runs_work r.entry)

module _ (limits : Limits) (next : Next) (start : Entries) (cs : List Call) (s : StoreView)
    (done : HasDone limits next start cs s) where
  -- the machine that stands for it
  abbrev pub last_machine : Machine
  last_machine = machine s.batched.kernel (led limits next start cs s done).status

  pub all_said : (t : ℕ) → IsSaid (said_to served t (stands cs)) t (outs_from (λ u. []) cs) last_machine
  all_said t =
      grind (
        arith,
        nat_tests,
        led limits next start cs s done,
        outs_from (λ u. []) cs,
        quiet_said t,
        fails_are limits next start cs s done,
        as_log limits next start cs s done,
      )

-- a channel was connected when nothing waited there, and never since
pub record Since (limits : Limits) (next : Next) (start : Entries) (t : ℕ) (cs : List Call) : Type 0 where
  pub pre : List Call
  pub mid : StoreView
  pub done : HasDone limits next start pre mid
  pub empty : said_at mid.batched.kernel.parts.said t ≡ []
  pub post : List Call
  pub at : cs ≡ pre ++ Connects t ∷ post
  pub never : Never t post

module _ (limits : Limits) (next : Next) (start : Entries) (cs : List Call) (s : StoreView)
    (done : HasDone limits next start cs s)
    (t : ℕ) (since : Since limits next start t cs) where
  abbrev before : List ℕ
  before = failed since.pre

  abbrev more : List ℕ
  more = failed_in (decided since.post)

  failed_then : failed cs ≡ before ++ more
  failed_then = ap failed since.at ∙ ap failed_in (decided_behind since.pre (Connects t ∷ since.post))
      ∙ failed_more (decided since.pre) (decided since.post)

  -- what was said by then is out, and stays
  out_then : IsSaid (said_to served t (stands since.pre)) t (outs_from (λ u. []) since.pre)
      (last_machine limits next start since.pre since.mid since.done)
  out_then = all_said limits next start since.pre since.mid since.done t

  all_out : said_to served t (stands since.pre) ≡ out_then.out
  all_out =
      grind (
        arith,
        nat_tests,
        mapped_none (λ (x : Output). (x.0, filter (λ g. has g x.1) (numbers since.mid.batched.kernel.parts.opens)))
            out_then.waiting (sym out_then.texts ∙ since.empty),
        append-nil out_then.out,
      )

  none_fails : (x : Output) (g : ℕ) → Contains (said_to served t (stands since.pre)) x → has g x.1 ≡ true
      → has g more ≡ false
  none_fails x g there here = false_from_ne_true (has g more) (λ fails.
      let committed = out_then.settled x g (subst (λ l. Contains l x) all_out there) here in
      let logged = (logged_is limits next start since.pre since.mid since.done g).1 committed in
      let now = (logged_is limits next start cs s done g).0
      (subst (λ l. Contains l (Decides (Logged g))) (sym since.at)
      (Contains-append_left since.pre (Connects t ∷ since.post) (Decides (Logged g)) logged)) in
      let fails_now = (failed_is limits next start cs s done g).0
      (ap (has g) failed_then ∙ list_any-append (λ h. h == g) before more
      ∙ or_right (has g before) (has g more) fails) in
      cc (now, fails_now))

  abbrev first : List Output
  first = said_to served t (kept (failed cs) (carried since.pre))

  abbrev later : List Output
  later = said_to served t (kept (failed cs) (carried since.post))

  abbrev firsts : List Said
  firsts = outs_from (λ u. []) since.pre t

  first_is : first ≡ out_then.out
  first_is = grind (arith, nat_tests, failed_then, kept_more, settled_kept t, none_fails, all_out)

  whole : IsSaid (said_to served t (stands cs)) t (outs_from (λ u. []) cs) (last_machine limits next start cs s done)
  whole = all_said limits next start cs s done t

  all_parts : first ++ later ≡ whole.out ++ whole.waiting
  all_parts =
      grind (
        arith,
        nat_tests,
        kept_append t (failed cs) (carried since.pre) (carried since.post),
        carried_behind since.pre (Connects t ∷ since.post),
      )

  -- what was taken out since then stands behind what was before
  outs_then : outs_from (λ u. []) cs t ≡ firsts ++ taken_from t [] since.post
  outs_then =
      grind (
        arith,
        nat_tests,
        outs_from (λ u. []),
        outs_behind (λ u. []) since.pre (Connects t ∷ since.post),
        outs_taken t (outs_from (λ u. []) since.pre),
        outs_from (λ u. []) since.pre,
        append-nil,
      )

  taken_is : taken t cs ≡ taken_from t [] since.post
  taken_is = ap (taken_from t []) since.at ∙ taken_reset t [] since.pre since.post

  abbrev said_of : List Output → List Said
  said_of xs = map (λ (x : Output). x.0) xs

  out_parts : said_of whole.out ≡ said_of first ++ taken t cs
  out_parts = sym whole.gone ∙ outs_then ∙ (λ i. (out_then.gone ∙ ap said_of (sym first_is)) i ++ sym taken_is i)

  parts : (more : List Output) × (whole.out ≡ first ++ more) × (later ≡ more ++ whole.waiting)
      × (said_of more ≡ taken t cs)
  parts = parted (λ (x : Output). x.0) first later whole.out whole.waiting (taken t cs) all_parts out_parts

  since_is : said_to served t (stands_on t cs) ≡ later
  since_is =
      grind (
        arith,
        nat_tests,
        carried_reset t [] since.pre since.post,
        since_says t (failed cs) [] since.post since.never,
      )

  -- all that commands said to it since then is what was taken out since then, and what waits
  pub said_since : IsSaid (said_to served t (stands_on t cs)) t (λ u. taken t cs)
      (last_machine limits next start cs s done)
  said_since = record {
    out = parts.0;
    waiting = whole.waiting;
    split = since_is ∙ parts.2;
    gone = sym parts.3;
    texts = whole.texts;
    settled = λ x g there here. whole.settled x g
        (subst (λ l. Contains l x) (sym parts.1) (Contains-append_right first parts.0 x there)) here;
    ready = whole.ready;
  }
