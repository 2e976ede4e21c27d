-- A command that is carried out, told to the machine of records.
use Rattle.sk_durable.proofs.Names.{arith, ◌≡◌, ℕ, Bool, true, false, cond, ◌||◌, List, [], ◌∷◌, ◌++◌, map, Option}
use Rattle.sk_durable.proofs.Names.{Some, None, refl, sym, ◌∙◌, ap, subst, ◌==◌, list_any, eq_by_cmp, append-nil}
use Rattle.sk_durable.proofs.Names.{list_any-append, is_marked, has, last_tags, Taken, tags_at, Status, bytes_cmp}
use Rattle.sk_durable.proofs.Names.{same_bytes, undo_state_of, in_batch, is_touched, open_numbers, batch_key}
use Rattle.sk_durable.proofs.Names.{is_reserved, spares_named, looks_as_before, Answer, comes_to, looks_at}
use Rattle.sk_durable.proofs.Names.{may_write_some, IsProper, Out, names_reserved, batch_keys, deed, Asked, Runs}
use Rattle.sk_durable.proofs.Names.{deed_now, has_now, touched, Batches, CarriesOut, IsTold, Kernel, KnowsIfTold}
use Rattle.sk_durable.proofs.Names.{TakenIn, StoreView, or-false}
use Rattle.std.proofs.lemmas.Bool.Decides.{nat_tests}
use Rattle.sk_batched.specs.Batched.{Draws}
use Rattle.sk_durable.proofs.Inside.{drawn, drawn_store, kept_as, stepped}
use Rattle.sk_durable.proofs.Machines.{Agree, led_on, machine, InStep, Led}
use Rattle.sk_durable.proofs.Tagged.{tags_drawn, tags_of_batch}

-- work that nothing logs
abbrev alone : Asked → Asked
alone asked = record asked { batch = None }

-- its deed looks at no batch's key
deed_alone : (asked : Asked) (kernel : Kernel) → asked.batch ≡ None
    → deed_now kernel (alone asked) ≡ deed (Runs asked) (has_now kernel)
deed_alone asked kernel none = ap (λ b. deed (Runs (record asked { batch = b })) (has_now kernel)) (sym none)

-- and that of work of a batch looks at its key last
deed_in : (asked : Asked) (kernel : Kernel) (n : ℕ) → asked.batch ≡ Some n
    → in_batch n (deed_now kernel (alone asked)) ≡ deed (Runs asked) (has_now kernel)
deed_in asked kernel n some = grind (arith, nat_tests, append-nil (looks_at asked.known asked.work))

-- the keys that are there are known
proper : (kernel : Kernel) (status : ℕ → Option Status) (asked : Asked) → names_reserved asked.work ≡ false
    → KnowsIfTold kernel asked.work asked.known
    → IsProper (machine kernel status) (Taken (Runs asked))
proper kernel status asked free knows = grind (arith, nat_tests)

-- none of these keys is a batch's
apart_from : (n : ℕ) (k : List ℕ) → is_reserved k ≡ false → eq_by_cmp bytes_cmp k (batch_key n) ≡ false
apart_from n k plain = grind (arith, nat_tests, same_bytes k (batch_key n))

-- what some keys depend on is what they depended on before
any_same : (p q : List ℕ → Bool) (ks : List (List ℕ)) → ((k : List ℕ) → is_reserved k ≡ false → p k ≡ q k)
    → list_any is_reserved ks ≡ false
    → list_any p ks ≡ list_any q ks
any_same p q [] same none = refl
any_same p q (k ∷ ks) same none = grind (arith, nat_tests, any_same p q ks same)

turn : (l k w : Bool) → ((l || (k || false)) || w) ≡ ((l || w) || k)
turn false true false = refl
turn false false false = refl
turn l k w = refl

-- one key in the middle of others
in_middle : (p : List ℕ → Bool) (ls ws : List (List ℕ)) (k : List ℕ)
    → list_any p ((ls ++ k ∷ []) ++ ws) ≡ (list_any p (ls ++ ws) || p k)
in_middle p ls ws k =
    list_any-append p (ls ++ k ∷ []) ws ∙ ap (λ b. b || list_any p ws) (list_any-append p ls (k ∷ []))
    ∙ turn (list_any p ls) (p k) (list_any p ws) ∙ ap (λ b. b || p k) (sym (list_any-append p ls ws))

-- a guess that is drawn changes nothing that keys have
look_drawn : (b : Batches) (known : InStep b) (m : Kernel) (begun : Bool) → Draws begun b.kernel b.queue.number m
    → (k : List ℕ)
    → has_now m k ≡ has_now b.kernel k
look_drawn b known m true same k = ap (λ (e : Kernel). has_now e k) same
look_drawn b known m false takes k =
    looks_as_before b.kernel.parts m.parts (open_numbers b.queue b.begun) b.queue.number known.1.row takes k

-- and nothing that they depend on, but for the batch's
tags_as_before : (b : Batches) (status : ℕ → Option Status) → Agree b.kernel status
    → (m : Kernel) (begun : Bool) → Draws begun b.kernel b.queue.number m → (k : List ℕ)
    → eq_by_cmp bytes_cmp k (batch_key b.queue.number) ≡ false
    → tags_at (undo_state_of bytes_cmp m.parts) k ≡ tags_at (undo_state_of bytes_cmp b.kernel.parts) k
tags_as_before b status are m true same k other = ap (λ (e : Kernel). tags_at (undo_state_of bytes_cmp e.parts) k) same
tags_as_before b status are m false takes k other =
    tags_drawn b.kernel.parts m.parts b.queue.number status are takes k other

module _ (told : Out) (a : StoreView) (status : ℕ → Option Status)
    (are : Agree a.batched.kernel status) (known : InStep a.batched)
    (s : StoreView) (asked : Asked) (answer : Answer) (rests : List ℕ) (free : names_reserved asked.work ≡ false)
    (knows : KnowsIfTold a.batched.kernel asked.work asked.known)
    (plain : list_any is_reserved (touched (deed_now a.batched.kernel (alone asked))) ≡ false)
    (says : IsTold a.batched asked answer rests) where
  abbrev kernel : Kernel
  kernel = a.batched.kernel

  abbrev n : ℕ
  n = a.batched.queue.number

  abbrev tag_in : Kernel → ℕ → List ℕ → Bool
  tag_in m g k = has g (tags_at (undo_state_of bytes_cmp m.parts) k)

  without : may_write_some asked.work ≡ false → TakenIn false a.batched (alone asked) s.batched
      → Led told told (machine kernel status) (kept_as asked answer rests ∷ []) [] s
  without reads (takes, queue, begun) =
      let none : asked.batch ≡ None = says.batch ∙ ap (λ b. cond b (Some n) None) reads in
      stepped told a status are known s asked answer rests (deed_now kernel (alone asked))
      (deed_alone asked kernel none) takes
      (spares_named (deed_now kernel (alone asked)) plain) (proper kernel status asked free knows) says.answer_is
      (λ g. says.rests_are g ∙ ap (λ b. is_touched kernel.parts (deed_now kernel (alone asked)) g || is_marked b g) none
      ∙ or-false (is_touched kernel.parts (deed_now kernel (alone asked)) g)
      ∙ ap (λ d. list_any (tag_in kernel g) (touched d)) (deed_alone asked kernel none))
      (ap (λ q. map (λ b. b.number) q.batches) queue, ap (λ q. q.number) queue) begun

  within : may_write_some asked.work ≡ true → TakenIn true a.batched (alone asked) s.batched
      → Led told told (machine kernel status) (kept_as asked answer rests ∷ []) [] s
  within writes (room, logs) =
      let m = logs.drawn in
      let mid = drawn_store a m in
      let one = drawn told a status are known m room logs.draws in
      let some : asked.batch ≡ Some n = says.batch ∙ ap (λ b. cond b (Some n) None) writes in
      let looks : (k : List ℕ) → has_now m k ≡ has_now kernel k =
      look_drawn a.batched known m a.batched.begun logs.draws in
      let look : has_now kernel ≡ has_now m = (λ i k. sym (looks k) i) in
      let tags : (k : List ℕ) → eq_by_cmp bytes_cmp k (batch_key n) ≡ false
      → tags_at (undo_state_of bytes_cmp m.parts) k ≡ tags_at (undo_state_of bytes_cmp kernel.parts) k =
      tags_as_before a.batched status are m a.batched.begun logs.draws in
      let own = tags_of_batch m.parts (map (λ b. b.number) a.batched.queue.batches) n one.known.1.row in
      let looked = looks_at asked.known asked.work in
      let written = map (λ w. w.0) (comes_to asked.known asked.work (has_now kernel)).written in
      let two = stepped told mid one.status one.agrees one.known s asked answer rests
      (in_batch n (deed_now kernel (alone asked)))
      (deed_in asked kernel n some ∙ ap (λ has. deed (Runs asked) has) look) logs.takes
      (spares_named (deed_now kernel (alone asked)) plain) (
        free,
        λ wants. (
          (knows wants).0,
          λ key named lacking.
              let at = (knows wants).1 key named lacking in
              (looks key ∙ at.0, tags key (apart_from n key named) ∙ ap (last_tags []) at.1),
        ),
      )
      (says.answer_is ∙ ap (λ has. (comes_to asked.known asked.work has).reply) look)
      (λ g. says.rests_are g
      ∙ ap (λ b. list_any (tag_in kernel g) (touched (deed_now kernel (alone asked))) || is_marked b g) some
      ∙ ap (λ ls. list_any (tag_in kernel g) (ls ++ written) || (n == g)) (append-nil looked)
      ∙ (λ i. sym (any_same (tag_in m g) (tag_in kernel g) (looked ++ written)
      (λ k out. ap (has g) (tags k (apart_from n k out)))
      (subst (λ ls. list_any is_reserved (ls ++ written) ≡ false) (append-nil looked) plain)) i
      || sym (ap (has g) own ∙ or-false (n == g)) i)
      ∙ sym (in_middle (tag_in m g) looked written (batch_key n))
      ∙ ap (λ b. list_any (tag_in m g) ((looked ++ batch_keys b) ++ written)) (sym some)
      ∙ ap (λ has. list_any (tag_in m g) (touched (deed (Runs asked) has))) look)
      (ap (λ q. map (λ b. b.number) q.batches) logs.queue, ap (λ q. q.number) logs.queue) logs.begun in
      led_on told told told (machine kernel status) [] (kept_as asked answer rests ∷ []) [] [] mid s one two

  by_writing : (w : Bool) → may_write_some asked.work ≡ w → TakenIn w a.batched (alone asked) s.batched
      → Led told told (machine kernel status) (kept_as asked answer rests ∷ []) [] s
  by_writing true is taken = within is taken
  by_writing false is taken = without is taken

-- it is carried out in the open batch where it may write, and else in none
pub carried_out : (told : Out) (a : StoreView) (status : ℕ → Option Status) → Agree a.batched.kernel status
    → InStep a.batched
    → (s : StoreView) (asked : Asked) (answer : Answer) (rests : List ℕ) → names_reserved asked.work ≡ false
    → CarriesOut a.batched (record asked { batch = None }) s.batched → IsTold a.batched asked answer rests
    → Led told told (machine a.batched.kernel status) (kept_as asked answer rests ∷ []) [] s
carried_out told a status are known s asked answer rests free carries says =
    by_writing told a status are known s asked answer rests free carries.knows carries.plain says
    (may_write_some asked.work) refl carries.taken
