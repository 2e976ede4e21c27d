-- What names no reserved key writes none.
use Rattle.sk_served.proofs.Names.{◌≡◌, ℕ, ℤ, Bool, true, false, List, [], ◌∷◌, ◌++◌, map, Option, Some, None, bytes_eq}
use Rattle.sk_served.proofs.Names.{nat_le, length, if◌then◌else◌, refl, sym, subst, ◌∙◌, ◌+ℤ◌, list_any, or_parts}
use Rattle.sk_served.proofs.Names.{true≢false, bytes_eq-Decides, Command, Set, Del, Add, Append, MSet, FlushAll, Reply}
use Rattle.sk_served.proofs.Names.{Error, TooLong, VALUE_LIMIT, Work, fitting, added, bytes_of, counted, joined}
use Rattle.sk_served.proofs.Names.{may_set, number_at, pairs_of, present, puts, removals, replies, set, set_reply}
use Rattle.sk_served.proofs.Names.{there, counts, Have, Written, comes_to, each, known_after, with_value, is_reserved}
use Rattle.sk_served.proofs.Names.{command_names_reserved, names_reserved, HasNoReserved}
use Rattle.sk_commands.specs.declared.work.Work.TheVariants as works
use Rattle.sk_commands.specs.Table.{outcome}
use Rattle.sk_commands.specs.Work.{after}

-- What is written to a reserved key makes it absent.
abbrev pub AreFree : Written → Type 0
AreFree [] = Unit {0}
AreFree (w ∷ ws) = (is_reserved w.0 ≡ true → w.1 ≡ None) × AreFree ws

pub free_after : (ws : Written) (has : Have) → AreFree ws → HasNoReserved has → HasNoReserved (after ws has)
free_after [] has free none = none
free_after (w ∷ ws) has free none =
    free_after ws (with_value w.0 w.1 has) free.1
    (λ key reserved.
    elim (bytes_eq key w.0) as (λ b. bytes_eq key w.0 ≡ b → (if b then w.1 else has key) ≡ None) [
      | true ↦ λ same. free.0 (subst (λ k. is_reserved k ≡ true) ((bytes_eq-Decides key w.0).0 same) reserved)
      | false ↦ λ same. none key reserved
    ] refl)

not_both : (key : List ℕ) (value : Option (List ℕ)) → is_reserved key ≡ false → is_reserved key ≡ true → value ≡ None
not_both key value is_not is = absurd (true≢false (sym is ∙ is_not))

only : (key : List ℕ) → list_any is_reserved (key ∷ []) ≡ false → is_reserved key ≡ false
only key h = (or_parts _ _ h).0

put_free : (key : List ℕ) (value : List ℕ) (reply : Reply) → is_reserved key ≡ false
    → AreFree (puts key value reply).written
put_free key value reply h = (not_both key (Some value) h, tt)

set_free : (key value : List ℕ) (sets : Bool) (reply : Reply) → is_reserved key ≡ false
    → AreFree (set key value sets reply).written
set_free key value true reply h = put_free key value reply h
set_free key value false reply h = tt

counted_free : (key : List ℕ) (sum : Option ℤ) → is_reserved key ≡ false → AreFree (counted key sum).written
counted_free key None h = tt
counted_free key (Some sum) h = (not_both key _ h, tt)

added_free : (key : List ℕ) (by : ℤ) (number : Option ℤ) → is_reserved key ≡ false
    → AreFree (added key by number).written
added_free key by None h = tt
added_free key by (Some n) h = counted_free key (fitting (n +ℤ by)) h

joined_free : (key value : List ℕ) → is_reserved key ≡ false → AreFree (joined key value).written
joined_free key value h =
    elim (nat_le (length value) VALUE_LIMIT) as (λ b. AreFree (if b then puts key value (counts (length value)) else replies (Error TooLong)).written) [
      | true ↦ put_free key value (counts (length value)) h
      | false ↦ tt
    ]

removals_free : (keys : List (List ℕ)) → AreFree (removals keys)
removals_free [] = tt
removals_free (key ∷ keys) = (λ is. refl, removals_free keys)

all_free : (ws : Written) → list_any is_reserved (map (λ w. w.0) ws) ≡ false → AreFree ws
all_free [] h = tt
all_free (w ∷ ws) h = let parts = or_parts _ _ h in (not_both w.0 w.1 parts.0, all_free ws parts.1)

outcome_free : (c : Command) (known : List (List ℕ)) (has : Have) → command_names_reserved c ≡ false
    → AreFree (outcome known c has).written
outcome_free (Set key value options) known has h =
    set_free key value (may_set options.when (has key)) (set_reply options.gives (may_set options.when (has key)) (has key)) (only key h)
outcome_free (Del keys) known has h = removals_free (there has keys)
outcome_free (Add key by) known has h = added_free key by (number_at (has key)) (only key h)
outcome_free (Append key more) known has h = joined_free key (bytes_of (has key) ++ more) (only key h)
outcome_free (MSet words) known has h = all_free (pairs_of words) h
outcome_free FlushAll known has h = removals_free (present has known)
outcome_free command known has h = tt

free_append : (vs ws : Written) → AreFree vs → AreFree ws → AreFree (vs ++ ws)
free_append [] ws f g = g
free_append (v ∷ vs) ws f g = (f.0, free_append vs ws f.1 g)

each_free : (cs : List Command) (known : List (List ℕ)) (has : Have) → list_any command_names_reserved cs ≡ false
    → AreFree (each known cs has).written
each_free [] known has h = tt
each_free (c ∷ cs) known has h =
    let parts = or_parts _ _ h in
    let one = outcome known c has in
    let rest = each (known_after one.written known) cs (after one.written has) in
    free_append one.written rest.written (outcome_free c known has parts.0) (each_free cs (known_after one.written known) (after one.written has) parts.1)

pub work_free : (work : Work) (known : List (List ℕ)) (has : Have) → names_reserved work ≡ false
    → AreFree (comes_to known work has).written
work_free (works.Say reply) known has h = tt
work_free (works.One c) known has h = outcome_free c known has h
work_free (works.Each cs) known has h = each_free cs known has h
