-- The map of all entities has what the maps of its kinds have.
use Rattle.sk_undo.proofs.Cites.{◌≡◌, ℕ, ◌+◌, Bool, true, false, cond, T, ◌&&◌, Option, Some, None, List, [], ◌∷◌, ◌++◌}
use Rattle.sk_undo.proofs.Cites.{ObjId, AllByRecursion, Equal, Greater}
use Rattle.sk_undo.proofs.Cites.{OnSome, OnOk, Result, Ok, Err, refl, ap, sym, subst, ◌∙◌, each, Ordering, Less, eq_by_cmp, is_lt, nat_cmp}
use Rattle.sk_undo.proofs.Cites.{IsTotalOrder, is_sorted, below_all, find, get, same_map}
use Rattle.sk_undo.proofs.Cites.{entity_cmp, object_cmp, name_order, entity_exact, entity_total, Entity, Proc, Sig, Exit, Obj, Link, Copy}
use Rattle.std.proofs.lemmas.List.{append-nil, append_assoc, map-append}
use Rattle.std.specs.Cmp.{nat_cmp_total}
use Rattle.std.specs.List.Sorted.{IsStrictlySortedBy}
use Rattle.sk_record.specs.Run.{put}
use Rattle.sk_map.specs.Seen.{seen}
use Rattle.std.specs.Cmp.Lexicographic.{nat_list_cmp_total}
use Rattle.std.specs.FinMap.{FinMap, entries, empty, from_sorted, get-empty, get-entries, get-from_entries, get-from_sorted}
use Rattle.std.specs.FinMap.{entries-from_sorted, entries_sorted, keys, values}
use Rattle.sk_map.specs.KeyLemma.{object_same}
use Rattle.sk_ids.specs.contracts.pid.ObjIdOrd.TheImpl.Laws as object_laws
use Rattle.sk_undo.specs.contracts.keys.LinkKeyOrd.TheImpl.Laws as link_laws
use Rattle.sk_undo.specs.Kinds.{link_cmp, link_of, lifted, joined}
use Rattle.sk_undo.specs.KindsLemma.{link_same}
use Rattle.sk_undo.proofs.Maps.{get_put}
use Rattle.sk_undo.specs.declared.entity_map.EntityMap.TheInside.{Inside}
use Rattle.sk_undo.specs.declared.keys.LinkKey.{LinkKey}

object_total : IsTotalOrder object_cmp
object_total = subst IsTotalOrder object_same object_laws.total-law

pub link_total : IsTotalOrder link_cmp
link_total = subst IsTotalOrder link_same link_laws.total-law

both : (a b : Bool) → T a → T b → T (a && b)
both true b p q = q
both false b p q = p

first : (a b : Bool) → T (a && b) → T a
first true b p = tt
first false b p = p

second : (a b : Bool) → T (a && b) → T b
second true b p = p
second false b p = absurd p

-- what is of another kind is passed over
skip : {K V : Type 0} (f : K → Entity) (q : Entity) → ((k : K) → eq_by_cmp entity_cmp q (f k) ≡ false) → (es : List (K × V)) (rest : List (Entity × V)) → find entity_cmp q (lifted f es ++ rest) ≡ find entity_cmp q rest
skip f q h [] rest = refl
skip f q h (e ∷ es) rest = ap (λ b. cond b (Some e.1) (find entity_cmp q (lifted f es ++ rest))) (h e.0) ∙ skip f q h es rest

-- what is of the kind is found by its key
hit : {K V : Type 0} (R : K → K → Ordering) (f : K → Entity) → ((j k : K) → eq_by_cmp entity_cmp (f j) (f k) ≡ eq_by_cmp R j k) → (k : K) (es : List (K × V)) (rest : List (Entity × V)) → find entity_cmp (f k) rest ≡ None → find entity_cmp (f k) (lifted f es ++ rest) ≡ find R k es
hit R f h k [] rest none = none
hit R f h k (e ∷ es) rest none = λ i. cond (h k e.0 i) (Some e.1) (hit R f h k es rest none i)

-- entries of a kind before those of later kinds stay in order
ahead : {K V : Type 0} (k : Entity) (f : K → Entity) → ((j : K) → T (is_lt (entity_cmp k (f j)))) → (es : List (K × V)) (rest : List (Entity × V)) → T (below_all entity_cmp k rest) → T (below_all entity_cmp k (lifted f es ++ rest))
ahead k f h [] rest t = t
ahead k f h (e ∷ es) rest t = both _ _ (h e.0) (ahead k f h es rest t)

among : {K V : Type 0} (R : K → K → Ordering) (f : K → Entity) → ((j k : K) → entity_cmp (f j) (f k) ≡ R j k) → (k : K) (es : List (K × V)) (rest : List (Entity × V)) → T (below_all R k es) → T (below_all entity_cmp (f k) rest) → T (below_all entity_cmp (f k) (lifted f es ++ rest))
among R f h k [] rest s t = t
among R f h k (e ∷ es) rest s t =
    both _ _ (subst (λ r. T (is_lt r)) (sym (h k e.0)) (first _ _ s)) (among R f h k es rest (second _ _ s) t)

onto : {K V : Type 0} (R : K → K → Ordering) (f : K → Entity) → ((j k : K) → entity_cmp (f j) (f k) ≡ R j k) → (es : List (K × V)) (rest : List (Entity × V)) → T (is_sorted R es) → T (is_sorted entity_cmp rest) → ((k : K) → T (below_all entity_cmp (f k) rest)) → T (is_sorted entity_cmp (lifted f es ++ rest))
onto R f h [] rest s t under = t
onto R f h (e ∷ es) rest s t under =
    both _ _ (among R f h e.0 es rest (first _ _ s) (under e.0)) (onto R f h es rest (second _ _ s) t under)

-- the maps of the kinds
pub record Kinds (V : Type 0) : Type 0 where
  pub processes : FinMap nat_cmp V
  pub signals : FinMap nat_cmp V
  pub exits : FinMap nat_cmp V
  pub objects : FinMap object_cmp V
  pub links : FinMap link_cmp V
  pub copies : FinMap name_order V

-- as one map
abbrev pub together : {V : Type 0} → Kinds V → FinMap entity_cmp V
together k = joined k.processes k.signals k.exits k.objects k.links k.copies

-- those of a map of entities
abbrev pub kinds_of : {V : Type 0} → Inside V → Kinds V
kinds_of a = record {
  processes = seen nat_cmp a.processes;
  signals = seen nat_cmp a.signals;
  exits = seen nat_cmp a.exits;
  objects = seen object_cmp a.objects;
  links = seen link_cmp a.links;
  copies = seen name_order a.copies;
}

module _ {V : Type 0} (k : Kinds V) where
  abbrev from_links : List (Entity × V)
  from_links = lifted link_of (entries k.links) ++ (lifted Copy (entries k.copies) ++ [])

  abbrev from_objects : List (Entity × V)
  from_objects = lifted Obj (entries k.objects) ++ from_links

  abbrev from_exits : List (Entity × V)
  from_exits = lifted Exit (entries k.exits) ++ from_objects

  abbrev from_signals : List (Entity × V)
  from_signals = lifted Sig (entries k.signals) ++ from_exits

  abbrev whole : List (Entity × V)
  whole = lifted Proc (entries k.processes) ++ from_signals

  abbrev listed : List (Entity × V)
  listed =
      lifted Proc (entries k.processes) ++ (lifted Sig (entries k.signals) ++ (lifted Exit (entries k.exits)
      ++ (lifted Obj (entries k.objects) ++ (lifted link_of (entries k.links) ++ lifted Copy (entries k.copies)))))

  whole_is : listed ≡ whole
  whole_is = ap (λ es. lifted Proc (entries k.processes) ++ (lifted Sig (entries k.signals) ++ (lifted Exit (entries k.exits) ++ (lifted Obj (entries k.objects) ++ (lifted link_of (entries k.links) ++ es))))) (sym (append-nil (lifted Copy (entries k.copies))))

  -- what the map of its kind has of an entity
  abbrev pub had : Entity → Option V
  had (Proc p) = get k.processes p
  had (Sig p) = get k.signals p
  had (Exit p) = get k.exits p
  had (Obj o) = get k.objects o
  had (Link o n) = get k.links (record { directory = o; name = n })
  had (Copy n) = get k.copies n

  found : (q : Entity) → find entity_cmp q whole ≡ had q
  found (Proc p) =
      hit nat_cmp Proc (λ i j. refl) p (entries k.processes) _ (skip Sig (Proc p) (λ j. refl) (entries k.signals) _ ∙ skip Exit (Proc p) (λ j. refl) (entries k.exits) _ ∙ skip Obj (Proc p) (λ j. refl) (entries k.objects) _ ∙ skip link_of (Proc p) (λ j. refl) (entries k.links) _ ∙ skip Copy (Proc p) (λ j. refl) (entries k.copies) [])
      ∙ sym (get-entries k.processes p)
  found (Sig p) =
      skip Proc (Sig p) (λ j. refl) (entries k.processes) _
      ∙ hit nat_cmp Sig (λ i j. refl) p (entries k.signals) _ (skip Exit (Sig p) (λ j. refl) (entries k.exits) _ ∙ skip Obj (Sig p) (λ j. refl) (entries k.objects) _ ∙ skip link_of (Sig p) (λ j. refl) (entries k.links) _ ∙ skip Copy (Sig p) (λ j. refl) (entries k.copies) [])
      ∙ sym (get-entries k.signals p)
  found (Exit p) =
      skip Proc (Exit p) (λ j. refl) (entries k.processes) _ ∙ skip Sig (Exit p) (λ j. refl) (entries k.signals) _
      ∙ hit nat_cmp Exit (λ i j. refl) p (entries k.exits) _ (skip Obj (Exit p) (λ j. refl) (entries k.objects) _ ∙ skip link_of (Exit p) (λ j. refl) (entries k.links) _ ∙ skip Copy (Exit p) (λ j. refl) (entries k.copies) [])
      ∙ sym (get-entries k.exits p)
  found (Obj o) =
      skip Proc (Obj o) (λ j. refl) (entries k.processes) _ ∙ skip Sig (Obj o) (λ j. refl) (entries k.signals) _ ∙ skip Exit (Obj o) (λ j. refl) (entries k.exits) _
      ∙ hit object_cmp Obj (λ i j. refl) o (entries k.objects) _ (skip link_of (Obj o) (λ j. refl) (entries k.links) _ ∙ skip Copy (Obj o) (λ j. refl) (entries k.copies) [])
      ∙ sym (get-entries k.objects o)
  found (Link o n) =
      skip Proc (Link o n) (λ j. refl) (entries k.processes) _ ∙ skip Sig (Link o n) (λ j. refl) (entries k.signals) _ ∙ skip Exit (Link o n) (λ j. refl) (entries k.exits) _ ∙ skip Obj (Link o n) (λ j. refl) (entries k.objects) _
      ∙ hit link_cmp link_of (λ i j. refl) (record { directory = o; name = n }) (entries k.links) _ (skip Copy (Link o n) (λ j. refl) (entries k.copies) [])
      ∙ sym (get-entries k.links (record { directory = o; name = n }))
  found (Copy n) =
      skip Proc (Copy n) (λ j. refl) (entries k.processes) _ ∙ skip Sig (Copy n) (λ j. refl) (entries k.signals) _ ∙ skip Exit (Copy n) (λ j. refl) (entries k.exits) _ ∙ skip Obj (Copy n) (λ j. refl) (entries k.objects) _ ∙ skip link_of (Copy n) (λ j. refl) (entries k.links) _
      ∙ hit name_order Copy (λ i j. refl) n (entries k.copies) [] refl
      ∙ sym (get-entries k.copies n)

  pub joined_get : (q : Entity) → get (together k) q ≡ had q
  unfolding joined
  joined_get q = get-from_entries entity_total listed q ∙ ap (find entity_cmp q) whole_is ∙ found q

  sorted : T (is_sorted entity_cmp whole)
  sorted =
      onto nat_cmp Proc (λ i j. refl) (entries k.processes) from_signals (entries_sorted k.processes)
      (onto nat_cmp Sig (λ i j. refl) (entries k.signals) from_exits (entries_sorted k.signals)
      (onto nat_cmp Exit (λ i j. refl) (entries k.exits) from_objects (entries_sorted k.exits)
      (onto object_cmp Obj (λ i j. refl) (entries k.objects) from_links (entries_sorted k.objects)
      (onto link_cmp link_of (λ i j. refl) (entries k.links) _ (entries_sorted k.links)
      (onto name_order Copy (λ i j. refl) (entries k.copies) [] (entries_sorted k.copies) tt (λ j. tt))
      (λ x. ahead (link_of x) Copy (λ j. tt) (entries k.copies) [] tt))
      (λ x. ahead (Obj x) link_of (λ j. tt) (entries k.links) _ (ahead (Obj x) Copy (λ j. tt) (entries k.copies) [] tt)))
      (λ x. ahead (Exit x) Obj (λ j. tt) (entries k.objects) _ (ahead (Exit x) link_of (λ j. tt) (entries k.links) _ (ahead (Exit x) Copy (λ j. tt) (entries k.copies) [] tt))))
      (λ x. ahead (Sig x) Exit (λ j. tt) (entries k.exits) _ (ahead (Sig x) Obj (λ j. tt) (entries k.objects) _ (ahead (Sig x) link_of (λ j. tt) (entries k.links) _ (ahead (Sig x) Copy (λ j. tt) (entries k.copies) [] tt)))))
      (λ x. ahead (Proc x) Sig (λ j. tt) (entries k.signals) _ (ahead (Proc x) Exit (λ j. tt) (entries k.exits) _ (ahead (Proc x) Obj (λ j. tt) (entries k.objects) _ (ahead (Proc x) link_of (λ j. tt) (entries k.links) _ (ahead (Proc x) Copy (λ j. tt) (entries k.copies) [] tt)))))

  seconds : {K : Type 0} (f : K → Entity) (es : List (K × V)) → each (λ e. e.1) (lifted f es) ≡ each (λ e. e.1) es
  seconds f [] = refl
  seconds f (e ∷ es) = ap (λ vs. e.1 ∷ vs) (seconds f es)

  firsts : {K : Type 0} (f : K → Entity) (es : List (K × V)) → each (λ e. e.0) (lifted f es) ≡ each f (each (λ e. e.0) es)
  firsts f [] = refl
  firsts f (e ∷ es) = ap (λ ks. f e.0 ∷ ks) (firsts f es)

  pub joined_entries : entries (together k) ≡ listed
  joined_entries =
      ap entries (same_map entity_total entity_exact (together k) (from_sorted {R = entity_cmp} whole)
      (λ q. joined_get q ∙ sym (found q) ∙ sym (get-from_sorted entity_cmp whole q sorted)))
      ∙ entries-from_sorted entity_cmp whole sorted ∙ sym whole_is

  pub joined_values : values (together k) ≡ values k.processes ++ (values k.signals ++ (values k.exits ++ (values k.objects ++ (values k.links ++ values k.copies))))
  joined_values =
      ap (each (λ e. e.1)) joined_entries ∙ simp (map-append, seconds Proc, seconds Sig, seconds Exit, seconds Obj, seconds link_of, seconds Copy)

  pub joined_keys : keys (together k) ≡ each Proc (keys k.processes) ++ (each Sig (keys k.signals) ++ (each Exit (keys k.exits) ++ (each Obj (keys k.objects) ++ (each link_of (keys k.links) ++ each Copy (keys k.copies)))))
  joined_keys =
      ap (each (λ e. e.0)) joined_entries ∙ simp (map-append, firsts Proc, firsts Sig, firsts Exit, firsts Obj, firsts link_of, firsts Copy)

-- keys of a map rise
rise : {K X : Type 0} (R : K → K → Ordering) (es : List (K × X)) → T (is_sorted R es) → IsStrictlySortedBy R (each (λ e. e.0) es)
unfolding IsStrictlySortedBy
rise R [] s = tt
rise {K} {X} R (e ∷ es) s = (all e.0 es (first _ _ s), rise R es (second _ _ s))
  where
    less : (r : Ordering) → T (is_lt r) → r ≡ Less
    less Less t = refl
    less Equal t = absurd t
    less Greater t = absurd t

    all : (k : K) (fs : List (K × X)) → T (below_all R k fs) → AllByRecursion (λ y. R k y ≡ Less) (each (λ f. f.0) fs)
    all k [] t = tt
    all k (f ∷ fs) t = (less _ (first _ _ t), all k fs (second _ _ t))

pub keys_rise : {V : Type 0} (m : FinMap entity_cmp V) → IsStrictlySortedBy entity_cmp (keys m)
keys_rise m = rise entity_cmp (entries m) (entries_sorted m)

abbrev nothing : {V : Type 0} → Kinds V
nothing = record { processes = empty; signals = empty; exits = empty; objects = empty; links = empty; copies = empty }

pub joined_empty : {V : Type 0} → joined (empty {X = V}) empty empty empty empty empty ≡ empty
joined_empty {V} = same_map entity_total entity_exact _ _ (λ q. joined_get (nothing {V = V}) q ∙ none q ∙ sym (get-empty entity_cmp q))
  where
    none : (q : Entity) → had (nothing {V = V}) q ≡ None
    none (Proc p) = get-empty nat_cmp p
    none (Sig p) = get-empty nat_cmp p
    none (Exit p) = get-empty nat_cmp p
    none (Obj o) = get-empty object_cmp o
    none (Link o n) = get-empty link_cmp (record { directory = o; name = n })
    none (Copy n) = get-empty name_order n

module _ {V : Type 0} where
  -- with an entity set, or made absent, in the map of its kind
  abbrev pub with_at : Kinds V → Entity → Option V → Kinds V
  with_at k (Proc p) o = record k { processes = put k.processes p o }
  with_at k (Sig p) o = record k { signals = put k.signals p o }
  with_at k (Exit p) o = record k { exits = put k.exits p o }
  with_at k (Obj d) o = record k { objects = put k.objects d o }
  with_at k (Link d n) o = record k { links = put k.links (record { directory = d; name = n }) o }
  with_at k (Copy n) o = record k { copies = put k.copies n o }

  had_at : (k : Kinds V) (e q : Entity) (o : Option V) → had (with_at k e o) q ≡ cond (eq_by_cmp entity_cmp q e) o (had k q)
  had_at k (Proc p) (Proc q) o = get_put nat_cmp_total k.processes p q o
  had_at k (Sig p) (Sig q) o = get_put nat_cmp_total k.signals p q o
  had_at k (Exit p) (Exit q) o = get_put nat_cmp_total k.exits p q o
  had_at k (Obj d) (Obj q) o = get_put object_total k.objects d q o
  had_at k (Link d n) (Link q t) o = get_put link_total k.links (record { directory = d; name = n }) (record { directory = q; name = t }) o
  had_at k (Copy n) (Copy q) o = get_put nat_list_cmp_total k.copies n q o
  had_at k _ _ o = refl

  pub together_at : (k : Kinds V) (e : Entity) (o : Option V) → together (with_at k e o) ≡ put (together k) e o
  together_at k e o = same_map entity_total entity_exact _ _ (λ q.
      joined_get (with_at k e o) q ∙ had_at k e q o ∙ ap (cond (eq_by_cmp entity_cmp q e) o) (sym (joined_get k q)) ∙ sym (get_put entity_total (together k) e q o))

-- what a map of entities has, and becomes, by what a map of one kind has, and becomes, whose key is that of the entity
module _ {V : Type 0} (a : Inside V) {m : FinMap entity_cmp V} (whole : together (kinds_of a) ≡ m) {e : Entity} where
  pub got : {K : Type 0} (f : K → Entity) {j p : K} {o : Option V} → j ≡ p → e ≡ f p → o ≡ had (kinds_of a) (f j) → o ≡ get m e
  got f {j} key is found = found ∙ sym (joined_get (kinds_of a) (f j)) ∙ (λ i. get (whole i) ((ap f key ∙ sym is) i))

  pub after : (q : Entity) (o : Option V) → q ≡ e → together (with_at (kinds_of a) q o) ≡ put m e o
  after q o is = together_at (kinds_of a) q o ∙ (λ i. put (whole i) (is i) o)

  pub set_process : (o : Option V) {j p : ℕ} {n : FinMap nat_cmp V} → j ≡ p → e ≡ Proc p → n ≡ put (seen nat_cmp a.processes) j o → together (record (kinds_of a) { processes = n }) ≡ put m e o
  set_process o {j} key is made = (λ i. together (record (kinds_of a) { processes = made i })) ∙ after (Proc j) o (ap Proc key ∙ sym is)

  pub set_signals : (o : Option V) {j p : ℕ} {n : FinMap nat_cmp V} → j ≡ p → e ≡ Sig p → n ≡ put (seen nat_cmp a.signals) j o → together (record (kinds_of a) { signals = n }) ≡ put m e o
  set_signals o {j} key is made = (λ i. together (record (kinds_of a) { signals = made i })) ∙ after (Sig j) o (ap Sig key ∙ sym is)

  pub set_exit : (o : Option V) {j p : ℕ} {n : FinMap nat_cmp V} → j ≡ p → e ≡ Exit p → n ≡ put (seen nat_cmp a.exits) j o → together (record (kinds_of a) { exits = n }) ≡ put m e o
  set_exit o {j} key is made = (λ i. together (record (kinds_of a) { exits = made i })) ∙ after (Exit j) o (ap Exit key ∙ sym is)

  pub set_object : (o : Option V) {j p : ObjId} {n : FinMap object_cmp V} → j ≡ p → e ≡ Obj p → n ≡ put (seen object_cmp a.objects) j o → together (record (kinds_of a) { objects = n }) ≡ put m e o
  set_object o {j} key is made = (λ i. together (record (kinds_of a) { objects = made i })) ∙ after (Obj j) o (ap Obj key ∙ sym is)

  pub set_link : (o : Option V) {j p : LinkKey} {n : FinMap link_cmp V} → j ≡ p → e ≡ link_of p → n ≡ put (seen link_cmp a.links) j o → together (record (kinds_of a) { links = n }) ≡ put m e o
  set_link o {j} key is made = (λ i. together (record (kinds_of a) { links = made i })) ∙ after (link_of j) o (ap link_of key ∙ sym is)

  pub set_copy : (o : Option V) {j p : List ℕ} {n : FinMap name_order V} → j ≡ p → e ≡ Copy p → n ≡ put (seen name_order a.copies) j o → together (record (kinds_of a) { copies = n }) ≡ put m e o
  set_copy o {j} key is made = (λ i. together (record (kinds_of a) { copies = made i })) ∙ after (Copy j) o (ap Copy key ∙ sym is)

-- a list to which another was added, of which nothing is left
pub all_added : {A : Type 0} (xs left all : List A) → left ≡ [] → xs ++ left ≡ all → xs ≡ all
all_added {A} xs left all none is = sym (append-nil xs) ∙ ap (λ (ys : List A). xs ++ ys) (sym none) ∙ is

-- six lists added one after another
pub one_by_one : {A : Type 0} (a b c d e f : List A) {start p s x o l n : List A} → start ≡ [] → p ≡ start ++ a → s ≡ p ++ b → x ≡ s ++ c → o ≡ x ++ d → l ≡ o ++ e → n ≡ l ++ f
    → n ≡ a ++ (b ++ (c ++ (d ++ (e ++ f))))
one_by_one {A} a b c d e f none at_p at_s at_x at_o at_l at_n =
    at_n ∙ ap (λ (xs : List A). xs ++ f) (at_l ∙ ap (λ (xs : List A). xs ++ e) (at_o ∙ ap (λ (xs : List A). xs ++ d) (at_x
    ∙ ap (λ (xs : List A). xs ++ c) (at_s ∙ ap (λ (xs : List A). xs ++ b) (at_p ∙ ap (λ (xs : List A). xs ++ a) none)))))
    ∙ simp append_assoc

-- what follows from what is got, or done
pub on_some : {A P Q : Type 0} (r : Option A) → (P → Q) → OnSome r P → OnSome r Q
on_some None f h = h
on_some (Some x) f h = f h

pub on_ok : {A E P Q : Type 0} (r : Result A E) → (P → Q) → OnOk r P → OnOk r Q
on_ok (Ok x) f h = f h
on_ok (Err e) f h = h
