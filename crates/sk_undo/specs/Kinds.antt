-- Entities kind by kind, in one finite map.
use Rattle.std.specs.Prelude.{◌≡◌, ◌≤◌, ℕ, true, List, ◌++◌, map}
use Rattle.sk_undo.specs.Base.{Ordering, nat_cmp, ordering_then, FinMap, entries, from_entries, contains_key, FinSet}
use Rattle.sk_undo.specs.Base.{contains, len, object_cmp, entity_cmp, name_order, ObjId, Entity, Proc, Sig, Exit, Obj}
use Rattle.sk_undo.specs.Base.{Link, Copy, LinkKey}

-- by directory, and then by the bytes of the name
abbrev pub link_cmp : LinkKey → LinkKey → Ordering
link_cmp a b = ordering_then (object_cmp a.directory b.directory) (name_order a.name b.name)

abbrev pub link_of : LinkKey → Entity
link_of l = Link l.directory l.name

-- entries of one kind as those of entities
abbrev pub lifted : {K V : Type 0} → (K → Entity) → List (K × V) → List (Entity × V)
lifted f es = map (λ e. (f e.0, e.1)) es

-- processes, signal queues, exit slots, objects, names of directories and copies as entities
unfoldable pub joined : {V : Type 0} → FinMap nat_cmp V → FinMap nat_cmp V → FinMap nat_cmp V → FinMap object_cmp V → FinMap link_cmp V → FinMap name_order V → FinMap entity_cmp V
joined ps ss xs os ls cs = from_entries
    (lifted Proc (entries ps) ++ (lifted Sig (entries ss) ++ (lifted Exit (entries xs)
    ++ (lifted Obj (entries os) ++ (lifted link_of (entries ls) ++ lifted Copy (entries cs))))))

-- no directory has more names that are there
abbrev pub HasAtMost : {V : Type 0} → FinMap entity_cmp V → ℕ → Type 0
HasAtMost m most = (d : ObjId) (names : FinSet name_order) → ((q : List ℕ) → contains names q ≡ true → contains_key m (Link d q) ≡ true) → len names ≤ most
