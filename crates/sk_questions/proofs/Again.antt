-- The words of an entity are read as that entity: by what is known of printed numbers, processes and names.
use Rattle.sk_questions.proofs.Names.{◌≡◌, ◌<◌, ◌^◌, ℕ, ◌/◌, ◌%◌, List, [], ◌∷◌, ◌++◌, true, false, eqb, ltb, length}
use Rattle.sk_questions.proofs.Names.{get_or, Option, Some, None, Result, Ok, Err, refl, ap, sym, ◌∙◌, arith, codes}
use Rattle.sk_questions.proofs.Names.{decimal, bytes_eq, AllByRecursion, list_any, list_all, all_ascii_digits, ne_eqb}
use Rattle.sk_questions.proofs.Names.{le-leb, lt-ltb, lt-leb, ltb-false, or_parts, and_parts, list_any-append}
use Rattle.sk_questions.proofs.Names.{list_all-append, list_all-from_AllPass, tells_all_ascii_digits, bytes_eq-Decides}
use Rattle.sk_questions.proofs.Names.{digits_decimal, digits_value-decimal, decimal_nonempty, IsName, is_name_byte}
use Rattle.sk_questions.proofs.Names.{IsPath, ObjId, Entity, Proc, Sig, Exit, Obj, Link, Copy, FaultKind, words, name}
use Rattle.sk_questions.proofs.Names.{is_name, pid, short, digits, maker_word, object_word, pid_word, two_levels}
use Rattle.sk_questions.proofs.Names.{spaced, IsWord, is_bare_word, own, number_is, bare_word, words_again, pid_again}
use Rattle.sk_questions.proofs.Names.{pid_is_word, halves, maker, object, entity, entity_words, IfSome, IsObject}
use Rattle.sk_questions.proofs.Names.{IsEntity}
use Rattle.sk_words.specs.declared.fault.FaultKind.TheVariants as kinds
use Rattle.sk_words.specs.Operands.{one_of, two_of, the_two, both}
use Rattle.sk_questions.specs.Named.{entity_of}

-- ---- printed numbers and processes have no colon, and no byte that ends a word

record Plain (w : List ℕ) : Type 0 where
  bare : list_all (ltb 35) w ≡ true
  no_colon : list_any (λ b. eqb b 58) w ≡ false

plain_digits : (ds : List ℕ) → all_ascii_digits ds ≡ true → Plain ds
plain_digits [] h = record { bare = refl; no_colon = refl }
plain_digits (d ∷ ds) h =
    let t = tells_all_ascii_digits.parts d ds h in
    let rest = plain_digits ds t.1 in
    record {
      bare = rw (lt-ltb 35 d (omega (arith, t.0.0)), rest.bare) refl;
      no_colon = rw (ne_eqb d 58 (λ e. omega (arith, t.0, e)), rest.no_colon) refl;
    }

plain_number : (n : ℕ) → n < 2 ^ 64 → Plain (decimal n)
plain_number n lt = plain_digits (decimal n) (digits_decimal own n lt)

plain_joined : (v w : List ℕ) → Plain v → Plain w → Plain (v ++ 46 ∷ w)
plain_joined v w h k = record {
  bare = list_all-append (ltb 35) v (46 ∷ w) ∙ rw (h.bare, k.bare) refl;
  no_colon = list_any-append (λ b. eqb b 58) v (46 ∷ w) ∙ rw (h.no_colon, k.no_colon) refl;
}

plain_two : (p : ℕ) → Plain (two_levels p)
plain_two p = plain_joined (decimal (p / 65536 % 65536)) (decimal (p % 65536)) (plain_number (p / 65536 % 65536) (omega arith)) (plain_number (p % 65536) (omega arith))

plain_process : (p : ℕ) → p < 2 ^ 64 → Plain (pid_word p)
plain_process p lt =
    elim (ltb p (2 ^ 16)) as (λ t. ltb p (2 ^ 16) ≡ t → Plain (pid_word p)) [
      | true ↦ λ e. rw e (plain_number p lt)
      | false ↦ λ e.
          elim (ltb p (2 ^ 32)) as (λ t. ltb p (2 ^ 32) ≡ t → Plain (pid_word p)) [
            | true ↦ λ f. rw (e, f) (plain_two p)
            | false ↦ λ f.
                elim (ltb p (2 ^ 48)) as (λ t. ltb p (2 ^ 48) ≡ t → Plain (pid_word p)) [
                  | true ↦ λ g. rw (e, f, g) (plain_joined (decimal (p / 2 ^ 32)) (two_levels p) (plain_number (p / 2 ^ 32) (omega arith)) (plain_two p))
                  | false ↦ λ g. rw (e, f, g) (plain_joined (two_levels (p / 2 ^ 32)) (two_levels p) (plain_two (p / 2 ^ 32)) (plain_two p))
                ] refl
          ] refl
    ] refl

plain_maker : (m : Option ℕ) → IfSome m IsPath → Plain (maker_word m)
plain_maker None h = record { bare = refl; no_colon = refl }
plain_maker (Some p) h = plain_process p h.3

-- ---- an object is read again, and is a word

bare_with : (v w : List ℕ) → list_all (ltb 35) v ≡ true → list_all (ltb 35) w ≡ true → is_bare_word (v ++ 58 ∷ w) ≡ true
bare_with [] w h k = rw k refl
bare_with (b ∷ bs) w h k = list_all-append (ltb 35) (b ∷ bs) (58 ∷ w) ∙ rw (h, k) refl

object_is_word : (o : ObjId) → IsObject o → IsWord (object_word o)
object_is_word o h = bare_word (object_word o) (bare_with (maker_word o.maker) (decimal o.count) (plain_maker o.maker h.0).bare (plain_number o.count (omega (arith, h.1))).bare)

halves_at : (w rest : List ℕ) → list_any (λ b. eqb b 58) w ≡ false → halves (w ++ 58 ∷ rest) ≡ Some (w, rest)
halves_at [] rest h = refl
halves_at (b ∷ bs) rest h =
    let p = or_parts (eqb b 58) (list_any (λ c. eqb c 58) bs) h in
    rw (p.0, halves_at bs rest p.1) refl

no_zero : (p : ℕ) → IsPath p → bytes_eq (pid_word p) (codes "0") ≡ false
no_zero p h =
    elim (bytes_eq (pid_word p) (codes "0")) as (λ b. bytes_eq (pid_word p) (codes "0") ≡ b → b ≡ false) [
      | true ↦ λ e. absurd (let same : pid_word p ≡ codes "0" = (bytes_eq-Decides (pid_word p) (codes "0")).0 e in let zero : Err kinds.Operand ≡ Ok p = ap pid (sym same) ∙ pid_again p h in cc)
      | false ↦ λ e. refl
    ] refl

maker_again : (m : Option ℕ) → IfSome m IsPath → maker (maker_word m) ≡ Ok m
maker_again None h = refl
maker_again (Some p) h = rw (no_zero p h, pid_again p h) refl

no_minus : (ds : List ℕ) → all_ascii_digits ds ≡ true → 0 < length ds → eqb (get_or ds 0 0) 45 ≡ false
no_minus [] h some = absurd (omega arith)
no_minus (d ∷ ds) h some = let t = tells_all_ascii_digits.parts d ds h in ne_eqb d 45 (λ e. omega (arith, t.0.0))

short_again : (n : ℕ) → n < 2 ^ 32 → short (decimal n) ≡ Ok n
short_again n lt =
    let some = decimal_nonempty n (omega arith) in
    let are = digits_decimal own n (omega arith) in
    let says : digits (decimal n) ≡ Some n = number_is (decimal n) are some ∙ ap (λ (x : ℕ). Some x) (digits_value-decimal own n (omega arith)) in
    rw (no_minus (decimal n) are some, says, lt-ltb n (2 ^ 63) (omega arith), le-leb 0 n (omega arith), le-leb n 4294967295 (omega arith)) refl

object_again : (o : ObjId) → IsObject o → object (object_word o) ≡ Ok o
object_again o h =
    rw (halves_at (maker_word o.maker) (decimal o.count) (plain_maker o.maker h.0).no_colon, maker_again o.maker h.0, short_again o.count h.1) refl

-- ---- a name is read again, and is a word

byte_is_bare : (b : ℕ) → is_name_byte b ≡ true → ltb 35 b ≡ true
byte_is_bare b h =
    elim (ltb 35 b) as (λ t. ltb 35 b ≡ t → t ≡ true) [
      | true ↦ λ e. refl
      | false ↦ λ e.
          let low = ltb-false 35 b e in
          let none : is_name_byte b ≡ false
          = rw (lt-leb 97 b (omega arith), lt-leb 65 b (omega arith), lt-leb 48 b (omega arith), ne_eqb b 46 (λ t. omega arith), ne_eqb b 95 (λ t. omega arith), ne_eqb b 45 (λ t. omega arith), ne_eqb b 47 (λ t. omega arith)) refl in
          absurd (let t : false ≡ true = sym none ∙ h in cc)
    ] refl

bytes_are_bare : (w : List ℕ) → list_all is_name_byte w ≡ true → list_all (ltb 35) w ≡ true
bytes_are_bare [] h = refl
bytes_are_bare (b ∷ bs) h = let p = and_parts (is_name_byte b) (list_all is_name_byte bs) h in rw (byte_is_bare b p.0, bytes_are_bare bs p.1) refl

some_bare : (w : List ℕ) → 0 < length w → list_all (ltb 35) w ≡ true → is_bare_word w ≡ true
some_bare [] some h = absurd (omega arith)
some_bare (b ∷ bs) some h = h

name_is_word : (n : List ℕ) → IsName n → IsWord n
name_is_word n h = bare_word n (some_bare n h.some (bytes_are_bare n (list_all-from_AllPass is_name_byte n h.letters)))

name_again : (n : List ℕ) → IsName n → name n ≡ Ok n
name_again n h =
    let is : is_name n ≡ true = rw (ne_eqb (length n) 0 (λ e. omega (arith, h.some)), le-leb (length n) 32 h.short, list_all-from_AllPass is_name_byte n h.letters) refl in
    rw is refl

-- ---- an entity

one_said : {A : Type 0} (a : List ℕ → Result A FaultKind) (v : List ℕ) (x : A) → IsWord v → a v ≡ Ok x → one_of a (v ∷ []) ≡ Ok x
unfolding one_of
one_said a v x word says = rw (word.closed, says) refl

two_said : {A B : Type 0} (a : List ℕ → Result A FaultKind) (b : List ℕ → Result B FaultKind) (v w : List ℕ) (x : A) (y : B) → IsWord v → IsWord w → a v ≡ Ok x → b w ≡ Ok y
    → two_of a b (v ∷ w ∷ []) ≡ Ok (x, y)
unfolding two_of the_two both
two_said a b v w x y first second says then_says = rw (first.closed, second.closed, says, then_says) refl

process_said : (p : ℕ) → IsPath p → one_of pid (pid_word p ∷ []) ≡ Ok p
process_said p h = one_said pid (pid_word p) p (pid_is_word p h) (pid_again p h)

pub entity_again : (e : Entity) → IsEntity e → entity (entity_words e) ≡ Ok e
unfolding entity_of
entity_again (Proc p) h = rw (process_said p h) refl
entity_again (Sig p) h = rw (process_said p h) refl
entity_again (Exit p) h = rw (process_said p h) refl
entity_again (Obj o) h = rw (one_said object (object_word o) o (object_is_word o h) (object_again o h)) refl
entity_again (Link d n) h = rw (two_said object name (object_word d) n d n (object_is_word d h.0) (name_is_word n h.1) (object_again d h.0) (name_again n h.1)) refl
entity_again (Copy n) h = rw (one_said name n n (name_is_word n h) (name_again n h)) refl

pub entity_is_words : (e : Entity) → IsEntity e → AllByRecursion IsWord (entity_words e)
entity_is_words (Proc p) h = (bare_word (codes "proc") refl, (pid_is_word p h, tt))
entity_is_words (Sig p) h = (bare_word (codes "sig") refl, (pid_is_word p h, tt))
entity_is_words (Exit p) h = (bare_word (codes "exit") refl, (pid_is_word p h, tt))
entity_is_words (Obj o) h = (bare_word (codes "obj") refl, (object_is_word o h, tt))
entity_is_words (Link d n) h = (bare_word (codes "link") refl, (object_is_word d h.0, (name_is_word n h.1, tt)))
entity_is_words (Copy n) h = (bare_word (codes "copy") refl, (name_is_word n h, tt))

pub words_cut_again : (e : Entity) → IsEntity e → words (spaced (entity_words e)) ≡ entity_words e
words_cut_again e h = words_again (entity_words e) (entity_is_words e h)
