-- The entity that words name, and the words that name an entity.
use Rattle.std.specs.Prelude.{ℕ, ◌<◌, ◌^◌, IfSome, List, [], ◌∷◌, ◌==◌, Option, Some, None, Result, Ok, if◌then◌else◌, option_map, codes, bytes_eq}
use Rattle.sk_ids.specs.Name.{IsName}
use Rattle.sk_ids.specs.Pid.{IsPath}
use Rattle.sk_ids.specs.declared.pid.ObjId.{ObjId}
use Rattle.sk_ids.specs.declared.entity.Entity.{Entity}
use Rattle.sk_ids.specs.declared.entity.Entity.TheVariants.{Proc, Sig, Exit, Obj, Link, Copy}
use Rattle.sk_words.specs.declared.fault.FaultKind.{FaultKind}
use Rattle.sk_words.specs.Faults.{◌>>=◌}
use Rattle.sk_words.specs.Operands.{one_of, two_of, name, pid, short, wrong}
use Rattle.sk_words.specs.Spelling.{object_word, pid_word}
use Rattle.sk_words.specs.Tables.{Rule, rule_in, unknown, by_first}

-- ---- an object, as one word

-- what stands before and behind the first colon
abbrev pub halves : List ℕ → Option (List ℕ × List ℕ)
halves [] = None
halves (b ∷ bs) = if b == 58 then Some ([], bs) else option_map (λ h. (b ∷ h.0, h.1)) (halves bs)

-- the maker, which is 0 where the boot made it
abbrev pub maker : List ℕ → Result (Option ℕ) FaultKind
maker word = if bytes_eq word (codes "0") then Ok None else pid word >>= λ p. Ok (Some p)

-- the object of this maker and this number
abbrev pub object_by : List ℕ → List ℕ → Result ObjId FaultKind
object_by first second = maker first >>= λ p. short second >>= λ n. Ok (record { maker = p; count = n })

abbrev pub object_of : Option (List ℕ × List ℕ) → Result ObjId FaultKind
object_of None = wrong
object_of (Some h) = object_by h.0 h.1

-- a maker, a colon and a number
abbrev pub object : List ℕ → Result ObjId FaultKind
object word = object_of (halves word)

-- ---- an entity

abbrev pub entity_rules : List (List ℕ × Rule Entity)
entity_rules =
    (codes "proc", λ ws. one_of pid ws >>= λ p. Ok (Proc p)) ∷
    (codes "sig", λ ws. one_of pid ws >>= λ p. Ok (Sig p)) ∷
    (codes "exit", λ ws. one_of pid ws >>= λ p. Ok (Exit p)) ∷
    (codes "obj", λ ws. one_of object ws >>= λ o. Ok (Obj o)) ∷
    (codes "link", λ ws. two_of object name ws >>= λ x. Ok (Link x.0 x.1)) ∷
    (codes "copy", λ ws. one_of name ws >>= λ n. Ok (Copy n)) ∷
    []

-- what words name of which this is the first
unfoldable pub entity_of : List ℕ → Rule Entity
entity_of word ws = rule_in entity_rules unknown word ws

-- the entity that words name
abbrev pub entity : Rule Entity
entity ws = by_first entity_of ws

-- ---- its words

abbrev pub entity_words : Entity → List (List ℕ)
entity_words (Proc p) = codes "proc" ∷ pid_word p ∷ []
entity_words (Sig p) = codes "sig" ∷ pid_word p ∷ []
entity_words (Exit p) = codes "exit" ∷ pid_word p ∷ []
entity_words (Obj o) = codes "obj" ∷ object_word o ∷ []
entity_words (Link d n) = codes "link" ∷ object_word d ∷ n ∷ []
entity_words (Copy n) = codes "copy" ∷ n ∷ []

-- ---- what holds of every entity

abbrev pub IsObject : ObjId → Type 0
IsObject o = IfSome o.maker IsPath × (o.count < 2 ^ 32)

abbrev pub IsEntity : Entity → Type 0
IsEntity (Proc p) = IsPath p
IsEntity (Sig p) = IsPath p
IsEntity (Exit p) = IsPath p
IsEntity (Obj o) = IsObject o
IsEntity (Link d n) = IsObject d × IsName n
IsEntity (Copy n) = IsName n
