-- The test that values derive is exact.
use Rattle.std.specs.Prelude.{nat_eq}
use Rattle.std.proofs.Common.{ap}
use Rattle.std.specs.Cmp.{unsigned_Decides, first_so, second_so}
use Rattle.sk_ids.specs.Same.{IsExact}
use Rattle.sk_ids.specs.Exact.{exact_from, exact_option}
use Rattle.sk_ids.specs.SameLemma.{exact_text, exact_object}
use Rattle.sk_objects.specs.Content.{ContentView}
use Rattle.sk_objects.specs.SameLemma.{exact_bytes, exact_pipe}
use Rattle.sk_objects.specs.declared.value.Value.{Value}
use Rattle.sk_objects.specs.declared.value.Value.TheVariants.{File, Dir, Link, Pipe, Signals, Exit, Copy}
use Rattle.sk_objects.specs.contracts.content.ContentEq.TheImpl.Laws.{laws-law as content_laws}
use Rattle.sk_objects.specs.contracts.value.ValueEq.TheImpl.Laws.{laws-law as value_laws}
use Rattle.std.specs.Prelude.{◌≡◌, true, refl}
use Rattle.sk_ids.specs.contracts.text.TextPartialEq.TheImpl as text
use Rattle.sk_objects.specs.contracts.content.ContentPartialEq.TheImpl as content
use Rattle.sk_objects.specs.contracts.value.ValuePartialEq.TheImpl as value

content_from : (a b : ContentView) → (content.ghosts).eq a b ≡ true → a ≡ b
content_from a b h =
    let version = (unsigned_Decides a.version b.version).0 (first_so (nat_eq a.version b.version) ((text.ghosts).eq a.bytes b.bytes) h) in
    let bytes = (exact_text a.bytes b.bytes).0 (second_so (nat_eq a.version b.version) ((text.ghosts).eq a.bytes b.bytes) h) in
    λ i. record { version = version i; bytes = bytes i }

pub exact_content : IsExact (content.ghosts).eq
exact_content = exact_from (content.ghosts).eq content_laws.refl content_from

value_from : (a b : Value) → (value.ghosts).eq a b ≡ true → a ≡ b
value_from (File f) (File g) h = ap File ((exact_bytes f g).0 h)
value_from Dir Dir h = refl
value_from (Link a) (Link b) h = ap Link ((exact_object a b).0 h)
value_from (Pipe p) (Pipe q) h = ap Pipe ((exact_pipe p q).0 h)
value_from (Signals s) (Signals t) h = ap Signals ((exact_bytes s t).0 h)
value_from (Exit s) (Exit t) h = ap Exit ((exact_option unsigned_Decides s t).0 h)
value_from (Copy c) (Copy d) h = ap Copy ((exact_content c d).0 h)
value_from _ _ h = cc

pub exact_value : IsExact (value.ghosts).eq
exact_value = exact_from (value.ghosts).eq value_laws.refl value_from
