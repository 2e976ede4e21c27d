-- A name that may not write says no command that may.
use Rattle.sk_commands.proofs.Names.{◌≡◌, ℕ, Bool, true, false, List, [], ◌∷◌, Option, Some, refl, ap, ◌∙◌, matching}
use Rattle.sk_commands.proofs.Names.{is_of_prefix, may_write, order_for, order_named, order_of, Name, KeysWith, front, Wrong, Pattern}
use Rattle.sk_commands.proofs.Names.{if◌then◌else◌}
use Rattle.sk_commands.specs.Law.{may_write_said}
use Rattle.sk_commands.specs.Names.{may_write_by, name_of}
use Rattle.sk_commands.specs.declared.name.Name.TheVariants as named

keys_read : (b : Bool) (pattern : List ℕ) → may_write (if b then KeysWith (front pattern) else Wrong Pattern) ≡ false
keys_read true pattern = refl
keys_read false pattern = refl

reads : (n : Name) (words : List (List ℕ)) → may_write_by n ≡ false → may_write_said (order_for n words) ≡ false
reads named.Get [] h = refl
reads named.Get (a ∷ []) h = refl
reads named.Get (a ∷ b ∷ words) h = refl
reads named.Exists [] h = refl
reads named.Exists (a ∷ words) h = refl
reads named.StrLen [] h = refl
reads named.StrLen (a ∷ []) h = refl
reads named.StrLen (a ∷ b ∷ words) h = refl
reads named.MGet [] h = refl
reads named.MGet (a ∷ words) h = refl
reads named.DbSize [] h = refl
reads named.DbSize (a ∷ words) h = refl
reads named.Keys [] h = refl
reads named.Keys (a ∷ []) h = keys_read (is_of_prefix a) a
reads named.Keys (a ∷ b ∷ words) h = refl
reads named.Multi [] h = refl
reads named.Multi (a ∷ words) h = refl
reads named.Discard [] h = refl
reads named.Discard (a ∷ words) h = refl
reads named.Ping [] h = refl
reads named.Ping (a ∷ []) h = refl
reads named.Ping (a ∷ b ∷ words) h = refl
reads named.Echo [] h = refl
reads named.Echo (a ∷ []) h = refl
reads named.Echo (a ∷ b ∷ words) h = refl
reads other words h = cc

pub named_reads : (word : List ℕ) (words : List (List ℕ)) (n : Name) → name_of word ≡ Some n → may_write_by n ≡ false → may_write_said (order_of (word ∷ words)) ≡ false
named_reads word words n is h = ap (λ name. may_write_said (order_named name words)) is ∙ reads n words h
