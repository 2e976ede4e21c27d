-- When a text says a number within a limit.
use Rattle.sk_command.proofs.Names.{◌≡◌, ℕ, true, false, Some, None, refl, ap, digits_value, without_leading_plus}
use Rattle.sk_command.proofs.Names.{is_unsigned_in, IsUnsignedIn, Text, accepts-Accepts, Accepts-accepts, number_said}
use Rattle.clap.specs.declared.builder.value_parser.ValueParser.TheVariants as parsers

pub is_said : (most n : ℕ) (text : Text) → IsUnsignedIn 1 most text → n ≡ digits_value 10 (without_leading_plus text) → Some n ≡ number_said most text
is_said most n text within same = rw (Accepts-accepts false (parsers.Unsigned 1 most) text within) (ap (λ m. Some m) same)

pub not_said : (most : ℕ) (text : Text) → ¬ IsUnsignedIn 1 most text → None ≡ number_said most text
not_said most text not_within = elim (is_unsigned_in 1 most text) as (λ b. is_unsigned_in 1 most text ≡ b → None ≡ number_said most text) [
  | true ↦ λ e. absurd (not_within (accepts-Accepts false (parsers.Unsigned 1 most) text e))
  | false ↦ λ e. rw e refl
] refl
