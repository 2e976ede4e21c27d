-- What clap says of our command line.
use Rattle.sk_command.proofs.Names.{◌≡◌, List, true, option_map, Option, Some, None, refl, ap, sym, ◌∙◌}
use Rattle.sk_command.proofs.Names.{unwrap_or, is_simple_and_free, subcommand_name_of, is_simple}
use Rattle.sk_command.proofs.Names.{subcommand_rows_of, Row, Text, ArgMatches, out-ArgMatches, command_line}
use Rattle.sk_command.proofs.Names.{wish_for, wish_found}
use Rattle.clap.proofs.OnLiterals.{clap_on_literals}

-- clap's facts are exact for it
pub is_known : is_simple_and_free command_line ≡ true
unfolding clap_on_literals
is_known = refl

pub is_plain : is_simple command_line ≡ true
unfolding clap_on_literals
is_plain = refl

mapped_twice : {A B C : Type 0} (f : A → B) (g : B → C) (x : Option A) → option_map g (option_map f x) ≡ option_map (λ a. g (f a)) x
mapped_twice f g None = refl
mapped_twice f g (Some a) = refl

-- the name of the command that was found
pub name_in_rows : (m : ArgMatches) (name : Text) → Some name ≡ subcommand_name_of m → Some name ≡ option_map (λ p. p.0) (subcommand_rows_of m)
name_in_rows m name e = e ∙ sym (mapped_twice _ (λ p. p.0) (out-ArgMatches m).subcommand)

-- what a command that was found asks for, from its name and its rows
pub wish_in_rows : (found : Option (Text × List Row)) (name : Text) (rows : List Row) → Some name ≡ option_map (λ p. p.0) found → Some rows ≡ option_map (λ p. p.1) found
    → wish_found found ≡ wish_for name rows
wish_in_rows None name rows n e = absurd cc
wish_in_rows (Some command) name rows n e =
    let same_name : name ≡ command.0 = ap (λ o. unwrap_or o name) n in
    let same_rows : rows ≡ command.1 = ap (λ o. unwrap_or o rows) e in
    rw (same_name, same_rows) refl
