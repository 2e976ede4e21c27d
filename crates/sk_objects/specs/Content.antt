-- What a file of the server holds, and a cached copy of it.
use Rattle.std.specs.Prelude.{ℕ, List, refl}
use Rattle.std.specs.Coded.{Coded, code_by, coded×, coded_ℕ, coded_list}
pub use Rattle.sk_objects.specs.declared.content.TheConstants.{LAST_VERSION}

-- a version and its bytes
pub record ContentView : Type 0 where
  pub version : ℕ
  pub bytes : List ℕ

abbrev pub content_code : Coded ContentView
content_code = code_by (ℕ × List ℕ) (coded× coded_ℕ (coded_list coded_ℕ)) (λ c. (c.version, c.bytes)) (λ p. record { version = p.0; bytes = p.1 }) (λ _. refl)
