-- A line that begins a script has `script` as its first word: from the table of first words.
use Rattle.sk_scenario.proofs.Names.{◌≡◌, ℕ, List, [], ◌∷◌, Bool, true, false, Result, Ok, Err, refl, ap}
use Rattle.sk_scenario.proofs.Names.{◌∙◌, if◌then◌else◌, bytes_eq, codes, FaultKind, ◌>>=◌, Rule}
use Rattle.sk_scenario.proofs.Names.{rule_in, words, first_of, none_of, Heading, Said, Declared, declares}
use Rattle.sk_scenario.proofs.Names.{declared_next, heading_rule, line_said, new_script, begins_script}
use Rattle.sk_scenario.proofs.Names.{begins_script_of}
use Rattle.sk_scenario.specs.declared.declarations.Heading.TheVariants as headings
use Rattle.sk_scenario.specs.declared.declarations.Said.TheVariants as says
use Rattle.sk_scenario.specs.Declarations.{says_next}

-- no script is begun
abbrev NoScript : Result (Said × Declared) FaultKind → Type 0
NoScript (Ok x) = (name : List ℕ) → x.0 ≡ says.Script name → ⊥
NoScript (Err e) = Unit {0}

none_begins : {A : Type 0} (r : Result A FaultKind) (f : A → Said × Declared) → ((a : A) (name : List ℕ) → (f a).0 ≡ says.Script name → ⊥) → NoScript (r >>= λ a. Ok (f a))
none_begins (Ok a) f h = h a
none_begins (Err e) f h = tt

declared_is_other : (name : List ℕ) → says.Declared ≡ says.Script name → ⊥
declared_is_other name e = absurd cc

heading_is_other : (heading : Heading) (name : List ℕ) → says.Heading heading ≡ says.Script name → ⊥
heading_is_other heading name e = absurd cc

abbrev AllNoScript : List (List ℕ × Rule (Said × Declared)) → List (List ℕ) → Type 0
AllNoScript [] ws = Unit {0}
AllNoScript (r ∷ rs) ws = NoScript (r.1 ws) × AllNoScript rs ws

none_in : (rs : List (List ℕ × Rule (Said × Declared))) (others : Rule (Said × Declared)) (word : List ℕ) (ws : List (List ℕ)) → AllNoScript rs ws → NoScript (others ws) → NoScript (rule_in rs others word ws)
none_in [] others word ws h last = last
none_in (r ∷ rs) others word ws h last =
    elim (bytes_eq r.0 word) as (λ (b : Bool). NoScript ((if b then r.1 else rule_in rs others word) ws)) [
      | true ↦ h.0
      | false ↦ none_in rs others word ws h.1 last
    ]

abbrev heading_rules : Declared → List (List ℕ × Rule (Said × Declared))
heading_rules d =
    (codes "steps", heading_rule d headings.Steps) ∷
    (codes "world", heading_rule d headings.World) ∷
    (codes "trace", heading_rule d headings.Trace) ∷
    []

heading_begins : (d : Declared) (heading : Heading) (ws : List (List ℕ)) → NoScript (heading_rule d heading ws)
heading_begins d heading ws = none_begins (none_of ws) (λ x. (says.Heading heading, d)) (λ x. heading_is_other heading)

others_begin : (d : Declared) (word : List ℕ) (ws : List (List ℕ)) → NoScript (rule_in (heading_rules d) (declared_next d word) word ws)
others_begin d word ws =
    none_in (heading_rules d) (declared_next d word) word ws
    (heading_begins d headings.Steps ws, (heading_begins d headings.World ws, (heading_begins d headings.Trace ws, tt)))
    (none_begins (declares d word ws) (λ e. (says.Declared, e)) (λ e. declared_is_other))

no_name : (r : Result (Said × Declared) FaultKind) (x : Said × Declared) (name : List ℕ) → NoScript r → r ≡ Ok x → x.0 ≡ says.Script name → ⊥
no_name (Ok y) x name h e is = let same : y ≡ x = cc in h name (rw same is)
no_name (Err k) x name h e is = absurd cc

word_begins : (d : Declared) (word : List ℕ) (ws : List (List ℕ)) (x : Said × Declared) (name : List ℕ) → says_next d word ws ≡ Ok x → x.0 ≡ says.Script name → bytes_eq (codes "script") word ≡ true
unfolding says_next
word_begins d word ws x name =
    elim (bytes_eq (codes "script") word) as (λ (b : Bool). (if b then (λ us. new_script d us >>= λ n. Ok (says.Script n, d)) else rule_in (heading_rules d) (declared_next d word) word) ws ≡ Ok x → x.0 ≡ says.Script name → b ≡ true) [
      | true ↦ λ e is. refl
      | false ↦ λ e is. absurd (no_name (rule_in (heading_rules d) (declared_next d word) word ws) x name (others_begin d word ws) e is)
    ]

first_begins : (d : Declared) (ws : List (List ℕ)) (x : Said × Declared) (name : List ℕ) → line_said d (first_of ws) ≡ Ok x → x.0 ≡ says.Script name → begins_script_of ws ≡ true
first_begins d [] x name e is = absurd (declared_is_other name (let same : (says.Declared, d) ≡ x = cc in ap (λ (y : Said × Declared). y.0) same ∙ is))
first_begins d (w ∷ ws) x name e is = word_begins d w ws x name e is

pub line_begins : (d : Declared) (line : List ℕ) (x : Said × Declared) (name : List ℕ) → line_said d (first_of (words line)) ≡ Ok x → x.0 ≡ says.Script name → begins_script line ≡ true
line_begins d line x name e is = first_begins d (words line) x name e is
