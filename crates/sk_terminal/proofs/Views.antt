-- A terminal as its released texts and its waiting ones, against the one list of all: by recursion over the released ones.
use Rattle.sk_terminal.proofs.Names.{◌==◌, arith, refl, ap, sym, zero-add, append_assoc, prefix_len, ne_eqb, map-append}
use Rattle.sk_terminal.proofs.Names.{released, lightened, not_dropped, TaggedText, any_rests, is_clear, clear}
use Rattle.sk_terminal.proofs.Names.{waiting_of}
use Rattle.std.specs.Prelude.{◌≡◌, ℕ, suc, ◌+◌, false, List, [], ◌∷◌, ◌++◌, length, map, take, drop}

-- the released texts are those before the first that depends on a guess
pub prefix-released : (xs : List TaggedText) → prefix_len is_clear xs ≡ length (released xs)
prefix-released [] = refl
prefix-released ((w, []) ∷ xs) = omega (arith, prefix-released xs)
prefix-released ((w, t ∷ tags) ∷ xs) =
    let rests : (suc (length tags) == 0) ≡ false = ne_eqb (suc (length tags)) 0 (λ e. omega (arith, e)) in
    rw rests refl

pub released-clear : (rs : List (List ℕ)) (ws : List TaggedText) → released ws ≡ [] → released (map clear rs ++ ws) ≡ rs
released-clear [] ws h = h
released-clear (r ∷ rs) ws h = ap (λ (l : List (List ℕ)). r ∷ l) (released-clear rs ws h)

length-clear : (rs : List (List ℕ)) (ws : List TaggedText) → length (map clear rs ++ ws) ≡ length rs + length ws
length-clear [] ws = sym (zero-add (length ws))
length-clear (r ∷ rs) ws = omega (arith, length-clear rs ws)

pub waiting-clear : (rs : List (List ℕ)) (ws : List TaggedText) → released ws ≡ [] → waiting_of (map clear rs ++ ws) ≡ length ws
waiting-clear rs ws h = rw (released-clear rs ws h) (omega (arith, length-clear rs ws))

pub rests-clear : (id : ℕ) (rs : List (List ℕ)) (ws : List TaggedText) → any_rests id (map clear rs ++ ws) ≡ any_rests id ws
rests-clear id [] ws = refl
rests-clear id (r ∷ rs) ws = rests-clear id rs ws

pub lightened-clear : (id : ℕ) (rs : List (List ℕ)) (ws : List TaggedText) → lightened id (map clear rs ++ ws) ≡ map clear rs ++ lightened id ws
lightened-clear id [] ws = refl
lightened-clear id (r ∷ rs) ws = ap (λ (l : List TaggedText). clear r ∷ l) (lightened-clear id rs ws)

pub not_dropped-clear : (id : ℕ) (rs : List (List ℕ)) (ws : List TaggedText) → not_dropped id (map clear rs ++ ws) ≡ map clear rs ++ not_dropped id ws
not_dropped-clear id [] ws = refl
not_dropped-clear id (r ∷ rs) ws = ap (λ (l : List TaggedText). clear r ∷ l) (not_dropped-clear id rs ws)

-- the released texts, and what follows them
again : (ws : List TaggedText) → map clear (released ws) ++ drop (length (released ws)) ws ≡ ws
again [] = refl
again ((w, []) ∷ xs) = ap (λ (l : List TaggedText). clear w ∷ l) (again xs)
again ((w, t ∷ tags) ∷ xs) = refl

-- what follows them begins with a text that depends on a guess
pub released-rest : (ws : List TaggedText) → released (drop (length (released ws)) ws) ≡ []
released-rest [] = refl
released-rest ((w, []) ∷ xs) = released-rest xs
released-rest ((w, t ∷ tags) ∷ xs) = refl

pub released-parts : (rs : List (List ℕ)) (ws : List TaggedText) → map clear (rs ++ released ws) ++ drop (length (released ws)) ws ≡ map clear rs ++ ws
released-parts rs ws = rw (map-append, append_assoc, again ws) refl

-- their texts are those of the prefix
pub released-taken : (ws : List TaggedText) → map (λ (said : TaggedText). said.0) (take (length (released ws)) ws) ≡ released ws
released-taken [] = refl
released-taken ((w, []) ∷ xs) = ap (λ (l : List (List ℕ)). w ∷ l) (released-taken xs)
released-taken ((w, t ∷ tags) ∷ xs) = refl
