-- Labels as they are kept, and the lines that declare them one after the other: from the definition of labels.
use Rattle.sk_script.proofs.Names.{◌≡◌, ◌≤◌, ℕ, List, [], ◌∷◌, ◌++◌, map, sym, append_assoc, arith, append-nil, Mark}
use Rattle.sk_script.proofs.Names.{words, Labels, Line, Ignored, Declares, Does, line_of, labels_of, next_place}
use Rattle.sk_script.specs.Scripting.{labels_from}

abbrev pub seen : List Mark → Labels
seen marks = map (λ m. (m.name, m.place)) marks

pub labels_on : (before after : Labels) (place next : ℕ) (line : List ℕ) (all ls : List (List ℕ)) → all ≡ line ∷ ls → after ≡ before ++ labels_of place (line_of (words line)) → next ≡ next_place place (line_of (words line)) → before ++ labels_from place all ≡ after ++ labels_from next ls
unfolding labels_from
labels_on before after place next line all ls e a n = rw (e, a, n) (sym (append_assoc before (labels_of place (line_of (words line))) (labels_from (next_place place (line_of (words line))) ls)))

pub labels_end : (before : Labels) (place : ℕ) (all : List (List ℕ)) → all ≡ [] → before ++ labels_from place all ≡ before
unfolding labels_from
labels_end before place all e = rw e (append-nil before)

pub place_bound : (place : ℕ) (l : Line) → place ≤ 4097 → next_place place l ≤ 4097
place_bound place Ignored h = h
place_bound place (Declares name ws) h = h
place_bound place (Does word ws) h = omega (arith, h)
