-- Lists that were put one before the other, as they are told.
use Rattle.sk_report.proofs.Names.{◌≡◌, ℕ, List, ◌++◌, sym, ap, ◌∙◌, append_assoc}

two : (x y z t : List ℕ) → x ++ (y ++ z ++ t) ≡ x ++ y ++ z ++ t
two x y z t = sym (append_assoc x (y ++ z) t) ∙ ap (λ (l : List ℕ). l ++ t) (sym (append_assoc x y z))

pub regrouped : (a b c d e f g h i j w r : List ℕ) → a ++ (b ++ c ++ (d ++ e ++ (f ++ g ++ (h ++ i ++ (j ++ w ++ r))))) ≡ a ++ b ++ c ++ d ++ e ++ f ++ g ++ h ++ i ++ j ++ w ++ r
regrouped a b c d e f g h i j w r =
    two a b c (d ++ e ++ (f ++ g ++ (h ++ i ++ (j ++ w ++ r))))
    ∙ two (a ++ b ++ c) d e (f ++ g ++ (h ++ i ++ (j ++ w ++ r)))
    ∙ two (a ++ b ++ c ++ d ++ e) f g (h ++ i ++ (j ++ w ++ r))
    ∙ two (a ++ b ++ c ++ d ++ e ++ f ++ g) h i (j ++ w ++ r)
    ∙ two (a ++ b ++ c ++ d ++ e ++ f ++ g ++ h ++ i) j w r
