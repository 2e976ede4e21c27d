-- The test of two terminals from those of their released texts and of those that wait.
use Rattle.sk_terminal.proofs.Names.{one_answer, pointwise, pointwise_decides, ap, sym, ◌∙◌, Decides-and, Decides-like}
use Rattle.sk_terminal.proofs.Names.{append_cancel_left, released, exact_text, texts_of, same_said, same_texts}
use Rattle.sk_terminal.proofs.Names.{exact_texts, TaggedText, clear, Held}
use Rattle.std.specs.Prelude.{◌≡◌, ℕ, ◌&&◌, List, [], ◌∷◌, ◌++◌, map, refl}
use Rattle.sk_ids.specs.contracts.text.TextPartialEq.TheImpl as text
use Rattle.sk_terminal.proofs.Views.{released-clear}

-- the test of two texts that wait is that of what was said
pub test_waiting : (hs ks : List Held) → pointwise (λ h k. same_said h.said k.said) hs ks ≡ same_texts (texts_of hs) (texts_of ks)
test_waiting [] [] = refl
test_waiting [] (k ∷ ks) = refl
test_waiting (h ∷ hs) [] = refl
test_waiting (h ∷ hs) (k ∷ ks) = ap (λ b. same_said h.said k.said && b) (test_waiting hs ks)

-- what waits begins with a text that depends on a guess, so equal texts are released and waiting alike
pub test_views : (xs ys : List (List ℕ)) (vs ws : List TaggedText) → released vs ≡ [] → released ws ≡ []
    → (pointwise (text.ghosts).eq xs ys && same_texts vs ws) ≡ same_texts (map clear xs ++ vs) (map clear ys ++ ws)
test_views xs ys vs ws none none_here =
    let each = pointwise (text.ghosts).eq xs ys in
    one_answer (each && same_texts vs ws) (same_texts (map clear xs ++ vs) (map clear ys ++ ws))
    (Decides-like (each && same_texts vs ws) (λ h i. map clear (h.0 i) ++ h.1 i)
    (λ e. let same : xs ≡ ys = sym (released-clear xs vs none) ∙ ap released e ∙ released-clear ys ws none_here in
    (same, append_cancel_left (map clear xs) vs ws (e ∙ ap (λ zs. map clear zs ++ ws) (sym same))))
    (Decides-and each (same_texts vs ws) (pointwise_decides exact_text xs ys) (exact_texts vs ws)))
    (exact_texts (map clear xs ++ vs) (map clear ys ++ ws))
