-- What the tags of the newest run are covered by.
use Rattle.kernels_tests.proofs.Names.{◌≡◌, ℕ, true, false, List, [], sym, ◌∙◌, ap, true≢false, has, Covers}

-- none are covered by any, and any by the same
pub covers_none : (these tags : List ℕ) → tags ≡ [] → Covers these tags
covers_none these tags none g here = absurd (true≢false (sym here ∙ ap (has g) none))

pub covers_same : (these tags : List ℕ) → tags ≡ these → Covers these tags
covers_same these tags same g here = ap (has g) (sym same) ∙ here

-- by those that cover the same
pub covers_that : (these those tags : List ℕ) → Covers these those → tags ≡ those → Covers these tags
covers_that these those tags covers same g here = covers g (ap (has g) (sym same) ∙ here)

-- and by the same that cover them
pub covered_by : (these those tags : List ℕ) → these ≡ those → Covers those tags → Covers these tags
covered_by these those tags same covers g here = ap (has g) same ∙ covers g here
