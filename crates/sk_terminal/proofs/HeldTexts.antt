-- Held texts after a pass back to those said before a guess was drawn.
use Rattle.sk_terminal.proofs.Names.{map-append, without_none, ◌≡◌, ℕ, zero, suc, ◌<◌, ◌≤◌, ◌+◌, length, take, drop}
use Rattle.sk_terminal.proofs.Names.{Bool, true, false, cond, not, ◌||◌, List, [], ◌∷◌, ◌++◌, map, refl, sym, ap, subst}
use Rattle.sk_terminal.proofs.Names.{arith, ◌==◌, slice_index_or, slice_set, list_any, list_all, filter, prefix_len}
use Rattle.sk_terminal.proofs.Names.{take-append-drop, list_any-append, has, without, append-nil, lightened}
use Rattle.sk_terminal.proofs.Names.{not_dropped, has_filter, TaggedText, any_rests, is_clear, texts_of, AreBounded}
use Rattle.sk_terminal.proofs.Names.{Held}

-- ---- numbers
pub bounded_more : (low high n : ℕ) (hs : List Held) (x : Held) → AreBounded low hs high → high ≤ n → x.newest ≡ n → ((g : ℕ) → has g x.said.1 ≡ true → g ≤ n) → AreBounded low (hs ++ x ∷ []) n
bounded_more low high n [] x b le is tags = grind (arith, tags)
bounded_more low high n (h ∷ hs) x b le is tags = (b.0, b.1, bounded_more h.newest high n hs x b.2 le is tags)

pub bounded_low : (low less high : ℕ) (hs : List Held) → less ≤ low → AreBounded low hs high → AreBounded less hs high
bounded_low low less high [] le b = omega arith
bounded_low low less high (h ∷ hs) le b = (omega arith, b.1, b.2)

pub bounded_drop : (low high k : ℕ) (hs : List Held) → AreBounded low hs high → AreBounded low (drop k hs) high
bounded_drop low high zero hs b = b
bounded_drop low high (suc k) [] b = b
bounded_drop low high (suc k) (h ∷ hs) b = bounded_drop low high k hs (bounded_low h.newest low high hs b.0 b.2)

bounded_end : (low high : ℕ) (hs : List Held) → AreBounded low hs high → low ≤ high
bounded_end low high [] b = b
bounded_end low high (h ∷ hs) b = let rest = bounded_end h.newest high hs b.2 in let first = b.0 in omega arith

pub bounded_take : (low high k : ℕ) (hs : List Held) → AreBounded low hs high → AreBounded low (take k hs) high
bounded_take low high zero hs b = bounded_end low high hs b
bounded_take low high (suc k) [] b = b
bounded_take low high (suc k) (h ∷ hs) b = (b.0, b.1, bounded_take h.newest high k hs b.2)

pub bounded_filter : (p : Held → Bool) (low high : ℕ) (hs : List Held) → AreBounded low hs high → AreBounded low (filter p hs) high
bounded_filter p low high [] b = b
bounded_filter p low high (h ∷ hs) b =
    grind (arith, bounded_filter p h.newest high hs b.2, bounded_low h.newest low high (filter p hs) b.0)

-- ---- a guess taken out of the texts from one place on
abbrev pub light : ℕ → Held → Held
light g h = record { said = (h.said.0, without g h.said.1); newest = h.newest }

abbrev pub light_from : ℕ → ℕ → List Held → List Held
light_from g i hs = take i hs ++ map (light g) (drop i hs)

from_one : (g i : ℕ) (hs : List Held) (h : Held) → i < length hs → h ≡ slice_index_or (light_from g (suc i) hs) i h → slice_set (light_from g (suc i) hs) i (light g h) ≡ light_from g i hs
from_one g i [] h lt is = absurd (omega arith)
from_one g zero (x ∷ hs) h lt is = grind arith
from_one g (suc i) (x ∷ hs) h lt is = ap (λ xs. x ∷ xs) (from_one g i hs h (omega arith) is)

pub from_before : (g i j : ℕ) (hs items : List Held) (h : Held) → i ≡ suc j → j < length hs → items ≡ light_from g i hs → h ≡ slice_index_or items j h → slice_set items j (light g h) ≡ light_from g j hs
from_before g i j hs items h next lt whole is = grind (arith, from_one g j hs h lt)

at_place : (g j : ℕ) (hs : List Held) (h : Held) → j < length hs → h ≡ slice_index_or (light_from g (suc j) hs) j h → h ≡ slice_index_or hs j h
at_place g j [] h lt is = absurd (omega arith)
at_place g zero (x ∷ hs) h lt is = is
at_place g (suc j) (x ∷ hs) h lt is = at_place g j hs h (omega arith) is

pub place_before : (g i j : ℕ) (hs items : List Held) (h : Held) → i ≡ suc j → j < length hs → items ≡ light_from g i hs → h ≡ slice_index_or items j h → h ≡ slice_index_or hs j h
place_before g i j hs items h next lt whole is = grind (arith, at_place g j hs h lt)

-- ---- the texts before one place, where its number is below the guess
abbrev pub rests : ℕ → Held → Bool
rests g h = has g h.said.1

rises_to : (low high j : ℕ) (hs : List Held) (h : Held) → AreBounded low hs high → j < length hs → h ≡ slice_index_or hs j h → low ≤ h.newest
rises_to low high j [] h b lt is = absurd (omega arith)
rises_to low high zero (x ∷ hs) h b lt is = grind arith
rises_to low high (suc j) (x ∷ hs) h b lt is = grind (arith, rises_to x.newest high j hs h b.2)

below : (g : ℕ) (x : Held) → ((k : ℕ) → has k x.said.1 ≡ true → k ≤ x.newest) → x.newest < g → rests g x ≡ false
below g x bound lt = grind (arith, bound g)

free_to : (g low high j : ℕ) (hs : List Held) (h : Held) → AreBounded low hs high → j < length hs → h ≡ slice_index_or hs j h → h.newest < g → list_any (rests g) (take (suc j) hs) ≡ false
free_to g low high j [] h b lt is less = absurd (omega arith)
free_to g low high zero (x ∷ hs) h b lt is less = grind (arith, below g x b.1)
free_to g low high (suc j) (x ∷ hs) h b lt is less =
    grind (arith, below g x b.1, rises_to x.newest high j hs h b.2, free_to g x.newest high j hs h b.2)

pub free_before : (g low high i j : ℕ) (hs : List Held) (h : Held) → AreBounded low hs high → i ≡ suc j → j < length hs → h ≡ slice_index_or hs j h → h.newest < g → list_any (rests g) (take i hs) ≡ false
free_before g low high i j hs h b next lt is less = grind (arith, free_to g low high j hs h b lt is less)

light_free : (g : ℕ) (hs : List Held) → list_any (rests g) hs ≡ false → map (light g) hs ≡ hs
light_free g [] none = refl
light_free g (h ∷ hs) none = grind (arith, without_none g h.said.1, light_free g hs)

whole_light : (g i : ℕ) (hs : List Held) → list_any (rests g) (take i hs) ≡ false → light_from g i hs ≡ map (light g) hs
whole_light g i hs none =
    grind (arith, light_free g (take i hs) none, map-append (light g) (take i hs) (drop i hs), take-append-drop i hs)

texts_light : (g : ℕ) (hs : List Held) → texts_of (map (light g) hs) ≡ lightened g (texts_of hs)
texts_light g [] = refl
texts_light g (h ∷ hs) = ap (λ xs. (h.said.0, without g h.said.1) ∷ xs) (texts_light g hs)

has_left : (g c : ℕ) (tags : List ℕ) → has g (without c tags) ≡ true → has g tags ≡ true
has_left g c tags here = grind (arith, has_filter (λ t. not (t == c)) g tags)

bounded_light : (c low high : ℕ) (hs : List Held) → AreBounded low hs high → AreBounded low (map (light c) hs) high
bounded_light c low high [] b = b
bounded_light c low high (h ∷ hs) b = (b.0, (λ g here. b.1 g (has_left g c h.said.1 here)), bounded_light c h.newest high hs b.2)

pub lightened_texts : (g i : ℕ) (hs : List Held) → list_any (rests g) (take i hs) ≡ false → texts_of (light_from g i hs) ≡ lightened g (texts_of hs)
lightened_texts g i hs none = grind (arith, whole_light g i hs none, texts_light g hs)

pub lightened_bounds : (g i low high : ℕ) (hs : List Held) → list_any (rests g) (take i hs) ≡ false → AreBounded low hs high → AreBounded low (light_from g i hs) high
lightened_bounds g i low high hs none b = subst (λ xs. AreBounded low xs high) (sym (whole_light g i hs none)) (bounded_light g low high hs b)

-- ---- texts thrown away
drop_free : (g : ℕ) (hs : List Held) → list_any (rests g) hs ≡ false → texts_of hs ≡ not_dropped g (texts_of hs)
drop_free g [] none = refl
drop_free g (h ∷ hs) none = grind (arith, drop_free g hs)

drop_all_rest : (g : ℕ) (hs : List Held) → list_all (rests g) hs ≡ true → not_dropped g (texts_of hs) ≡ []
drop_all_rest g [] all = refl
drop_all_rest g (h ∷ hs) all = grind (arith, drop_all_rest g hs)

dropped_more : (g : ℕ) (hs ks : List Held) → not_dropped g (texts_of (hs ++ ks)) ≡ not_dropped g (texts_of hs) ++ not_dropped g (texts_of ks)
dropped_more g [] ks = refl
dropped_more g (h ∷ hs) ks = grind (arith, dropped_more g hs ks)

pub taken_texts : (g i : ℕ) (hs : List Held) → list_all (rests g) (drop i hs) ≡ true → list_any (rests g) (take i hs) ≡ false → texts_of (take i hs) ≡ not_dropped g (texts_of hs)
taken_texts g i hs all none =
    let whole = dropped_more g (take i hs) (drop i hs) in
    let none_more = append-nil (not_dropped g (texts_of (take i hs))) in
    grind (arith, drop_free g (take i hs) none, drop_all_rest g (drop i hs) all, take-append-drop i hs)

pub filtered_texts : (g : ℕ) (hs : List Held) → texts_of (filter (λ h. not (has g h.said.1)) hs) ≡ not_dropped g (texts_of hs)
filtered_texts g [] = refl
filtered_texts g (h ∷ hs) = grind (arith, filtered_texts g hs)

-- ---- texts released
pub prefix_texts : (hs : List Held) → prefix_len (λ h. is_clear h.said) hs ≡ prefix_len is_clear (texts_of hs)
prefix_texts [] = refl
prefix_texts (h ∷ hs) = ap (λ k. cond (is_clear h.said) (1 + k) 0) (prefix_texts hs)

pub texts_drop : (k : ℕ) (hs : List Held) → texts_of (drop k hs) ≡ drop k (texts_of hs)
texts_drop zero hs = refl
texts_drop (suc k) [] = refl
texts_drop (suc k) (h ∷ hs) = texts_drop k hs

pub texts_take : (k : ℕ) (hs : List Held) → map (λ (h : Held). h.said.0) (take k hs) ≡ map (λ (x : TaggedText). x.0) (take k (texts_of hs))
texts_take zero hs = refl
texts_take (suc k) [] = refl
texts_take (suc k) (h ∷ hs) = ap (λ xs. h.said.0 ∷ xs) (texts_take k hs)

pub texts_length : (hs : List Held) → length (texts_of hs) ≡ length hs
texts_length [] = refl
texts_length (h ∷ hs) = ap suc (texts_length hs)

-- ---- a look back for a text that depends on a guess
abbrev pub is_free : ℕ → Held → Bool
is_free g h = not (has g h.said.1)

none_free : (g : ℕ) (hs : List Held) → list_all (is_free g) hs ≡ true → list_any (rests g) hs ≡ false
none_free g [] all = refl
none_free g (h ∷ hs) all = grind (arith, none_free g hs)

pub none_rests : (g i : ℕ) (hs : List Held) → list_any (rests g) (take i hs) ≡ false → list_all (is_free g) (drop i hs) ≡ true → false ≡ list_any (rests g) hs
none_rests g i hs before after =
    grind (arith, take-append-drop i hs, list_any-append (rests g) (take i hs) (drop i hs), none_free g (drop i hs) after)

pub rests_texts : (g : ℕ) (hs : List Held) → list_any (rests g) hs ≡ any_rests g (texts_of hs)
rests_texts g [] = refl
rests_texts g (h ∷ hs) = ap (λ b. has g h.said.1 || b) (rests_texts g hs)
