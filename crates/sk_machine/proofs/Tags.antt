-- The tags that a step's footprint depends on, one entity after another.
use Rattle.sk_machine.proofs.Names.{◌≡◌, ℕ, Bool, true, false, ◌||◌, List, [], ◌∷◌, ◌++◌, map, Option, refl, sym, ◌∙◌}
use Rattle.sk_machine.proofs.Names.{ap, true≢false, is_empty, nat_cmp, AllByRecursion, or_assoc, list_any-append}
use Rattle.sk_machine.proofs.Names.{is_marked, touches, has, marks, numbers, tags_at, step_tags, IsTidy, union_is_tags}
use Rattle.sk_machine.proofs.Names.{Entity, EntityState, look_at, EntryView, read_by, written_by, PlanView, asked}
use Rattle.sk_machine.proofs.Names.{changed_are, Parts, undo_state_of, planned_effect, any_rests}
use Rattle.std.specs.declared.cmp.Ordering.TheVariants.{Less}
use Rattle.std.specs.List.Sorted.{IsStrictlySortedBy}
use Rattle.sk_machine.proofs.Listed.{not_known}
use Rattle.std.proofs.Common.{arith}

pub none_more : (b : Bool) → b ≡ (b || false)
none_more b = grind arith

-- a set that has all guesses of another
pub covered : (a b : List ℕ) → ((g : ℕ) → has g b ≡ true → has g a ≡ true) → (g : ℕ) → has g a ≡ (has g a || has g b)
covered a b h g = grind (arith, h g)

-- and one that has none
pub from_none : (a b c : List ℕ) → is_empty a ≡ true → c ≡ b → (g : ℕ) → has g c ≡ (has g a || has g b)
from_none [] b c none same g = ap (has g) same
from_none (x ∷ a) b c none same g = absurd (true≢false (sym none))

module _ (m : Parts) (n : EntryView) (plan : PlanView) where
  -- what a plan reads and writes is what its step touches
  touched_is : (g : ℕ) → any_rests m g (touches (planned_effect m n plan)) ≡ (any_rests m g (read_by n.pid n.input plan.looks) || any_rests m g (written_by n.pid plan.beside))
  touched_is g =
      list_any-append (λ e. has g (tags_at (undo_state_of m) e)) (map (λ (r : Entity × Option EntityState). r.0) (planned_effect m n plan).read) (map (λ (w : Entity × Option EntityState). w.0) (planned_effect m n plan).written)
      ∙ ap (λ es. any_rests m g es || any_rests m g (map (λ (w : Entity × Option EntityState). w.0) (planned_effect m n plan).written)) (asked (look_at m.slots) (read_by n.pid n.input plan.looks))
      ∙ ap (λ es. any_rests m g (read_by n.pid n.input plan.looks) || any_rests m g es) (changed_are (look_at m.slots) n.pid plan)

  -- a rising list of all guesses that these depend on, with the step's own, is the tags of the step
  pub tags_are : (tags : List ℕ) → IsTidy (undo_state_of m) → IsStrictlySortedBy nat_cmp (numbers m.opens ++ marks n.guess) → IsStrictlySortedBy nat_cmp tags
      → ((g : ℕ) → has g tags ≡ ((is_marked n.guess g || any_rests m g (read_by n.pid n.input plan.looks)) || any_rests m g (written_by n.pid plan.beside)))
      → tags ≡ step_tags (undo_state_of m) (planned_effect m n plan)
  tags_are tags tidy opens_rise rises members =
      union_is_tags (undo_state_of m) (planned_effect m n plan) tidy tags opens_rise rises
      (λ g. members g ∙ or_assoc (is_marked n.guess g) (any_rests m g (read_by n.pid n.input plan.looks)) (any_rests m g (written_by n.pid plan.beside)) ∙ ap (λ b. is_marked n.guess g || b) (sym (touched_is g)))

-- nothing depends on a guess that is not open
closed_rest : (m : Parts) → IsTidy (undo_state_of m) → (g : ℕ) → has g (numbers m.opens) ≡ false → (es : List Entity) → any_rests m g es ≡ false
closed_rest m tidy g closed [] = refl
closed_rest m tidy g closed (e ∷ es) = (λ i. not_known m tidy g closed e i || any_rests m g es) ∙ closed_rest m tidy g closed es

-- nor on any where none is open
pub none_rest : (m : Parts) → IsTidy (undo_state_of m) → m.opens ≡ [] → (g : ℕ) (es : List Entity) → any_rests m g es ≡ false
none_rest m tidy none g es = closed_rest m tidy g (ap (λ os. has g (numbers os)) none) es

-- to all that are open nothing is added by what is touched
pub all_have : (m : Parts) → IsTidy (undo_state_of m) → (tags : List ℕ) → tags ≡ numbers m.opens → (g : ℕ) (own : Bool) (es fs : List Entity)
    → (own || has g tags) ≡ ((own || (has g tags || any_rests m g es)) || any_rests m g fs)
all_have m tidy tags all g own es fs =
    let none : has g tags ≡ false → any_rests m g es ≡ false = λ out. closed_rest m tidy g (ap (has g) (sym all) ∙ out) es in
    let nor : has g tags ≡ false → any_rests m g fs ≡ false = λ out. closed_rest m tidy g (ap (has g) (sym all) ∙ out) fs in
    grind arith

-- the front of a rising list rises
front_above : (x : ℕ) (xs ys : List ℕ) → AllByRecursion (λ z. nat_cmp x z ≡ Less) (xs ++ ys) → AllByRecursion (λ z. nat_cmp x z ≡ Less) xs
front_above x [] ys above = tt
front_above x (z ∷ xs) ys above = (above.0, front_above x xs ys above.1)

pub front_rises : (xs ys : List ℕ) → IsStrictlySortedBy nat_cmp (xs ++ ys) → IsStrictlySortedBy nat_cmp xs
unfolding IsStrictlySortedBy
front_rises [] ys rises = tt
front_rises (x ∷ xs) ys rises = (front_above x xs ys rises.0, front_rises xs ys rises.1)

-- ---- what they have
pub own_among : (a b c : Bool) → a ≡ true → ((a || b) || c) ≡ true
own_among a b c is = grind arith

pub last_among : (a b c : Bool) → c ≡ true → ((a || b) || c) ≡ true
last_among a b c is = grind arith
