-- A key that has no slot is absent and depends on nothing, and one that has a slot is there or depends on something.
use Rattle.sk_speculator.proofs.Names.{◌≡◌, true, false, not, ◌&&◌, [], Option, Some, None, refl, sym, ◌∙◌, ap, is_none}
use Rattle.sk_speculator.proofs.Names.{is_some, true≢false, false≢true, and_both, SlotView, is_bare, is_empty}
use Rattle.sk_speculator.proofs.Names.{is_settled, slot_in}

module _ {V : Type 0} where
  pub no_value : (o : Option (SlotView V)) → is_some o ≡ false → (slot_in o).value ≡ None
  no_value None out = refl
  no_value (Some s) out = absurd (true≢false out)

  pub no_notes : (o : Option (SlotView V)) → is_some o ≡ false → (slot_in o).log ≡ []
  no_notes None out = refl
  no_notes (Some s) out = absurd (true≢false out)

  pub something : (o : Option (SlotView V)) → is_some o ≡ true → ((s : SlotView V) → o ≡ Some s → is_settled s ≡ true) → (slot_in o).value ≡ None → (slot_in o).log ≡ [] → ⊥
  something None here settled value log = false≢true here
  something (Some s) here settled value log =
      let left : not (is_bare s) ≡ true = (and_both _ _ (settled s refl)).1 in
      let bare : is_bare s ≡ true = λ i. is_none (value i) && is_empty (log i) in
      false≢true (sym (ap not bare) ∙ left)
