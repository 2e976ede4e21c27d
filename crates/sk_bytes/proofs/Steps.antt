-- A step that is handed over, and handed back.
use Rattle.sk_bytes.proofs.Names.{length-map, ◌≡◌, ℕ, List, map, length, Option, None, sym, ap, ◌∙◌, subst, Vec}
use Rattle.sk_bytes.proofs.Names.{vec_items, keys_of, AreWrites, IsDeed, WholeStep, exchanged, names, AreNames}
use Rattle.sk_bytes.proofs.Names.{byte_deed, deed_in, IsAsItWas, IsHandedOver, Swaps}
use Rattle.sk_bytes.proofs.Moves.{exchanged_back, exchanged_length, exchanged_names, names_length, writes_named}

module _ {V O : Type 0} (step left : WholeStep (Vec ℕ) V O) (numbered told : WholeStep ℕ V O) where
  abbrev pub AreNumbered : (List ℕ → Option ℕ) → Type 0
  AreNumbered key = AreNames key (map (λ w. vec_items w.0) step.written.items) (names numbered.written.items)

  pub deed_told : Swaps step numbered left told → (key : List ℕ → Option ℕ) → numbered.looked.items ≡ keys_of key (map vec_items step.looked.items) → AreNumbered key → IsDeed key (byte_deed step) (deed_in told)
  deed_told swaps key looked are = record {
    looked = ap (λ (v : Vec ℕ). v.items) swaps.told_looked ∙ looked;
    written = subst (AreWrites key (map (λ w. (vec_items w.0, w.1)) step.written.items)) (sym swaps.told_written) (writes_named key step.written.items numbered.written.items are);
    said = swaps.told_said;
  }

  pub lengths : (key : List ℕ → Option ℕ) → AreNumbered key → length step.written.items ≡ length numbered.written.items
  lengths key are =
      sym (length-map step.written.items (λ w. vec_items w.0))
      ∙ names_length key (map (λ w. vec_items w.0) step.written.items) (names numbered.written.items) are
      ∙ length-map numbered.written.items (λ w. w.0)

  pub same_names : Swaps step numbered left told → names told.written.items ≡ names numbered.written.items
  same_names swaps = ap names swaps.told_written ∙ exchanged_names numbered.written.items step.written.items

  pub handed : Swaps step numbered left told → length step.written.items ≡ length numbered.written.items → numbered.said ≡ None → IsHandedOver step left told
  handed swaps same said = record {
    looked = swaps.looked;
    written = (λ i. exchanged (swaps.written i) (swaps.told_written i)) ∙ exchanged_back step.written.items numbered.written.items same;
    same = ap length swaps.written ∙ exchanged_length step.written.items numbered.written.items ∙ same ∙ sym (ap length swaps.told_written ∙ exchanged_length numbered.written.items step.written.items);
    room = swaps.room;
    left_said = swaps.said ∙ said;
    said = swaps.told_said;
  }

module _ {V O : Type 0} (step left back : WholeStep (Vec ℕ) V O) (told none : WholeStep ℕ V O) where
  pub handed_back : IsHandedOver step left told → Swaps left told back none → IsAsItWas step back
  handed_back over swaps = record {
    looked = swaps.looked ∙ over.looked;
    written = swaps.written ∙ over.written;
    room = swaps.room ∙ over.room;
    said = swaps.said ∙ over.said;
  }
