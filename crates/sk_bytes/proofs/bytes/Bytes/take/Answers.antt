-- The step that is taken over numbers is taken over strings, and one that is refused changes nothing that is told.
use Rattle.sk_bytes.proofs.Names.{None, sym, ap, ◌∙◌, subst, is_none, list_any, nat_cmp, vec_items, Deed, is_in}
use Rattle.sk_bytes.proofs.Names.{bytes_cmp, number_of, Takes, Parts, no_next, from_err, from_ok, names, byte_deed}
use Rattle.sk_bytes.proofs.Names.{deed_in, told_of, ByteView, Fits, UsedBut}
use Rattle.sk_bytes.proofs.Told.{taken_whole, takes_told}
use Rattle.sk_bytes.proofs.Fitting.{any_err, fits_less, fits_more, fits_same, fits_taken, set_shown, told_still, unchanged, writes_names}
use Rattle.sk_bytes.proofs.Used.{used_less, used_more, used_same, used_taken}
use Rattle.sk_bytes.proofs.bytes.Bytes.take.Goals as goal

pub returns-in_err-checked-clause-err : goal.returns-in_err-checked-clause-err
returns-in_err-checked-clause-err g c =
    let es = c.self.inside.keys.index in
    let m = c.self.inside.kernel in
    let one = fits_less es c.let_go.new.self.index m (is_in nat_cmp c.self.inside.keys.loose.items) c.self.invariant.0.fits c.let_go.ensures.gone in
    any_err c.from_residual.result (unchanged c.args.self.now es c.let_go.new.self.index m m c.self.inside.keys.loose.items c.let_go.new.self.loose.items c.self.view_is one.1 c.let_go.ensures.loose)

pub returns-then-is_err-clause-err : goal.returns-then-is_err-clause-err
returns-then-is_err-clause-err g c =
    let es = c.self.inside.keys.index in
    let m = c.self.inside.kernel in
    let left = c.let_go-then-is_err.new.self in
    let one = fits_less es c.let_go.new.self.index m (is_in nat_cmp c.self.inside.keys.loose.items) c.self.invariant.0.fits c.let_go.ensures.gone in
    let two = fits_more c.let_go.new.self.index c.hand_over.new.self.index m c.hand_over.new.self.loose.items one.0 c.hand_over.ensures.gains in
    let three = fits_less c.hand_over.new.self.index left.index m (is_in nat_cmp c.hand_over.new.self.loose.items) two.0 c.let_go-then-is_err.ensures.gone in
    unchanged c.args.self.now es left.index m m c.self.inside.keys.loose.items left.loose.items c.self.view_is (three.1 ∙ two.1 ∙ one.1) c.let_go-then-is_err.ensures.loose

pub returns-then-is_err-2-clause-err : goal.returns-then-is_err-2-clause-err
returns-then-is_err-2-clause-err g c =
    let es = c.self.inside.keys.index in
    let m = c.self.inside.kernel in
    let b = c.take.new.self in
    let left = c.let_go-then-is_err-2.new.self in
    let back = c.hand_back.new.self in
    let one = fits_less es c.let_go.new.self.index m (is_in nat_cmp c.self.inside.keys.loose.items) c.self.invariant.0.fits c.let_go.ensures.gone in
    let two = fits_more c.let_go.new.self.index c.hand_over.new.self.index m c.hand_over.new.self.loose.items one.0 c.hand_over.ensures.gains in
    let same = fits_same c.hand_over.new.self.index m b two.0 (from_err c.take.result (sym c.if-is_err-2.true ∙ c.is_err-2.ensures.value) c.take.ensures.err) in
    let three = fits_less back.index left.index b (is_in nat_cmp back.loose.items) (subst (λ fs. Fits fs b) (sym c.hand_back.ensures.index) same.0) c.let_go-then-is_err-2.ensures.gone in
    unchanged c.args.self.now es left.index m b c.self.inside.keys.loose.items left.loose.items c.self.view_is
    (three.1 ∙ ap (λ fs. told_of fs b) c.hand_back.ensures.index ∙ same.1 ∙ two.1 ∙ one.1) c.let_go-then-is_err-2.ensures.loose

pub let_go_taken-requires-clause-rests : goal.let_go_taken-requires-clause-rests
let_go_taken-requires-clause-rests g c =
    let es = c.self.inside.keys.index in
    let m = c.self.inside.kernel in
    let b = c.take.new.self in
    let mid = c.hand_over.new.self in
    let one = fits_less es c.let_go.new.self.index m (is_in nat_cmp c.self.inside.keys.loose.items) c.self.invariant.0.fits c.let_go.ensures.gone in
    let two = fits_more c.let_go.new.self.index mid.index m mid.loose.items one.0 c.hand_over.ensures.gains in
    let deed = from_ok c.hand_over.result (sym c.if-is_err.false ∙ c.is_err.ensures.value) c.hand_over.ensures.deed in
    let takes = taken_whole m b mid.numbered None (from_ok c.take.result (sym c.if-is_err-2.false ∙ c.is_err-2.ensures.value) c.take.ensures.ok) in
    let d : Deed _ _ _ = byte_deed c.args.step.now in
    let after = fits_taken mid.index m b two.0 (names d.written) (deed_in mid.numbered) (writes_names (number_of mid.index) d.written mid.numbered.written.items deed.written) None (no_next m.guesses.drawn) takes in
    after.rests

pub let_go_taken-requires-clause-set : goal.let_go_taken-requires-clause-set
let_go_taken-requires-clause-set g c = λ set n among.
    let es = c.self.inside.keys.index in
    let m = c.self.inside.kernel in
    let b = c.take.new.self in
    let mid = c.hand_over.new.self in
    let one = fits_less es c.let_go.new.self.index m (is_in nat_cmp c.self.inside.keys.loose.items) c.self.invariant.0.fits c.let_go.ensures.gone in
    let two = fits_more c.let_go.new.self.index mid.index m mid.loose.items one.0 c.hand_over.ensures.gains in
    let over = sym c.if-is_err.false ∙ c.is_err.ensures.value in
    let takes = taken_whole m b mid.numbered None (from_ok c.take.result (sym c.if-is_err-2.false ∙ c.is_err-2.ensures.value) c.take.ensures.ok) in
    let loose = from_ok c.hand_over.result over c.hand_over.ensures.loose in
    set_shown mid.index m b two.0 (deed_in mid.numbered) None (ap (list_any (λ (w : _ × _). is_none w.1)) (sym c.as_slice.ensures.value) ∙ sym c.makes_absent-makes_absent.ensures ∙ set) takes n (ap (λ ns. is_in nat_cmp ns n) (sym loose) ∙ among)

pub invariant_of-self-2 : goal.invariant_of-self-2
invariant_of-self-2 g c =
    let es = c.self.inside.keys.index in
    let m = c.self.inside.kernel in
    let b = c.take.new.self in
    let mid = c.hand_over.new.self in
    let left = c.let_go_taken.new.self in
    let one = fits_less es c.let_go.new.self.index m (is_in nat_cmp c.self.inside.keys.loose.items) c.self.invariant.0.fits c.let_go.ensures.gone in
    let two = fits_more c.let_go.new.self.index mid.index m mid.loose.items one.0 c.hand_over.ensures.gains in
    let deed = from_ok c.hand_over.result (sym c.if-is_err.false ∙ c.is_err.ensures.value) c.hand_over.ensures.deed in
    let told = sym c.if-is_err-2.false ∙ c.is_err-2.ensures.value in
    let takes = taken_whole m b mid.numbered None (from_ok c.take.result told c.take.ensures.ok) in
    let emptied = from_ok c.take.result told c.take.ensures.emptied in
    let d : Deed _ _ _ = byte_deed c.args.step.now in
    let after = fits_taken mid.index m b two.0 (names d.written) (deed_in mid.numbered) (writes_names (number_of mid.index) d.written mid.numbered.written.items deed.written) None (no_next m.guesses.drawn) takes in
    let three = fits_less mid.index left.index b (is_in nat_cmp mid.loose.items) after c.let_go_taken.ensures.gone in
    let first = used_less es c.let_go.new.self.index m.slots c.self.inside.keys.loose.items c.self.invariant.0.needed c.let_go.ensures.gone in
    let second = used_more c.let_go.new.self.index mid.index m.slots mid.loose.items first c.hand_over.ensures.gains in
    let loose = from_ok c.hand_over.result (sym c.if-is_err.false ∙ c.is_err.ensures.value) c.hand_over.ensures.loose in
    let third = used_taken mid.index m b two.0 (deed_in mid.numbered) None (subst (UsedBut mid.index m.slots) loose second) takes in
    let needed = used_less mid.index left.index b.slots mid.loose.items (subst (UsedBut mid.index b.slots) (sym loose) third) c.let_go_taken.ensures.gone in
    (told_still left.index b left.loose.items three.0 needed c.let_go_taken.ensures.loose, c.let_go_taken.ensures.looked, c.let_go_taken.ensures.written, c.let_go_taken.ensures.said ∙ emptied.said, c.self.invariant.4)

pub returns-clause-ok : goal.returns-clause-ok
returns-clause-ok g c =
    let es = c.self.inside.keys.index in
    let m = c.self.inside.kernel in
    let b = c.take.new.self in
    let mid = c.hand_over.new.self in
    let left = c.let_go_taken.new.self in
    let one = fits_less es c.let_go.new.self.index m (is_in nat_cmp c.self.inside.keys.loose.items) c.self.invariant.0.fits c.let_go.ensures.gone in
    let two = fits_more c.let_go.new.self.index mid.index m mid.loose.items one.0 c.hand_over.ensures.gains in
    let deed = from_ok c.hand_over.result (sym c.if-is_err.false ∙ c.is_err.ensures.value) c.hand_over.ensures.deed in
    let takes = taken_whole m b mid.numbered None (from_ok c.take.result (sym c.if-is_err-2.false ∙ c.is_err-2.ensures.value) c.take.ensures.ok) in
    let d : Deed _ _ _ = byte_deed c.args.step.now in
    let after = fits_taken mid.index m b two.0 (names d.written) (deed_in mid.numbered) (writes_names (number_of mid.index) d.written mid.numbered.written.items deed.written) None (no_next m.guesses.drawn) takes in
    let three = fits_less mid.index left.index b (is_in nat_cmp mid.loose.items) after c.let_go_taken.ensures.gone in
    subst (λ (p : Parts _ _ _). Takes bytes_cmp p d None (told_of left.index b)) (two.1 ∙ one.1 ∙ ap (λ (v : ByteView _ _). v.parts) c.self.view_is)
    (subst (λ (p : Parts _ _ _). Takes bytes_cmp (told_of mid.index m) d None p) (sym three.1) (takes_told mid.index two.0.two_way m b d (deed_in mid.numbered) deed None takes))

pub invariant_of-self-then-is_err-2 : goal.invariant_of-self-then-is_err-2
invariant_of-self-then-is_err-2 g c =
    let es = c.self.inside.keys.index in
    let m = c.self.inside.kernel in
    let b = c.take.new.self in
    let mid = c.hand_over.new.self in
    let back = c.hand_back.new.self in
    let left = c.let_go-then-is_err-2.new.self in
    let one = fits_less es c.let_go.new.self.index m (is_in nat_cmp c.self.inside.keys.loose.items) c.self.invariant.0.fits c.let_go.ensures.gone in
    let two = fits_more c.let_go.new.self.index mid.index m mid.loose.items one.0 c.hand_over.ensures.gains in
    let same = (from_err c.take.result (sym c.if-is_err-2.true ∙ c.is_err-2.ensures.value) c.take.ensures.err) in
    let fits = subst (λ fs. Fits fs b) (sym c.hand_back.ensures.index) (fits_same mid.index m b two.0 same).0 in
    let three = fits_less back.index left.index b (is_in nat_cmp back.loose.items) fits c.let_go-then-is_err-2.ensures.gone in
    let first = used_less es c.let_go.new.self.index m.slots c.self.inside.keys.loose.items c.self.invariant.0.needed c.let_go.ensures.gone in
    let second = used_more c.let_go.new.self.index mid.index m.slots mid.loose.items first c.hand_over.ensures.gains in
    let third = used_same mid.index m b mid.loose.items second same in
    let handed = subst (λ fs. UsedBut fs b.slots back.loose.items) (sym c.hand_back.ensures.index) (subst (UsedBut mid.index b.slots) (sym (ap vec_items c.hand_back.ensures.loose)) third) in
    let needed = used_less back.index left.index b.slots back.loose.items handed c.let_go-then-is_err-2.ensures.gone in
    let over = from_ok c.hand_over.result (sym c.if-is_err.false ∙ c.is_err.ensures.value) c.hand_over.ensures.handed in (
      told_still left.index b left.loose.items three.0 needed c.let_go-then-is_err-2.ensures.loose,
      c.let_go-then-is_err-2.ensures.looked,
      c.let_go-then-is_err-2.ensures.written,
      c.let_go-then-is_err-2.ensures.said ∙ c.hand_back.ensures.swaps.told_said ∙ over.left_said,
      c.self.invariant.4,
    )
