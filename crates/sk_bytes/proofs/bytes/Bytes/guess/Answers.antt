-- The guess that is drawn over numbers is drawn over strings, and one that is refused changes nothing that is told.
use Rattle.sk_bytes.proofs.Names.{Some, sym, ap, ◌∙◌, subst, nat_cmp, vec_items, err_from_is_err_and, Deed, is_in}
use Rattle.sk_bytes.proofs.Names.{bytes_cmp, number_of, next_of, Refuses, Takes, Parts, next_above, from_ok, names}
use Rattle.sk_bytes.proofs.Names.{RefusesGuess, byte_deed, deed_in, told_of, ByteView, Fits, UsedBut}
use Rattle.sk_speculator.specs.declared.refusal.Refusal.TheVariants as inner
use Rattle.sk_bytes.proofs.Told.{taken_whole, takes_told}
use Rattle.sk_bytes.proofs.Fitting.{any_err, fits_less, fits_more, fits_same, fits_taken, refused, refused_next, told_still, unchanged, writes_names}
use Rattle.sk_bytes.proofs.Used.{used_less, used_more, used_same, used_taken}
use Rattle.sk_bytes.proofs.bytes.Bytes.guess.Goals as goal

pub returns-in_err-checked-clause-err : goal.returns-in_err-checked-clause-err
returns-in_err-checked-clause-err g c =
    let es = c.self.inside.keys.index in
    let m = c.self.inside.kernel in
    let one = fits_less es c.let_go.new.self.index m (is_in nat_cmp c.self.inside.keys.loose.items) c.self.invariant.0.fits c.let_go.ensures.gone in
    any_err c.from_residual.result (unchanged c.args.self.now es c.let_go.new.self.index m m c.self.inside.keys.loose.items c.let_go.new.self.loose.items c.self.view_is one.1 c.let_go.ensures.loose)

pub returns-in_err-next_number-clause-err : goal.returns-in_err-next_number-clause-err
returns-in_err-next_number-clause-err g c =
    let es = c.self.inside.keys.index in
    let m = c.self.inside.kernel in
    let one = fits_less es c.let_go.new.self.index m (is_in nat_cmp c.self.inside.keys.loose.items) c.self.invariant.0.fits c.let_go.ensures.gone in
    any_err c.from_residual-in_err-next_number.result
    (unchanged c.args.self.now es c.let_go.new.self.index m m c.self.inside.keys.loose.items c.let_go.new.self.loose.items c.self.view_is one.1 c.let_go.ensures.loose)

pub returns-in_err-next_number-clause-why : goal.returns-in_err-next_number-clause-why
returns-in_err-next_number-clause-why g c =
    let told = err_from_is_err_and c.from_residual-in_err-next_number.result c.from_residual-in_err-next_number.ensures.1 in
    let why = c.in_err-next_number.field-0.0 in
    rw told.1 (subst (RefusesGuess c.args.self.now.parts c.args.step.now) (sym told.2)
    (subst (λ (v : ByteView _ _). RefusesGuess v.parts c.args.step.now why) c.self.view_is
    (refused_next c.self.inside.keys.index c.self.inside.kernel c.args.step.now why c.in_ok-checked.ensures.ok c.in_err-next_number.ensures.why)))

pub returns-then-is_err-clause-why : goal.returns-then-is_err-clause-why
returns-then-is_err-clause-why g c = (
  c.in_ok-checked.ensures.ok,
  subst (λ (v : ByteView _ _). Refuses v.parts inner.Memory) c.self.view_is c.in_ok-next_number.ensures.may,
)

pub returns-then-is_err-clause-err : goal.returns-then-is_err-clause-err
returns-then-is_err-clause-err g c =
    let es = c.self.inside.keys.index in
    let m = c.self.inside.kernel in
    let left = c.let_go-then-is_err.new.self in
    let one = fits_less es c.let_go.new.self.index m (is_in nat_cmp c.self.inside.keys.loose.items) c.self.invariant.0.fits c.let_go.ensures.gone in
    let two = fits_more c.let_go.new.self.index c.hand_over.new.self.index m c.hand_over.new.self.loose.items one.0 c.hand_over.ensures.gains in
    let three = fits_less c.hand_over.new.self.index left.index m (is_in nat_cmp c.hand_over.new.self.loose.items) two.0 c.let_go-then-is_err.ensures.gone in
    unchanged c.args.self.now es left.index m m c.self.inside.keys.loose.items left.loose.items c.self.view_is (three.1 ∙ two.1 ∙ one.1) c.let_go-then-is_err.ensures.loose

pub returns-in-Err-clause-err : goal.returns-in-Err-clause-err
returns-in-Err-clause-err g c =
    let es = c.self.inside.keys.index in
    let m = c.self.inside.kernel in
    let b = c.guess.new.self in
    let left = c.let_go-in-Err.new.self in
    let back = c.hand_back.new.self in
    let one = fits_less es c.let_go.new.self.index m (is_in nat_cmp c.self.inside.keys.loose.items) c.self.invariant.0.fits c.let_go.ensures.gone in
    let two = fits_more c.let_go.new.self.index c.hand_over.new.self.index m c.hand_over.new.self.loose.items one.0 c.hand_over.ensures.gains in
    let same = fits_same c.hand_over.new.self.index m b two.0 c.in-Err.ensures.err in
    let three = fits_less back.index left.index b (is_in nat_cmp back.loose.items) (subst (λ fs. Fits fs b) (sym c.hand_back.ensures.index) same.0) c.let_go-in-Err.ensures.gone in
    unchanged c.args.self.now es left.index m b c.self.inside.keys.loose.items left.loose.items c.self.view_is
    (three.1 ∙ ap (λ fs. told_of fs b) c.hand_back.ensures.index ∙ same.1 ∙ two.1 ∙ one.1) c.let_go-in-Err.ensures.loose

pub let_go-requires-in-Ok-clause-rests : goal.let_go-requires-in-Ok-clause-rests
let_go-requires-in-Ok-clause-rests g c =
    let es = c.self.inside.keys.index in
    let m = c.self.inside.kernel in
    let b = c.guess.new.self in
    let mid = c.hand_over.new.self in
    let one = fits_less es c.let_go.new.self.index m (is_in nat_cmp c.self.inside.keys.loose.items) c.self.invariant.0.fits c.let_go.ensures.gone in
    let two = fits_more c.let_go.new.self.index mid.index m mid.loose.items one.0 c.hand_over.ensures.gains in
    let deed = from_ok c.hand_over.result (sym c.if-is_err.false ∙ c.is_err.ensures.value) c.hand_over.ensures.deed in
    let takes = taken_whole m b mid.numbered (Some (next_of m.guesses)) c.in-Ok.ensures.ok in
    let d : Deed _ _ _ = byte_deed c.args.step.now in
    let after = fits_taken mid.index m b two.0 (names d.written) (deed_in mid.numbered) (writes_names (number_of mid.index) d.written mid.numbered.written.items deed.written) (Some (next_of m.guesses)) (next_above m.guesses.drawn) takes in
    after.rests

pub invariant_of-self-in-Ok : goal.invariant_of-self-in-Ok
invariant_of-self-in-Ok g c =
    let es = c.self.inside.keys.index in
    let m = c.self.inside.kernel in
    let b = c.guess.new.self in
    let mid = c.hand_over.new.self in
    let left = c.let_go-in-Ok.new.self in
    let one = fits_less es c.let_go.new.self.index m (is_in nat_cmp c.self.inside.keys.loose.items) c.self.invariant.0.fits c.let_go.ensures.gone in
    let two = fits_more c.let_go.new.self.index mid.index m mid.loose.items one.0 c.hand_over.ensures.gains in
    let deed = from_ok c.hand_over.result (sym c.if-is_err.false ∙ c.is_err.ensures.value) c.hand_over.ensures.deed in
    let takes = taken_whole m b mid.numbered (Some (next_of m.guesses)) c.in-Ok.ensures.ok in
    let emptied = c.in-Ok.ensures.emptied in
    let d : Deed _ _ _ = byte_deed c.args.step.now in
    let after = fits_taken mid.index m b two.0 (names d.written) (deed_in mid.numbered) (writes_names (number_of mid.index) d.written mid.numbered.written.items deed.written) (Some (next_of m.guesses)) (next_above m.guesses.drawn) takes in
    let three = fits_less mid.index left.index b (is_in nat_cmp mid.loose.items) after c.let_go-in-Ok.ensures.gone in
    let first = used_less es c.let_go.new.self.index m.slots c.self.inside.keys.loose.items c.self.invariant.0.needed c.let_go.ensures.gone in
    let second = used_more c.let_go.new.self.index mid.index m.slots mid.loose.items first c.hand_over.ensures.gains in
    let loose = from_ok c.hand_over.result (sym c.if-is_err.false ∙ c.is_err.ensures.value) c.hand_over.ensures.loose in
    let third = used_taken mid.index m b two.0 (deed_in mid.numbered) (Some (next_of m.guesses)) (subst (UsedBut mid.index m.slots) loose second) takes in
    let needed = used_less mid.index left.index b.slots mid.loose.items (subst (UsedBut mid.index b.slots) (sym loose) third) c.let_go-in-Ok.ensures.gone in
    (told_still left.index b left.loose.items three.0 needed c.let_go-in-Ok.ensures.loose, c.let_go-in-Ok.ensures.looked, c.let_go-in-Ok.ensures.written, c.let_go-in-Ok.ensures.said ∙ emptied.said, c.self.invariant.4)

pub returns-in-Ok-clause-ok : goal.returns-in-Ok-clause-ok
returns-in-Ok-clause-ok g c =
    let es = c.self.inside.keys.index in
    let m = c.self.inside.kernel in
    let b = c.guess.new.self in
    let mid = c.hand_over.new.self in
    let left = c.let_go-in-Ok.new.self in
    let one = fits_less es c.let_go.new.self.index m (is_in nat_cmp c.self.inside.keys.loose.items) c.self.invariant.0.fits c.let_go.ensures.gone in
    let two = fits_more c.let_go.new.self.index mid.index m mid.loose.items one.0 c.hand_over.ensures.gains in
    let deed = from_ok c.hand_over.result (sym c.if-is_err.false ∙ c.is_err.ensures.value) c.hand_over.ensures.deed in
    let takes = taken_whole m b mid.numbered (Some (next_of m.guesses)) c.in-Ok.ensures.ok in
    let d : Deed _ _ _ = byte_deed c.args.step.now in
    let after = fits_taken mid.index m b two.0 (names d.written) (deed_in mid.numbered) (writes_names (number_of mid.index) d.written mid.numbered.written.items deed.written) (Some (next_of m.guesses)) (next_above m.guesses.drawn) takes in
    let three = fits_less mid.index left.index b (is_in nat_cmp mid.loose.items) after c.let_go-in-Ok.ensures.gone in
    subst (λ (p : Parts _ _ _). Takes bytes_cmp p d (Some (next_of p.guesses)) (told_of left.index b)) (two.1 ∙ one.1 ∙ ap (λ (v : ByteView _ _). v.parts) c.self.view_is)
    (subst (λ (p : Parts _ _ _). Takes bytes_cmp (told_of mid.index m) d (Some (next_of m.guesses)) p) (sym three.1) (takes_told mid.index two.0.two_way m b d (deed_in mid.numbered) deed (Some (next_of m.guesses)) takes))

pub returns-in-Err-clause-why : goal.returns-in-Err-clause-why
returns-in-Err-clause-why g c =
    let told : Parts _ _ _ = told_of c.self.inside.keys.index c.self.inside.kernel in
    subst (λ (v : ByteView _ _). RefusesGuess v.parts c.args.step.now c.named.result) c.self.view_is
    (subst (RefusesGuess told c.args.step.now) (sym c.named.ensures) (refused told c.args.step.now c.in-Err.refusal c.in_ok-checked.ensures.ok c.in-Err.ensures.why))

pub invariant_of-self-in-Err : goal.invariant_of-self-in-Err
invariant_of-self-in-Err g c =
    let es = c.self.inside.keys.index in
    let m = c.self.inside.kernel in
    let b = c.guess.new.self in
    let mid = c.hand_over.new.self in
    let back = c.hand_back.new.self in
    let left = c.let_go-in-Err.new.self in
    let one = fits_less es c.let_go.new.self.index m (is_in nat_cmp c.self.inside.keys.loose.items) c.self.invariant.0.fits c.let_go.ensures.gone in
    let two = fits_more c.let_go.new.self.index mid.index m mid.loose.items one.0 c.hand_over.ensures.gains in
    let same = c.in-Err.ensures.err in
    let fits = subst (λ fs. Fits fs b) (sym c.hand_back.ensures.index) (fits_same mid.index m b two.0 same).0 in
    let three = fits_less back.index left.index b (is_in nat_cmp back.loose.items) fits c.let_go-in-Err.ensures.gone in
    let first = used_less es c.let_go.new.self.index m.slots c.self.inside.keys.loose.items c.self.invariant.0.needed c.let_go.ensures.gone in
    let second = used_more c.let_go.new.self.index mid.index m.slots mid.loose.items first c.hand_over.ensures.gains in
    let third = used_same mid.index m b mid.loose.items second same in
    let handed = subst (λ fs. UsedBut fs b.slots back.loose.items) (sym c.hand_back.ensures.index) (subst (UsedBut mid.index b.slots) (sym (ap vec_items c.hand_back.ensures.loose)) third) in
    let needed = used_less back.index left.index b.slots back.loose.items handed c.let_go-in-Err.ensures.gone in
    let over = from_ok c.hand_over.result (sym c.if-is_err.false ∙ c.is_err.ensures.value) c.hand_over.ensures.handed in (
      told_still left.index b left.loose.items three.0 needed c.let_go-in-Err.ensures.loose,
      c.let_go-in-Err.ensures.looked,
      c.let_go-in-Err.ensures.written,
      c.let_go-in-Err.ensures.said ∙ c.hand_back.ensures.swaps.told_said ∙ over.left_said,
      c.self.invariant.4,
    )
