-- The guess that is committed over numbers is committed over strings.
use Rattle.sk_bytes.proofs.Names.{ℕ, sym, ap, ◌∙◌, subst, IfOk, Vec, nat_cmp, is_in, IsStranger, Parts, told_of}
use Rattle.sk_bytes.proofs.Names.{strings_of, ByteView, IsTold, listed, ListsAbsent}
use Rattle.sk_bytes.proofs.Fitting.{fits_less, told_still}
use Rattle.sk_bytes.proofs.Undone.{commit_told, fits_decided}
use Rattle.sk_bytes.proofs.Used.{used_decided, used_less}
use Rattle.sk_bytes.proofs.bytes.Bytes.commit.Goals as goal

pub invariant_of-self : goal.invariant_of-self
invariant_of-self g c =
    let m = c.self.inside.kernel in
    let now = c.let_go.new.self in
    let one = fits_less c.self.inside.keys.index now.index m (is_in nat_cmp c.self.inside.keys.loose.items) c.self.invariant.0.fits c.let_go.ensures.gone in
    let needed = used_less c.self.inside.keys.index now.index m.slots c.self.inside.keys.loose.items c.self.invariant.0.needed c.let_go.ensures.gone in
    (subst (λ p. IsTold now.index p now.loose.items) (sym c.in-Err.ensures.2) (told_still now.index m now.loose.items one.0 needed c.let_go.ensures.loose), c.let_go.ensures.looked, c.let_go.ensures.written, c.let_go.ensures.said ∙ c.self.invariant.3, c.self.invariant.4)

pub give_back_any-requires-clause-rests : goal.give_back_any-requires-clause-rests
give_back_any-requires-clause-rests g c =
    let m = c.self.inside.kernel in
    let now = c.let_go.new.self in
    let one = fits_less c.self.inside.keys.index now.index m (is_in nat_cmp c.self.inside.keys.loose.items) c.self.invariant.0.fits c.let_go.ensures.gone in
    (fits_decided now.index m c.commit.new.self one.0 c.args.guess c.in-Ok.committed c.in-Ok.ensures).rests

pub invariant_of-self-2 : goal.invariant_of-self-2
invariant_of-self-2 g c =
    let m = c.self.inside.kernel in
    let now = c.let_go.new.self in
    let one = fits_less c.self.inside.keys.index now.index m (is_in nat_cmp c.self.inside.keys.loose.items) c.self.invariant.0.fits c.let_go.ensures.gone in
    let needed = used_less c.self.inside.keys.index now.index m.slots c.self.inside.keys.loose.items c.self.invariant.0.needed c.let_go.ensures.gone in
    let two = fits_decided now.index m c.commit.new.self one.0 c.args.guess c.in-Ok.committed c.in-Ok.ensures in
    let three = fits_less now.index c.give_back_any.new.index c.commit.new.self (listed c.absent_dependents-absent.result) two c.give_back_any.ensures in
    let lists = subst (λ h. IfOk c.absent_dependents-absent.result (λ (absent : Vec ℕ). ListsAbsent m.slots h absent.items)) c.id.ensures c.absent_dependents-absent.ensures in
    let left = used_decided now.index m c.commit.new.self one.0 c.give_back_any.new.index c.args.guess c.in-Ok.committed c.absent_dependents-absent.result needed lists c.give_back_any.ensures c.in-Ok.ensures in
    (told_still c.give_back_any.new.index c.commit.new.self now.loose.items three.0 left c.let_go.ensures.loose, c.let_go.ensures.looked, c.let_go.ensures.written, c.let_go.ensures.said ∙ c.self.invariant.3, c.self.invariant.4)

pub returns : goal.returns
returns g c =
    let m = c.self.inside.kernel in
    let now = c.let_go.new.self in
    let b = c.commit.new.self in
    let one = fits_less c.self.inside.keys.index now.index m (is_in nat_cmp c.self.inside.keys.loose.items) c.self.invariant.0.fits c.let_go.ensures.gone in
    let two = fits_decided now.index m b one.0 c.args.guess c.in-Ok.committed c.in-Ok.ensures in
    let three = fits_less now.index c.give_back_any.new.index b (listed c.absent_dependents-absent.result) two c.give_back_any.ensures in
    commit_told now.index m b one.0 c.args.guess c.in-Ok.committed c.args.self.now (record { parts = told_of c.give_back_any.new.index b; undone = strings_of c.give_back_any.new.index now.loose.items; keys = c.give_back_any.new.index })
    (one.1 ∙ ap (λ (v : ByteView _ _). v.parts) c.self.view_is) (sym three.1) c.in-Ok.ensures

pub returns-in-Err : goal.returns-in-Err
returns-in-Err g c =
    let m = c.self.inside.kernel in
    let now = c.let_go.new.self in
    let one = fits_less c.self.inside.keys.index now.index m (is_in nat_cmp c.self.inside.keys.loose.items) c.self.invariant.0.fits c.let_go.ensures.gone in
    let path = ap (λ (v : ByteView _ _). v.parts) c.self.view_is in
    (subst (λ (p : Parts _ _ _). IsStranger p c.args.guess) path c.in-Err.ensures.0, c.in-Err.ensures.1, ap (told_of now.index) c.in-Err.ensures.2 ∙ one.1 ∙ path)
