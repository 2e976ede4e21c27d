-- The guess that fails over numbers fails over strings.
use Rattle.sk_bytes.proofs.Names.{Ok, ap, ◌∙◌, subst, nat_cmp, is_in, FailPost, IsStranger, Parts, told_of, ByteView}
use Rattle.sk_bytes.proofs.Fitting.{fits_failed, fits_forgot, fits_less, told_still}
use Rattle.sk_bytes.proofs.Used.{used_failed, used_forgot, used_less}
use Rattle.sk_bytes.proofs.Undone.{failed_told, gone_told, held_back}
use Rattle.sk_bytes.proofs.bytes.Bytes.fail.Goals as goal

pub returns-in-Err : goal.returns-in-Err
returns-in-Err g c =
    let m = c.self.inside.kernel in
    let now = c.let_go.new.self in
    let one = fits_less c.self.inside.keys.index now.index m (is_in nat_cmp c.self.inside.keys.loose.items) c.self.invariant.0.fits c.let_go.ensures.gone in
    let path = ap (λ (v : ByteView _ _). v.parts) c.self.view_is in
    (subst (λ (p : Parts _ _ _). IsStranger p c.args.guess) path c.in-Err.ensures.0, c.in-Err.ensures.1, ap (told_of now.index) c.in-Err.ensures.2 ∙ one.1 ∙ path)

pub invariant_of-self-in-Done : goal.invariant_of-self-in-Done
invariant_of-self-in-Done g c =
    let m = c.self.inside.kernel in
    let b = c.fail.new.self in
    let now = c.let_go.new.self in
    let one = fits_less c.self.inside.keys.index now.index m (is_in nat_cmp c.self.inside.keys.loose.items) c.self.invariant.0.fits c.let_go.ensures.gone in
    let needed = used_less c.self.inside.keys.index now.index m.slots c.self.inside.keys.loose.items c.self.invariant.0.needed c.let_go.ensures.gone in
    let post = subst (λ r. FailPost nat_cmp m c.args.guess (Ok r) b) c.in-Done.is c.in-Ok.ensures in (
      record {
        fits = fits_failed now.index m b one.0 c.args.guess.id post.2;
        held = held_back now.index m one.0 c.args.guess.id c.in-Done.field-0 post.1;
        needed = used_failed now.index m b one.0 c.args.guess.id c.in-Done.field-0 needed post.1 post.2;
      },
      c.let_go.ensures.looked,
      c.let_go.ensures.written,
      c.let_go.ensures.said ∙ c.self.invariant.3,
      c.self.invariant.4,
    )

pub invariant_of-self-in-Gone : goal.invariant_of-self-in-Gone
invariant_of-self-in-Gone g c =
    let m = c.self.inside.kernel in
    let b = c.fail.new.self in
    let now = c.let_go.new.self in
    let one = fits_less c.self.inside.keys.index now.index m (is_in nat_cmp c.self.inside.keys.loose.items) c.self.invariant.0.fits c.let_go.ensures.gone in
    let needed = used_less c.self.inside.keys.index now.index m.slots c.self.inside.keys.loose.items c.self.invariant.0.needed c.let_go.ensures.gone in
    let post = subst (λ r. FailPost nat_cmp m c.args.guess (Ok r) b) c.in-Gone.is c.in-Ok.ensures in (
      told_still now.index b now.loose.items (fits_forgot now.index m b one.0 c.args.guess.id post.1) (used_forgot now.index m b c.args.guess.id needed post.1) c.let_go.ensures.loose,
      c.let_go.ensures.looked,
      c.let_go.ensures.written,
      c.let_go.ensures.said ∙ c.self.invariant.3,
      c.self.invariant.4,
    )

pub returns-in-Done : goal.returns-in-Done
returns-in-Done g c =
    let m = c.self.inside.kernel in
    let b = c.fail.new.self in
    let now = c.let_go.new.self in
    let one = fits_less c.self.inside.keys.index now.index m (is_in nat_cmp c.self.inside.keys.loose.items) c.self.invariant.0.fits c.let_go.ensures.gone in
    let post = subst (λ r. FailPost nat_cmp m c.args.guess (Ok r) b) c.in-Done.is c.in-Ok.ensures in
    failed_told now.index m b one.0 c.args.guess c.args.self.now (one.1 ∙ ap (λ (v : ByteView _ _). v.parts) c.self.view_is) c.in-Done.field-0 c.len.result (c.len.ensures ∙ c.in-Done.field-0.keys.ok.0) post

pub returns-in-Gone : goal.returns-in-Gone
returns-in-Gone g c =
    let m = c.self.inside.kernel in
    let b = c.fail.new.self in
    let now = c.let_go.new.self in
    let one = fits_less c.self.inside.keys.index now.index m (is_in nat_cmp c.self.inside.keys.loose.items) c.self.invariant.0.fits c.let_go.ensures.gone in
    let post = subst (λ r. FailPost nat_cmp m c.args.guess (Ok r) b) c.in-Gone.is c.in-Ok.ensures in
    gone_told now.index m b one.0 c.args.guess c.args.self.now (one.1 ∙ ap (λ (v : ByteView _ _). v.parts) c.self.view_is) post
