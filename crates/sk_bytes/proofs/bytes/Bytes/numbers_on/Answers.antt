-- The numbers of the index rise, and those of the list too.
use Rattle.sk_bytes.proofs.Names.{length, ◌∙◌, ap, ◌≡◌, None, subst, slice_get, at_key, string_of, resting_on}
use Rattle.sk_bytes.proofs.Names.{strings_of, ByteView}
use Rattle.sk_bytes.proofs.Resting.{resting_count, resting_keys}
use Rattle.sk_bytes.proofs.bytes.Bytes.numbers_on.Goals as goal

pub returns-clause-count : goal.returns-clause-count
returns-clause-count g c =
    let es = c.self.inside.keys.index in
    resting_count es c.self.inside.kernel c.self.invariant.0.fits c.places-rising.ensures.rising c.args.id c.dependents.result.now c.dependents.ensures.exact c.dependents.ensures.rising
    (strings_of es c.self.inside.keys.loose.items)
    ∙ ap (λ (b : ByteView _ _). length (resting_on b c.args.id)) c.self.view_is

pub returns-clause-keys : goal.returns-clause-keys
returns-clause-keys g c = λ place.
    let es = c.self.inside.keys.index in
    let ns = c.dependents.result.now in
    subst (λ (b : ByteView _ _). at_key None (string_of b.keys) (slice_get ns place) ≡ slice_get (resting_on b c.args.id) place) c.self.view_is
    (resting_keys es c.self.inside.kernel c.self.invariant.0.fits c.places-rising.ensures.rising c.args.id ns c.dependents.ensures.exact c.dependents.ensures.rising
    (strings_of es c.self.inside.keys.loose.items) place)
