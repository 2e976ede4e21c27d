-- What the front of a segment tells of its first frame.
use Rattle.std.proofs.Common.{◌∷◌, ◌++◌, [], refl, sym, ap, ◌∙◌}
use Rattle.sk_recovered.proofs.heads.Heads.add.Goals as goal

pub returns-in_default : goal.returns-in_default
returns-in_default c = (
  refl,
  (λ number synced payloads left same crashed. (tt, λ some. sym c.in_default.is ∙ c.first_number.ensures.synced number synced payloads left same crashed some)),
  c.first_number.ensures.none c.in_default.is,
)

pub returns : goal.returns
returns c = (
  c.in-Some.first,
  c.in-Some.ensures.some,
  (λ number synced payloads left same crashed. (c.in-Some.ensures.written number synced payloads left same crashed, c.in-Some.ensures.synced number synced payloads left same crashed)),
  c.in_ok-push.ensures.items
      ∙ ap (λ hs. hs ++ record { segment = c.args.segment; first = c.in-Some.first } ∷ []) c.self.view_is,
)
