-- A frame more is read, and carried out if it counts.
use Rattle.sk_recovered.proofs.Names.{◌&&◌, if◌then◌else◌, sym, ap, subst, ◌∙◌, with_one, HasTaken, counted_with}
use Rattle.sk_recovered.proofs.Names.{is_below, DamagedAt}
use Rattle.sk_recovered.proofs.Counted.{place_next, stepped}
use Rattle.sk_recovered.proofs.segment.Segment.step.Goals as goal

pub returns : goal.returns
returns c =
    let s = c.args.self.now in
    let payload = c.in-Some.payload.now in
    let next = c.in-Some.ensures.some in
    let frames = c.take_if.new.self in (
      c.pass.ensures.shorter payload next,
      λ start first heads bytes left came w.
          let all = counted_with first w.parts s w.payloads in
          let taken = c.in_ok-take_if.ensures.taken first start all w.taken (λ t. c.number.ensures ∙ place_next start first heads bytes left came s w (sym c.takes-counts.ensures ∙ t)) in
          stepped start first heads bytes left came payload s c.pass.new.self frames c.choose-self.result
          (record { segment = s.head.segment; offset = c.place.result; number = c.number.result }) w
          (c.pass.ensures.passed s.head.segment s.head.first w.payloads came payload w.log next)
          (subst (λ b. HasTaken first start (with_one b all payload) frames) c.takes-counts.ensures taken)
          (λ i. record { segment = s.head.segment; offset = c.place.ensures i; number = c.number.ensures i })
          (subst (λ b. DamagedAt b (record { segment = s.head.segment; offset = c.place.result; number = c.number.result }) s.recovered.frames.damage frames.damage) c.takes-counts.ensures c.in_ok-take_if.ensures.place)
          (c.choose-self.ensures ∙ ap (λ b. if b then c.number-2.result else s.recovered.next) c.takes-counts.ensures
          ∙ ap (λ n. if (s.counts && is_below s.bound s.log.number) then n else s.recovered.next) c.number-2.ensures),
    )
