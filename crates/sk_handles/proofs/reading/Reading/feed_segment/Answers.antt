-- The piece is joined to its segment, or counts for nothing.
use Rattle.sk_handles.proofs.Names.{rules, refl, sym, subst, inl, next_number, Stage, HoldsFrom}
use Rattle.sk_handles.proofs.Read.{last_kept, passes, takes}
use Rattle.sk_handles.proofs.reading.Reading.feed_segment.Goals as goal

pub returns-in-Ok-feed : goal.returns-in-Ok-feed
returns-in-Ok-feed c =
    let old = c.args.self.now in
    inl (
      c.of-in-Ok-feed.ensures,
      refl,
      takes c.args.segment c.args.piece.now old c.in-Ok.stage c.in-On.now c.in-Ok-feed.now
          (λ start heads bytes left holds. c.in-Ok.ensures start heads bytes left
          (subst (λ (s : Stage). HoldsFrom old.first s start heads bytes left) (sym c.replace-stage.ensures.value) holds))
          c.in-On.ensures c.in-Ok-feed.ensures,
    )

pub returns-in-Past : goal.returns-in-Past
returns-in-Past c =
    let old = c.args.self.now in
    let read = c.in-Past.read in
    inl (
      search rules,
      last_kept (next_number read.heads read.opened) c.args.segment c.args.piece.now read _ _ _ c.without-read.ensures,
      passes c.args.segment c.args.piece.now old _ c.in-Ok.stage c.replace-stage.new.dest read _
          (λ start heads bytes left holds. c.in-Ok.ensures start heads bytes left
          (subst (λ (s : Stage). HoldsFrom old.first s start heads bytes left) (sym c.replace-stage.ensures.value) holds))
          c.in-Past.ensures c.without-read.ensures,
    )
