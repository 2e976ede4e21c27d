-- The count that is kept is that of all keys, and the keys stand for all.
use Rattle.sk_durable.proofs.Names.{◌++◌, Some, map, ap, ◌∙◌, subst, look_at, bytes_cmp, vec_items, HasPlaces, Kernel}
use Rattle.sk_commands.specs.declared.work.Answer.TheVariants as answers
use Rattle.sk_slots.specs.Counted.{HasPresent}
use Rattle.sk_durable.proofs.Sizes.{is_size}
use Rattle.sk_durable.proofs.size.hand_in_size.Goals as goal

pub returns : goal.returns
returns c =
    let kernel = c.args.batched.now.kernel in
    let keys = c.in_ok-keys.keys.items in
    is_size kernel (subst HasPlaces c.kernel-kernel.ensures c.places-places.ensures.keys) c.in_ok-keys.ensures.none c.args.asker _
    (map vec_items keys) c.in_ok-keys.ensures.keys c.present.result
    (subst (λ (k : Kernel). HasPresent bytes_cmp (look_at bytes_cmp k.parts.slots) c.present.result) c.kernel-kernel.ensures c.present.ensures)
    (ap (map vec_items) (c.in_ok-append.ensures.items ∙ ap (λ ks. ks ++ keys) c.requires.looked)) c.requires.written
    (λ i. Some (c.args.asker.channel, (c.new.ensures.ticket i, (c.new.ensures.answer ∙ ap (λ r. answers.One r) c.in_ok-count.ensures) i)))
