-- An event more stands behind those that were read; at the end all do.
use Rattle.sk_counts.proofs.Names.{◌≡◌, ◌∙◌, ◌<◌, ◌≤◌, ◌+◌, List, get_or, ap, sym, length, rules, subst, length-append}
use Rattle.sk_counts.proofs.Names.{Record, recorded, EntryView, Event, Scripts, plain, image, seen, GoesOn}
use Rattle.sk_counts.proofs.Along.{after_first, one_more, most_more, all_entries, fits_next}
use Rattle.sk_counts.proofs.reading.read_trace.Goals as goal

pub loop-event-preserved : goal.loop-event-preserved
loop-event-preserved c =
    let k = c.args.kernel.now in
    let i = c.loop-event.event-index in
    let x = c.event-item.result in
    let old = c.loop-event.standing in
    let events : c.events-event-items.result.now ≡ k.trace = search rules in
    let scripts : c.scripts.result.now ≡ k.scripts = search rules in
    let within : i < length k.trace = subst (λ (es : List Event). i < length es) events c.loop-event-test.true in
    let item : x ≡ get_or k.trace i x = subst (λ (es : List Event). x ≡ get_or es i x) events c.event-item.is in
    let goes : GoesOn k.scripts x old c.go_on.new.self = subst (λ (s : Scripts). GoesOn s x old c.go_on.new.self) scripts c.in_ok-go_on.ensures in
    let went = goes k.start c.loop-event.invariant.stands (fits_next k i x old within item c.trace.ensures.sound c.loop-event.invariant.standing) in
    let stands : seen c.go_on.new.self ≡ after_first k (i + 1) =
    went.1 ∙ ap (λ (r : Record EntryView). recorded (plain k.scripts) k.start r (image x)) c.loop-event.invariant.standing ∙ sym (one_more k i x within item) in
    let count : c.len.result ≡ length c.go_on.new.self.undecided.items = search rules in
    record {
      stands = went.0;
      standing = stands;
      most = most_more k i c.loop-event.most c.len.result c.larger-most.result c.loop-event.invariant.most
          (count ∙ ap (λ (r : Record EntryView). length r.undecided) stands) c.larger-most.ensures;
    }

pub returns-clause-left : goal.returns-clause-left
returns-clause-left c =
    let k = c.args.kernel.now in
    let i = c.loop-event.event-index in
    let s = c.loop-event.standing in
    let events : c.events-event-items.result.now ≡ k.trace = search rules in
    let past : length k.trace ≤ i = subst (λ (es : List Event). length es ≤ i) events c.loop-event-test.false in
    let settled : c.len-2.result ≡ length s.settled.items = search rules in
    let behind : c.len-3.result ≡ length s.behind.items = search rules in
    (λ j. settled j + behind j)
    ∙ sym (length-append s.settled.items s.behind.items)
    ∙ ap (λ (r : Record EntryView). length r.entries) c.loop-event.invariant.standing
    ∙ ap length (all_entries k i past)
