-- One request more came.
use Rattle.sk_replay.proofs.Names.{◌≡◌, Option, Some, None, map, sym, ap, refl, ◌∙◌, vec_items, Fault}
use Rattle.sk_replay.proofs.Carried.{carried_on, refused_behind}
use Rattle.sk_replay.proofs.channel.Channel.take.Goals as goal

none_in : (o : Option Fault) → ((fault : Fault) → o ≡ Some fault → ⊥) → o ≡ None
none_in None h = refl
none_in (Some fault) h = absurd (h fault refl)

pub returns-in-Some : goal.returns-in-Some
returns-in-Some c = record {
  ok = tt;
  err = λ requests carried. (
    refl,
    refused_behind requests (map vec_items c.args.words.items) c.args.self.now c.in_ok-work.work c.in-Some.fault carried c.in_ok-work.ensures.takes.0
        (sym c.fault_in.ensures ∙ c.in-Some.is),
  );
}

pub returns : goal.returns
returns c = record {
  ok = λ requests carried. carried_on requests (map vec_items c.args.words.items) c.args.self.now c.keep.new.self c.in_ok-work.work carried
      c.in_ok-work.ensures.takes.0 (ap (λ s. s.queue) c.keep.ensures.session ∙ c.in_ok-work.ensures.takes.1)
      (sym c.fault_in.ensures ∙ none_in c.fault_in.result c.in_default.not-Some) c.in_ok-keep.ensures.works;
  err = tt;
}
