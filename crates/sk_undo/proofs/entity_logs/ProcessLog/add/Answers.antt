use Rattle.sk_undo.proofs.Cites.{◌≡◌, ◌++◌, ◌∷◌, [], subst, sym, ap, ◌∙◌, Process, PutBack, Was, RawNote, last_tags}
use Rattle.sk_undo.proofs.Cites.{Grows, Covers, runs_of, AllSet, is_apart}
use Rattle.sk_undo.proofs.Growing.{grows_more}
use Rattle.sk_undo.proofs.Runs.{newest_run, left_out, kept_more, apart_noted, set_noted, newest_noted}
use Rattle.sk_undo.proofs.entity_logs.ProcessLog.add.Goals as goal

pub returns-then-goes_unnoted-clause-ok : goal.returns-then-goes_unnoted-clause-ok
returns-then-goes_unnoted-clause-ok c =
    left_out c.args.tags c.args.before c.args.self.now.log.notes.items c.args.self.now.whole c.args.self.now.apart (sym c.goes_unnoted.ensures ∙ c.if-goes_unnoted.true)

pub invariant_of-self-2 : goal.invariant_of-self-2
invariant_of-self-2 c =
    let old = c.args.self.now.log.notes.items in
    let note : RawNote (PutBack Process) = record { tags = c.args.tags; undo = Was c.args.before } in
    let all : c.note_reserved.new.self.notes.items ≡ old ++ note ∷ [] = c.note_reserved.ensures ∙ ap (λ ns. ns ++ note ∷ []) c.reserve.ensures.notes in
    let noted = sym c.goes_unnoted.ensures ∙ c.if-goes_unnoted.false in
    record {
      grows = subst Grows (sym all) (grows_more old note c.args.self.now.grows (subst (Covers c.args.tags) (sym (newest_run old c.args.self.now.whole)) c.requires));
      whole = subst AllSet (sym all) (set_noted c.args.tags c.args.before old c.args.self.now.whole c.args.self.now.apart);
      apart = ap (λ ns. is_apart [] (runs_of ns)) all ∙ apart_noted c.args.tags c.args.before old c.args.self.now.whole c.args.self.now.apart noted;
    }

pub returns-clause-ok : goal.returns-clause-ok
returns-clause-ok c =
    let old = c.args.self.now.log.notes.items in
    let note : RawNote (PutBack Process) = record { tags = c.args.tags; undo = Was c.args.before } in
    let all : c.note_reserved.new.self.notes.items ≡ old ++ note ∷ [] = c.note_reserved.ensures ∙ ap (λ ns. ns ++ note ∷ []) c.reserve.ensures.notes in
    ap runs_of all ∙ kept_more c.args.tags c.args.before old c.args.self.now.whole c.args.self.now.apart (sym c.goes_unnoted.ensures ∙ c.if-goes_unnoted.false)

pub returns-then-goes_unnoted-clause-newest : goal.returns-then-goes_unnoted-clause-newest
returns-then-goes_unnoted-clause-newest c =
    let old = c.args.self.now.log.notes.items in
    ap (last_tags []) (left_out c.args.tags c.args.before old c.args.self.now.whole c.args.self.now.apart (sym c.goes_unnoted.ensures ∙ c.if-goes_unnoted.true))
    ∙ newest_noted (runs_of old) (record { tags = c.args.tags; before = c.args.before })

pub returns-clause-newest : goal.returns-clause-newest
returns-clause-newest c =
    let old = c.args.self.now.log.notes.items in
    let note : RawNote (PutBack Process) = record { tags = c.args.tags; undo = Was c.args.before } in
    let all : c.note_reserved.new.self.notes.items ≡ old ++ note ∷ [] = c.note_reserved.ensures ∙ ap (λ ns. ns ++ note ∷ []) c.reserve.ensures.notes in
    ap (λ ns. last_tags [] (runs_of ns)) all
    ∙ ap (last_tags []) (kept_more c.args.tags c.args.before old c.args.self.now.whole c.args.self.now.apart (sym c.goes_unnoted.ensures ∙ c.if-goes_unnoted.false))
    ∙ newest_noted (runs_of old) (record { tags = c.args.tags; before = c.args.before })
