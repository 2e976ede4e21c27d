-- The laws, one lemma for each statement, from the proofs of the parts.
use Rattle.sk_record.proofs.Names.{[], ◌∷◌, ◌++◌, sym, ◌∙◌, ap, slice_get, IsTotalOrder, get, IsAntisymmetric}
use Rattle.sk_record.proofs.Names.{fold-append, System, run, effects, struck, strike, Commit, Fail, record_of}
use Rattle.sk_record.proofs.Names.{effects_of, all_recorded, no_record, undecided_of, log_of, Machine, machine_after}
use Rattle.sk_record.proofs.Names.{machine_at_start, moved, StruckWithin, OneStatus, UndecidedAre, Survivors, TagsAlong}
use Rattle.sk_record.proofs.Names.{LogsAreRuns, NotesAreSuffix, UnwindsToStruckRun, CommitKeeps, StaysReleased}
use Rattle.sk_record.proofs.Names.{MachineIsPlainRun}
use Rattle.sk_record.proofs.Chains.{slice_get-keep}
use Rattle.sk_record.proofs.Machine.{unwound_run, cut_run}
use Rattle.sk_record.proofs.UndoStates.{inv_of}
use Rattle.sk_record.proofs.Tidy.{grows_of, recorded_more}
use Rattle.sk_record.proofs.Sound.{entries_are, record_more, sound_before, sound_commit, undecided_is}
use Rattle.sk_record.proofs.MachineRuns as machine
use Rattle.sk_record.proofs.Tags.{carried_split, cut_none}
use Rattle.sk_record.proofs.Kept as kept
use Rattle.sk_record.proofs.Statuses as status
use Rattle.sk_record.proofs.Undecided.{undecided_rises}
use Rattle.sk_record.proofs.Released as released
use Rattle.sk_record.proofs.Stays as stays
pub use Rattle.sk_record.proofs.Struck.{flags, footprint, struck_runs, later, later_dep}

module _ {E V W F N : Type 0} (K : System E V W F N) (total : IsTotalOrder K.order) (exact : IsAntisymmetric K.order) where
  pub struck_within : StruckWithin K
  struck_within s ns g h own i d = kept.struck_within (effects K s ns) g h own i d

  pub one_status : OneStatus K
  one_status start es g sound = status.one_status K start es sound g

  pub undecided_are : UndecidedAre K
  undecided_are start es sound = (undecided_is K start es sound, undecided_rises K start es sound)

  pub survivors : Survivors K
  survivors start es c k sound =
      let before = sound_before K start es (Fail c ∷ []) sound in (
        ap (λ ts. slice_get ts k) (kept.trail_left K total exact start es c before) ∙ slice_get-keep (struck K start (record_of K start es) c) (effects_of K start es) k,
        λ g. kept.tags_left K total exact start es c before k g,
      )

  pub tags_along_are : TagsAlong K
  tags_along_are start es i tags sound at g = released.tag_at K total exact start es sound i tags at g

  pub logs_are_runs : LogsAreRuns K
  logs_are_runs start es e sound =
      (machine.machine_stands K total exact start es sound).state.logs e ∙ ap (λ ns. log_of K start ns (undecided_of K start es) e) (entries_are K start es)

  pub notes_are_suffix : NotesAreSuffix K
  notes_are_suffix start es e g sound =
      let log = (machine_after K start es).state.logs e in (
        carried_split g log,
        cut_none g log,
        grows_of K total exact start (all_recorded K start no_record es) _ (machine.machine_stands K total exact start es sound).state e g,
      )

  pub unwinds_to_struck_run : UnwindsToStruckRun K
  unwinds_to_struck_run start es g e sound is_open =
      let r = all_recorded K start no_record es in
      let m = machine_after K start es in
      let inv = inv_of K total exact start r m.state (machine.machine_stands K total exact start es sound).state in
      let there = (undecided_is K start es sound g).1 is_open in (
        unwound_run K total exact start r m.state g inv there e ∙ ap (λ ns. get (run K start (strike K start ns g)) e) (entries_are K start es),
        cut_run K total exact start r m.state g inv there e
            ∙ (λ i. log_of K start (strike K start (entries_are K start es i) g) (sym (recorded_more K start no_record es (Fail g)) i).undecided e),
      )

  pub commit_keeps : CommitKeeps K
  commit_keeps start es g e sound is_open =
      let same = fold-append (moved K) (machine_at_start K start) es (Commit g ∷ []) in
      let logs = ap (λ (m : Machine E V W). m.state.logs e) same in (
        ap (λ (m : Machine E V W). m.state.look e) same,
        logs,
        logs_are_runs start (es ++ Commit g ∷ []) e (sound_commit K start es g sound is_open)
            ∙ (λ i. log_of K start (record_more K start es (Commit g) i) (recorded_more K start no_record es (Commit g) i).undecided e),
      )

  pub stays_released : StaysReleased K
  stays_released start es later t before after sound a b = stays.stays_released K start total exact es later sound t before after a b

  pub machine_is_plain_run : MachineIsPlainRun K
  machine_is_plain_run start es sound = machine.machine_is_plain_run K total exact start es sound
