-- What the proofs of this crate cite from outside of them, passed on from one place. Declares nothing.
pub use Rattle.std.proofs.Common.{Some, Bool, subst, inr, ◌∷◌, ◌&&◌, inl, zero, ◌≡◌, rules, ◌+◌, Option, arith, List}
pub use Rattle.std.proofs.Common.{get_or, ap, ◌++◌, length, ◌||◌, ℕ, true, drop, sym, None, suc, ◌≤◌, take, false}
pub use Rattle.std.proofs.Common.{◌<◌, refl, [], ◌∙◌, not, map}
pub use Rattle.std.proofs.lemmas.Bool.{and_from, not_from_false, true≢false, or_cases, false_from_ne_true, or_left}
pub use Rattle.std.proofs.lemmas.Bool.{or_from, or_parts, eq-eqb, not-true}
pub use Rattle.std.proofs.lemmas.List.{take_more, take_all, take-append-drop, length-append, map-append}
pub use Rattle.std.specs.List.{Contains, list_any}
pub use Rattle.std.specs.Prelude.{◌↔◌, max, ◌⊎◌}
pub use Rattle.sk_counts.specs.Counts.{most_up_to, is_struck_status, is_struck, makes, decides}
pub use Rattle.sk_kernel.specs.Kernel.{HasStatus, record_at, events_of, KernelView}
pub use Rattle.sk_kernel.specs.Laws.{HasSoundTrace}
pub use Rattle.sk_kernel.specs.Opening.{OpeningView}
pub use Rattle.sk_plain.specs.Act.{plain, Scripts}
pub use Rattle.sk_plain.specs.Replay.{image, is_made}
pub use Rattle.sk_plain.specs.Standing.{Stands, seen, Fits, GoesOn}
pub use Rattle.sk_plain.specs.declared.standing.Standing.{Standing}
pub use Rattle.sk_record.proofs.Epoch.{beyond}
pub use Rattle.sk_record.proofs.Sound.{marked_is, or_no, undecided_is, entries_are, fresh_from, draws, is_commit}
pub use Rattle.sk_record.proofs.Sound.{has_fail, is_drawn, any_from, has_commit, is_fail, has_entry, sound_before}
pub use Rattle.sk_record.proofs.Tidy.{recorded_more}
pub use Rattle.sk_record.proofs.UndoStates.{any_at, and_both}
pub use Rattle.sk_record.specs.Epoch.{StatusOr, status_in}
pub use Rattle.sk_record.specs.Notes.{has}
pub use Rattle.sk_record.specs.Trace.{Record, all_recorded, recorded, no_record, HasEntry, Fail, StatusIs, IsSound}
pub use Rattle.sk_record.specs.Trace.{Event as Happens, IsDrawn, Commit}
pub use Rattle.sk_record.specs.declared.status.Status.{Status}
pub use Rattle.sk_record.specs.declared.status.Status.TheVariants.{Failed, Committed, Struck, Undecided}
pub use Rattle.sk_script.specs.Scripts.{ScriptMap}
pub use Rattle.sk_trace.specs.Entry.{EntryView}
pub use Rattle.sk_trace.specs.declared.event.Event.{Event}
