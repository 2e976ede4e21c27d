-- What the proofs of this crate cite from outside of them, passed on from one place. Declares nothing.
pub use Rattle.std.proofs.Common.{Some, subst, zero, rules, ◌^◌, ◌-◌, arith, ap, ◌++◌, length, length-append, suc, ◌≤◌}
pub use Rattle.std.proofs.Common.{take, false, refl, [], Ok, ◌∷◌, Err, ◌≡◌, ◌+◌, Option, List, ℕ, true, sym, None}
pub use Rattle.std.proofs.Common.{◌<◌, Result, ◌∙◌, IsSomeAnd}
pub use Rattle.std.proofs.lemmas.Bool.{eq-eqb, eqb-true}
pub use Rattle.std.specs.Prelude.{option_and_then, IfSome}
pub use Rattle.std.proofs.Common.{Bool, ◌==◌, if◌then◌else◌, is_some}
pub use Rattle.std.specs.Str.Lines.{lines}
pub use Rattle.std.proofs.Math.Nat.{min-le_left, min-le_right}
pub use Rattle.std.proofs.lemmas.List.{drop-drop}
pub use Rattle.std.specs.declared.alloc.Global.{Global}
pub use Rattle.std.specs.declared.vec.Vec.{Vec}
pub use mathlib.Core.Logic.{inr, inl}
pub use Rattle.sk_handles.specs.Asked.{Reads, value_text, tags_text_of, ShowsText, ShowsRead}
pub use Rattle.sk_handles.specs.DeskCalls.{client_in}
pub use Rattle.sk_handles.specs.Faults.{placed, IsPlaced}
pub use Rattle.sk_handles.specs.Opening.{opening}
pub use Rattle.sk_handles.specs.Reading.{IsGiven, NextIs, next_number, HoldsFrom, FindsOf, Comes, GoesTo, Holds, Leaves}
pub use Rattle.sk_handles.specs.Reading.{left_by, zeros_by, zeros_of, Lets}
pub use Rattle.sk_handles.specs.Reopening.{last_of, HasFound, IsCause, AreGiven}
pub use Rattle.sk_handles.specs.StoreCalls.{place_of}
pub use Rattle.sk_handles.specs.Told.{just}
pub use Rattle.sk_handles.specs.declared.codes.TheConstants.{FAULT}
pub use Rattle.sk_handles.specs.declared.reading.Reading.{Reading}
pub use Rattle.sk_handles.specs.declared.reading.Stage.{Stage}
pub use Rattle.sk_handles.specs.declared.reopening.NotOpened.TheVariants.{Refused}
pub use Rattle.sk_handles.specs.declared.reopening.StoreLimits.{StoreLimits}
pub use Rattle.sk_handles.specs.declared.told.Told.{Told}
pub use Rattle.sk_batches.proofs.Sealing.{filled, sealed_room}
pub use Rattle.sk_commands.specs.Names.{text_of}
pub use Rattle.sk_commands.specs.Requests.{log_text}
pub use Rattle.sk_counts.specs.Counts.{AreCounts}
pub use Rattle.sk_durable.specs.declared.limits.Limits.{Limits}
pub use Rattle.sk_faults.specs.Details.{IsTold}
pub use Rattle.sk_faults.specs.Parts.{line_at}
pub use Rattle.sk_faults.specs.declared.part.Part.{Part}
pub use Rattle.sk_faults.specs.declared.part.Part.TheVariants.{Declarations}
pub use Rattle.sk_kernel.specs.Kernel.{KernelView}
pub use Rattle.sk_log.specs.Frame.{frame}
pub use Rattle.sk_plain_store.specs.Plain.{Entries}
pub use Rattle.sk_recovered.specs.Recovered.{is_damaged, IsWithin, HasRecovered}
pub use Rattle.sk_log.specs.Crash.{UsesFront}
pub use Rattle.sk_recovered.proofs.Reached.{used_is}
pub use Rattle.sk_recovered.specs.Frames.{capped}
pub use Rattle.sk_recovered.specs.Segments.{used}
pub use Rattle.sk_recovered.specs.Snapshots.{snapshot_heads}
pub use Rattle.sk_recovered.specs.declared.heads.Head.{Head}
pub use Rattle.sk_recovered.specs.declared.recovered.Recovered.{Recovered}
pub use Rattle.sk_recovered.specs.declared.segment.Segment.{Segment}
pub use Rattle.sk_reopened.specs.Reopened.{Reopens, IsAgainst}
pub use Rattle.sk_reopened.specs.declared.refusal.Refusal.{Refusal}
pub use Rattle.sk_replay.specs.Snapshot.{IsPiece, set_of, IsFilled}
pub use Rattle.sk_report.specs.declared.stop.Stop.{Stop}
pub use Rattle.sk_requests.proofs.Lines.{length-said}
pub use Rattle.sk_requests.specs.Lines.{said, head}
pub use Rattle.sk_requests.specs.Request.{bulk, bulks}
pub use Rattle.sk_scenario.specs.Scenario.{scenario_view, section_view}
pub use Rattle.sk_talk.specs.Asked.{named}
pub use Rattle.sk_talk.specs.Played.{kernel_of}
pub use Rattle.sk_words.specs.declared.fault.Fault.{Fault}
pub use denote.Exit.{yes}
pub use denote.Signature.{plain}
pub use denote.Triple.Walked.{Goes-dropped}
