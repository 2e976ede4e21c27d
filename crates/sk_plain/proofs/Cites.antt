-- What the proofs of this crate cite from outside of them, passed on from one place. Declares nothing.
pub use Rattle.std.proofs.Common.{Some, add-one, Bool, subst, inr, zero, rules, ◌^◌, arith, ap, ◌++◌, length, suc, ◌≤◌}
pub use Rattle.std.proofs.Common.{take, false, refl, [], map, Ok, ◌∷◌, Err, ◌&&◌, inl, ◌≡◌, ◌+◌, Option, List, get_or}
pub use Rattle.std.proofs.Common.{IsOk, ◌||◌, ℕ, true, drop, sym, None, ◌<◌, Result, ◌∙◌, not, cond, ◌*◌, ◌/◌, ◌%◌}
pub use Rattle.std.proofs.Common.{IsSome}
pub use Rattle.std.proofs.Math.Seq.{drop-cons}
pub use Rattle.std.proofs.lemmas.Bool.{or_right, or_from, or_parts, eqb-true, ltb-true, true_from_ne_false, ltb-false}
pub use Rattle.std.proofs.lemmas.Bool.{true≢false, or_cases, false_from_ne_true, or_left, false≢true, eq-eqb, leb-true}
pub use Rattle.std.proofs.lemmas.Bool.{cases_eq}
pub use Rattle.std.proofs.lemmas.Bool.Decides.{Decides-at}
pub use Rattle.std.proofs.lemmas.Fn.{filter_same}
pub use Rattle.std.proofs.lemmas.List.{take_all, append_assoc, append-nil}
pub use Rattle.std.proofs.lemmas.List.Elements.{Contains-push, All-head, All-tail, Contains-push_cases}
pub use Rattle.std.proofs.lemmas.List.Elements.{Contains-append_cases, Contains-append_left, Contains-append_right}
pub use Rattle.std.proofs.lemmas.List.Folds.{list_any-append}
pub use Rattle.std.proofs.lemmas.Nat.{div-mul-add, mod-mul-add}
pub use Rattle.std.proofs.lemmas.Result.{err_from_is_err_and}
pub use Rattle.std.specs.Cmp.{eq_by_cmp_equiv, Equal-is}
pub use Rattle.std.specs.FinMap.{get, empty, get-empty}
pub use Rattle.std.specs.List.{filter, prefix_len, list_any, Contains, AllByRecursion}
pub use Rattle.std.specs.Option.{option_copied, option_or}
pub use Rattle.std.specs.Ordering.{eq_by_cmp, nat_cmp}
pub use Rattle.std.specs.Prelude.{IsErr, unwrap_or, IfErr, slice_get, OnOk, ◌==◌, IfOk, is_some, if◌then◌else◌}
pub use Rattle.std.specs.Prelude.{option_and_then, nat_lt, ◌⊎◌, nat_le, All}
pub use Rattle.std.specs.Result.{is_err}
pub use Rattle.sk_ids.specs.EntityLemma.{entity_exact, entity_total}
pub use Rattle.sk_ids.specs.Entity.{entity_cmp}
pub use Rattle.sk_ids.specs.Pid.{boot_pid}
pub use Rattle.sk_ids.specs.declared.entity.Entity.{Entity}
pub use Rattle.sk_ids.specs.declared.entity.Entity.TheVariants.{Link, Proc, Copy, Sig, Obj, Exit}
pub use Rattle.sk_ids.specs.declared.pid.ObjId.{ObjId}
pub use Rattle.sk_ids.specs.declared.text.TheConstants.{TEXT_LIMIT}
pub use Rattle.sk_objects.specs.Content.{ContentView}
pub use Rattle.sk_objects.specs.Pipe.{PipeView}
pub use Rattle.sk_objects.specs.declared.content.TheConstants.{LAST_VERSION}
pub use Rattle.sk_objects.specs.declared.pipe.TheConstants.{PIPE_LIMIT}
pub use Rattle.sk_objects.specs.declared.signals.TheConstants.{LAST_SIGNAL}
pub use Rattle.sk_objects.specs.declared.value.Kind.{Kind}
pub use Rattle.sk_objects.specs.declared.value.Value.{Value}
pub use Rattle.sk_plain.specs.Act.{does, Scripts, instruction_of, act, with_input, private_or, with_signals, next_in}
pub use Rattle.sk_plain.specs.Act.{Saying, handled, StepTree, plain, row, goes_on}
pub use Rattle.sk_plain.specs.Adds.{adds_of, adds_in, adds_beside}
pub use Rattle.sk_plain.specs.Files.{after_read, file_in, on_file, made}
pub use Rattle.sk_plain.specs.Names.{no_directory, unless_error, on_directory, target_at, named, link_to, linking}
pub use Rattle.sk_plain.specs.Names.{unlink_from}
pub use Rattle.sk_plain.specs.Next.{is_due, is_private, waits, next_instruction, next_going, next_at, next_of}
pub use Rattle.sk_plain.specs.Pipes.{on_pipe, put_in}
pub use Rattle.sk_plain.specs.Plain.{with_said, all_said, AllClear}
pub use Rattle.sk_plain.specs.Plan.{PlanView, Nowhere, Birth, LooksView, BesideView, Says}
pub use Rattle.sk_plain.specs.Planned.{said_by, writes_of, wrote_all, read_by, IsReply, CanDo, said_in, signals_read}
pub use Rattle.sk_plain.specs.Planned.{child_of, effect_of, gone_in, IsNoProcess, written_beside, IsBeside, written_by}
pub use Rattle.sk_plain.specs.Planned.{planned, or_refused}
pub use Rattle.sk_plain.specs.Processes.{ended_with, KILLED, KILL, LEVEL_FOUR, LAST_CHILD, next_child, forked_by, born}
pub use Rattle.sk_plain.specs.Processes.{fork, signalled, kill, waited, wait, returned}
pub use Rattle.sk_plain.specs.Remaining.{AreAlike, EndsBy, remaining, depends, refusal_in, BeginsWell}
pub use Rattle.sk_plain.specs.Replay.{HasTaken, StopsIn, IsFirstFault, IsGreatest, StepFault, IsRefused}
pub use Rattle.sk_plain.specs.Replay.{is_above, DecisionFault, IsTaken, FaultIn, IsUnknown, Goes, HasDecided}
pub use Rattle.sk_plain.specs.Replay.{IsReplay}
pub use Rattle.sk_plain.specs.Replies.{good, over_copy, fresh, stale, from_copy}
pub use Rattle.sk_plain.specs.Rows.{filled, alone, object_in, number_in, number_to, who_in, failed, with_write}
pub use Rattle.sk_plain.specs.Rows.{with_removal, on_object, on_number}
pub use Rattle.sk_plain.specs.Same.{same_plain, exact_plain}
pub use Rattle.sk_plain.specs.Seen.{text_at, beside_of, seen_with, written_in, changed_by, Fits}
pub use Rattle.sk_plain.specs.Seen.{written_row, PlansStep, looks_of, CanPerform, told, PlansAfter, looked, written_of}
pub use Rattle.sk_plain.specs.Seen.{PlansRow}
pub use Rattle.sk_plain.specs.Standing.{Settles, is_made, seen, GoesOn, is_other, image, is_settled, Stands}
pub use Rattle.sk_plain.specs.TidyState.{IsTidyState, HasNumber, IsNumbered, IsPlaced, IsCopy}
pub use Rattle.sk_plain.specs.Writing.{forked, CanFork}
pub use Rattle.sk_plain.specs.declared.next.Next.{Next}
pub use Rattle.sk_plain.specs.declared.next.Next.TheVariants.{Signal, Fetch, Waits, Other}
pub use Rattle.sk_plain.specs.declared.plan.Beside.{Beside}
pub use Rattle.sk_plain.specs.declared.plan.Beside.TheVariants.{Gone, Nothing, One}
pub use Rattle.sk_plain.specs.declared.plan.Plan.{Plan}
pub use Rattle.sk_plain.specs.declared.plan.Plan.TheVariants.{Forks, Private, ReadsFile, Received, Acts, Speaks, WritesFile}
pub use Rattle.sk_plain.specs.declared.plan.ProcessChange.{ProcessChange}
pub use Rattle.sk_plain.specs.declared.plan.ProcessChange.TheVariants.{Fills}
pub use Rattle.sk_plain.specs.declared.plan.Row.{Row}
pub use Rattle.sk_plain.specs.declared.plan.Writes.{Writes}
pub use Rattle.sk_plain.specs.declared.refusal.Errno.TheVariants.{Again}
pub use Rattle.sk_plain.specs.declared.refusal.Refusal.{Refusal}
pub use Rattle.sk_plain.specs.declared.refusal.Refusal.TheVariants.{NeedsReply, Ended, Mismatch, Blocked, NoRoom}
pub use Rattle.sk_plain.specs.declared.refusal.Refusal.TheVariants.{TooMany, TraceFull, NoProcess}
pub use Rattle.sk_plain.specs.declared.replay.EventFault.{EventFault}
pub use Rattle.sk_plain.specs.declared.replay.Replay.{Replay}
pub use Rattle.sk_plain.specs.declared.replay.TraceFault.{TraceFault}
pub use Rattle.sk_plain.specs.declared.replay.TraceFault.TheVariants.{UnknownGuess, Memory, Refused, NoStart}
pub use Rattle.sk_plain.specs.declared.standing.Standing.{Standing}
pub use Rattle.sk_record.proofs.Later.{dirtied_same}
pub use Rattle.sk_record.proofs.Machine.{has_filter, run_append, trail_append, unmarked_hits}
pub use Rattle.sk_record.proofs.Sets.{get-put}
pub use Rattle.sk_record.proofs.Sound.{sound_taken, sound_first, mark_is, sound_commit, marked_is, undecided_is}
pub use Rattle.sk_record.proofs.Sound.{entries_are, drawn_more, tests, is_drawn, sound_fail}
pub use Rattle.sk_record.proofs.Tidy.{recorded_more}
pub use Rattle.sk_record.proofs.UndoStates.{and_both}
pub use Rattle.sk_record.proofs.Values.{is_in_tied}
pub use Rattle.sk_record.specs.Effects.{touches, hit, MarkedEffect, is_marked, dirt, dirtied, keep, hits, is_in}
pub use Rattle.sk_record.specs.Machine.{released}
pub use Rattle.sk_record.specs.Merged.{last_of, with_value, StepsAlone}
pub use Rattle.sk_record.specs.Notes.{has, without}
pub use Rattle.sk_record.specs.Run.{effects, marked_effect, put, after, run, outcome, IsLegal, put_all}
pub use Rattle.sk_record.specs.Step.{with_read, Effect, Done, Ask, Refuse, perform, Step}
pub use Rattle.sk_record.specs.Strike.{strike}
pub use Rattle.sk_record.specs.Trace.{Taken, Record, marks, no_record, undecided_of, IsSound, Event as Happens}
pub use Rattle.sk_record.specs.Trace.{still_marked, IsDrawn, IsAllowed, Commit, recorded, Fail, StatusIs, record_of}
pub use Rattle.sk_record.specs.declared.status.Status.TheVariants.{Undecided}
pub use Rattle.sk_script.specs.ProcessLemma.{exact_process}
pub use Rattle.sk_script.specs.Boot.{BootView}
pub use Rattle.sk_script.specs.Lease.{after_private, private_run}
pub use Rattle.sk_script.specs.Private.{private_next, is_zero, process_given, private_step, number_given, sum_in}
pub use Rattle.sk_script.specs.Private.{at_place_if, is_negative}
pub use Rattle.sk_script.specs.Process.{root, beginning}
pub use Rattle.sk_script.specs.Registers.{held}
pub use Rattle.sk_script.specs.Scripts.{script_at}
pub use Rattle.sk_script.specs.declared.boot.BootObject.{BootObject}
pub use Rattle.sk_script.specs.declared.boot.BootProcess.{BootProcess}
pub use Rattle.sk_script.specs.declared.instruction.Input.{Input}
pub use Rattle.sk_script.specs.declared.instruction.Instruction.{Instruction}
pub use Rattle.sk_script.specs.declared.process.Process.{Process}
pub use Rattle.sk_store.specs.Processes.{IsProcess, process_in, became, CanBecome}
pub use Rattle.sk_store.specs.Start.{boot_object, first_value, with_objects, with_links, with_process, with_processes}
pub use Rattle.sk_store.specs.Start.{with_copies, with_root, start_of}
pub use Rattle.sk_store.specs.State.{State}
pub use Rattle.sk_store.specs.declared.entity_state.EntityState.{EntityState}
pub use Rattle.sk_terminal.proofs.SaidTo.{texts_said}
pub use Rattle.sk_terminal.specs.Terminal.{TaggedText}
pub use Rattle.sk_terminal.specs.Terminals.{TerminalMap, texts_at}
pub use Rattle.sk_trace.specs.Entry.{EntryView}
pub use Rattle.sk_trace.specs.Kept.{input_in}
pub use Rattle.sk_trace.specs.declared.event.Event.{Event}
pub use Rattle.sk_record.proofs.Lemmas.{filter_alike, cons_cases, no_member}
