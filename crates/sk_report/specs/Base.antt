-- The names of other crates, and of the types of this one, that definitions and clauses cite. Declares nothing.
pub use Rattle.sk_ids.specs.Entity.{entity_cmp, object_cmp}
pub use Rattle.sk_ids.specs.declared.entity.Entity.{Entity}
pub use Rattle.sk_ids.specs.declared.entity.Entity.TheVariants.{Copy, Link, Obj, Proc}
pub use Rattle.sk_ids.specs.declared.pid.ObjId.{ObjId}
pub use Rattle.sk_kernel.specs.Footprint.{appended, footprint_of}
pub use Rattle.sk_kernel.specs.Kernel.{KernelView, effect_at, state_at, tags_at, texts_at, undecided_at}
pub use Rattle.sk_kernel.specs.declared.footprint.Footprint.{Footprint}
pub use Rattle.sk_objects.specs.Content.{ContentView}
pub use Rattle.sk_objects.specs.declared.value.Value.{Value}
pub use Rattle.sk_plain.specs.Plain.{PlainView, texts_said}
pub use Rattle.sk_plain.specs.declared.refusal.Refusal.{Refusal}
pub use Rattle.sk_plain.specs.declared.view.View.{View}
pub use Rattle.sk_record.specs.Machine.{released}
pub use Rattle.sk_report.specs.declared.line.TheConstants.{HELD, LITERAL, MADE, REGISTERS, ROOM, VALUE}
pub use Rattle.sk_report.specs.declared.placed.TheConstants.{DIGITS, LEVELS, OBJECT}
pub use Rattle.sk_report.specs.declared.subject.TheConstants.{TEXT_ROOM}
pub use Rattle.sk_report.specs.declared.tags.TheConstants.{TAG}
pub use Rattle.sk_script.specs.Registers.{held, val_word}
pub use Rattle.sk_script.specs.declared.process.Process.{Process}
pub use Rattle.sk_script.specs.declared.register.Val.{Val}
pub use Rattle.sk_store.specs.Present.{IsPresent, entities_of}
pub use Rattle.sk_store.specs.declared.entity_state.EntityState.{EntityState}
pub use Rattle.sk_store.specs.declared.present.Present.{Present}
pub use Rattle.sk_terminal.specs.Terminal.{TaggedText, waiting_of}
pub use Rattle.sk_trace.specs.declared.event.Event.{Event}
pub use Rattle.sk_words.specs.Spelling.{object_word, pid_word, spelled, spelled_byte, two_levels}
pub use Rattle.std.specs.BTreeSet.{insert_key}
pub use Rattle.std.specs.Fmt.{signed_decimal}
pub use Rattle.std.specs.Io.KnownBytes.{Appends}
pub use Rattle.std.specs.List.{All, filter}
pub use Rattle.std.specs.List.Sorted.{IsStrictlySortedBy}
pub use Rattle.std.specs.Ordering.{eq_by_cmp, is_lt, nat_cmp}
