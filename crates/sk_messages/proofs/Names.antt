-- What the proofs of this crate cite from outside of them, passed on from one place. Declares nothing.
pub use Rattle.std.proofs.Common.{ap, Some, eq-eqb, length-append, None, ◌&&◌, ◌++◌, ◌≤◌, ◌≡◌, ◌^◌, le-leb, rules, take}
pub use Rattle.std.proofs.Common.{◌-◌, option_map, length, false, ◌<◌, arith, refl, nat_le, ℕ, List, le-ltb, [], ◌∙◌}
pub use Rattle.std.proofs.Common.{nat_lt, drop, le_of_eq, ◌∷◌, sym, cond}
pub use Rattle.std.proofs.lemmas.List.{length-drop, take_all}
pub use Rattle.std.proofs.lemmas.Nat.{from_le_bytes-to_le_bytes_8}
pub use Rattle.sk_ids.specs.declared.text.TheConstants.{TEXT_LIMIT}
pub use Rattle.sk_messages.specs.Numbers.{number_bytes, number_at}
pub use Rattle.sk_messages.specs.Replies.{IsReply, reply_from, answer_of, kind_of, reply_of, reply_bytes, content_in}
pub use Rattle.sk_messages.specs.Replies.{content_of}
pub use Rattle.sk_objects.specs.Content.{ContentView}
pub use Rattle.sk_objects.specs.declared.content.TheConstants.{LAST_VERSION}
pub use Rattle.sk_server.specs.declared.reply.Answer.{Answer}
pub use Rattle.sk_server.specs.declared.reply.Answer.TheVariants.{Yes, No, Copy}
pub use Rattle.sk_server.specs.declared.reply.Reply.{Reply}
