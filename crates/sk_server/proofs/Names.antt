-- What the proofs of this crate cite from outside of them, passed on from one place. Declares nothing.
pub use Rattle.std.proofs.Common.{ap, ◌&&◌, Err, is_some, if◌then◌else◌, ◌++◌, ◌≡◌, rules, false, Option, arith, Bool}
pub use Rattle.std.proofs.Common.{refl, ◌||◌, nat_le, ℕ, List, [], subst, tests, true, ◌∙◌, Ok, ◌∷◌, sym, cond}
pub use Rattle.std.proofs.lemmas.Fn.{filter_same}
pub use Rattle.std.proofs.lemmas.Iterator.{YieldsList-from_slice}
pub use Rattle.std.proofs.lemmas.Iterator.Search.{any_from_yields_List}
pub use Rattle.std.proofs.lemmas.List.{append-nil}
pub use Rattle.std.specs.List.{filter, list_any}
pub use Rattle.sk_record.specs.Notes.{has}
pub use Rattle.sk_record.specs.Trace.{marks}
pub use Rattle.sk_server.specs.Lent.{request_in}
pub use Rattle.sk_server.specs.Server.{is_new_file, answer_to, refused_by, adds, is_dropped, ServerView}
pub use Rattle.sk_server.specs.Server.{remembered, judged}
pub use Rattle.sk_server.specs.Verdict.{Decides, said}
pub use Rattle.sk_server.specs.declared.reply.Answer.{Answer}
pub use Rattle.sk_server.specs.declared.reply.Answer.TheVariants.{Yes, No, Dropped, Copy}
pub use Rattle.sk_server.specs.declared.request.Request.{Request}
