use Rattle.sk_requests.proofs.Names.{◌≡◌, ◌<◌, ◌≤◌, false, length, take, sym, ◌∙◌, subst, err_from_is_err_and, IsArray, Fits, has_some, words_of}
use Rattle.std.specs.Prelude.{IfSome}
use Rattle.sk_requests.proofs.Whole.{found_whole}
use Rattle.sk_requests.proofs.reader.Reader.read.Goals as goal

pub returns-in_err-count-clause-read : goal.returns-in_err-count-clause-read
returns-in_err-count-clause-read c =
    let p = err_from_is_err_and c.from_residual.result c.from_residual.ensures.1 in
    rw (p.1, p.2) (λ text behind. behind)

pub returns-in-Some-clause-read : goal.returns-in-Some-clause-read
returns-in-Some-clause-read c = λ text behind.
    let old = c.args.self.now in
    let bytes = c.args.bytes.now in
    let none : has_some old.place old.part.items ≡ false = sym c.has_some.ensures ∙ c.if-has_some.false in
    let said = subst (λ v. IfSome v (λ n. (0 < n.0) × (n.0 ≤ length bytes) × IsArray (words_of n.1.items) (take n.0 bytes)
    × Fits old.limits (words_of n.1.items))) c.in-Some.is c.in_ok-count.ensures in
    found_whole old text bytes c.in-Some.count (words_of c.in-Some.words.items) behind none said
