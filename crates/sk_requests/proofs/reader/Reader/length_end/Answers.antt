use Rattle.sk_requests.proofs.Names.{◌≡◌, ℕ, List, [], ◌∷◌, ◌++◌, slice_index, sym, ◌∙◌, ap, subst, arith}
use Rattle.sk_requests.proofs.Names.{if◌then◌else◌, ◌==◌, HasFault, IsAt}
use Rattle.sk_requests.specs.declared.fault.Fault.TheVariants as faults
use Rattle.sk_requests.proofs.Steps.{length_none}
use Rattle.sk_requests.proofs.reader.Reader.length_end.Goals as goal

pub returns-in_default-clause-read : goal.returns-in_default-clause-read
returns-in_default-clause-read c = λ text more behind.
    let old = c.args.self.now in
    let at = subst (λ p. IsAt p old text) c.requires behind.1 in
    let told = λ (xs : List ℕ). if slice_index (xs ++ 10 ∷ []) 0 == 36 then faults.Length else faults.Mark (slice_index (xs ++ 10 ∷ []) 0) in
    let fault : c.length_fault.result ≡ told old.part.items = c.length_fault.ensures ∙ ap told c.deref-in_default.ensures.value in (
      subst (λ f. HasFault old.limits f (text ++ 10 ∷ more)) (sym fault)
          (length_none old.limits at.0.words c.args.left old.part.items text more at.0.array at.1.0 (λ n small is. c.number_in.ensures.none c.in_default.is n small (c.deref.ensures.value ∙ is))),
      behind,
    )

pub word_next-requires-clause-short : goal.word_next-requires-clause-short
word_next-requires-clause-short c = omega (arith, c.in-Some.ensures.some.0)

pub returns-clause-read : goal.returns-clause-read
returns-clause-read c = λ text more behind.
    c.word_next.ensures.read text (10 ∷ more) behind (omega arith)
    (ap (λ xs. xs ++ 10 ∷ []) (sym c.deref.ensures.value ∙ c.in-Some.ensures.some.1))
