-- What may not write leaves what was there.
use Rattle.sk_served.proofs.Names.{◌≡◌, Bool, true, false, List, [], ◌∷◌, if◌then◌else◌, refl, ap, ◌∙◌, Work}
use Rattle.sk_served.proofs.Names.{may_write_some, nothing_done, held, keys_of, written_to, Entries, Entry, Opens, Runs}
use Rattle.sk_served.proofs.Names.{after_work, after_works, entries_after, writing}

unchanged : (work : Work) (entries : Entries) → may_write_some work ≡ false → after_work work entries ≡ entries
unchanged work entries is = ap (λ ws. written_to ws entries) (nothing_done work (keys_of entries) (held entries) is)

-- by whether the work may write
one : (work : Work) (works : List Work) (entries : Entries) (b : Bool) → may_write_some work ≡ b
    → after_works works (after_work work entries) ≡ after_works (if b then work ∷ works else works) entries
one work works entries true is = refl
one work works entries false is = ap (after_works works) (unchanged work entries is)

pub writing_is_all : (ns : List Entry) (entries : Entries) → entries_after ns entries ≡ after_works (writing ns) entries
writing_is_all [] entries = refl
writing_is_all (Opens n ∷ ns) entries = writing_is_all ns entries
writing_is_all (Runs a ∷ ns) entries =
    writing_is_all ns (after_work a.work entries) ∙ one a.work (writing ns) entries (may_write_some a.work) refl
