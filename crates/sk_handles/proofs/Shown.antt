-- A text that was read is shown.
use Rattle.sk_handles.proofs.Names.{ℕ, List, Option, Some, None, Result, Ok, Err, Vec, Global, inl, inr, Stop, Told}
use Rattle.sk_handles.proofs.Names.{Reads, ShowsRead, ShowsText}

pub text_is_shown : (told : Told) (read : Result (Option (Vec ℕ Global)) Stop) (text : Option (List ℕ)) (old new : List ℕ) → Reads read text → ShowsRead told read old new → ShowsText told text old new
text_is_shown told (Ok (Some v)) text old new reads shows = rw reads (inl shows)
text_is_shown told (Ok None) text old new reads shows = rw reads (inl shows)
text_is_shown told (Err why) (Some t) old new reads shows = inr shows
text_is_shown told (Err why) None old new reads shows = inr shows
