-- What a reader knows after a call.
use Rattle.sk_log.proofs.Names.{append_assoc, ◌≡◌, ℕ, suc, ◌+◌, ◌≤◌, List, [], ◌∷◌, ◌++◌, length, take, drop, sum, refl, sym}
use Rattle.sk_log.proofs.Names.{◌∙◌, ap, subst, arith, length-append, length-drop, add-zero, append-nil, drop_at}
use Rattle.sk_log.proofs.Names.{length-take-le, head, frame, IsFrame, Ends, BeginsFrame, IsShort, FrontIs, log}
use Rattle.sk_log.proofs.Names.{AreFrames, UsesFront, Reading, KeptBegin, Settles, Remains, HasRead, IsNext, RestIs}
use Rattle.sk_log.proofs.Names.{EndsAt, Front, Whole, Short, Other, Rest}
use Rattle.sk_log.proofs.Digits.{length-head}
use Rattle.sk_log.proofs.Fade.{same_parts, same_heads}
use Rattle.sk_log.proofs.Read.{length-frame, frame_length}
use Rattle.sk_log.proofs.Blanked.{log_append}

-- Bytes begin with one frame of a number at most.
pub same_frame : (segment number : ℕ) (p q more more' : List ℕ) → IsFrame segment number p → IsFrame segment number q
    → frame segment number p ++ more ≡ frame segment number q ++ more' → (p ≡ q) × (more ≡ more')
same_frame segment number p q more more' made made' same =
    let split = sym (append_assoc (head segment number p) p more) ∙ same ∙ append_assoc (head segment number q) q more' in
    let parts = same_parts 24 (head segment number p) (head segment number q) (p ++ more) (q ++ more') (length-head segment number p) (length-head segment number q) split in
    let heads = same_heads segment number (length p) (sum p) segment number (length q) (sum q) made.short made'.short made.light made'.light parts.0 in
    same_parts (length q) p q more more' heads.2 refl parts.1

pub short_ends : (segment number n : ℕ) (bytes : List ℕ) → IsShort segment number bytes n → Ends segment number bytes
short_ends segment number n bytes short p more made is =
    omega (arith, short.lacking, short.wanted p [] more made (append-nil bytes ∙ is), frame_length segment number bytes p more is)

pub none_ends : (segment number : ℕ) (bytes : List ℕ) → bytes ≡ [] → Ends segment number bytes
none_ends segment number bytes none p more made is = omega (arith, ap length none, frame_length segment number bytes p more is)

pub kept_of : (segment number : ℕ) (old new : List ℕ) (front : Front) (used : ℕ) → Settles segment number old new front used → KeptBegin segment number new front
kept_of segment number old new (Whole n) used settles = settles.0
kept_of segment number old new (Short n) used settles = settles.0
kept_of segment number old new Other used settles = settles.2

-- Not more is kept than there was.
pub kept_few : (segment number : ℕ) (old new : List ℕ) (front : Front) (used : ℕ) → Settles segment number old new front used → length new ≤ length old
kept_few segment number old new (Whole n) used settles = omega (arith, ap length settles.1)
kept_few segment number old new (Short n) used settles = omega (arith, ap length settles.1)
kept_few segment number old new Other used settles = omega (arith, ap length settles.2)

remains_of : (reading : Reading) (old : List ℕ) (front : Front) → Settles reading.segment reading.number old reading.unread front reading.used → Remains reading old front
remains_of reading old (Whole n) settles = settles.1
remains_of reading old (Short n) settles = settles.1
remains_of reading old Other settles = (settles.0, settles.1)

abbrev settled_reading : Reading → ℕ → ℕ → ℕ → List ℕ → Front → ℕ → Reading
settled_reading old number place fed unread front used = record { segment = old.segment; number = number; place = place; fed = fed; used = used; unread = unread; front = front }

-- The kept bytes are all that stands behind the frames, where one may come still.
unread_is : (reading : Reading) (rest : List ℕ) (n : ℕ) (front : Front) → Remains reading rest front → (front ≡ Whole n) → reading.unread ≡ rest
unread_is reading rest n front remains is = subst (Remains reading rest) is remains

more_frames : (segment first : ℕ) (ps : List (List ℕ)) (p : List ℕ) → AreFrames segment first ps → IsFrame segment (first + length ps) p → AreFrames segment first (ps ++ p ∷ [])
more_frames segment first [] p fine made = (subst (λ n. IsFrame segment n p) (add-zero first) made, tt)
more_frames segment first (q ∷ ps) p fine made =
    let next : first + length (q ∷ ps) ≡ suc first + length ps = omega arith in
    (fine.0, more_frames segment (suc first) ps p fine.1 (subst (λ n. IsFrame segment n p) next made))

pub log_push : (segment first : ℕ) (ps : List (List ℕ)) (p : List ℕ) → log segment first (ps ++ p ∷ []) ≡ log segment first ps ++ frame segment (first + length ps) p
log_push segment first ps p = log_append segment first ps (p ∷ []) ∙ ap (λ xs. log segment first ps ++ xs) (append-nil (frame segment (first + length ps) p))

-- One frame more was read.
pub passed : (segment first : ℕ) (payloads : List (List ℕ)) (bytes payload : List ℕ) (old : Reading) (n : ℕ) (unread : List ℕ) (front : Front) (used : ℕ)
    → HasRead segment first payloads bytes old → IsNext old payload → old.front ≡ Whole n → BeginsFrame old.segment old.number old.unread n
    → Settles old.segment (old.number + 1) (drop (24 + n) old.unread) unread front used
    → HasRead segment first (payloads ++ payload ∷ []) bytes (settled_reading old (old.number + 1) (old.place + (24 + n)) old.fed unread front used)
passed segment first payloads bytes payload old n unread front used read next whole begins settles =
    let body = take n (drop 24 old.unread) in
    let both = same_frame old.segment old.number payload body next.more (drop (24 + n) old.unread) next.made begins.small (sym next.begins ∙ begins.begins) in
    let long : length body ≡ n = length-take-le n (drop 24 old.unread) (omega (arith, begins.within, length-drop 24 old.unread)) in
    let rest_is : read.rest ≡ frame segment (first + length payloads) payload ++ drop (24 + n) old.unread =
    sym (unread_is old read.rest n old.front read.remains whole) ∙ next.begins ∙ (λ i. frame (read.same i) (read.number i) payload ++ both.1 i) in
    let pushed = log_push segment first payloads payload in
    let added = length-append (log segment first payloads) (frame segment (first + length payloads) payload) in
    record {
      same = read.same;
      frames = more_frames segment first payloads payload read.frames (subst (λ s. IsFrame s (first + length payloads) payload) read.same (subst (λ k. IsFrame old.segment k payload) read.number next.made));
      number = omega (arith, read.number, length-append payloads (payload ∷ []));
      place = omega (arith, read.place, ap length pushed, added, length-frame segment (first + length payloads) payload, ap length both.0, long);
      fed = read.fed;
      rest = drop (24 + n) old.unread;
      begins = read.begins ∙ ap (λ xs. log segment first payloads ++ xs) rest_is ∙ sym (append_assoc (log segment first payloads) (frame segment (first + length payloads) payload) (drop (24 + n) old.unread))
          ∙ ap (λ xs. xs ++ drop (24 + n) old.unread) (sym pushed);
      remains = remains_of (settled_reading old (old.number + 1) (old.place + (24 + n)) old.fed unread front used) (drop (24 + n) old.unread) front settles;
    }

-- The kept bytes are all that stands behind the frames, where a frame may come still.
pub kept_rest : (reading : Reading) (rest : List ℕ) (front : Front) → (front ≡ Other → ⊥) → Remains reading rest front → reading.unread ≡ rest
kept_rest reading rest (Whole n) some remains = remains
kept_rest reading rest (Short n) some remains = remains
kept_rest reading rest Other some remains = absurd (some refl)

-- A piece came behind bytes that are kept.
pub fed_kept : (segment first : ℕ) (payloads : List (List ℕ)) (bytes piece : List ℕ) (old : Reading) (unread : List ℕ) (front : Front) (used : ℕ)
    → HasRead segment first payloads bytes old → (old.front ≡ Other → ⊥)
    → Settles old.segment old.number (old.unread ++ piece) unread front used
    → HasRead segment first payloads (bytes ++ piece) (settled_reading old old.number old.place (old.fed + length piece) unread front used)
fed_kept segment first payloads bytes piece old unread front used read kept settles =
    let is = kept_rest old read.rest old.front kept read.remains in
    record {
      same = read.same;
      frames = read.frames;
      number = read.number;
      place = read.place;
      fed = omega (arith, read.fed, length-append bytes piece);
      rest = old.unread ++ piece;
      begins = ap (λ xs. xs ++ piece) read.begins ∙ append_assoc (log segment first payloads) read.rest piece ∙ ap (λ xs. log segment first payloads ++ (xs ++ piece)) (sym is);
      remains = remains_of (settled_reading old old.number old.place (old.fed + length piece) unread front used) (old.unread ++ piece) front settles;
    }

-- No frame follows, and what remains is counted so.
pub end_of : (segment first : ℕ) (payloads : List (List ℕ)) (bytes : List ℕ) (in_flight : ℕ) (old : Reading) (used : ℕ) (rest : Rest)
    → HasRead segment first payloads bytes old → Ends old.segment old.number old.unread
    → ((xs : List ℕ) → Remains old xs old.front → UsesFront used xs) → ((xs : List ℕ) → UsesFront used xs → RestIs in_flight xs rest)
    → EndsAt segment first payloads bytes in_flight (record { number = old.number; place = old.place; rest = rest })
end_of segment first payloads bytes in_flight old used rest read ends counts told =
    let no_more : Ends old.segment old.number read.rest =
    elim old.front as (λ f. Remains old read.rest f → Ends old.segment old.number read.rest) [
      | Whole n ↦ λ is. subst (Ends old.segment old.number) is ends
      | Short n ↦ λ is. subst (Ends old.segment old.number) is ends
      | Other ↦ λ is. subst (Ends old.segment old.number) (append-nil read.rest) (is.0 [])
    ] read.remains in
    let behind : drop old.place bytes ≡ read.rest = ap (drop old.place) read.begins ∙ drop_at (log segment first payloads) read.rest old.place (sym read.place) in
    record {
      log_is = record {
        frames = read.frames;
        rest = read.rest;
        begins = read.begins;
        ends = subst (λ s. Ends s (first + length payloads) read.rest) read.same (subst (λ k. Ends old.segment k read.rest) read.number no_more);
      };
      number = read.number;
      place = read.place;
      rest = subst (λ xs. RestIs in_flight xs rest) (sym behind) (told read.rest (counts read.rest read.remains));
    }

pub kept_ends : (segment number : ℕ) (unread : List ℕ) (front : Front) → ((n : ℕ) → front ≡ Whole n → ⊥) → KeptBegin segment number unread front → Ends segment number unread
kept_ends segment number unread (Whole n) none kept = absurd (none n refl)
kept_ends segment number unread (Short n) none kept = short_ends segment number n unread kept
kept_ends segment number unread Other none kept = none_ends segment number unread kept

pub next_of : (reading : Reading) (n : ℕ) → BeginsFrame reading.segment reading.number reading.unread n → IsNext reading (take n (drop 24 reading.unread))
next_of reading n begins = record { made = begins.small; more = drop (24 + n) reading.unread; begins = begins.begins }

abbrev first_reading : ℕ → ℕ → List ℕ → Front → Reading
first_reading segment number unread front = record { segment = segment; number = number; place = 0; fed = 0; used = 0; unread = unread; front = front }

remains_none : (segment number : ℕ) (unread : List ℕ) (front : Front) (f : Front) → unread ≡ [] → FrontIs segment number [] f → Remains (first_reading segment number unread front) [] f
remains_none segment number unread front (Whole n) none is = none
remains_none segment number unread front (Short n) none is = none
remains_none segment number unread front Other none is = (is, record { within = omega arith; last = λ i wrong. absurd (omega (arith, wrong)); zeros = λ i past. refl })

-- Nothing came and nothing was read.
pub begun : (segment number : ℕ) (unread : List ℕ) (front : Front) → unread ≡ [] → FrontIs segment number [] front → HasRead segment number [] [] (first_reading segment number unread front)
begun segment number unread front none is = record {
  same = refl;
  frames = tt;
  number = sym (add-zero number);
  place = refl;
  fed = refl;
  rest = [];
  begins = refl;
  remains = remains_none segment number unread front front none is;
}
