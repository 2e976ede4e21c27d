-- The lines of a talk: how a reader gives them, and that one more is answered.
use Rattle.sk_run.proofs.Names.{◌≡◌, ◌⊎◌, inl, inr, ◌∙◌, ℕ, ◌+◌, ◌≤◌, true, false, eqb, List, [], ◌∷◌, ◌++◌, length}
use Rattle.sk_run.proofs.Names.{length-append, Option, Some, None, Result, Ok, Err, refl, sym, ap, subst, arith, IfSome}
use Rattle.sk_run.proofs.Names.{IsSome, ⊤, take_through, drop_through, DropsThrough, reader_buffer, reader_capacity}
use Rattle.sk_run.proofs.Names.{reader_inner, reader_remaining, Appends, Keeps, BufReader, Appends-kept, Appends-trans}
use Rattle.sk_run.proofs.Names.{ne_eqb, append-nil, append_assoc, lines, parts, next_line, FaultKind, asked_by, Asked}
use Rattle.sk_run.proofs.Names.{Play, LineTold, End, IsWritten, Talk, is_end, is_help, talked, number_behind, AnswersAs, AnswersBy, Answers, Bool}
use Rattle.sk_run.proofs.Names.{Tells, begun, EndsTalk, EndsOpened, TakesLine}
use Rattle.sk_run.proofs.InTurn.{tells_more}
use Rattle.sk_questions.specs.declared.asked.Asked.TheVariants as asks
use Rattle.sk_talk.specs.declared.line.LineTold.TheVariants as tells
use Rattle.sk_command.specs.declared.end.End.TheVariants as ends

-- ---- a line is what a reader gives up to a line feed

-- the first line of a text, where it has a line feed
record Cut (xs : List ℕ) : Type 0 where
  line : List ℕ
  front : parts 10 (take_through 10 xs) ≡ line ∷ [] ∷ []
  whole : parts 10 xs ≡ line ∷ parts 10 (drop_through 10 xs)

abbrev Uncut : List ℕ → Type 0
Uncut xs = (take_through 10 xs ≡ xs) × (drop_through 10 xs ≡ []) × (parts 10 xs ≡ xs ∷ [])

longer : (x : ℕ) (xs : List ℕ) → eqb x 10 ≡ false → Cut xs ⊎ Uncut xs → Cut (x ∷ xs) ⊎ Uncut (x ∷ xs)
longer x xs e (inl c) = inl (record { line = x ∷ c.line; front = rw (e, e, c.front) refl; whole = rw (e, c.whole) refl })
longer x xs e (inr h) = inr (rw e (ap (λ t. x ∷ t) h.0), rw e h.1, rw (e, h.2) refl)

cut : (xs : List ℕ) → Cut xs ⊎ Uncut xs
cut [] = inr (refl, refl, refl)
cut (x ∷ xs) = elim (eqb x 10) as (λ b. eqb x 10 ≡ b → Cut (x ∷ xs) ⊎ Uncut (x ∷ xs)) [
  | true ↦ λ e. inl (record { line = []; front = rw (e, e) refl; whole = rw e refl })
  | false ↦ λ e. longer x xs e (cut xs)
] refl

taken_whole : (xs : List ℕ) → parts 10 xs ≡ xs ∷ [] → TakesLine (Some xs) (Some []) (lines xs)
taken_whole [] h = refl
taken_whole (y ∷ ys) h =
    let is : lines (y ∷ ys) ≡ (y ∷ ys) ∷ [] = rw (h, ne_eqb (length (y ∷ ys)) 0 (λ e. omega (arith, e))) refl in
    subst (λ ls. TakesLine (Some (y ∷ ys)) (Some []) ls) (sym is) is

taken_from : (xs : List ℕ) → Cut xs ⊎ Uncut xs → TakesLine (Some xs) (Some (drop_through 10 xs)) (lines (take_through 10 xs))
taken_from xs (inl c) = subst (λ ls. TakesLine (Some xs) (Some (drop_through 10 xs)) ls) (sym (next_line (take_through 10 xs) c.line [] c.front)) (next_line xs c.line (drop_through 10 xs) c.whole)
taken_from xs (inr h) =
    subst (λ t. TakesLine (Some xs) (Some (drop_through 10 xs)) (lines t)) (sym h.0) (subst (λ d. TakesLine (Some xs) (Some d) (lines xs)) (sym h.1) (taken_whole xs h.2))

pub taken : (old new : Option (List ℕ)) (line : List ℕ) → IfSome old (λ xs. line ≡ take_through 10 xs) → DropsThrough old new 10 → TakesLine old new (lines line)
taken None new line e d = tt
taken (Some xs) new line e d = rw (e, d) (taken_from xs (cut xs))

-- ---- one more line

next_number : (told : LineTold) (n : ℕ) → number_behind told n ≤ n + 1
next_number (tells.Answered a) n = omega arith
next_number s n = omega arith

answered_number : (asked : Result (Option Asked) FaultKind) (n : ℕ) (l : List ℕ) (old new : Talk) (text : List ℕ) → AnswersAs asked n l old new text → new.number ≤ old.number + 1
answered_number (Ok (Some (asks.Question question))) n l old new text h = rw h.0 (omega arith)
answered_number (Ok (Some (asks.Released t))) n l old new text h = rw h.1 (omega arith)
answered_number (Ok (Some asks.Epoch)) n l old new text h =
    let same : new.number ≡ old.number = ap (λ (t : Talk). t.number) h.3 in
    omega (arith, same)
answered_number (Ok (Some (asks.Lease pid count))) n l old new text h =
    let same : new.number ≡ old.number = ap (λ (t : Talk). t.number) h.3 in
    omega (arith, same)
answered_number (Ok None) n l old new text h = rw h.3 (next_number h.0 old.number)
answered_number (Err kind) n l old new text h = rw h.0 (omega arith)

helped_number : (helps : Bool) (n : ℕ) (l : List ℕ) (old new : Talk) (text : List ℕ) → AnswersBy helps n l old new text → new.number ≤ old.number + 1
helped_number true n l old new text h = rw h.0 (omega arith)
helped_number false n l old new text h = answered_number (asked_by l) n l old new text h

-- of the lines of a talk these are the first, and the others are those of what is left
abbrev pub Leaves : Option (List ℕ) → List (List ℕ) → Option (List ℕ) → Type 0
Leaves None ls new = ⊤
Leaves (Some xs) ls None = ⊥
Leaves (Some xs) ls (Some ys) = talked (lines xs) ≡ ls ++ talked (lines ys)

leaves_none : (a : Option (List ℕ)) → Leaves a [] a
leaves_none None = tt
leaves_none (Some xs) = refl

leaves_more : (a b c : Option (List ℕ)) (ls tail : List (List ℕ)) (l : List ℕ) → Leaves a ls b → TakesLine b c (l ∷ tail) → is_end l ≡ false → Leaves a (ls ++ l ∷ []) c
leaves_more None b c ls tail l h t e = tt
leaves_more (Some xs) None c ls tail l h t e = absurd h
leaves_more (Some xs) (Some ys) None ls tail l h t e = absurd t
leaves_more (Some xs) (Some ys) (Some zs) ls tail l h t e = h ∙ ap (λ m. ls ++ talked m) t ∙ rw e refl ∙ sym (append_assoc ls (l ∷ []) (talked (lines zs)))

leaves_end : (a b c : Option (List ℕ)) (ls tail : List (List ℕ)) (l : List ℕ) → Leaves a ls b → TakesLine b c (l ∷ tail) → is_end l ≡ true → IfSome a (λ bytes. ls ≡ talked (lines bytes))
leaves_end None b c ls tail l h t e = tt
leaves_end (Some xs) None c ls tail l h t e = absurd h
leaves_end (Some xs) (Some ys) None ls tail l h t e = absurd t
leaves_end (Some xs) (Some ys) (Some zs) ls tail l h t e = sym (h ∙ ap (λ m. ls ++ talked m) t ∙ rw e (append-nil ls))

leaves_all : (a b c : Option (List ℕ)) (ls : List (List ℕ)) → Leaves a ls b → TakesLine b c [] → IfSome a (λ bytes. ls ≡ talked (lines bytes))
leaves_all None b c ls h t = tt
leaves_all (Some xs) None c ls h t = absurd h
leaves_all (Some xs) (Some ys) None ls h t = absurd t
leaves_all (Some xs) (Some ys) (Some zs) ls h t = sym (h ∙ ap (λ m. ls ++ talked m) t ∙ append-nil ls)

leaves_some : (a b : Option (List ℕ)) (ls : List (List ℕ)) → Leaves a ls b → IfSome a (λ bytes. (rest : List (List ℕ)) × (talked (lines bytes) ≡ ls ++ rest))
leaves_some None b ls h = tt
leaves_some (Some xs) None ls h = absurd h
leaves_some (Some xs) (Some ys) ls h = (talked (lines ys), h)

-- ---- how far a talk has come

pub record Going (play : Play) (input : Option (List ℕ)) (n : ℕ) (talk : Talk) (left old new : Option (List ℕ)) : Type 0 where
  pub ls : List (List ℕ)
  pub text : List ℕ
  pub count : n ≡ 1 + length ls
  pub number : talk.number ≤ n
  pub talks : Tells Answers 1 ls (begun play) talk text
  pub written : Appends old new text
  pub leaves : Leaves input ls left

unwritten : (old : Option (List ℕ)) → Appends old old []
unwritten None = tt
unwritten (Some xs) = sym (append-nil xs)

pub begins : (play : Play) (input old : Option (List ℕ)) → Going play input 1 (begun play) input old old
begins play input old = record { ls = []; text = []; count = refl; number = omega arith; talks = (refl, refl); written = unwritten old; leaves = leaves_none input }

pub goes_on : (play : Play) (input : Option (List ℕ)) (n : ℕ) (talk next : Talk) (left then old mid new : Option (List ℕ)) (l answer : List ℕ) (tail : List (List ℕ))
    → Going play input n talk left old mid → TakesLine left then (l ∷ tail) → is_end l ≡ false → Answers n l talk next answer → Appends mid new answer
    → Going play input (n + 1) next then old new
goes_on play input n talk next left then old mid new l answer tail g t e h w = record {
  ls = g.ls ++ l ∷ [];
  text = g.text ++ answer;
  count = omega (arith, g.count, length-append g.ls (l ∷ []));
  number = omega (arith, g.number, helped_number (is_help l) n l talk next answer h);
  talks = tells_more Answers 1 g.ls l (begun play) talk next g.text answer g.talks (subst (λ m. Answers m l talk next answer) g.count h);
  written = Appends-trans _ _ _ _ _ g.written w;
  leaves = leaves_more input left then g.ls tail l g.leaves t e;
}

-- ---- how it ends

pub ends_by_line : (play : Play) (input : Option (List ℕ)) (n : ℕ) (talk : Talk) (left then old mid new : Option (List ℕ)) (l : List ℕ) (tail : List (List ℕ)) (end : End) (buffer : List ℕ)
    → Going play input n talk left old mid → TakesLine left then (l ∷ tail) → is_end l ≡ true → IsWritten end buffer → Keeps mid new → EndsTalk play input end old new
ends_by_line play input n talk left then old mid new l tail ends.Done buffer g t e w k = (g.ls, leaves_end input left then g.ls tail l g.leaves t e, (talk, (g.text, g.talks, Appends-kept old mid new g.text g.written k)))
ends_by_line play input n talk left then old mid new l tail ends.Trouble buffer g t e w k = absurd w
ends_by_line play input n talk left then old mid new l tail ends.OutputRefused buffer g t e w k = tt
ends_by_line play input n talk left then old mid new l tail s buffer g t e w k = w

pub ends_behind : (play : Play) (input : Option (List ℕ)) (n : ℕ) (talk : Talk) (left then old mid new : Option (List ℕ)) (end : End) (buffer : List ℕ)
    → Going play input n talk left old mid → TakesLine left then [] → IsWritten end buffer → Keeps mid new → EndsTalk play input end old new
ends_behind play input n talk left then old mid new ends.Done buffer g t w k = (g.ls, leaves_all input left then g.ls g.leaves t, (talk, (g.text, g.talks, Appends-kept old mid new g.text g.written k)))
ends_behind play input n talk left then old mid new ends.Trouble buffer g t w k = absurd w
ends_behind play input n talk left then old mid new ends.OutputRefused buffer g t w k = tt
ends_behind play input n talk left then old mid new s buffer g t w k = w

pub ends_in_trouble : (play : Play) (input : Option (List ℕ)) (n : ℕ) (talk : Talk) (left old new : Option (List ℕ)) → Going play input n talk left old new → EndsTalk play input ends.Trouble old new
ends_in_trouble play input n talk left old new g = (g.ls, leaves_some input left g.ls g.leaves, (talk, (g.text, g.talks, g.written)))

pub not_begun : (play : Play) (input old : Option (List ℕ)) → EndsTalk play input ends.Trouble old old
not_begun play input old = ends_in_trouble play input 1 (begun play) input old old (begins play input old)

-- a new buffer before a reader has what the reader has
pub fresh : {T A : Type 0} (remaining : T → Option (List ℕ)) (buffered : BufReader T A) (reader : T) (input : Option (List ℕ)) → reader_inner buffered ≡ reader → reader_buffer buffered ≡ []
    → reader_capacity buffered ≡ 8192 → IfSome input (λ bytes. remaining reader ≡ Some bytes) → IfSome input (λ bytes. reader_remaining remaining buffered ≡ Some bytes)
fresh remaining buffered reader None inner empty capacity e = tt
fresh remaining buffered reader (Some bytes) inner empty capacity e = rw (capacity, empty, inner, e) refl

-- what is known of the standard input is what is known of its reader
pub of_reader : (play : Play) (input left : Option (List ℕ)) (end : End) (old new : Option (List ℕ)) → IfSome input (λ bytes. left ≡ Some bytes) → EndsTalk play left end old new → EndsTalk play input end old new
of_reader play None left ends.Done old new e h = (h.0, tt, h.2)
of_reader play None left ends.Fault old new e h = h
of_reader play None left ends.Usage old new e h = h
of_reader play None left ends.Trouble old new e h = (h.0, tt, h.2)
of_reader play None left ends.OutputRefused old new e h = tt
of_reader play None left ends.Refused old new e h = h
of_reader play (Some bytes) left end old new e h = subst (λ known. EndsTalk play known end old new) e h

-- what is declared opens something, and memory runs out
pub not_opened : (o : Option Play) (input old : Option (List ℕ)) → IsSome o → EndsOpened o input ends.Trouble old old
not_opened None input old h = absurd cc
not_opened (Some play) input old h = not_begun play input old
