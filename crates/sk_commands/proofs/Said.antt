-- The words that say a command say it again.
use Rattle.sk_commands.proofs.Names.{◌≡◌, ℕ, ◌+◌, ◌-◌, ◌%◌, ◌==◌, Bool, true, false, not, ◌&&◌, ℤ, pos, negsuc, neg_ℤ}
use Rattle.sk_commands.proofs.Names.{List, [], ◌∷◌, ◌++◌, length, take, slice_index, Option, Some, None, Result, Ok}
use Rattle.sk_commands.proofs.Names.{if◌then◌else◌, bytes_eq, refl, sym, ap, subst, ◌∙◌, w64, arith, signed_decimal}
use Rattle.sk_commands.proofs.Names.{list_any, signed_digits_value, decimal_nonempty, parse-signed_decimal}
use Rattle.sk_commands.proofs.Names.{signed_decimal_injective, bytes_eq-Decides, length-append, get_or-append_seam}
use Rattle.sk_commands.proofs.Names.{take-append_seam, text_of, fits, said_as, IsNoNumber, add_or, front, is_of_prefix}
use Rattle.sk_commands.proofs.Names.{is_special, matching, order_for, order_named, order_of, pairs_for, plainly, runs}
use Rattle.sk_commands.proofs.Names.{set_of, subtract_of, with_options, least, words_for, Name, Fault}
use Rattle.sk_commands.proofs.Names.{NotInteger, Overflow, Pattern, When, Options, Command, Get, Set, Del, Exists, Add}
use Rattle.sk_commands.proofs.Names.{Append, StrLen, MGet, MSet, DbSize, KeysWith, FlushAll, Ping, Echo, Wrong, Order}
use Rattle.sk_commands.proofs.Names.{Run, Multi, Exec, Discard, and_parts, and_from, not-true}
use Rattle.sk_commands.specs.Names.{name_of}
use Rattle.sk_commands.specs.Numbers.{number_of}
use Rattle.sk_commands.specs.declared.name.Name.TheVariants as named
use Rattle.sk_commands.specs.declared.command.When.TheVariants as when
use Rattle.sk_commands.proofs.Numbers.{mag_fits, no_parse, number_none}

-- each name is read from its text
named_again : (n : Name) → name_of (text_of n) ≡ Some n
unfolding name_of
named_again named.Get = refl
named_again other = refl

pub says : (n : Name) (words : List (List ℕ)) → order_of (text_of n ∷ words) ≡ order_for n words
says n words = ap (λ name. order_named name words) (named_again n)

-- ---- integers

some_same : (x y : ℤ) → ◌≡◌ {A = Result ℤ (Unit {0})} (Ok x) (Ok y) → x ≡ y
some_same x y h = cc

text_again : (z : ℤ) (b : Bool) → fits z ≡ true → (fits (signed_digits_value 10 (signed_decimal z)) && bytes_eq (signed_decimal z) (signed_decimal (signed_digits_value 10 (signed_decimal z)))) ≡ b → said_as (signed_digits_value 10 (signed_decimal z)) (signed_decimal z) ≡ Some z
text_again z true f e =
    let v = signed_digits_value 10 (signed_decimal z) in
    let h = and_parts _ _ e in
    let same : z ≡ v = signed_decimal_injective z v (mag_fits z f) (mag_fits v h.0) ((bytes_eq-Decides (signed_decimal z) (signed_decimal v)).0 h.1) in
    ap (λ b. if b then Some v else None) e ∙ ap Some (sym same)
text_again z false f e =
    let v = signed_digits_value 10 (signed_decimal z) in
    absurd (no_parse {E = Unit {0}} (signed_decimal z) tt
    (λ p. let same : v ≡ z = some_same v z (parse-signed_decimal w64 z (signed_decimal z) (Ok v) (record { sfits = mag_fits z f }) (mag_fits z f) refl (p, refl)) in
    let is : (fits v && bytes_eq (signed_decimal z) (signed_decimal v)) ≡ true = and_from _ _ (ap fits same ∙ f) ((bytes_eq-Decides (signed_decimal z) (signed_decimal v)).1 (ap signed_decimal (sym same))) in
    let wrong : false ≡ true = sym e ∙ is in cc) z f refl)

-- an integer is read from its text
number_again : (z : ℤ) → fits z ≡ true → number_of (signed_decimal z) ≡ Some z
unfolding number_of
number_again z f = text_again z _ f refl

said_fits : (v z : ℤ) (a b : Bool) → fits v ≡ a → (if a && b then Some v else None) ≡ Some z → fits z ≡ true
said_fits v z true true f h = let same : v ≡ z = cc in ap fits (sym same) ∙ f
said_fits v z true false f h = cc
said_fits v z false b f h = cc

number_fits : (text : List ℕ) (z : ℤ) → number_of text ≡ Some z → fits z ≡ true
unfolding number_of
number_fits text z h = said_fits (signed_digits_value 10 text) z _ _ refl h

no_text : IsNoNumber []
no_text (pos n) f e = let size = ap length e in let some = decimal_nonempty n (let m = mag_fits (pos n) f in omega (arith, m)) in omega (arith, size, some)
no_text (negsuc n) f e = cc

no_number : number_of [] ≡ None
no_number = number_none [] no_text

-- ---- commands

-- what comes of words comes of the words that say it
abbrev pub Again : Result Order Fault → Type 0
Again (Ok (Run command)) = order_of (words_for command) ≡ Ok (Run command)
Again command = Unit {0}

wrong_number : Again (Ok (Run (Wrong NotInteger)))
wrong_number = says named.IncrBy ([] ∷ [] ∷ []) ∙ ap (λ n. Ok (Run (add_or NotInteger [] n))) no_number

wrong_least : Again (Ok (Run (Wrong Overflow)))
wrong_least = says named.DecrBy ([] ∷ signed_decimal least ∷ []) ∙ ap (λ n. Ok (Run (subtract_of [] n))) (number_again least refl)

add_fits : (key : List ℕ) (by : ℤ) → fits by ≡ true → Again (Ok (Run (Add key by)))
add_fits key by f = says named.IncrBy (key ∷ signed_decimal by ∷ []) ∙ ap (λ n. Ok (Run (add_or NotInteger key n))) (number_again by f)

add_again : (key text : List ℕ) (n : Option ℤ) → number_of text ≡ n → Again (Ok (Run (add_or NotInteger key n)))
add_again key text None e = wrong_number
add_again key text (Some by) e = add_fits key by (number_fits text by e)

negative_again : (key : List ℕ) (z : ℤ) (b : Bool) → fits z ≡ b → Again (Ok (Run (add_or Overflow key (if b then Some z else None))))
negative_again key z true f = add_fits key z f
negative_again key z false f = wrong_least

subtract_again : (key : List ℕ) (n : Option ℤ) → Again (Ok (Run (subtract_of key n)))
subtract_again key None = wrong_number
subtract_again key (Some by) = negative_again key (neg_ℤ by) _ refl

set_again : (key value : List ℕ) (w : When) (g : Bool) → Again (Ok (Run (Set key value (record { when = w; gives = g }))))
set_again key value when.Always true = says named.Set _
set_again key value when.Always false = says named.Set _
set_again key value when.Absent true = says named.Set _
set_again key value when.Absent false = says named.Set _
set_again key value when.Present true = says named.Set _
set_again key value when.Present false = says named.Set _

set_of_again : (key value : List ℕ) (options : Option Options) → Again (Ok (Run (set_of key value options)))
set_of_again key value None = says named.Set ([] ∷ [] ∷ [] ∷ [])
set_of_again key value (Some options) = set_again key value options.when options.gives

pairs_again : (word : List ℕ) (words : List (List ℕ)) (b : Bool) → (length (word ∷ words) % 2 == 0) ≡ b → Again (runs (pairs_for (word ∷ words) b))
pairs_again word words true e = says named.MSet (word ∷ words) ∙ ap (λ b. runs (pairs_for (word ∷ words) b)) e
pairs_again word words false e = tt

prefix_again : (prefix : List ℕ) → list_any is_special prefix ≡ false → matching (prefix ++ 42 ∷ []) ≡ KeysWith prefix
prefix_again prefix plain =
    let w = prefix ++ 42 ∷ [] in
    let size = length-append prefix (42 ∷ []) in
    let n : length w - 1 ≡ length prefix = omega (arith, size) in
    let last : slice_index w (length w - 1) ≡ 42 = ap (slice_index w) n ∙ get_or-append_seam prefix 42 [] 0 in
    let before : front w ≡ prefix = ap (λ n. take n w) n ∙ take-append_seam prefix (42 ∷ []) in
    let is : is_of_prefix w ≡ true = ap (λ b. (b == 42) && not (list_any is_special (front w))) last ∙ ap (λ f. not (list_any is_special f)) before ∙ ap not plain in
    ap (λ b. if b then KeysWith (front w) else Wrong Pattern) is ∙ ap KeysWith before

matching_again : (pattern : List ℕ) (b : Bool) → is_of_prefix pattern ≡ b → Again (Ok (Run (if b then KeysWith (front pattern) else Wrong Pattern)))
matching_again pattern true e = says named.Keys _ ∙ ap (λ c. Ok (Run c)) (prefix_again (front pattern) (not-true _ (and_parts _ _ e).1))
matching_again pattern false e = says named.Keys ([] ∷ [])

again_for : (name : Name) (words : List (List ℕ)) → Again (order_for name words)
again_for named.Get (a ∷ []) = says named.Get (a ∷ [])
again_for named.Set (a ∷ b ∷ rest) = set_of_again a b (with_options rest (Some plainly))
again_for named.Del (a ∷ rest) = says named.Del (a ∷ rest)
again_for named.Exists (a ∷ rest) = says named.Exists (a ∷ rest)
again_for named.Incr (a ∷ []) = add_fits a (pos 1) refl
again_for named.Decr (a ∷ []) = add_fits a (negsuc 0) refl
again_for named.IncrBy (a ∷ b ∷ []) = add_again a b _ refl
again_for named.DecrBy (a ∷ b ∷ []) = subtract_again a (number_of b)
again_for named.Append (a ∷ b ∷ []) = says named.Append (a ∷ b ∷ [])
again_for named.StrLen (a ∷ []) = says named.StrLen (a ∷ [])
again_for named.GetSet (a ∷ b ∷ []) = set_again a b when.Always true
again_for named.MGet (a ∷ rest) = says named.MGet (a ∷ rest)
again_for named.MSet (a ∷ rest) = pairs_again a rest _ refl
again_for named.DbSize [] = says named.DbSize []
again_for named.Keys (a ∷ []) = matching_again a _ refl
again_for named.FlushAll [] = says named.FlushAll []
again_for named.Multi [] = tt
again_for named.Exec [] = tt
again_for named.Discard [] = tt
again_for named.Ping [] = says named.Ping []
again_for named.Ping (a ∷ []) = says named.Echo (a ∷ [])
again_for named.Echo (a ∷ []) = says named.Echo (a ∷ [])
again_for name words = tt

again_named : (name : Option Name) (words : List (List ℕ)) → Again (order_named name words)
again_named None words = tt
again_named (Some name) words = again_for name words

again_of : (words : List (List ℕ)) → Again (order_of words)
again_of [] = tt
again_of (word ∷ words) = again_named (name_of word) words

pub said_again : (words : List (List ℕ)) (command : Command) → order_of words ≡ Ok (Run command) → order_of (words_for command) ≡ Ok (Run command)
said_again words command e = subst Again e (again_of words)
