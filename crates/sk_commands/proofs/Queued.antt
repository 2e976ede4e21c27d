-- Commands of a queue, one after another.
use Rattle.sk_commands.proofs.Names.{◌≡◌, ℕ, true, false, List, [], ◌∷◌, ◌++◌, Option, bytes_eq, if◌then◌else◌, refl}
use Rattle.sk_commands.proofs.Names.{sym, ap, ◌∙◌, Vec, append_assoc, Command, DbSize, KeysWith, FlushAll, Reply, asks}
use Rattle.sk_commands.proofs.Names.{is_told_of_all, outcome, told, Have, Outcome, Written, after, each, known_after}
use Rattle.sk_commands.proofs.Names.{with_known, with_value}
use Rattle.sk_commands.proofs.Deleted.{told_append}

-- what keys are known changes nothing for a command that is not told of all
pub alone : (c : Command) (known others : List (List ℕ)) (has : Have) → is_told_of_all c ≡ false → outcome known c has ≡ outcome others c has
alone DbSize known others has h = cc
alone (KeysWith prefix) known others has h = cc
alone FlushAll known others has h = cc
alone command known others has h = refl

pub asks_alone : (c : Command) (known others : List (List ℕ)) → is_told_of_all c ≡ false → asks known c ≡ asks others c
asks_alone DbSize known others h = cc
asks_alone (KeysWith prefix) known others h = cc
asks_alone FlushAll known others h = cc
asks_alone command known others h = refl

after_append : (vs ws : Written) (has : Have) → after (vs ++ ws) has ≡ after ws (after vs has)
after_append [] ws has = refl
after_append (v ∷ vs) ws has = after_append vs ws (with_value v.0 v.1 has)

known_append : (vs ws : Written) (known : List (List ℕ)) → known_after (vs ++ ws) known ≡ known_after ws (known_after vs known)
known_append [] ws known = refl
known_append (v ∷ vs) ws known = known_append vs ws (with_known known v.0)

-- what comes of the commands that are left, behind what is written
abbrev pub left_over : List (List ℕ) → Have → List Command → Written → Outcome (List Reply)
left_over known has cs ws = each (known_after ws known) cs (after ws has)

one_on : (known : List (List ℕ)) (has : Have) (cs : List Command) (ws vs : Written) → left_over known has cs (ws ++ vs) ≡ each (known_after vs (known_after ws known)) cs (after vs (after ws has))
one_on known has cs ws vs =
    ap (λ k. each k cs (after (ws ++ vs) has)) (known_append ws vs known)
    ∙ ap (each (known_after vs (known_after ws known)) cs) (after_append ws vs has)

-- one command more is carried out: what is written, with what comes of those that are left, is the same
pub writes_on : (known : List (List ℕ)) (has : Have) (c : Command) (cs : List Command) (ws new all : Written) → new ≡ ws ++ (outcome (known_after ws known) c (after ws has)).written → ws ++ (left_over known has (c ∷ cs) ws).written ≡ all → new ++ (left_over known has cs new).written ≡ all
writes_on known has c cs ws new all is e =
    let vs = (outcome (known_after ws known) c (after ws has)).written in
    ap (λ n. n ++ (left_over known has cs n).written) is
    ∙ ap (λ o. (ws ++ vs) ++ o.written) (one_on known has cs ws vs)
    ∙ append_assoc ws vs (each (known_after vs (known_after ws known)) cs (after vs (after ws has))).written ∙ e

-- and so is what is replied
pub replies_on : (known : List (List ℕ)) (has : Have) (c : Command) (cs : List Command) (ws new : Written) (said all : List Reply) (reply : Reply) → new ≡ ws ++ (outcome (known_after ws known) c (after ws has)).written → reply ≡ (outcome (known_after ws known) c (after ws has)).reply → said ++ (left_over known has (c ∷ cs) ws).reply ≡ all → (said ++ reply ∷ []) ++ (left_over known has cs new).reply ≡ all
replies_on known has c cs ws new said all reply is replied e =
    let vs = (outcome (known_after ws known) c (after ws has)).written in
    let rest = each (known_after vs (known_after ws known)) cs (after vs (after ws has)) in
    ap (λ n. (said ++ reply ∷ []) ++ (left_over known has cs n).reply) is
    ∙ ap (λ o. (said ++ reply ∷ []) ++ o.reply) (one_on known has cs ws vs)
    ∙ append_assoc said (reply ∷ []) rest.reply
    ∙ ap (λ r. said ++ r ∷ rest.reply) replied ∙ e

-- the last write of a list
pub last_write : (ws : List (Vec ℕ × Option (List ℕ))) (w : Vec ℕ × Option (List ℕ)) (has : Have) → after (told (ws ++ w ∷ [])) has ≡ with_value w.0.items w.1 (after (told ws) has)
last_write ws w has = ap (λ ws. after ws has) (told_append ws (w ∷ [])) ∙ after_append (told ws) ((w.0.items, w.1) ∷ []) has

-- it is what its key has
pub last_is : (all ws : List (Vec ℕ × Option (List ℕ))) (w : Vec ℕ × Option (List ℕ)) (has : Have) (key : List ℕ) → all ≡ ws ++ w ∷ [] → bytes_eq key w.0.items ≡ true → after (told all) has key ≡ w.1
last_is all ws w has key is same =
    ap (λ all. after (told all) has key) is ∙ ap (λ f. f key) (last_write ws w has) ∙ ap (λ b. if b then w.1 else after (told ws) has key) same

-- and other keys have what they have without it
pub last_other : (all ws : List (Vec ℕ × Option (List ℕ))) (w : Vec ℕ × Option (List ℕ)) (has : Have) (key : List ℕ) → all ≡ ws ++ w ∷ [] → bytes_eq key w.0.items ≡ false → after (told ws) has key ≡ after (told all) has key
last_other all ws w has key is other =
    sym (ap (λ all. after (told all) has key) is ∙ ap (λ f. f key) (last_write ws w has) ∙ ap (λ b. if b then w.1 else after (told ws) has key) other)
