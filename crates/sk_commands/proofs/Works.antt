-- The requests of works come to these works again.
use Rattle.sk_commands.proofs.Names.{◌≡◌, ℕ, Bool, true, false, List, [], ◌∷◌, ◌++◌, flat_map, map, Option, Some, None}
use Rattle.sk_commands.proofs.Names.{Result, Ok, Err, refl, sym, ap, subst, ◌∙◌, flat_map-append, append_assoc}
use Rattle.sk_commands.proofs.Names.{append-nil, array, Splits, Limits, text_of, order_of, executes, turn, log_text}
use Rattle.sk_commands.proofs.Names.{requests_of, with_work, words_for, work_for, AreAsked, AreSaid, AreWithin, IsAsked}
use Rattle.sk_commands.proofs.Names.{IsReplyOrAsked, IsSaid, WaitsSaid, Fault, Command, Order, Run, Multi, Exec}
use Rattle.sk_commands.proofs.Names.{Discard, Queue, Work}
use Rattle.sk_commands.specs.declared.name.Name.TheVariants as named
use Rattle.sk_commands.specs.declared.work.Work.TheVariants as works
use Rattle.sk_commands.proofs.Said.{said_again, says}

-- one request more, by what its words say
step : (queue : Option Queue) (words : List (List ℕ)) (requests : List (List (List ℕ))) (o : Result Order Fault) → order_of words ≡ o → work_for queue (words ∷ requests) ≡ with_work (turn queue o).work (work_for (turn queue o).queue requests)
step queue words requests o e = ap (λ o. with_work (turn queue o).work (work_for (turn queue o).queue requests)) e

again : (c : Command) → IsSaid c → order_of (words_for c) ≡ Ok (Run c)
again c (words, e) = said_again words c e

abbrev pub waiting : List Command → Option Queue
waiting commands = Some (record { commands = commands; spoiled = false })

queue_again : (cs before : List Command) (rest : List (List (List ℕ))) → AreSaid cs → work_for (waiting before) (map words_for cs ++ (text_of named.Exec ∷ []) ∷ rest) ≡ works.Each (before ++ cs) ∷ work_for None rest
queue_again [] before rest said =
    step (waiting before) (text_of named.Exec ∷ []) rest (Ok Exec) (says named.Exec []) ∙ ap (λ cs. works.Each cs ∷ work_for None rest) (sym (append-nil before))
queue_again (c ∷ cs) before rest said =
    step (waiting before) (words_for c) (map words_for cs ++ (text_of named.Exec ∷ []) ∷ rest) (Ok (Run c)) (again c said.0)
    ∙ queue_again cs (before ++ c ∷ []) rest said.1
    ∙ ap (λ cs. works.Each cs ∷ work_for None rest) (append_assoc before (c ∷ []) cs)

one_again : (w : Work) (rest : List (List (List ℕ))) → IsAsked w → work_for None (requests_of w ++ rest) ≡ w ∷ work_for None rest
one_again (works.Say reply) rest said = absurd said
one_again (works.One c) rest said = step None (words_for c) rest (Ok (Run c)) (again c said)
one_again (works.Each cs) rest said =
    step None (text_of named.Multi ∷ []) ((map words_for cs ++ (text_of named.Exec ∷ []) ∷ []) ++ rest) (Ok Multi) (says named.Multi [])
    ∙ ap (work_for (waiting [])) (append_assoc (map words_for cs) ((text_of named.Exec ∷ []) ∷ []) rest)
    ∙ queue_again cs [] rest said

pub works_again : (ws : List Work) → AreAsked ws → work_for None (flat_map requests_of ws) ≡ ws
works_again [] said = refl
works_again (w ∷ ws) said = one_again w (flat_map requests_of ws) said.0 ∙ ap (λ ws. w ∷ ws) (works_again ws said.1)

-- ---- their bytes

texts_of : (ws : List Work) → flat_map log_text ws ≡ flat_map array (flat_map requests_of ws)
texts_of [] = refl
texts_of (w ∷ ws) = ap (λ t. log_text w ++ t) (texts_of ws) ∙ sym (flat_map-append array (requests_of w) (flat_map requests_of ws))

splits : (limits : Limits) (rs : List (List (List ℕ))) → AreWithin limits rs → Splits limits (map Some rs) [] (flat_map array rs)
splits limits [] within = refl
splits limits (r ∷ rs) within = (array r, flat_map array rs, within.0, refl, splits limits rs within.1)

pub read_again : (limits : Limits) (ws : List Work) → AreWithin limits (flat_map requests_of ws) → Splits limits (map Some (flat_map requests_of ws)) [] (flat_map log_text ws)
read_again limits ws within =
    subst (λ t. Splits limits (map Some (flat_map requests_of ws)) [] t) (sym (texts_of ws)) (splits limits (flat_map requests_of ws) within)

-- ---- what is carried out was said

one_more_said : (cs : List Command) (c : Command) → AreSaid cs → IsSaid c → AreSaid (cs ++ c ∷ [])
one_more_said [] c said new = (new, tt)
one_more_said (b ∷ cs) c said new = (said.0, one_more_said cs c said.1 new)

executed : (spoiled : Bool) (cs : List Command) → AreSaid cs → WaitsSaid (executes spoiled cs).queue × IsReplyOrAsked (executes spoiled cs).work
executed true cs said = (tt, tt)
executed false cs said = (tt, said)

row : (queue : Option Queue) (words : List (List ℕ)) (o : Result Order Fault) → order_of words ≡ o → WaitsSaid queue → WaitsSaid (turn queue o).queue × IsReplyOrAsked (turn queue o).work
row None words (Ok (Run c)) e said = (tt, (words, e))
row None words (Ok Multi) e said = (tt, tt)
row None words (Ok Exec) e said = (tt, tt)
row None words (Ok Discard) e said = (tt, tt)
row None words (Err fault) e said = (tt, tt)
row (Some queue) words (Ok (Run c)) e said = (one_more_said queue.commands c said (words, e), tt)
row (Some queue) words (Ok Multi) e said = (said, tt)
row (Some queue) words (Ok Exec) e said = executed queue.spoiled queue.commands said
row (Some queue) words (Ok Discard) e said = (tt, tt)
row (Some queue) words (Err fault) e said = (said, tt)

pub what_is_said : (queue : Option Queue) (words : List (List ℕ)) → WaitsSaid queue → WaitsSaid (turn queue (order_of words)).queue × IsReplyOrAsked (turn queue (order_of words)).work
what_is_said queue words said = row queue words (order_of words) refl said
