-- The parts are those that stand in front, and the content behind them.
use Rattle.sk_messages.proofs.Names.{rules, ◌≡◌, nat_lt, cond, false, None, ◌-◌, length, take, drop, sym, ap, ◌∙◌}
use Rattle.sk_messages.proofs.Names.{le_of_eq, length-drop, take_all, number_at, reply_from}
use Rattle.sk_messages.proofs.reply.read_reply.Goals as goal

pub returns : goal.returns
returns c =
    let bytes = c.args.bytes.now in
    let number = c.number_at-number.result in
    let kind = c.number_at-kind.result in
    let version = c.number_at-version.result in
    let count = c.number_at.result in
    let content = drop 32 bytes in
    let long : nat_lt (length bytes) 32 ≡ false = search rules in
    let whole : take (length bytes - 32) content ≡ content = take_all (length bytes - 32) content (le_of_eq (length-drop 32 bytes)) in
    c.reply_from.ensures
    ∙ ap (λ rest. reply_from number kind version count rest) whole
    ∙ ap (λ n. reply_from n kind version count content) c.number_at-number.ensures
    ∙ ap (λ n. reply_from (number_at 0 bytes) n version count content) c.number_at-kind.ensures
    ∙ ap (λ n. reply_from (number_at 0 bytes) (number_at 1 bytes) n count content) c.number_at-version.ensures
    ∙ ap (λ n. reply_from (number_at 0 bytes) (number_at 1 bytes) (number_at 2 bytes) n content) c.number_at.ensures
    ∙ sym (ap (λ t. cond t None (reply_from (number_at 0 bytes) (number_at 1 bytes) (number_at 2 bytes) (number_at 3 bytes) content)) long)
