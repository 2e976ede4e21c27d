-- The text so far, with that of those that are left, is that of all.
use Rattle.sk_commands.proofs.Names.{◌≡◌, ◌++◌, drop, flat_map, length, array_text, reply_text}
use Rattle.sk_commands.proofs.text.write_replies.Given as goal

abbrev pub invariant-loop-reply : goal.invariant-loop-reply
invariant-loop-reply l =
    l.text.items ++ flat_map reply_text (drop l.reply-index l.replies) ≡ l.fn.text.items ++ (array_text (length l.replies) ++ flat_map reply_text l.replies)
