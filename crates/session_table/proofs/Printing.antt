-- The lines of the replies to a statement.
use Rattle.std.specs.Prelude.{◌≡◌, ℕ, List, ◌++◌, Some, None}
use Rattle.std.specs.Option.{option_to_list}
use mathlib.Core.Path.{sym, ap, ◌∙◌}
use Rattle.std.proofs.Common.{append-nil}
use Rattle.std.proofs.lemmas.List.{flat_map_more}
use Rattle.iv_types.specs.declared.reply.Reply.{Reply}
use Rattle.iv_meaning.specs.Reply.{reply_line, reply_lines}
use Rattle.txn_sessions.specs.declared.line.Replies.{Replies}
use Rattle.txn_sessions.specs.Standings.{replies_of}

pub replies_some : (session : ℕ) (old mid new : List ℕ) (r : Replies) (x : Reply) → r.last ≡ Some x → mid ≡ old ++ reply_lines session r.told → new ≡ mid ++ reply_line session x → new ≡ old ++ reply_lines session (replies_of r)
replies_some session old mid new r x is told more =
    more ∙ ap (λ l. l ++ reply_line session x) told ∙ flat_map_more (reply_line session) old r.told x ∙ ap (λ o. old ++ reply_lines session (r.told ++ option_to_list o)) (sym is)

pub replies_none : (session : ℕ) (old mid : List ℕ) (r : Replies) → r.last ≡ None → mid ≡ old ++ reply_lines session r.told → mid ≡ old ++ reply_lines session (replies_of r)
replies_none session old mid r is told = told ∙ ap (λ l. old ++ reply_lines session l) (sym (append-nil r.told)) ∙ ap (λ o. old ++ reply_lines session (r.told ++ option_to_list o)) (sym is)
