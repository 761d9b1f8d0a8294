-- The texts of replies.
use Rattle.std.specs.Prelude.{ℕ, pos, zero, suc, ◌==◌, ◌%◌, ◌/◌, List, [], ◌∷◌, ◌++◌, take, Option, Some, None, if◌then◌else◌, codes, decimal}
use Rattle.std.specs.List.{flat_map}
use Rattle.std.specs.Fmt.{signed_decimal}
use Rattle.iv_types.specs.declared.limit.TheConstants.{MOST_SESSIONS}
use Rattle.iv_types.specs.declared.value.Value.{Value}
use Rattle.iv_types.specs.declared.value.Value.TheVariants as value
use Rattle.iv_types.specs.declared.session.Sessions.{Sessions}
use Rattle.iv_types.specs.declared.refusal.Refusal.{Refusal}
use Rattle.iv_types.specs.declared.refusal.Refusal.TheVariants as refusal
use Rattle.iv_types.specs.declared.reply.Reply.{Reply}
use Rattle.iv_types.specs.declared.reply.Reply.TheVariants as reply
use Rattle.iv_types.specs.Limits.{most_of, limit_number, rule_number}
use Rattle.iv_types.specs.Printing.{quoted_text}

-- numbers are decimal, texts are quoted
abbrev pub value_text : Value → List ℕ
value_text (value.Number n) = signed_decimal n
value_text (value.Word bytes) = quoted_text bytes

-- a space before it
abbrev pub spaced : List ℕ → List ℕ
spaced text = codes " " ++ text

abbrev pub row_text : List Value → List ℕ
row_text row = flat_map (λ v. spaced (value_text v)) row

abbrev pub numbers_text : List ℕ → List ℕ
numbers_text ns = flat_map (λ n. spaced (decimal n)) ns

-- the sessions of a set from the one that its last bit stands for, in rising order
abbrev pub members_from : ℕ → ℕ → ℕ → List ℕ
members_from zero session bits = []
members_from (suc n) session bits = if bits % 2 == 1 then session ∷ members_from n (suc session) (bits / 2) else members_from n (suc session) (bits / 2)

abbrev pub members : Sessions → List ℕ
members sessions = members_from MOST_SESSIONS 1 sessions.bits

-- a refusal's code, its name and its values
abbrev pub refusal_text : Refusal → List ℕ
refusal_text (refusal.Syntax place) = codes "1 Syntax" ++ numbers_text (place ∷ [])
refusal_text (refusal.UnknownName name) = codes "2 UnknownName" ++ spaced name
refusal_text (refusal.NameTaken name) = codes "3 NameTaken" ++ spaced name
refusal_text refusal.WrongType = codes "4 WrongType"
refusal_text (refusal.WrongShape rule) = codes "5 WrongShape" ++ numbers_text (rule_number rule ∷ [])
refusal_text (refusal.Limit limit) = codes "6 Limit" ++ (spaced (decimal (limit_number limit)) ++ spaced (signed_decimal (pos (most_of limit))))
refusal_text (refusal.NeedsIndex table) = codes "7 NeedsIndex" ++ spaced table
refusal_text refusal.DuplicateKey = codes "10 DuplicateKey"
refusal_text refusal.NumberRange = codes "11 NumberRange"
refusal_text refusal.NoTransaction = codes "12 NoTransaction"
refusal_text refusal.InTransaction = codes "13 InTransaction"
refusal_text refusal.ReadOnly = codes "14 ReadOnly"
refusal_text (refusal.UnknownSavepoint name) = codes "15 UnknownSavepoint" ++ spaced name
refusal_text (refusal.Deadlock cycle) = codes "20 Deadlock" ++ numbers_text (take cycle.length cycle.members)
refusal_text (refusal.EscrowRange view group column inf sup) = codes "21 EscrowRange" ++ (spaced view ++ (row_text group ++ (spaced column ++ (spaced (signed_decimal inf) ++ spaced (signed_decimal sup)))))
refusal_text (refusal.LogFull used reserved need) = codes "22 LogFull" ++ numbers_text (used ∷ reserved ∷ need ∷ [])
refusal_text (refusal.DataFull used need) = codes "23 DataFull" ++ numbers_text (used ∷ need ∷ [])
refusal_text (refusal.TxnFull kept need) = codes "24 TxnFull" ++ numbers_text (kept ∷ need ∷ [])
refusal_text (refusal.HistoryFull kept need) = codes "25 HistoryFull" ++ numbers_text (kept ∷ need ∷ [])
refusal_text (refusal.SchemaBusy session) = codes "26 SchemaBusy" ++ numbers_text (session ∷ [])
refusal_text refusal.DiskFault = codes "27 DiskFault"
refusal_text (refusal.Stopped step) = codes "28 Stopped" ++ numbers_text (step ∷ [])
refusal_text refusal.NoMemory = codes "29 NoMemory"
refusal_text refusal.SessionWaiting = codes "40 SessionWaiting"
refusal_text refusal.BadLine = codes "41 BadLine"
refusal_text refusal.LineTooLong = codes "42 LineTooLong"

-- a reply without a session number
abbrev pub bare_reply_text : Reply → List ℕ
bare_reply_text (reply.Row row) = codes "ROW" ++ row_text row
bare_reply_text (reply.Done count) = codes "OK" ++ numbers_text (count ∷ [])
bare_reply_text (reply.Commit number) = codes "COMMIT" ++ numbers_text (number ∷ [])
bare_reply_text (reply.Snapshot number) = codes "SNAPSHOT" ++ numbers_text (number ∷ [])
bare_reply_text (reply.Wait sessions) = codes "WAIT" ++ numbers_text (members sessions)
bare_reply_text reply.Step = codes "STEP"
bare_reply_text (reply.Error r) = codes "ERR" ++ spaced (refusal_text r)

-- a session's number before it, if one is to stand there
abbrev pub reply_text : Option ℕ → Reply → List ℕ
reply_text None r = bare_reply_text r
reply_text (Some session) r = decimal session ++ spaced (bare_reply_text r)
