use Rattle.std.proofs.Common.{◌≡◌, ℕ, subst}
use Rattle.std.proofs.lemmas.Bool.{false≢true}
use Rattle.iv_meaning.specs.Database.{created}
use Rattle.script_run.specs.Summary.{Made}
use Rattle.command_words.specs.Words.{a_script, a_script_on, rounds, database, wanted_of, AsksFor, IsInit}
use Rattle.command_words.specs.declared.asked.Asked.{Asked}
use Rattle.view_server.proofs.Naming.{Only, file_asked, one_number, script_not_make, sizes_asked}
use Rattle.view_server.proofs.script.run.Goals as goal

-- ---- no command

pub returns-then-not-is_command-clause-made : goal.returns-then-not-is_command-clause-made
returns-then-not-is_command-clause-made g c = λ number asks before w. absurd (false≢true (c.if-not-is_command.ensures.1 (rounds number, asks)))

pub returns-then-not-is_command-clause-made_status : goal.returns-then-not-is_command-clause-made_status
returns-then-not-is_command-clause-made_status g c = λ number asks. absurd (false≢true (c.if-not-is_command.ensures.1 (rounds number, asks)))

pub returns-then-not-is_command-clause-init : goal.returns-then-not-is_command-clause-init
returns-then-not-is_command-clause-init g c = λ file pages log_kib asks before w. absurd (false≢true (c.if-not-is_command.ensures.1 (database file pages log_kib, asks)))

pub returns-then-not-is_command-clause-init_status : goal.returns-then-not-is_command-clause-init_status
returns-then-not-is_command-clause-init_status g c = λ file pages log_kib asks. absurd (false≢true (c.if-not-is_command.ensures.1 (database file pages log_kib, asks)))

pub returns-then-not-is_command-clause-on_disk : goal.returns-then-not-is_command-clause-on_disk
returns-then-not-is_command-clause-on_disk g c = λ file asks input before e w. absurd (false≢true (c.if-not-is_command.ensures.1 (a_script_on file, asks)))

-- ---- a script on a disk

pub returns-in-Ok-ScriptOn-clause-on_disk : goal.returns-in-Ok-ScriptOn-clause-on_disk
returns-in-Ok-ScriptOn-clause-on_disk g c = λ file asks input before e w.
    let same : c.in-Ok-ScriptOn.file.now ≡ file = file_asked c.in-Ok-ScriptOn.field-0 c.in-Ok-ScriptOn.file file c.in-Ok-ScriptOn.field-0-is c.in-Ok-ScriptOn.ensures.nothing_else asks in
    rw (← same) (c.script_on_disk.ensures.ran input before e w)

-- ---- a script

pub returns-in-Ok-Script-clause-made : goal.returns-in-Ok-Script-clause-made
returns-in-Ok-Script-clause-made g c = λ number asks before w.
    let only : Only a_script c.args.words.now = subst (λ (a : Asked). Only (wanted_of a) c.args.words.now) c.in-Ok-Script.field-0-is c.in-Ok-Script.ensures.nothing_else in
    absurd (script_not_make number only asks)

-- ---- a made script

pub returns-in-Ok-Make-clause-made : goal.returns-in-Ok-Make-clause-made
returns-in-Ok-Make-clause-made g c = λ number asks before w.
    let only : Only (rounds c.in-Ok-Make.number) c.args.words.now = subst (λ (a : Asked). Only (wanted_of a) c.args.words.now) c.in-Ok-Make.field-0-is c.in-Ok-Make.ensures.nothing_else in
    subst (λ (n : ℕ). Made created c.make.result n before (g.K.Sink.written c.make.new.sink)) (one_number c.in-Ok-Make.number number only asks) (c.make.ensures.made before w)

-- ---- a new database

pub returns-in-Ok-Init-clause-init : goal.returns-in-Ok-Init-clause-init
returns-in-Ok-Init-clause-init g c = λ file pages log_kib asks before w.
    let same = sizes_asked c.in-Ok-Init.field-0 c.in-Ok-Init.database file pages log_kib c.in-Ok-Init.field-0-is c.in-Ok-Init.ensures.nothing_else asks in
    rw (← same.pages, ← same.log) (c.init.ensures.told before w)

pub returns-in-Ok-Init-clause-blank : goal.returns-in-Ok-Init-clause-blank
returns-in-Ok-Init-clause-blank g c = λ told tells file pages log_kib asks made.
    let same = sizes_asked c.in-Ok-Init.field-0 c.in-Ok-Init.database file pages log_kib c.in-Ok-Init.field-0-is c.in-Ok-Init.ensures.nothing_else asks in
    rw (← same.pages, ← same.log, ← same.name) (c.init.ensures.blank told tells made)

pub returns-in-Ok-Init-clause-other_disks : goal.returns-in-Ok-Init-clause-other_disks
returns-in-Ok-Init-clause-other_disks g c = λ told file pages log_kib asks.
    let same = sizes_asked c.in-Ok-Init.field-0 c.in-Ok-Init.database file pages log_kib c.in-Ok-Init.field-0-is c.in-Ok-Init.ensures.nothing_else asks in
    rw (← same.name) (c.init.ensures.others told)

pub returns-in-Ok-Init-clause-no_disks : goal.returns-in-Ok-Init-clause-no_disks
returns-in-Ok-Init-clause-no_disks g c =
    let asks : IsInit c.in-Ok-Init.database.file.now c.in-Ok-Init.database.pages c.in-Ok-Init.database.log_kib c.args.words.now = subst (λ (a : Asked). AsksFor (wanted_of a) c.args.words.now) c.in-Ok-Init.field-0-is c.in-Ok-Init.ensures.asks in
    λ none. absurd (none _ _ _ asks)
