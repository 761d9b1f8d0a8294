use Rattle.std.proofs.Common.{◌∙◌}
use Rattle.view_server.proofs.init.make_database.Goals as goal

pub returns-in-Ok-clause-others : goal.returns-in-Ok-clause-others
returns-in-Ok-clause-others g c = λ told other apart.
    c.close_disk.ensures.others told c.args.file.now (c.in-Ok.ensures.opened_as told) other apart ∙ c.make_disk.ensures.others told other apart
