use Rattle.std.proofs.Common.{map, string_bytes}
use Rattle.vsm_serve.proofs.Statuses.{serves}
use Rattle.vsm_serve.proofs.serve.serve_plain.Goals as goal

pub returns : goal.returns
returns g c =
    let s = c.served.ensures in serves (map string_bytes c.args.words.now) _ _ _ s.says s.decides s.reads_later s.writes_later
