-- `findings::finish` meets its contract: the mode is judged, and then the end (`closes-both`).
use Rattle.std.proofs.Common.{rules}
use Rattle.std.proofs.lemmas.Result.{MatchResult-weaker}
use Rattle.findings.proofs.Finishing.{closes-both}
use Rattle.findings.proofs.finish.Goals as goal

pub returns : goal.returns
returns c =
    rw c.settled.ensures
    (closes-both c.check_mode.result _ c.entry_or-word.ensures c.check_mode.ensures
    (MatchResult-weaker c.check_mode.result c.and_then-ended.ensures (λ x q. search (rules, q)) (λ why q. q)))
