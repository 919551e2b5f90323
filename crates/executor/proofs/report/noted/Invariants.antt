use Rattle.std.proofs.Common.{◌≡◌, take}
use Rattle.executor.proofs.report.noted.Given as goal

abbrev pub invariant-loop-notice : goal.invariant-loop-notice
invariant-loop-notice l = l.past.items ≡ take l.notice-index l.notices
