use Rattle.std.proofs.Common.{None, take}
use Rattle.std.specs.Io.KnownBytes.{Appends}
use Rattle.std.specs.List.{flat_map}
use Rattle.exec_replies.specs.Replies.{notice_line}
use Rattle.exec_replies.specs.declared.notice.Origin.TheVariants.{Opening}
use Rattle.exec_replies.proofs.json_lines.JsonLines.put_report.Given as goal

abbrev pub invariant-loop-notice : goal.invariant-loop-notice
invariant-loop-notice g l =
    Appends (g.W.Output.contents l.fn.self.writer) (g.W.Output.contents l.self.writer) (flat_map (notice_line l.form None None Opening) (take l.notice-index l.notices))
