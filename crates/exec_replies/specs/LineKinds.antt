-- The kinds of the lines of a `serve` session.
use Rattle.std.specs.Prelude.{ℕ, List, codes}
use Rattle.serde_json.specs.Data.{Data, string}
use Rattle.exec_replies.specs.Objects.{object_with}
use Rattle.exec_replies.specs.declared.kind.LineKind.{LineKind}
use Rattle.exec_replies.specs.declared.kind.LineKind.TheVariants as kind

-- the word of a kind
abbrev pub kind_word : LineKind → List ℕ
kind_word kind.Reply = codes "reply"
kind_word kind.Notice = codes "notice"
kind_word kind.Ready = codes "ready"
kind_word kind.Report = codes "report"
kind_word kind.Trouble = codes "trouble"

-- an object with the kind of its line
abbrev pub with_kind : LineKind → Data → Data
with_kind k d = object_with (codes "kind") (string (kind_word k)) d
