-- The kind and the tag of a line.
use Rattle.std.specs.Prelude.{ℕ, List, Option, None, Some, codes}
use Rattle.json.specs.Token.{Token}
use Rattle.serde_json.specs.Data.{Data, string}
use Rattle.exec_replies.specs.LineKinds.{with_kind}
use Rattle.exec_replies.specs.Objects.{object_with}
use Rattle.exec_replies.specs.Service.{lent}
use Rattle.exec_replies.specs.Tokens.{value_tokens}
use Rattle.exec_replies.specs.declared.kind.LineKind.{LineKind}
use Rattle.exec_replies.specs.declared.marks.Marks.{Marks}
use Rattle.exec_replies.specs.declared.notice.NoticeForm.{NoticeForm}
use Rattle.exec_replies.specs.declared.notice.NoticeForm.TheVariants as notice_form
use Rattle.exec_replies.specs.declared.tagged.Tagged.{Tagged}

-- the reason that a notice is to be written with
abbrev pub written_reason : Tagged → Option (List ℕ)
written_reason t = lent t.reason

-- the tag that a line is to be written with
abbrev pub written_tag : Tagged → Option (List ℕ)
written_tag t = lent t.tag

-- the kind and the tag of a line in this form: a `run` session writes neither
abbrev pub kind_in : NoticeForm → LineKind → Option LineKind
kind_in notice_form.Short kind = None
kind_in (notice_form.Timed service) kind = Some kind

abbrev pub tag_in : NoticeForm → Option (List ℕ) → Option (List ℕ)
tag_in notice_form.Short tag = None
tag_in (notice_form.Timed service) tag = tag

-- an object with this tag, if any
abbrev pub with_tag : Option (List ℕ) → Data → Data
with_tag None d = d
with_tag (Some tag) d = object_with (codes "tag") (string tag) d

-- an object with this kind and this tag, if any
abbrev pub marked : Option LineKind → Option (List ℕ) → Data → Data
marked None tag d = with_tag tag d
marked (Some kind) tag d = with_tag tag (with_kind kind d)

-- the tokens of an object with these marks
abbrev pub marked_tokens : Marks → Data → List Token
marked_tokens marks d = value_tokens (marked marks.kind (lent marks.tag) d)
