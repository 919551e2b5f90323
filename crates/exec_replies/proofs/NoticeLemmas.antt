-- The tokens of a notice, by its form and where it is from.
use Rattle.std.proofs.Common.{◌≡◌, ℕ, Option, None, Some, refl}
use Rattle.ocf_types.specs.declared.notice.Notice.{Notice}
use Rattle.exec_replies.specs.Replies.{lives_of, notice_tokens, timed_data}
use Rattle.exec_replies.specs.Tags.{marked, written_reason, written_tag}
use Rattle.exec_replies.specs.Tokens.{value_tokens}
use Rattle.exec_replies.specs.declared.kind.LineKind.TheVariants as kind
use Rattle.exec_replies.specs.declared.notice.NoticeForm.TheVariants.{Timed}
use Rattle.exec_replies.specs.declared.notice.Origin.{Origin}
use Rattle.exec_replies.specs.declared.notice.Origin.TheVariants.{Opening, Turn}
use Rattle.exec_replies.specs.declared.service.Service.{Service}
use Rattle.exec_replies.specs.declared.tagged.Tagged.{Tagged}

pub report_tokens : (t : Tagged) (s : Service) (of : Origin) (n : Notice) → t.form ≡ Timed s → of ≡ Opening
    → value_tokens (marked (Some kind.Report) (written_tag t) (timed_data (lives_of s.left.now n.result.run) None None n))
    ≡ notice_tokens t of n
report_tokens t s of n form origin = rw (form, origin) refl

pub turn_tokens : (t : Tagged) (s : Service) (of : Origin) (signal : Option ℕ) (n : Notice) → t.form ≡ Timed s → of ≡ Turn signal
    → value_tokens (marked (Some kind.Notice) (written_tag t) (timed_data None (written_reason t) signal n)) ≡ notice_tokens t of n
turn_tokens t s of signal n form origin = rw (form, origin) refl
