-- What `show` prints of a state.
use Rattle.std.specs.Prelude.{◌≡◌, ℕ, ⊤, List, ◌++◌, map, Option, None, Result, Ok, Err}
use Rattle.std.specs.Io.KnownBytes.{Appends}
use Rattle.std.specs.List.{flat_map}
use Rattle.ocf_model.specs.Answer.{reply_to}
use Rattle.ocf_model.specs.State.{State}
use Rattle.ocf_types.specs.declared.command.Question.{Question}
use Rattle.ocf_types.specs.declared.command.Question.TheVariants as question
use Rattle.disk_model.specs.Image.{Image}
use Rattle.exec_journal.specs.Found.{FoundAs, HasDamage}
use Rattle.exec_replies.specs.declared.reply.LineReply.TheVariants.{Request}
use Rattle.exec_replies.specs.Replies.{reply_line}
use Rattle.exec_replies.specs.declared.notice.NoticeForm.TheVariants.{Short}
use Rattle.exec_faults.specs.declared.fault.Fault.{Fault}
use Rattle.exec_faults.specs.declared.fault.Fault.TheVariants as fault

-- the line of the answer to a question
abbrev pub answer_line : State → Question → List ℕ
answer_line s q = reply_line Short None (Request (reply_to s q))

-- the lines of `info` and `history` of a resource
abbrev pub resource_lines : State → List ℕ → List ℕ
resource_lines s id = answer_line s (question.Info id) ++ answer_line s (question.History id)

-- the line of `list`, and then those of each resource, in order of registration
abbrev pub shown : State → List ℕ
shown s = answer_line s question.List ++ flat_map (resource_lines s) (map (λ e. e.0) s.resources)

-- what is written, by the result: all that the state holds that is found on these parts, or nothing if the parts are not read; damage that
-- is reported is the damage that is found
abbrev pub ShowsAs : {T : Type 0} → Image → Option (List ℕ) → Option (List ℕ) → Result T Fault → Type 0
ShowsAs reads old new (Ok done) = (s : State) × FoundAs s reads × Appends old new (shown s)
ShowsAs reads old new (Err (fault.Damaged damage)) = HasDamage reads damage × (new ≡ old)
ShowsAs reads old new (Err fault.Disk) = new ≡ old
ShowsAs reads old new (Err fault.Memory) = new ≡ old
ShowsAs reads old new (Err fault.InputOrOutput) = ⊤
ShowsAs reads old new (Err fault.ReplyMemory) = ⊤
ShowsAs reads old new (Err _) = ⊥
