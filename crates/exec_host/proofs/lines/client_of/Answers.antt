use Rattle.std.proofs.Common.{◌∙◌, ℕ, List, Option, ap, subst, sym}
use Rattle.exec_client.specs.ClientView.{ClientView}
use Rattle.exec_host.specs.Requests.{OpenWriter}
use Rattle.exec_host.proofs.lines.client_of.Goals as goal

pub writer-writer-requires-clause-may : goal.writer-writer-requires-clause-may
writer-writer-requires-clause-may g c =
    subst (λ (x : Option (List ℕ)). g.H.Host.may (OpenWriter x)) (sym c.served_directory.ensures) c.requires.may

pub new-requires : goal.new-requires
new-requires g c = record { fresh = ap (λ t. t.sent_log.items) c.new-client.ensures.client ∙ c.new-json_client.ensures.reported }

pub returns-clause-new : goal.returns-clause-new
returns-clause-new g c = record {
  opened = ap (λ (v : ClientView _). v.opened) c.new.ensures
      ∙ (ap (λ t. t.opened.value) c.new-client.ensures.client ∙ c.new-json_client.ensures.opened);
  reported = ap (λ (v : ClientView _). v.reported) c.new.ensures
      ∙ (ap (λ t. t.sent_log.items) c.new-client.ensures.client ∙ c.new-json_client.ensures.reported);
  tags = ap (λ (v : ClientView _). v.tags) c.new.ensures
      ∙ (ap (λ t. t.tags) c.new-client.ensures.client ∙ c.new-json_client.ensures.tags);
  is_open = c.requires.open;
}

pub returns-clause-writes : goal.returns-clause-writes
returns-clause-writes g c = (
  c.writer-writer.result,
  subst (λ (x : Option (List ℕ)). g.H.Host.asked.writer x c.writer-writer.result) c.served_directory.ensures c.writer-writer.ensures.writer,
  ap (λ (v : ClientView _). v.written) c.new.ensures
      ∙ (ap (λ t. g.H.Writer.Output.contents t.lines.writer) c.new-client.ensures.client
      ∙ ap g.H.Writer.Output.contents c.new-json_client.ensures.writer),
)
