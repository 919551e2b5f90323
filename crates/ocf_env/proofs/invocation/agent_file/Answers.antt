use Rattle.std.proofs.Common.{◌∙◌}
use Rattle.ocf_env.proofs.PathLemmas.{path_made}
use Rattle.ocf_env.proofs.invocation.agent_file.Goals as goal

pub returns : goal.returns
returns g c = record {
  file =
      path_made _ _ _ _ _ _ _ _ _ _ _ _ c.root.ensures (c.ascii.ensures ∙ c.as_bytes.ensures.bytes)
      (c.ascii-2.ensures ∙ c.as_bytes-2.ensures.bytes)
      c.in_ok-file.ensures.ok c.in_ok-push_text.ensures.bytes c.in_ok-push_text-2.ensures.bytes c.in_ok-push_text-3.ensures.bytes
      c.in_ok-push_text-4.ensures.bytes c.new.ensures;
}
