use Rattle.exec_client.proofs.Lines.{kept_prefix}
use Rattle.exec_client.proofs.json_client.write_message.Goals as goal

pub returns-in_err-flush_out-clause-prefix : goal.returns-in_err-flush_out-clause-prefix
returns-in_err-flush_out-clause-prefix g c =
    kept_prefix c.from_residual-in_err-flush_out.result _ _ _ _ c.in_ok-put_message.ensures.sent c.flush_out.ensures.bytes
