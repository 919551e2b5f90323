use Rattle.std.proofs.Common.{◌≡◌, ◌∙◌, ap, codes}
use Rattle.std.proofs.lemmas.Result.{IfOk-weaker}
use Rattle.clap.specs.Words.{App, with_subcommand}
use Rattle.exec_options.specs.App.{run_app, session_app, query_app, status_app, log_app, once_app}
use Rattle.exec_options.proofs.app.ocfexec.Goals as goal

-- a subcommand that is added to an equal command
then : (s : App) {x y : App} → x ≡ y → with_subcommand x s.top ≡ with_subcommand y s.top
then s is = ap (λ (a : App). with_subcommand a s.top) is

pub returns : goal.returns
returns c =
    let with_run = c.in_ok-with_run.ensures run_app c.run.ensures.app c.run.ensures.local ∙ then run_app c.top.ensures.app in
    let with_serve = c.in_ok-with_serve.ensures (session_app (codes "serve")) c.session.ensures.app c.session.ensures.local
    ∙ then (session_app (codes "serve")) with_run in
    let with_show = c.in_ok-with_show.ensures (query_app (codes "show")) c.query.ensures.app c.query.ensures.local
    ∙ then (query_app (codes "show")) with_serve in
    let with_status = c.in_ok-with_status.ensures status_app c.status.ensures.app c.status.ensures.local ∙ then status_app with_show in
    let with_log = c.in_ok-with_log.ensures log_app c.log.ensures.app c.log.ensures.local ∙ then log_app with_status in
    let with_metrics = c.in_ok-with_metrics.ensures (query_app (codes "metrics")) c.query-2.ensures.app c.query-2.ensures.local
    ∙ then (query_app (codes "metrics")) with_log in
    IfOk-weaker c.with_subcommand-7.result _ _ (λ r h. h ∙ then once_app with_metrics)
    (c.with_subcommand-7.ensures once_app c.once.ensures.app c.once.ensures.local)
