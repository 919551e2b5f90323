use Rattle.std.proofs.Common.{◌≡◌, false, refl}
use Rattle.std.proofs.lemmas.Result.{IfOk-weaker}
use Rattle.clap.specs.Words.{app_of}
use Rattle.clap.specs.declared.builder.command.Command.TheViews.{out-Command}
use Rattle.exec_options.proofs.AppLemmas.{app-sub, ok_at}
use Rattle.exec_options.proofs.app.with_subcommand.Goals as goal

pub returns : goal.returns
returns c = λ s app local.
    let added_local = ok_at (λ a. (out-Command a).has_globals ≡ false) c.args.built c.in_ok-added.added c.in_ok-added.was local in
    let added_app = ok_at (λ a. app_of a ≡ s) c.args.built c.in_ok-added.added c.in_ok-added.was app in
    IfOk-weaker c.subcommand.result _ _
    (λ r h. app-sub c.args.command c.in_ok-added.added r _ s h added_local added_app refl) c.subcommand.ensures
