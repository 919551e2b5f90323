use Rattle.std.proofs.Common.{inr, map, rules, string_bytes, [], ◌≡◌}
use Rattle.clap.specs.Words.{HasKind, found_of, rows_of}
use Rattle.std.proofs.lemmas.Result.{IfErr-weaker, IfOk-weaker}
use Rattle.exec_options.specs.Subcommands.{once_word}
use Rattle.exec_options.proofs.WordsLemmas.{fault_kind, faults, flawed, flawed_once, given, given_once, met, unnamed}
use Rattle.exec_options.proofs.arguments.read_arguments.Goals as goal

pub returns-in-Err-clause-fault : goal.returns-in-Err-clause-fault
returns-in-Err-clause-fault c =
    let arguments = map string_bytes c.args.arguments.now in
    fault_kind _ arguments c.from_clap.result
    (c.from_clap.ensures.kinds _ (faults c.in-Ok.command arguments (λ k. HasKind k c.in-Err.error) c.in-Ok.ensures.app c.in-Err.ensures.kinds))

pub returns-then-eq-clause-ok : goal.returns-then-eq-clause-ok
returns-then-eq-clause-ok c =
    let arguments = map string_bytes c.args.arguments.now in
    let named = met c.in-Ok.command arguments c.in-Ok-try_get_matches_from.matches c.in-Some.name.now
    (rows_of (found_of c.in-Some.matches.now)) c.in-Ok.ensures.app c.in-Ok-try_get_matches_from.ensures.matches c.in-Some.ensures.name
    c.in-Some.ensures.rows in
    let is : c.in-Some.name.now ≡ once_word = search rules in
    IfOk-weaker c.once_of.result _ _ (λ w h. given_once _ arguments _ _ w named is h) c.once_of.ensures.read

pub returns-then-eq-clause-parsed : goal.returns-then-eq-clause-parsed
returns-then-eq-clause-parsed c =
    let arguments = map string_bytes c.args.arguments.now in
    IfOk-weaker c.once_of.result _ _
    (λ w h. faults c.in-Ok.command arguments (λ k. k ≡ []) c.in-Ok.ensures.app c.in-Ok-try_get_matches_from.ensures.kinds)
    c.once_of.ensures.read

pub returns-then-eq-clause-fault : goal.returns-then-eq-clause-fault
returns-then-eq-clause-fault c =
    let arguments = map string_bytes c.args.arguments.now in
    let named = met c.in-Ok.command arguments c.in-Ok-try_get_matches_from.matches c.in-Some.name.now
    (rows_of (found_of c.in-Some.matches.now)) c.in-Ok.ensures.app c.in-Ok-try_get_matches_from.ensures.matches c.in-Some.ensures.name
    c.in-Some.ensures.rows in
    let parsed = faults c.in-Ok.command arguments (λ k. k ≡ []) c.in-Ok.ensures.app c.in-Ok-try_get_matches_from.ensures.kinds in
    let is : c.in-Some.name.now ≡ once_word = search rules in
    IfErr-weaker c.once_of.result _ _ (λ f h. flawed_once _ arguments _ _ f parsed named is h) c.once_of.ensures.fault

pub returns-in_default-of-clause-fault : goal.returns-in_default-of-clause-fault
returns-in_default-of-clause-fault c =
    let arguments = map string_bytes c.args.arguments.now in
    let named = met c.in-Ok.command arguments c.in-Ok-try_get_matches_from.matches c.in-Some.name.now
    (rows_of (found_of c.in-Some.matches.now)) c.in-Ok.ensures.app c.in-Ok-try_get_matches_from.ensures.matches c.in-Some.ensures.name
    c.in-Some.ensures.rows in (
      faults c.in-Ok.command arguments (λ k. k ≡ []) c.in-Ok.ensures.app c.in-Ok-try_get_matches_from.ensures.kinds,
      inr (unnamed arguments _ _ named c.in_default-of.ensures.none),
    )

pub returns-clause-ok : goal.returns-clause-ok
returns-clause-ok c =
    let arguments = map string_bytes c.args.arguments.now in
    let named = met c.in-Ok.command arguments c.in-Ok-try_get_matches_from.matches c.in-Some.name.now
    (rows_of (found_of c.in-Some.matches.now)) c.in-Ok.ensures.app c.in-Ok-try_get_matches_from.ensures.matches c.in-Some.ensures.name
    c.in-Some.ensures.rows in
    IfOk-weaker c.journal_of.result _ _ (λ w h. given _ arguments _ _ _ w named c.in-Some-of.ensures.found h) c.journal_of.ensures.read

pub returns-clause-parsed : goal.returns-clause-parsed
returns-clause-parsed c =
    let arguments = map string_bytes c.args.arguments.now in
    IfOk-weaker c.journal_of.result _ _
    (λ w h. faults c.in-Ok.command arguments (λ k. k ≡ []) c.in-Ok.ensures.app c.in-Ok-try_get_matches_from.ensures.kinds)
    c.journal_of.ensures.read

pub returns-clause-fault : goal.returns-clause-fault
returns-clause-fault c =
    let arguments = map string_bytes c.args.arguments.now in
    let named = met c.in-Ok.command arguments c.in-Ok-try_get_matches_from.matches c.in-Some.name.now
    (rows_of (found_of c.in-Some.matches.now)) c.in-Ok.ensures.app c.in-Ok-try_get_matches_from.ensures.matches c.in-Some.ensures.name
    c.in-Some.ensures.rows in
    let parsed = faults c.in-Ok.command arguments (λ k. k ≡ []) c.in-Ok.ensures.app c.in-Ok-try_get_matches_from.ensures.kinds in
    IfErr-weaker c.journal_of.result _ _ (λ f h. flawed _ arguments _ _ _ f parsed named c.in-Some-of.ensures.found h)
    c.journal_of.ensures.fault
