-- A resource's part of calls, computed: of two resources, in a batch, in questions and turns, and with a tidy.
use Rattle.std.proofs.Common.{◌≡◌, ℕ, ◌≤◌, List, [], ◌∷◌, refl, arith}
use Rattle.std.specs.Prelude.{codes}
use Rattle.ocf_types.specs.declared.command.CommandOf.TheVariants as command
use Rattle.ocf_types.specs.declared.command.Question.TheVariants as question
use Rattle.ocf_types.specs.declared.command.RequestOf.TheVariants as asked
use Rattle.ocf_model.specs.declared.reply.ReplyOf.TheVariants as reply
use Rattle.ocf_model.specs.declared.reply.TidyEnd.TheVariants as tidy
use Rattle.ocf_model.specs.declared.reply.TurnEnd.TheVariants.{Closed, Done}
use Rattle.executor.specs.Exchanges.{Exchange, Finished, Batch, Tidied, Took}
use Rattle.executor_laws.specs.Projections.{AreRising, IsAnswered, part}
use Rattle.executor.specs.declared.session.InputOf.TheVariants as input
use Rattle.executor_laws.proofs.History.Examples.{r1}

abbrev r2 : List ℕ
r2 = codes "r2"

-- a batch of commands that forget, at this moment
abbrev both_forgotten : ℕ → Exchange
both_forgotten now = Batch now (command.Forget r1 ∷ command.Forget r2 ∷ []) (reply.Done ∷ reply.Done ∷ [])

abbrev listed : Exchange
listed = Took (input.Request 4 (asked.Question question.List)) (reply.List [])

taken : part r1 (both_forgotten 3 ∷ listed ∷ Tidied tidy.Done ∷ Finished 5 Done ∷ [])
    ≡ Took (input.Request 3 (asked.Command (command.Forget r1))) reply.Done ∷ Finished 5 Done ∷ []
taken = refl

-- moments that go back, and a turn that a closed executor did not make, do not meet the law's premises
back : AreRising 0 (Finished 5 Done ∷ Tidied tidy.Done ∷ both_forgotten 3 ∷ []) → ⊥
back h = let less : 5 ≤ 3 = h.1.1.0 in omega (arith, less)

closed : IsAnswered (Finished 5 Closed) → ⊥
closed is = cc
