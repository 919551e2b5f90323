-- What a history of calls says of this process, and that a spawn may follow it.
use Rattle.std.proofs.Common.{◌≡◌, ℕ, true, false, List, refl, subst, sym, ◌∙◌}
use Rattle.std.specs.Prelude.{IfOk, IfSome, Option, Some, None, Result, Ok, Err}
use Rattle.std.specs.declared.io.Error.{Error}
use Rattle.agent_system.specs.Histories.{IsAsked, IsHistory, IsNext, Reaches, adopt, ask, asked, give_up, keep, kill, let_run, list, look, members, more, none, opened, poll, reap, release, send, spawn}
use Rattle.agent_system.specs.May.{IsFree}
use Rattle.agent_system.specs.Sights.{Sights}
use Rattle.agent_system.specs.SystemView.{SystemView, started, unasked}
use Rattle.proc_files.specs.declared.process.Process.{Process}
use Rattle.host_system.specs.SystemAgents.{child_process}
use Rattle.host_system.specs.declared.system_agents.AgentChild.{AgentChild}

own_asked : (v w : SystemView) → IsAsked v w → w.sights.own ≡ v.sights.own
own_asked v _ (let_run p (Ok x) lives) = refl
own_asked v _ (let_run p (Err error) lives) = refl
own_asked v _ (kill at p its) = refl
own_asked v _ (send signal to may) = refl
own_asked v _ (list None) = refl
own_asked v _ (list (Some table)) = refl
own_asked v _ (look pid answer) = refl
own_asked v _ (members group None) = refl
own_asked v _ (members group (Some true)) = refl
own_asked v _ (members group (Some false)) = refl
own_asked v _ (opened None) = refl
own_asked v _ (opened (Some entries)) = refl

own_next : (v w : SystemView) → IsNext v w → w.sights.own ≡ v.sights.own
own_next v _ (asked w is) = own_asked v w is
own_next v _ (spawn call leader None free) = refl
own_next v _ (spawn call leader (Some p) free) = refl
own_next v _ (ask call leader None) = refl
own_next v _ (ask call leader (Some p)) = refl
own_next v _ (poll p (Ok None) lives) = refl
own_next v _ (poll p (Ok (Some status)) lives) = refl
own_next v _ (poll p (Err error) lives) = refl
own_next v _ (give_up p lives) = refl
own_next v _ (adopt e found) = refl
own_next v _ (reap at p (Ok None) its) = refl
own_next v _ (reap at p (Ok (Some status)) its) = refl
own_next v _ (reap at p (Err error) its) = refl
own_next v _ (keep at found may) = refl
own_next v _ (release at over) = refl

-- no call changes which process this is
pub own_is : (own : Option Process) (v : SystemView) → Reaches (unasked own) v → own ≡ v.sights.own
own_is own _ none = refl
own_is own _ (more m w reached next) = own_is own m reached ∙ sym (own_next m w next)

pub is_history : (own : Option Process) (v : SystemView) → Reaches (unasked own) v → IsHistory v
is_history own v reached = subst (λ own. Reaches (unasked own) v) (own_is own v reached) reached

-- the resource of what was spawned was free
pub was_free : (s : Sights) (id : List ℕ) (child : Result AgentChild Error) → IsFree s id → IfOk child (λ child. child.process.id ≡ id)
    → IfSome (started child_process child) (λ p. IsFree s p.id)
was_free s id (Ok child) free is = subst (IsFree s) (sym is) free
was_free s id (Err error) free is = tt

-- a call follows on a history
pub followed : (own : Option Process) (v w u : SystemView) → Reaches (unasked own) v → u ≡ w → IsNext v w → Reaches (unasked own) u
followed own v w u reached is next = subst (Reaches (unasked own)) (sym is) (more v w reached next)
