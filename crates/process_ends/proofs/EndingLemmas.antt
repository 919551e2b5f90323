-- What stays true while what was given up is ended.
use Rattle.std.specs.Prelude.{◌≡◌, ◌⊎◌, ℕ, Bool, true, false, List, [], ◌∷◌, ◌++◌, Option, Some, None, Result, Ok, Err, All}
use Rattle.std.specs.declared.io.Error.{Error}
use Rattle.std.specs.declared.process.ExitStatus.{ExitStatus}
use Rattle.std.proofs.Common.{ap, append-nil, append_assoc, inl, inr, refl, subst, sym, ◌∙◌}
use Rattle.std.proofs.lemmas.List.Elements.{Contains-append_left, Contains-append_right}
use Rattle.agent_system.specs.Sights.{GivenUp}
use Rattle.agent_system.specs.SystemView.{SystemView, after_give_up, after_keep, after_list, after_look, after_members, after_reap, after_release, after_send, answer_of}
use Rattle.agent_system.specs.declared.agent_process.AgentProcess.{AgentProcess}
use Rattle.agent_system.specs.declared.signal.Signal.{Signal}
use Rattle.agent_system.specs.declared.signal.Target.{Target}
use Rattle.agent_system.specs.declared.signal.Target.TheVariants as target
use Rattle.process_ends.specs.declared.given_up.GivenUpAction.{GivenUpAction}
use Rattle.proc_files.specs.declared.process.Process.{Process}
use Rattle.process_ends.specs.Endings.{AreSameActions, Begins, HasKill, HasKilled, HasLook, IsKilled, IsKilledBeside, IsNoGroup, IsOneKilled, IsSameAction, IsSeenGone, OnlyEnds, OnlySignals}

-- a list begins with itself
pub begins_refl : {X : Type 0} (xs : List X) → Begins xs xs
begins_refl xs = ([], sym (append-nil xs))

pub begins_trans : {X : Type 0} (xs ys zs : List X) → Begins ys xs → Begins zs ys → Begins zs xs
begins_trans xs ys zs a b = (a.0 ++ b.0, b.1 ∙ ap (λ l. l ++ b.0) a.1 ∙ append_assoc xs a.0 b.0)

-- nothing was asked for
pub ends_refl : (v : SystemView) → OnlyEnds v v
ends_refl v = record {
  live = refl;
  own = refl;
  spawned = refl;
  asked = refl;
  let_run = refl;
  polled = refl;
  found = refl;
  sent = begins_refl v.sent;
  looked = begins_refl v.looked;
}

pub ends_trans : {u v w : SystemView} → OnlyEnds u v → OnlyEnds v w → OnlyEnds u w
ends_trans {u} {v} {w} a b = record {
  live = b.live ∙ a.live;
  own = b.own ∙ a.own;
  spawned = b.spawned ∙ a.spawned;
  asked = b.asked ∙ a.asked;
  let_run = b.let_run ∙ a.let_run;
  polled = b.polled ∙ a.polled;
  found = b.found ∙ a.found;
  sent = begins_trans u.sent v.sent w.sent a.sent b.sent;
  looked = begins_trans u.looked v.looked w.looked a.looked b.looked;
}

pub signals_refl : (v : SystemView) → OnlySignals v v
signals_refl v = record { ends = ends_refl v; given_up = refl; table = refl }

pub signals_trans : {u v w : SystemView} → OnlySignals u v → OnlySignals v w → OnlySignals u w
signals_trans a b = record { ends = ends_trans a.ends b.ends; given_up = b.given_up ∙ a.given_up; table = b.table ∙ a.table }

-- a look at a number is no more than that
pub signals_look : (v w : SystemView) (pid : ℕ) (r : Result (Option Process) Error) → w ≡ after_look v pid r → OnlySignals v w
signals_look v w pid r e = subst (OnlySignals v) (sym e) (record {
  ends = record {
    live = refl;
    own = refl;
    spawned = refl;
    asked = refl;
    let_run = refl;
    polled = refl;
    found = refl;
    sent = begins_refl v.sent;
    looked = (record { pid = pid; answer = answer_of r } ∷ [], refl);
  };
  given_up = refl;
  table = refl;
})

-- a signal is no more than that
pub signals_send : (v w : SystemView) (s : Signal) (to : Target) → w ≡ after_send v s to → OnlySignals v w
signals_send v w s to e = subst (OnlySignals v) (sym e) (record {
  ends = record {
    live = refl;
    own = refl;
    spawned = refl;
    asked = refl;
    let_run = refl;
    polled = refl;
    found = refl;
    sent = (record { signal = s; target = to } ∷ [], refl);
    looked = begins_refl v.looked;
  };
  given_up = refl;
  table = refl;
})

-- a reaping is no more than an end
pub ends_reap : (v w : SystemView) (at : ℕ) (r : Result (Option ExitStatus) Error) → w ≡ after_reap v at r → OnlyEnds v w
ends_reap v w at r e = subst (OnlyEnds v) (sym e) (of r)
  where
    of : (r : Result (Option ExitStatus) Error) → OnlyEnds v (after_reap v at r)
    of (Ok (Some status)) = record {
      live = refl;
      own = refl;
      spawned = refl;
      asked = refl;
      let_run = refl;
      polled = refl;
      found = refl;
      sent = begins_refl v.sent;
      looked = begins_refl v.looked;
    }
    of (Ok None) = ends_refl v
    of (Err error) = ends_refl v

-- the same of a listing, an answer about a group, and what is kept
pub ends_list : (v w : SystemView) (r : Option (List Process)) → w ≡ after_list v r → OnlyEnds v w
ends_list v w r e = subst (OnlyEnds v) (sym e) (of r)
  where
    of : (r : Option (List Process)) → OnlyEnds v (after_list v r)
    of (Some table) = record {
      live = refl;
      own = refl;
      spawned = refl;
      asked = refl;
      let_run = refl;
      polled = refl;
      found = refl;
      sent = begins_refl v.sent;
      looked = begins_refl v.looked;
    }
    of None = ends_refl v

pub ends_members : (v w : SystemView) (group : ℕ) (r : Option Bool) → w ≡ after_members v group r → OnlyEnds v w
ends_members v w group r e = subst (OnlyEnds v) (sym e) (of r)
  where
    of : (r : Option Bool) → OnlyEnds v (after_members v group r)
    of (Some false) = record {
      live = refl;
      own = refl;
      spawned = refl;
      asked = refl;
      let_run = refl;
      polled = refl;
      found = refl;
      sent = begins_refl v.sent;
      looked = begins_refl v.looked;
    }
    of (Some true) = ends_refl v
    of None = ends_refl v

pub ends_keep : (v w : SystemView) (at : ℕ) (found : List Process) → w ≡ after_keep v at found → OnlyEnds v w
ends_keep v w at found e = subst (OnlyEnds v) (sym e) (record {
  live = refl;
  own = refl;
  spawned = refl;
  asked = refl;
  let_run = refl;
  polled = refl;
  found = refl;
  sent = begins_refl v.sent;
  looked = begins_refl v.looked;
})

pub ends_release : (v w : SystemView) (at : ℕ) → w ≡ after_release v at → OnlyEnds v w
ends_release v w at e = subst (OnlyEnds v) (sym e) (record {
  live = refl;
  own = refl;
  spawned = refl;
  asked = refl;
  let_run = refl;
  polled = refl;
  found = refl;
  sent = begins_refl v.sent;
  looked = begins_refl v.looked;
})

-- what was requested between two views was also between an earlier or a later one and the other
pub kill_later : (u v w : SystemView) (to : Target) → OnlyEnds v w → HasKill u v to → HasKill u w to
kill_later u v w to ends (sent, is, has) = (
  sent ++ ends.sent.0,
  ends.sent.1 ∙ ap (λ l. l ++ ends.sent.0) is ∙ append_assoc u.sent sent ends.sent.0,
  Contains-append_left sent ends.sent.0 _ has,
)

pub kill_earlier : (u v w : SystemView) (to : Target) → OnlyEnds u v → HasKill v w to → HasKill u w to
kill_earlier u v w to ends (sent, is, has) = (
  ends.sent.0 ++ sent,
  is ∙ ap (λ l. l ++ sent) ends.sent.1 ∙ append_assoc u.sent ends.sent.0 sent,
  Contains-append_right ends.sent.0 sent _ has,
)

pub look_later : (u v w : SystemView) (pid : ℕ) (answer : Option (Option Process)) → OnlyEnds v w → HasLook u v pid answer
    → HasLook u w pid answer
look_later u v w pid answer ends (looked, is, has) = (
  looked ++ ends.looked.0,
  ends.looked.1 ∙ ap (λ l. l ++ ends.looked.0) is ∙ append_assoc u.looked looked ends.looked.0,
  Contains-append_left looked ends.looked.0 _ has,
)

pub look_earlier : (u v w : SystemView) (pid : ℕ) (answer : Option (Option Process)) → OnlyEnds u v → HasLook v w pid answer
    → HasLook u w pid answer
look_earlier u v w pid answer ends (looked, is, has) = (
  ends.looked.0 ++ looked,
  is ∙ ap (λ l. l ++ looked) ends.looked.1 ∙ append_assoc u.looked ends.looked.0 looked,
  Contains-append_right ends.looked.0 looked _ has,
)

-- the same of a group that is none
pub none_later : (u v w : SystemView) (g : GivenUp) → OnlyEnds v w → IsNoGroup u v g → IsNoGroup u w g
none_later u v w g ends (inl (answer, seen, gone, other)) = inl (answer, look_later u v w g.process.pid answer ends seen, gone, other)
none_later u v w g ends (inr (own, is, same)) = inr (own, ends.own ∙ is, same)

pub none_earlier : (u v w : SystemView) (g : GivenUp) → OnlyEnds u v → IsNoGroup v w g → IsNoGroup u w g
none_earlier u v w g ends (inl (answer, seen, gone, other)) = inl (answer, look_earlier u v w g.process.pid answer ends seen, gone, other)
none_earlier u v w g ends (inr own) = inr own

-- the same of a process
pub gone_later : (u v w : SystemView) (q : Process) → OnlyEnds v w → IsSeenGone u v q → IsSeenGone u w q
gone_later u v w q ends (answer, seen, dead) = (answer, look_later u v w q.pid answer ends seen, dead)

pub gone_earlier : (u v w : SystemView) (q : Process) → OnlyEnds u v → IsSeenGone v w q → IsSeenGone u w q
gone_earlier u v w q ends (answer, seen, dead) = (answer, look_earlier u v w q.pid answer ends seen, dead)

pub one_later : (u v w : SystemView) (group : ℕ) (q : Process) → OnlyEnds v w → IsOneKilled u v group q → IsOneKilled u w group q
one_later u v w group q ends (inl sent) = inl (kill_later u v w _ ends sent)
one_later u v w group q ends (inr (inl (same, sent))) = inr (inl (same, kill_later u v w _ ends sent))
one_later u v w group q ends (inr (inr gone)) = inr (inr (gone_later u v w q ends gone))

pub one_earlier : (u v w : SystemView) (group : ℕ) (q : Process) → OnlyEnds u v → IsOneKilled v w group q → IsOneKilled u w group q
one_earlier u v w group q ends (inl sent) = inl (kill_earlier u v w _ ends sent)
one_earlier u v w group q ends (inr (inl (same, sent))) = inr (inl (same, kill_earlier u v w _ ends sent))
one_earlier u v w group q ends (inr (inr gone)) = inr (inr (gone_earlier u v w q ends gone))

pub beside_later : (u v w : SystemView) (group : ℕ) (has_group : Bool) (q : Process) → OnlyEnds v w
    → IsKilledBeside u v group has_group q → IsKilledBeside u w group has_group q
beside_later u v w group has_group q ends (inl sent) = inl (kill_later u v w _ ends sent)
beside_later u v w group has_group q ends (inr (inl same)) = inr (inl same)
beside_later u v w group has_group q ends (inr (inr gone)) = inr (inr (gone_later u v w q ends gone))

pub beside_earlier : (u v w : SystemView) (group : ℕ) (has_group : Bool) (q : Process) → OnlyEnds u v
    → IsKilledBeside v w group has_group q → IsKilledBeside u w group has_group q
beside_earlier u v w group has_group q ends (inl sent) = inl (kill_earlier u v w _ ends sent)
beside_earlier u v w group has_group q ends (inr (inl same)) = inr (inl same)
beside_earlier u v w group has_group q ends (inr (inr gone)) = inr (inr (gone_earlier u v w q ends gone))

-- the same of all that was given up
pub killed_later : (u v w : SystemView) (g : GivenUp) → OnlyEnds v w → IsKilled u v g → IsKilled u w g
killed_later u v w g ends killed = record {
  group = elim killed.group [ inl sent ↦ inl (kill_later u v w _ ends sent) | inr none ↦ inr (none_later u v w g ends none) ];
  agent = λ is_child. kill_later u v w _ ends (killed.agent is_child);
  known = λ k d within. one_later u v w g.process.pid _ ends (killed.known k d within);
}

pub killed_earlier : (u v w : SystemView) (g : GivenUp) → OnlyEnds u v → IsKilled v w g → IsKilled u w g
killed_earlier u v w g ends killed = record {
  group = elim killed.group [ inl sent ↦ inl (kill_earlier u v w _ ends sent) | inr none ↦ inr (none_earlier u v w g ends none) ];
  agent = λ is_child. kill_earlier u v w _ ends (killed.agent is_child);
  known = λ k d within. one_earlier u v w g.process.pid _ ends (killed.known k d within);
}

-- what was given up was killed, if its group was, then what is known to belong to it beside the group, and then its agent
pub killed_all : (v a b w : SystemView) (g : GivenUp) (has_group : Bool) → OnlyEnds v a → OnlyEnds a b → OnlyEnds b w
    → (has_group ≡ true → HasKill v a (target.Group g.process.pid)) → (has_group ≡ false → IsNoGroup v a g)
    → All (IsKilledBeside a b g.process.pid has_group) g.known → (g.is_child ≡ true → HasKill b w (target.Process g.process.pid))
    → IsKilled v w g
killed_all v a b w g has_group va ab bw sent none beside agent = record {
  group = of_group has_group refl;
  agent = λ is_child. kill_earlier v b w _ (ends_trans va ab) (agent is_child);
  known = λ k d within. of_one _ (beside k d within);
}
  where
    aw : OnlyEnds a w
    aw = ends_trans ab bw

    of_group : (h : Bool) → has_group ≡ h → HasKill v w (target.Group g.process.pid) ⊎ IsNoGroup v w g
    of_group true is = inl (kill_later v a w _ aw (sent is))
    of_group false is = inr (none_later v a w g aw (none is))

    of_one : (q : Process) → IsKilledBeside a b g.process.pid has_group q → IsOneKilled v w g.process.pid q
    of_one q (inl killed) = inl (kill_later v b w _ bw (kill_earlier v a b _ va killed))
    of_one q (inr (inl (same, is))) = inr (inl (same, kill_later v a w _ aw (sent is)))
    of_one q (inr (inr gone)) = inr (inr (gone_later v b w q bw (gone_earlier v a b q va gone)))

-- an action that is the same as one that is the same
pub same_trans : {T C A : Type 0} {a b d : GivenUpAction T C A} → IsSameAction a b → IsSameAction b d → IsSameAction a d
same_trans p q = record { what = q.what ∙ p.what; process = q.process ∙ p.process; due = q.due ∙ p.due }

-- the same of several
pub actions_refl : {T C A : Type 0} (actions : List (GivenUpAction T C A)) → AreSameActions actions actions
actions_refl actions = record { whats = refl; processes = refl; dues = refl }

pub actions_trans : {T C A : Type 0} {xs ys zs : List (GivenUpAction T C A)} → AreSameActions xs ys → AreSameActions ys zs
    → AreSameActions xs zs
actions_trans p q = record { whats = q.whats ∙ p.whats; processes = q.processes ∙ p.processes; dues = q.dues ∙ p.dues }

-- what was killed after it was given up
pub killed_given_up : (v a w : SystemView) (p : AgentProcess) (g : GivenUp) → a ≡ after_give_up v p → IsKilled a w g → IsKilled v w g
killed_given_up v a w p g is killed = of (subst (λ x. IsKilled x w g) is killed)
  where
    of : IsKilled (after_give_up v p) w g → IsKilled v w g
    of k = record { group = k.group; agent = k.agent; known = k.known }

-- an agent that was given up and killed, whatever ended after that
pub has_killed : (v a b w : SystemView) (p q : AgentProcess) (g : GivenUp) → a ≡ after_give_up v p → IsKilled a b g → OnlyEnds b w
    → g.process ≡ q → q ≡ p → HasKilled v w p
has_killed v a b w p q g is killed ends same process =
    (g, same ∙ process, killed_later v b w g ends (killed_given_up v a b p g is killed))
