-- A batch of commands at one moment: the machine of one resource takes those that are about it.
use Rattle.std.proofs.Common.{◌≡◌, ◌⊎◌, inl, inr, ℕ, ◌≤◌, Bool, true, false, true≢false, cond, Some, List, [], ◌∷◌, ◌++◌, Result, Ok, Err, refl, sym, ap, subst, ◌∙◌}
use Rattle.std.specs.Option.{option_map_or}
use Rattle.std.specs.List.{AllByRecursion}
use Rattle.std.specs.Str.{bytes_eq}
use Rattle.std.specs.Prelude.{⊤}
use Rattle.std.proofs.lemmas.List.Elements.{filter-append}
use Rattle.std.proofs.lemmas.Slice.Eq.{bytes_eq-Decides}
use Rattle.ocf_model.specs.Answer.{event_of}
use Rattle.ocf_types.specs.Kinds.{Change, Command, Event}
use Rattle.ocf_model.specs.Answer.{Reply}
use Rattle.ocf_types.specs.Lemmas.{each_append, each_weaken}
use Rattle.ocf_model.specs.State.{State, after_all, named, resource_at}
use Rattle.ocf_types.specs.declared.command.RequestOf.TheVariants as asked
use Rattle.ocf_types.specs.declared.event.Change.TheVariants as change
use Rattle.ocf_types.specs.declared.event.Step.TheVariants as step
use Rattle.ocf_model.specs.declared.refusal.Refusal.{Refusal}
use Rattle.ocf_model.specs.declared.refusal.Refusal.TheVariants.{Disk}
use Rattle.ocf_model.specs.declared.reply.ReplyOf.TheVariants.{Refused}
use Rattle.child_model.specs.declared.answer.Entry.{Entry}
use Rattle.exec_ledger.specs.Pieces.{Effects, batch_effects}
use Rattle.exec_ledger.specs.Replies.{KeepsRunning, acknowledged}
use Rattle.exec_ledger.specs.Together.{Answered, disk_each, failed, is_no_refusal}
use Rattle.executor.specs.Exchanges.{Exchange, Batch, Took}
use Rattle.executor_laws.specs.Projections.{IsAnswered, IsPlain, commanded, events_of, projection_of}
use Rattle.executor_laws.specs.Isolated.{Alone, Follows, Isolated, IsolatedCommand, IsolatedTakes, cut, isolated_after_all}
use Rattle.executor.specs.declared.session.InputOf.TheVariants as input
use Rattle.executor_laws.proofs.Isolation.Changes.{AreFresh, IsolatedAs, holds_all}
use Rattle.executor_laws.proofs.Isolation.Lists.{filter_alike}
use Rattle.executor_laws.proofs.Isolation.Replies.{isolated_command}
use Rattle.executor_laws.proofs.Isolation.Requests.{AllKeep, Commands, Does, Seen, added, seen_after}
use Rattle.executor_laws.proofs.Isolation.CommandBatches.{names_it}
use Rattle.executor_laws.proofs.Isolation.Turns.{AllBeginOwn, BeginsOwn, fresh-append}
use Rattle.ocf_model.specs.StateLemmas.{after_all-append}

-- the machine takes a call that concerns it; one that does not leaves no event of it and no entry
abbrev pub IsStep : Bool → List ℕ → Isolated → Exchange → List Entry → List Event → Type 0
IsStep true id y e entries events = IsolatedTakes id y e entries events
IsStep false id y e entries events = (entries ≡ []) × (events ≡ [])

-- a call that concerns it has a plain answer, and so have the later ones
pub plain_first : (b : Bool) (e : Exchange) (rest : List Exchange) → AllByRecursion IsAnswered (cond b (e ∷ rest) rest)
    → (b ≡ true → IsAnswered e) × AllByRecursion IsAnswered rest
plain_first true e rest h = (λ own. h.0, h.1)
plain_first false e rest h = (λ own. absurd (true≢false (sym own)), h)

-- a step, and a behaviour of the machine from then on
pub step_on : (b : Bool) (id : List ℕ) (y : Isolated) (e : Exchange) (rest : List Exchange) (es fs : List Entry)
    (first later : List Event) → IsStep b id y e es first → Alone id (isolated_after_all y first) rest fs later
    → Alone id y (cond b (e ∷ rest) rest) (es ++ fs) (first ++ later)
step_on true id y e rest es fs first later step following = (es, fs, first, later, refl, refl, step, following)
step_on false id y e rest es fs first later step following =
    subst (λ (l : List Entry). Alone id y rest (l ++ fs) (first ++ later)) (sym step.0)
    (subst (λ (l : List Event). Alone id y rest fs (l ++ later)) (sym step.1)
    (subst (λ (l : List Event). Alone id (isolated_after_all y l) rest fs later) step.1 following))

-- the events of a command name its resource, or not
pub named_so : (b : Bool) (id : List ℕ) (c : Command) (es : List Event) → bytes_eq id (commanded c) ≡ b
    → AllByRecursion (λ e. named e.change ≡ Some (commanded c)) es → events_of id es ≡ cond b es []
named_so b id c es about names = filter_alike (names_it id) b es
    (each_weaken (λ e. named e.change ≡ Some (commanded c)) (λ e. names_it id e ≡ b)
    (λ e name. ap (λ o. option_map_or (bytes_eq id) o false) name ∙ about) es names)

-- the machine takes a command that is about it
pub own_command : (b : Bool) (id : List ℕ) (y : Isolated) (now : ℕ) (c : Command) (old new : Seen) (r : Reply) (effects : Effects)
    → bytes_eq id (commanded c) ≡ b → old.state.clock ≤ cut now
    → (b ≡ true → IsPlain r) → IsolatedAs y old.state old.due id → Commands now c old new r effects
    → IsStep b id y (Took (input.Request now (asked.Command c)) r) [] (events_of id effects.events)
own_command true id y now c old new r effects about clock plain holds did =
    let is : id ≡ commanded c = (bytes_eq-Decides id (commanded c)).0 about in (
      refl,
      subst (λ (l : List Event). IsolatedCommand (cut now) y c r l) (sym (named_so true id c effects.events about did.names))
          (isolated_command y old.state now c r effects.events (holds.resource ∙ ap (resource_at old.state) is) holds.calls clock
          (plain refl) (did.follows (plain refl))),
    )
own_command false id y now c old new r effects about clock plain holds did =
    (refl, named_so false id c effects.events about did.names)

-- commands begin nothing
pub keep_own : (mine : ℕ → Bool) (id : List ℕ) (es : List Event) → AllKeep es → AllBeginOwn mine id es
keep_own mine id es keep = each_weaken (λ e. KeepsRunning e.change) (λ e. BeginsOwn mine id e.change) (λ e kept. by e.change kept) es keep
  where
    by : (c : Change) → KeepsRunning c → BeginsOwn mine id c
    by (change.Step other (step.Begin call run)) kept = absurd kept
    by (change.Step other _) kept = tt
    by _ kept = tt

-- each reply is the one that was meant, or a refusal for the disk
abbrev pub AreReportedOf : List Reply → List Reply → Type 0
AreReportedOf [] [] = ⊤
AreReportedOf (r ∷ rs) (m ∷ ms) = ((r ≡ m) ⊎ (r ≡ Refused Disk)) × AreReportedOf rs ms
AreReportedOf [] (m ∷ ms) = ⊥
AreReportedOf (r ∷ rs) [] = ⊥

pub sent_so : (ms : List Reply) → AreReportedOf ms ms
sent_so [] = tt
sent_so (m ∷ ms) = (inl refl, sent_so ms)

abbrev pub AllRefused : List Reply → Type 0
AllRefused rs = AllByRecursion (λ r. is_no_refusal r ≡ false) rs

-- each reply to a batch whose record failed is a refusal
disk_reported : (ms : List Reply) → AreReportedOf (disk_each ms) ms × AllRefused (disk_each ms)
disk_reported [] = (tt, tt)
disk_reported (m ∷ ms) = let rest = disk_reported ms in ((inr refl, rest.0), (refl, rest.1))

pub failed_reported : (ms : List Reply) → AreReportedOf (failed ms) ms × AllRefused (failed ms)
failed_reported [] = (tt, tt)
failed_reported (Refused refusal ∷ ms) = let rest = failed_reported ms in ((inl refl, rest.0), (refl, rest.1))
failed_reported (m ∷ ms) = let rest = disk_reported ms in ((inr refl, rest.0), (refl, rest.1))

-- an acknowledgement is not a refusal
kept_ack : (c : Change) → is_no_refusal (acknowledged c) ≡ true
kept_ack (change.Step id (step.Exec o)) = refl
kept_ack (change.Step id (step.Recur m)) = refl
kept_ack _ = refl

-- the effects of a command, by its reply
reported_commands : (now : ℕ) (c : Command) (old new : Seen) (r m : Reply) (effects : Effects) → (r ≡ m) ⊎ (r ≡ Refused Disk)
    → Commands now c old new m effects → Commands now c old new r effects
reported_commands now c old new r m effects (inl same) did = subst (λ (q : Reply). Commands now c old new q effects) (sym same) did
reported_commands now c old new r m effects (inr disk) did = record {
  no_entries = did.no_entries;
  names = did.names;
  does = did.does;
  keep = did.keep;
  follows = λ plain. absurd (subst IsPlain disk plain);
}

-- a command that was refused has no event
refused_none : (found : Result Event Refusal) (r : Reply) (es : List Event) → is_no_refusal r ≡ false → Follows found r es → es ≡ []
refused_none (Err why) r es refused follows = follows.1
refused_none (Ok e) r es refused follows =
    absurd (true≢false (sym (kept_ack e.change) ∙ ap is_no_refusal (sym follows.0) ∙ refused))

module _ (now : ℕ) (id : List ℕ) where
  -- the state after the commands of a batch, even if its record failed
  pub batch_does : (x : Seen) (cs : List Command) (ms : List Reply) (es : List Event) → x.state.clock ≤ cut now
      → Answered now x.state cs ms es → Does (cut now) x (seen_after x es) es × AllKeep es
  batch_does x [] [] es clock is = (
    record {
      state = refl;
      due = refl;
      next = subst (λ (l : List Event). AreFresh x.state l) (sym is) tt;
      clock = subst (λ (l : List Event). (after_all x.state l).clock ≤ cut now) (sym is) clock;
    },
    subst AllKeep (sym is) tt,
  )
  batch_does x [] (m ∷ ms) es clock bad = absurd bad
  batch_does x (c ∷ cs) [] es clock bad = absurd bad
  batch_does x (c ∷ cs) (m ∷ ms) es clock (first, later, adds, rest, all) =
      let did = added now c x m first clock adds in
      let following = batch_does (seen_after x first) cs ms later did.does.clock rest in
      subst (λ (l : List Event). Does (cut now) x (seen_after x l) l × AllKeep l) (sym all) (
        record {
          state = refl;
          due = refl;
          next = fresh-append x.state first later did.does.next following.0.next;
          clock = subst (λ (s : State). s.clock ≤ cut now) (sym (after_all-append x.state first later)) following.0.clock;
        },
        each_append (λ e. KeepsRunning e.change) first later did.keep following.1,
      )

  -- the machine takes its commands of a batch; where each reply is a refusal none of them had an event
  pub batch_alone : (y : Isolated) (x : Seen) (cs : List Command) (rs ms : List Reply) (es : List Event) → x.state.clock ≤ cut now
      → AllByRecursion IsAnswered (projection_of id (Batch now cs rs)) → IsolatedAs y x.state x.due id → Answered now x.state cs ms es → AreReportedOf rs ms
      → Alone id y (projection_of id (Batch now cs rs)) [] (events_of id es) × (AllRefused rs → events_of id es ≡ [])
  batch_alone y x [] [] [] es clock plain holds is reported = ((refl, ap (events_of id) is), λ refused. ap (events_of id) is)
  batch_alone y x [] [] (m ∷ ms) es clock plain holds bad reported = absurd bad
  batch_alone y x [] (r ∷ rs) [] es clock plain holds is bad = absurd bad
  batch_alone y x [] (r ∷ rs) (m ∷ ms) es clock plain holds bad reported = absurd bad
  batch_alone y x (c ∷ cs) [] [] es clock plain holds bad reported = absurd bad
  batch_alone y x (c ∷ cs) [] (m ∷ ms) es clock plain holds is bad = absurd bad
  batch_alone y x (c ∷ cs) (r ∷ rs) [] es clock plain holds bad reported = absurd bad
  batch_alone y x (c ∷ cs) (r ∷ rs) (m ∷ ms) es clock plain holds (first, later, adds, rest, all) reported =
      let b = bytes_eq id (commanded c) in
      let e = Took (input.Request now (asked.Command c)) r in
      let parts = projection_of id (Batch now cs rs) in
      let plain2 = plain_first b e parts plain in
      let did = reported_commands now c x (seen_after x first) r m (batch_effects true first) reported.0 (added now c x m first clock adds) in
      let following = batch_alone (isolated_after_all y (events_of id first)) (seen_after x first) cs rs ms later did.does.clock plain2.1
      (holds_all y x.state x.due id first holds did.does.next) rest reported.1 in
      let step = own_command b id y now c x (seen_after x first) r (batch_effects true first) refl clock plain2.0 holds did in
      let split = ap (events_of id) all ∙ filter-append (names_it id) first later in (
        subst (λ (l : List Event). Alone id y (cond b (e ∷ parts) parts) [] l) (sym split)
            (step_on b id y e parts [] [] (events_of id first) (events_of id later) step following.0),
        λ refused. split ∙ (λ i. one b refl plain2.0 did refused.0 i ++ following.1 refused.1 i),
      )
    where
      one : (b : Bool) → bytes_eq id (commanded c) ≡ b → (b ≡ true → IsPlain r)
          → Commands now c x (seen_after x first) r (batch_effects true first) → is_no_refusal r ≡ false → events_of id first ≡ []
      one true about plain did refused = ap (events_of id) (refused_none (event_of x.state now c) r first refused (did.follows (plain refl)))
      one false about plain did refused = named_so false id c first about did.names
