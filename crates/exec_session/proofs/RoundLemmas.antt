-- A command that waits for those after it, and the answers to all that wait.
use Rattle.std.proofs.Common.{◌≡◌, Bool, true, List, [], ◌∷◌, ◌++◌, length, map, take, Option, Some, None, Result, Ok, Err, IfOk, OnOk, refl, sym, ap, subst, ◌∙◌, arith, take_all}
use Rattle.std.proofs.lemmas.List.{append-nil, map-append}
use Rattle.ocf_types.specs.Kinds.{Command}
use Rattle.exec_lines.specs.Buffer.{line_bytes}
use Rattle.exec_lines.specs.Lines.{line_room}
use Rattle.session_machine.specs.After.{after}
use Rattle.session_machine.specs.Behaviours.{Trace, then}
use Rattle.session_machine.specs.Events.{Event, Peeked}
use Rattle.session_machine.specs.Session.{Lines, OwnTurn, SessionState, lines_in, of_command}
use Rattle.session_machine.specs.declared.rules.Mode.TheVariants.{Run}
use Rattle.session_machine.proofs.AfterLemmas.{rules_stay, then_longer}
use Rattle.exec_session.specs.Gathered.{waiting}
use Rattle.exec_session.specs.Held.{IsHeldMeta, held_lines}
use Rattle.exec_session.specs.Rounds.{Goes, HasFound, TakesOn}
use Rattle.exec_session.specs.Standing.{Answers, BeginsWith, Continues, Emptied, Flows, IsBetween, KeepsTurn, Lasts, Standing}
use Rattle.exec_session.specs.declared.flow.Flow.{Flow}
use Rattle.exec_session.specs.declared.flow.Flow.TheVariants as flow
use Rattle.exec_session.specs.declared.held.Held.{Held}

-- what lasts, step by step
module _ {S : Type 0} where
  pub lasts_both : (p m q : Trace S) → Lasts p m → Lasts m q → Lasts p q
  lasts_both p m q one two = record {
    rules = two.rules ∙ one.rules;
    first = two.first ∙ one.first;
    grows = omega (arith, one.grows, two.grows);
  }

  pub lasts_then : (p q : Trace S) (e : Event S) → q ≡ then p e → Lasts p q
  lasts_then p q e same = subst (λ (t : Trace S). Lasts p t) (sym same) (record {
    rules = rules_stay p.state e;
    first = refl;
    grows = omega (arith, then_longer p e);
  })

-- a session goes on like this, or is over, or broke off
pub goes_so : {S E : Type 0} (on : Standing S → Standing S → Type 0) (old mid new : Standing S) (r : Result Flow E) → Lasts old.trace mid.trace
    → Continues mid.trace new.trace r → IfOk r (λ f. Flows f new.trace.state) → IfOk r (λ f. f ≡ flow.GoesOn → on old new) → Goes on old new r
goes_so {S} {E} on old mid new r lasts continues flows goes = record {
  continues = record { lasts = lasts_both old.trace mid.trace new.trace lasts continues.lasts; broke = continues.broke };
  goes_on = λ is. subst (λ (q : Result Flow E). IfOk q (λ f. f ≡ flow.GoesOn → on old new)) is goes refl;
  over = λ is. subst (λ (q : Result Flow E). IfOk q (λ f. Flows f new.trace.state)) is flows;
}

-- own turns that stay
pub keeps_same : (p q : OwnTurn) → q ≡ p → KeepsTurn p q
keeps_same p q same = subst (λ (own : OwnTurn). KeepsTurn p own) (sym same) (record {
  now = refl;
  since = refl;
  end = refl;
  reads = refl;
  polls = refl;
  looked = λ is. is;
  woken = λ is. is;
})

pub keeps_both : (p m q : OwnTurn) → KeepsTurn p m → KeepsTurn m q → KeepsTurn p q
keeps_both p m q one two = record {
  now = two.now ∙ one.now;
  since = two.since ∙ one.since;
  end = two.end ∙ one.end;
  reads = two.reads ∙ one.reads;
  polls = two.polls ∙ one.polls;
  looked = λ is. two.looked (one.looked is);
  woken = λ is. two.woken (one.woken is);
}

pub none_held : (h : Option Held) → h ≡ None → held_lines h ≡ []
none_held h is = ap held_lines is

-- what the commands that wait, and the end of the input, gave
module _ {S E : Type 0} (old mid new : Standing S) where
  pub waiting_goes : (on : Standing S → Standing S → Type 0) (rest : Lines) (r : Result Flow E) → Lasts old.trace mid.trace
      → Continues mid.trace new.trace r → OnOk r (Emptied mid new) → IfOk r (λ f. Flows f new.trace.state)
      → IfOk r (λ f. f ≡ flow.GoesOn → Answers mid.trace new.trace rest)
      → (Emptied mid new → Flows flow.GoesOn new.trace.state → Answers mid.trace new.trace rest → on old new) → Goes on old new r
  waiting_goes on rest (Ok flow.GoesOn) lasts continues emptied flows answers to =
      goes_so on old mid new (Ok flow.GoesOn) lasts continues flows (λ is. to emptied flows (answers refl))
  waiting_goes on rest (Ok flow.Over) lasts continues emptied flows answers to = goes_so on old mid new (Ok flow.Over) lasts continues flows (λ is. absurd cc)
  waiting_goes on rest (Err e) lasts continues emptied flows answers to = goes_so on old mid new (Err e) lasts continues flows tt

-- with no command that waits it is between two lines
pub none_between : {S : Type 0} (new : Standing S) → Flows flow.GoesOn new.trace.state → new.trace.state.found ≡ None
    → waiting new.pending.gathered ≡ [] → lines_in new.trace.state ≡ held_lines new.pending.held
    → line_bytes new.pending.buffer ≡ take line_room new.trace.state.part → (new.trace.state.rules.mode ≡ Run → new.pending.held ≡ None)
    → IsBetween new.trace.state new.pending
none_between new flows found none lines kept free = record {
  goes_on = flows;
  noted = found;
  in_hand =
      record {
        lines = lines ∙ ap (λ (commands : List Command). map of_command commands ++ held_lines new.pending.held) (sym none);
        kept = kept;
      };
  few = omega (arith, ap length none);
  while_open = λ closed. none;
  there = λ some. absurd (some none);
  free = free;
}

pub emptied_between : {S : Type 0} (mid new : Standing S) (rest : Lines) → Emptied mid new → Flows flow.GoesOn new.trace.state
    → Answers mid.trace new.trace rest → rest ≡ held_lines mid.pending.held → mid.trace.state.found ≡ None
    → line_bytes mid.pending.buffer ≡ take line_room mid.trace.state.part → (mid.trace.state.rules.mode ≡ Run → mid.pending.held ≡ None)
    → IsBetween new.trace.state new.pending
emptied_between mid new rest emptied flows answers is found kept free =
    none_between new flows (answers.stays.found ∙ found) emptied.none (answers.lines ∙ is ∙ ap held_lines (sym emptied.held))
    (ap line_bytes emptied.buffer ∙ kept ∙ ap (take line_room) (sym answers.stays.part))
    (λ run. emptied.held ∙ free (sym (ap (λ r. r.mode) answers.stays.lasts.rules) ∙ run))

-- in a session where no line is held, none asks for metadata
pub no_meta : (h : Option Held) → h ≡ None → IsHeldMeta h → ⊥
no_meta None is meta = meta
no_meta (Some h) is meta = let none : ⊥ = cc in none

-- all commands that wait were answered: what was found is taken
module _ {S E : Type 0} (old mid new : Standing S) (r : Result Flow E) (lasts : Lasts old.trace mid.trace)
    (pause : mid.pause ≡ old.pause) (own_end : mid.own_end ≡ old.own_end) (rest : Lines) (is : rest ≡ held_lines mid.pending.held)
    (found : mid.trace.state.found ≡ None) (kept : line_bytes mid.pending.buffer ≡ take line_room mid.trace.state.part)
    (free : mid.trace.state.rules.mode ≡ Run → mid.pending.held ≡ None) (continues : Continues mid.trace new.trace r)
    (emptied : OnOk r (Emptied mid new)) (flows : IfOk r (λ f. Flows f new.trace.state))
    (answers : IfOk r (λ f. f ≡ flow.GoesOn → Answers mid.trace new.trace rest)) where
  pub takes_all : KeepsTurn old.trace.state.own mid.trace.state.own → (IsHeldMeta mid.pending.held → mid.trace.state.own.looked ≡ true)
      → Goes TakesOn old new r
  takes_all keeps looked =
      waiting_goes old mid new TakesOn rest r lasts continues emptied flows answers
      (λ none goes_on answered. record {
        on =
            record {
              between = emptied_between mid new rest none goes_on answered is found kept free;
              looked = λ meta. answered.stays.own.looked (looked (subst IsHeldMeta none.held meta));
              pause = none.pause ∙ pause;
              own_end = none.own_end ∙ own_end;
            };
        own = keeps_both old.trace.state.own mid.trace.state.own new.trace.state.own keeps answered.stays.own;
      })

-- A command that was found waits after the others: whether the line after it is there was asked.
module _ {S : Type 0} (old mid : Standing S) (command : Command) (has : HasFound old (of_command command)) (has_next : Bool)
    (same : mid.trace ≡ then old.trace (Peeked has_next)) (push : waiting mid.pending.gathered ≡ waiting old.pending.gathered ++ command ∷ [])
    (held : mid.pending.held ≡ old.pending.held) (buffer : mid.pending.buffer ≡ old.pending.buffer) (pause : mid.pause ≡ old.pause)
    (own_end : mid.own_end ≡ old.own_end) (is_open : old.trace.state.executor.is_open ≡ true) where
  abbrev peeked : SessionState S
  peeked = after old.trace.state (Peeked has_next)

  peeked_is : mid.trace.state ≡ peeked
  peeked_is = ap (λ (t : Trace S). t.state) same

  pub queued_lasts : Lasts old.trace mid.trace
  queued_lasts = lasts_then old.trace mid.trace (Peeked has_next) same

  queued_free : mid.pending.held ≡ None
  queued_free = held ∙ has.free

  pub queued_begins : BeginsWith (lines_in mid.trace.state) (waiting mid.pending.gathered) []
  queued_begins =
      ap (λ (s : SessionState S). lines_in s) peeked_is ∙ has.lines
      ∙ sym (ap (λ (commands : List Command). map of_command commands ++ []) push
      ∙ append-nil (map of_command (waiting old.pending.gathered ++ command ∷ []))
      ∙ map-append of_command (waiting old.pending.gathered) (command ∷ []))

  queued_kept : line_bytes mid.pending.buffer ≡ take line_room mid.trace.state.part
  queued_kept =
      ap line_bytes buffer ∙ has.empty ∙ sym (take_all line_room [] (omega arith))
      ∙ ap (take line_room) (sym (ap (λ (s : SessionState S). s.part) peeked_is ∙ has.part))

  queued_keeps : KeepsTurn old.trace.state.own mid.trace.state.own
  queued_keeps = keeps_same old.trace.state.own mid.trace.state.own (ap (λ (s : SessionState S). s.own) peeked_is)

  -- the commands are answered
  pub command_answered : {E : Type 0} (new : Standing S) (r : Result Flow E) → Continues mid.trace new.trace r → OnOk r (Emptied mid new)
      → IfOk r (λ f. Flows f new.trace.state) → IfOk r (λ f. f ≡ flow.GoesOn → Answers mid.trace new.trace [])
      → Goes TakesOn old new r
  command_answered new r continues emptied flows answers =
      takes_all old mid new r queued_lasts pause own_end [] (sym (none_held mid.pending.held queued_free))
      (ap (λ (s : SessionState S). s.found) peeked_is ∙ has.noted) queued_kept (λ run. queued_free) continues emptied flows answers queued_keeps
      (λ meta. absurd (no_meta mid.pending.held queued_free meta))
