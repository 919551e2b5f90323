-- Replies to lines: when a session may note them, and what is answered once they are sent.
use Rattle.std.proofs.Common.{◌≡◌, ◌≢◌, ◌↔◌, ◌==◌, ℕ, suc, ◌≤◌, Bool, true, false, List, [], ◌∷◌, ◌++◌, drop, length, map, Option, Some, None, Result, Ok, Err, OnOk, refl, sym, ap, subst, ◌∙◌, arith, eqb-true}
use Rattle.std.specs.Prelude.{is_ok, replicate}
use Rattle.std.specs.Global.{Vec}
use Rattle.std.proofs.lemmas.List.{drop-map, drop_at, length-map}
use Rattle.ocf_types.specs.Kinds.{Command, Request}
use Rattle.ocf_model.specs.Answer.{Reply}
use Rattle.ocf_types.specs.declared.outcome.MetaFault.{MetaFault}
use Rattle.ocf_model.specs.declared.refusal.Refusal.{Refusal}
use Rattle.ocf_model.specs.declared.refusal.Refusal.TheVariants.{Disk}
use Rattle.ocf_model.specs.declared.reply.ReplyOf.TheVariants as reply
use Rattle.store_model.specs.StoreView.{StoreView}
use Rattle.executor.specs.CommandBatches.{TakesCommands}
use Rattle.executor.specs.Commands.{Serves}
use Rattle.executor.specs.ExecutorView.{ExecutorView}
use Rattle.exec_replies.specs.declared.ends.DrainEnd.{DrainEnd}
use Rattle.exec_commands.specs.declared.line.Line.{Line}
use Rattle.exec_commands.specs.declared.line.Line.TheVariants as line
use Rattle.exec_replies.specs.declared.reply.LineReply.{LineReply}
use Rattle.exec_replies.specs.declared.reply.LineReply.TheVariants as answer
use Rattle.exec_client.specs.ClientView.{ClientView}
use Rattle.exec_client.specs.MessageView.{Replies, Reply as ReplyTo}
use Rattle.session_machine.specs.After.{sent_at, settled_at, woken_by}
use Rattle.session_machine.specs.Behaviours.{Trace, then}
use Rattle.session_machine.specs.Events.{GaveMetadata, Sent, Shown, Together}
use Rattle.session_machine.specs.Limits.{most_together}
use Rattle.session_machine.specs.May.{IsDue, IsNextReply, MayServe, MayServeTogether}
use Rattle.session_machine.specs.Replies.{IsClosedReply, IsOpenReply, IsStatusReply, WhileOpen}
use Rattle.session_machine.specs.Room.{MakesRoom}
use Rattle.session_machine.specs.Session.{At, Lines, ReadLine, SessionState, Reading, lines_in, of_command}
use Rattle.session_machine.proofs.AfterLemmas.{then_longer}
use Rattle.exec_session.specs.Held.{IsHeldMeta, held_lines}
use Rattle.exec_session.specs.Standing.{BeginsWith, HasAnswered, Sends, Stays, StaysLonger}
use Rattle.exec_session.specs.Steps.{IsDrained}
use Rattle.exec_session.specs.declared.held.Held.{Held}
use Rattle.exec_session.specs.declared.held.Held.TheVariants as held
use Rattle.exec_session.proofs.DrainLemmas.{stays_both}

-- a held line that asks for metadata is one line
pub held_one : (h : Option Held) → IsHeldMeta h → (found : Result Line Refusal) × (held_lines h ≡ found ∷ [])
held_one (Some (held.Metadata provider agent limit)) is = (Ok (line.Meta provider agent limit), refl)
held_one (Some held.Leave) is = absurd is
held_one None is = absurd is

no_items : {A : Type 0} (xs : List A) → (length xs == 0) ≡ true → xs ≡ []
no_items [] none = refl
no_items (x ∷ xs) none = let e : suc (length xs) ≡ 0 = eqb-true _ 0 none in absurd (omega arith)

-- no command waits: so no line is unanswered, if all are commands that wait
pub none_waits : (commands waits : List Command) (lines : Lines) → (length commands == 0) ≡ true → commands ≡ waits → BeginsWith lines waits []
    → lines ≡ []
none_waits commands waits lines none same are =
    are ∙ ap (λ (cs : List Command). map of_command cs ++ []) (sym same ∙ no_items commands none)

reply_at : (given : LineReply) → given ≢ answer.Left → sent_at Reading (ReplyTo given) ≡ Reading
reply_at answer.Left stays = absurd (stays refl)
reply_at given stays = refl

none_left : (lines : List ReadLine) (found : Result Line Refusal) → map (λ (l : ReadLine). l.line) lines ≡ found ∷ []
    → map (λ (l : ReadLine). l.line) (drop 1 lines) ≡ []
none_left lines found is = sym (drop-map (λ (l : ReadLine). l.line) 1 lines) ∙ ap (drop 1) is

some_left : (lines : List ReadLine) (commands : List Command) (rest : Lines) (n : ℕ) → n ≡ length commands
    → map (λ (l : ReadLine). l.line) lines ≡ map of_command commands ++ rest → map (λ (l : ReadLine). l.line) (drop n lines) ≡ rest
some_left lines commands rest n same are =
    sym (drop-map (λ (l : ReadLine). l.line) n lines) ∙ ap (drop n) are
    ∙ drop_at (map of_command commands) rest n (length-map commands of_command ∙ sym same)

module _ {S : Type 0} where
  -- the reply to the only line, after a clock reading
  pub may_serve : (view : S → StoreView) (t s u : Trace S) (now : ℕ) (request : Request) (y middle x : ExecutorView S) (given : Reply)
      → s ≡ t → u ≡ then s (Shown now) → t.state.at ≡ Reading → t.state.executor.is_open ≡ true
      → lines_in t.state ≡ Ok (line.Request request) ∷ [] → y ≡ s.state.executor → MakesRoom view u.state.rules now y middle
      → (middle.is_open ≡ true → Serves view now request middle x given)
      → (middle.is_open ≡ false → (given ≡ reply.Refused Disk) × (x ≡ middle)) → (x.is_open ≡ false ↔ (given ≡ reply.Refused Disk))
      → MayServe view u.state given x
  may_serve view t s u now request y middle x given same shown at is_open is of room serves fails closes =
      let now_shown = shown ∙ ap (λ (v : Trace S). then v (Shown now)) same in
      let from = of ∙ ap (λ (v : Trace S). v.state.executor) same in
      subst (λ (v : Trace S). MayServe view v.state given x) (sym now_shown) (record {
        at = at;
        is_open = is_open;
        now = now;
        shown = refl;
        request = request;
        is = is;
        serves = record {
          middle = middle;
          room =
              subst (λ (z : ExecutorView S). MakesRoom view t.state.rules now z middle) from
              (subst (λ (v : Trace S). MakesRoom view v.state.rules now y middle) now_shown room);
          serves = serves;
          fails = fails;
          closes = closes;
        };
      })

  -- the replies to the commands that wait, after a clock reading
  pub may_serve_together : (view : S → StoreView) (t s u : Trace S) (now : ℕ) (commands waits : List Command) (rest : Lines)
      (y middle x : ExecutorView S) (replies given : List Reply) → s ≡ t → u ≡ then s (Shown now) → t.state.at ≡ Reading
      → t.state.executor.is_open ≡ true → commands ≡ waits → waits ≢ [] → length commands ≤ most_together
      → lines_in t.state ≡ map of_command waits ++ rest
      → y ≡ s.state.executor → MakesRoom view u.state.rules now y middle
      → (middle.is_open ≡ true → TakesCommands view now commands middle x replies)
      → (middle.is_open ≡ false → (replies ≡ replicate (length commands) (reply.Refused Disk)) × (x ≡ middle)) → given ≡ replies
      → MayServeTogether view u.state given x
  may_serve_together view t s u now [] waits rest y middle x replies given same shown at is_open asked some few are of room takes fails sent =
      absurd (some (sym asked))
  may_serve_together view t s u now (first ∷ others) waits rest y middle x replies given same shown at is_open asked some few are of room takes fails sent =
      let now_shown = shown ∙ ap (λ (v : Trace S). then v (Shown now)) same in
      let from = of ∙ ap (λ (v : Trace S). v.state.executor) same in
      subst (λ (v : Trace S). MayServeTogether view v.state given x) (sym now_shown)
      (subst (λ (rs : List Reply). MayServeTogether view (then t (Shown now)).state rs x) (sym sent) (record {
        at = at;
        is_open = is_open;
        now = now;
        shown = refl;
        first = first;
        others = others;
        rest = rest;
        are = are ∙ ap (λ (cs : List Command). map of_command cs ++ rest) (sym asked);
        few = few;
        serves = record {
          middle = middle;
          room =
              subst (λ (z : ExecutorView S). MakesRoom view t.state.rules now z middle) from
              (subst (λ (v : Trace S). MakesRoom view v.state.rules now y middle) now_shown room);
          takes = takes;
          fails = fails;
        };
      }))

  -- a reply that is due now
  pub plain_due : (t : Trace S) (given : LineReply) → t.state.at ≡ Reading → IsNextReply t.state given → IsDue t.state t.state.at (ReplyTo given)
  plain_due t given at is = subst (λ (a : At). IsDue t.state a (ReplyTo given)) (sym at) (given, refl, is)

  -- the status of all resources
  pub status_next : (s : SessionState S) (x : ExecutorView S) (given : LineReply) → x ≡ s.executor → s.executor.is_open ≡ true
      → lines_in s ≡ Ok line.Status ∷ [] → IsStatusReply x given → IsNextReply s given
  status_next s x given same is_open is status = (
    Ok line.Status,
    is,
    subst (λ (b : Bool). WhileOpen b (IsOpenReply s.rules.mode s.executor (Ok line.Status) given) (IsClosedReply (Ok line.Status) given)) (sym is_open)
        (subst (λ (y : ExecutorView S). IsStatusReply y given) same status),
  )

  -- the only line was answered by a reply that needs no call
  pub plain_answered : {T E : Type 0} (t u : Trace S) (given : LineReply) (r : Result T E) → t.state.at ≡ Reading → given ≢ answer.Left
      → IsNextReply t.state given → OnOk r (Sends t u (ReplyTo given)) → OnOk r (HasAnswered t u [])
  plain_answered t u given (Err why) at stays is sends = tt
  plain_answered t u given (Ok done) at stays (found, is, plain) (client, e) =
      let w = record t.state {
        client = client;
        lines = drop 1 t.state.lines;
        shown = None;
        own = woken_by (ReplyTo given) t.state.own;
      } in
      subst (λ (v : Trace S). HasAnswered t v []) (sym e) (record {
        answers = record {
          stays = record {
            lasts = record { rules = refl; first = refl; grows = omega (arith, then_longer t (Sent (ReplyTo given) true client)) };
            part = refl;
            found = refl;
            ended = refl;
            own = record { now = refl; since = refl; end = refl; reads = refl; polls = refl; looked = λ e. e; woken = λ e. refl };
          };
          at = ap (settled_at w) (ap (λ (a : At). sent_at a (ReplyTo given)) at ∙ reply_at given stays);
          lines = none_left t.state.lines found is;
        };
        woken = refl;
      })

  -- the only line, which asked for metadata, was answered after its source was asked
  pub held_answered : (t s m u : Trace S) (provider agent : List ℕ) (limit : Option ℕ) (given : Result (Vec ℕ) MetaFault) (found : Result Line Refusal)
      → s ≡ t → m ≡ then s (GaveMetadata provider agent limit (Some given)) → lines_in t.state ≡ found ∷ [] → Sends m u (ReplyTo (answer.Meta given))
      → HasAnswered t u [] × (u.state.own.looked ≡ true)
  held_answered t s m u provider agent limit given found same gave is (client, e) =
      let asks = GaveMetadata provider agent limit (Some given) in
      let sent = Sent (ReplyTo (answer.Meta given)) true client in
      let led = e ∙ ap (λ (v : Trace S). then v sent) (gave ∙ ap (λ (v : Trace S). then v asks) same) in
      subst (λ (v : Trace S). HasAnswered t v [] × (v.state.own.looked ≡ true)) (sym led) (
        record {
          answers = record {
            stays = record {
              lasts = record { rules = refl; first = refl; grows = omega (arith, then_longer t asks, then_longer (then t asks) sent) };
              part = refl;
              found = refl;
              ended = refl;
              own = record { now = refl; since = refl; end = refl; reads = refl; polls = refl; looked = λ e. refl; woken = λ e. refl };
            };
            at = refl;
            lines = none_left t.state.lines found is;
          };
          woken = refl;
        },
        refl,
      )

  -- the commands that wait were answered together
  pub together_answered : {T E : Type 0} (t s a b u : Trace S) (now : ℕ) (x : ExecutorView S) (given : List Reply) (commands : List Command)
      (rest : Lines) (r : Result T E) (P : ClientView S → Type 0) → s ≡ t → a ≡ then s (Shown now) → b ≡ then a (Together given x)
      → (client : ClientView S) × P client × (u ≡ then b (Sent (Replies given) (is_ok r) client)) → length given ≡ length commands
      → lines_in t.state ≡ map of_command commands ++ rest → OnOk r (HasAnswered t u rest)
  together_answered t s a b u now x given commands rest (Err why) P same shown noted sent as_many are = tt
  together_answered t s a b u now x given commands rest (Ok done) P same shown noted (client, receives, e) as_many are =
      let one = Shown now in
      let two = Together given x in
      let three = Sent (Replies given) true client in
      let led = e ∙ ap (λ (v : Trace S). then v three) (noted ∙ ap (λ (v : Trace S). then v two) (shown ∙ ap (λ (v : Trace S). then v one) same)) in
      subst (λ (v : Trace S). HasAnswered t v rest) (sym led) (record {
        answers = record {
          stays = record {
            lasts = record {
              rules = refl;
              first = refl;
              grows = omega (arith, then_longer t one, then_longer (then t one) two, then_longer (then (then t one) two) three);
            };
            part = refl;
            found = refl;
            ended = refl;
            own = record { now = refl; since = refl; end = refl; reads = refl; polls = refl; looked = λ e. e; woken = λ e. refl };
          };
          at = refl;
          lines = some_left t.state.lines commands rest (length given) as_many are;
        };
        woken = refl;
      })

  -- a drain was made from a clock reading on, and the only line, which asked for it, was answered by how it ended
  pub drain_answered : {T E : Type 0} (t s a m u : Trace S) (now : ℕ) (end : DrainEnd) (found : Result Line Refusal) (r : Result T E) → s ≡ t
      → a ≡ then s (Shown now) → StaysLonger a m → IsDrained m.state end → lines_in t.state ≡ found ∷ []
      → OnOk r (Sends m u (ReplyTo (answer.Drain end))) → OnOk r (HasAnswered t u [])
  drain_answered t s a m u now end found (Err why) same shown drains drained is sends = tt
  drain_answered t s a m u now end found (Ok done) same shown drains drained is (client, e) =
      let sent = Sent (ReplyTo (answer.Drain end)) true client in
      let led = shown ∙ ap (λ (v : Trace S). then v (Shown now)) same in
      let begins : Stays t a = subst (λ (v : Trace S). Stays t v) (sym led) (record {
        lasts = record { rules = refl; first = refl; grows = omega (arith, then_longer t (Shown now)) };
        part = refl;
        found = refl;
        ended = refl;
        own = record { now = refl; since = refl; end = refl; reads = refl; polls = refl; looked = λ e. e; woken = λ e. e };
      }) in
      let both = stays_both t a m begins drains.stays in
      let w = record m.state {
        client = client;
        lines = drop 1 m.state.lines;
        shown = None;
        own = woken_by (ReplyTo (answer.Drain end)) m.state.own;
      } in
      subst (λ (v : Trace S). HasAnswered t v []) (sym e) (record {
        answers = record {
          stays = record {
            lasts = record {
              rules = both.lasts.rules;
              first = both.lasts.first;
              grows = omega (arith, both.lasts.grows, then_longer m sent);
            };
            part = both.part;
            found = both.found;
            ended = both.ended;
            own = record {
              now = both.own.now;
              since = both.own.since;
              end = both.own.end;
              reads = both.own.reads;
              polls = both.own.polls;
              looked = both.own.looked;
              woken = λ e. refl;
            };
          };
          at = ap (settled_at w) (ap (λ (at : At). sent_at at (ReplyTo (answer.Drain end))) drained.at);
          lines = none_left m.state.lines found (drains.lines ∙ ap (λ (v : Trace S). lines_in v.state) led ∙ is);
        };
        woken = refl;
      })
