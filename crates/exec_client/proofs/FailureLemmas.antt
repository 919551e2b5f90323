-- Messages of several lines tell of a failure if one of their lines does.
use Rattle.std.proofs.Common.{◌≡◌, ◌||◌, Bool, List, [], ◌∷◌, map, refl, ap, sym}
use Rattle.std.specs.List.{list_any}
use Rattle.ocf_model.specs.Answer.{Reply}
use Rattle.ocf_types.specs.Expected.{is_failure}
use Rattle.ocf_types.specs.declared.notice.Notice.{Notice}
use Rattle.child_model.specs.declared.answer.Entry.{Entry}
use Rattle.exec_client.specs.SentItem.{Reported, answered, noticed_by}
use Rattle.exec_client.specs.Failures.{is_refused, tell_failure, tells_failure}

list_any-map : {X Y : Type 0} (p : X → Bool) (h : Y → X) (ys : List Y) → list_any p (map h ys) ≡ list_any (λ y. p (h y)) ys
list_any-map p h [] = refl
list_any-map p h (y ∷ ys) = ap (λ b. p (h y) || b) (list_any-map p h ys)

pub tell_replies : (replies : List Reply) → list_any is_refused replies ≡ tell_failure (map answered replies)
tell_replies replies = sym (list_any-map tells_failure answered replies)

pub tell_turn : (book : List Entry) (notices : List Notice) → list_any is_failure notices ≡ tell_failure (map (noticed_by book) notices)
tell_turn book notices = sym (list_any-map tells_failure (noticed_by book) notices)

pub tell_report : (notices : List Notice) → list_any is_failure notices ≡ tell_failure (map Reported notices)
tell_report notices = sym (list_any-map tells_failure Reported notices)
