-- Replies of `serve` sessions alone: about the session, about all resources, and the metadata of an agent as a text.
use Rattle.std.specs.Borrow.{Bor}
use Rattle.std.specs.Prelude.{ℕ, true, List, [], ◌∷◌, Option, Some, None, option_map, if◌then◌else◌, codes}
use Rattle.std.specs.Str.{is_utf8}
use Rattle.serde_json.specs.Data.{Data, null, boolean, string, array}
use Rattle.serde_json.specs.View.{items_of}
use Rattle.exec_replies.specs.JournalIds.{id_digits}
use Rattle.exec_replies.specs.Objects.{natural_data, object_from}
use Rattle.exec_replies.specs.declared.service.Counts.{Counts}
use Rattle.exec_replies.specs.declared.service.Service.{Service}

-- the version of the program
abbrev pub version_data : Service → Data
version_data s = object_from ((codes "ok", boolean true) ∷ (codes "version", string s.version.now) ∷ [])

-- the status of all resources, in their order
abbrev pub statuses_data : List Data → Data
statuses_data statuses = object_from ((codes "ok", boolean true) ∷ (codes "status", array (items_of statuses)) ∷ [])

-- a text, or null where there is none
abbrev pub text_or_null : Option (List ℕ) → Data
text_or_null None = null
text_or_null (Some text) = string text

-- a borrowed text, if there is one
abbrev pub lent : Option (Bor (List ℕ)) → Option (List ℕ)
lent text = option_map (λ t. t.now) text

-- the digits of the journal's identity, if it has one
abbrev pub identity_in : Service → Option (List ℕ)
identity_in s = option_map (λ id. id_digits id.now) s.identity

-- the ready line: the session has opened its journal and reads lines. A journal in memory has no directory and no identity.
abbrev pub ready_data : Service → Counts → Data
ready_data s counts = object_from (
    (codes "dropped", natural_data counts.dropped) ∷ (codes "identity", text_or_null (identity_in s))
    ∷ (codes "interrupted", natural_data counts.interrupted) ∷ (codes "journal", text_or_null (lent s.journal))
    ∷ (codes "next_call", natural_data counts.next_call) ∷ (codes "ready", boolean true)
    ∷ (codes "resources", natural_data counts.resources) ∷ (codes "version", string s.version.now) ∷ [])

-- metadata that are a text, and metadata that are not
abbrev pub text_data : List ℕ → Data
text_data metadata = object_from ((codes "metadata", string metadata) ∷ (codes "ok", boolean true) ∷ [])

abbrev pub no_text_data : Data
no_text_data = object_from ((codes "end", string (codes "no-text")) ∷ [])

-- the metadata of an agent as a JSON text: RFC 8259, section 8.1, allows UTF-8 alone
abbrev pub metadata_data : List ℕ → Data
metadata_data metadata = if is_utf8 metadata then text_data metadata else no_text_data
