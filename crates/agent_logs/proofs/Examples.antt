-- The last reason in the tail of a log, computed on examples.
use Rattle.std.proofs.Common.{◌≡◌, [], refl}
use Rattle.std.specs.Prelude.{codes}
use Rattle.agent_logs.specs.Reasons.{reason_in, shown_byte}

-- a graphic character stays, every other byte is written as its number
letter : shown_byte 97 ≡ codes "a"
letter = refl

escape : shown_byte 27 ≡ codes "\\x1b"
escape = refl

backslash : shown_byte 92 ≡ codes "\\x5c"
backslash = refl

not_ascii : shown_byte 195 ≡ codes "\\xc3"
not_ascii = refl

-- a reason ends at the newline
one_line : reason_in (codes "no such file\nocf-exit-reason:another\n") ≡ codes "no such file"
one_line = refl

-- or at the end of the tail, if its newline is not yet there
cut_off : reason_in (codes "no such fi") ≡ codes "no such fi"
cut_off = refl

none : reason_in (codes "\n") ≡ []
none = refl
