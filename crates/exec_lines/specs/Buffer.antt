-- The view of a line buffer.
use Rattle.std.specs.Prelude.{ℕ, List}
use Rattle.exec_lines.specs.declared.buffer.LineBuffer.{LineBuffer}

-- the bytes in a line buffer: the line that was read last
abbrev pub line_bytes : {A : Type 0} → LineBuffer A → List ℕ
line_bytes b = b.bytes.items
