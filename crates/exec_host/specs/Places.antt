-- The order of requests. Each comes after all that were made, so it is made once at most.
use Rattle.std.specs.Prelude.{ℕ}

-- where agents write, and the files of the journal
abbrev pub at_log : ℕ
at_log = 1

abbrev pub at_files : ℕ
at_files = 2

-- standard input, the agents, the watched paths, and then the time of the opening
abbrev pub at_reader : ℕ
at_reader = 3

abbrev pub at_agents : ℕ
at_agents = 4

abbrev pub at_watch : ℕ
at_watch = 5

abbrev pub at_moment : ℕ
at_moment = 6

-- after the opening: the clock of the session, its source of metadata, the identity of its journal, and standard output
abbrev pub at_ticker : ℕ
at_ticker = 7

abbrev pub at_source : ℕ
at_source = 8

abbrev pub at_identity : ℕ
at_identity = 9

abbrev pub at_writer : ℕ
at_writer = 10

-- after the session: its reader, its clock and its source are left; whether the paths still lead to the journal, the line that says that they do not, and
-- the close of the files
abbrev pub at_leave : ℕ
at_leave = 11

abbrev pub at_check : ℕ
at_check = 12

abbrev pub at_line : ℕ
at_line = 13

abbrev pub at_close : ℕ
at_close = 14

-- a view of a journal, one action by itself, and a text
abbrev pub at_view : ℕ
at_view = 15

abbrev pub at_once : ℕ
at_once = 16

abbrev pub at_print : ℕ
at_print = 17
