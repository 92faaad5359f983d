-- What private calls alone promise by; whoever believes the open calls need not read it.
use Rattle.std.specs.Prelude.{ℕ, ◌+◌, ◌*◌}
use Rattle.delivery.specs.Limits.{Limits}

-- how many words stand at the front of a row, and how many a status, a position, a board, a table and a row have
abbrev pub front_size : ℕ
front_size = 3

abbrev pub status_size : ℕ
status_size = 3

abbrev pub position_size : ℕ
position_size = 4

abbrev pub board_size : ℕ
board_size = status_size + position_size + 1

abbrev pub table_size : Limits → ℕ
table_size L = L.boards * L.identifiers

abbrev pub row_size : Limits → ℕ
row_size L = front_size + L.boards * board_size + table_size L + L.boards * table_size L + table_size L
