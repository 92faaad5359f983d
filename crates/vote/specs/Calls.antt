-- A board's life: any list of calls, the oldest first.
use Rattle.std.specs.Prelude.{ℕ, List, [], ◌∷◌, Option, None, Some}
use Rattle.delivery.specs.Limits.{Limits, limits}
use Rattle.vote.specs.Boards.{fresh_board, propose, deliver_to, suspect, trust}
use Rattle.vote.specs.Turns.{turn}
use Rattle.vote.specs.Announcements.{announce}
use Rattle.vote.specs.declared.board.Board.{Board}
use Rattle.vote.specs.declared.statement.Statement.{Statement}

-- what can be asked of a board: document 01's kinds 1 to 6, in their order, from the side of the board that they are for.
-- An announcement has a round and a value.
pub data Call : Type 0 where
  proposal : ℕ → Call
  own_turn : Call
  delivery : Statement → Call
  announcement : ℕ → ℕ → Call
  suspicion : ℕ → Call
  restored-trust : ℕ → Call

-- board `me` of n after one call, and after a list of them
unfoldable pub called : Limits → ℕ → ℕ → Board → Call → Board
called L n me b (proposal v) = propose b v
called L n me b own_turn = (turn L n me b).board
called L n me b (delivery s) = deliver_to L b s
called L n me b (announcement r v) = announce L n b r v
called L n me b (suspicion k) = suspect b k
called L n me b (restored-trust k) = trust b k

unfoldable pub after : Limits → ℕ → ℕ → Board → List Call → Board
after L n me b [] = b
after L n me b (c ∷ cs) = after L n me (called L n me b c) cs

-- and from the start on
abbrev pub board_after : ℕ → ℕ → List Call → Board
board_after n me cs = after limits n me (fresh_board limits) cs

-- what it signs, in the order in which it does
unfoldable pub signed_in : Limits → ℕ → ℕ → Board → Call → Option Statement
signed_in L n me b (proposal v) = None
signed_in L n me b own_turn = (turn L n me b).signed
signed_in L n me b (delivery s) = None
signed_in L n me b (announcement r v) = None
signed_in L n me b (suspicion k) = None
signed_in L n me b (restored-trust k) = None

unfoldable pub put : Option Statement → List Statement → List Statement
put None ss = ss
put (Some s) ss = s ∷ ss

unfoldable pub statements : Limits → ℕ → ℕ → Board → List Call → List Statement
statements L n me b [] = []
statements L n me b (c ∷ cs) = put (signed_in L n me b c) (statements L n me (called L n me b c) cs)
