-- Document 01, "Events": what a bench holds. It has n boards, the set of those that are sound, for each a signer, and the
-- copies that are owed.
use Rattle.std.specs.Prelude.{ℕ, Bool, Option, ◌==◌, not}
use Rattle.signer.specs.FromOne.{nth}
use Rattle.signer.specs.Log.{entry_at}
use Rattle.signer.specs.Signer.{fresh_signer}
use Rattle.signer.specs.declared.signer.Signer.{Signer}
use Rattle.delivery.specs.Limits.{Limits}
use Rattle.delivery.specs.Sets.{in_set, set_of}
use Rattle.delivery.specs.Delivered.{Store, heard}
use Rattle.vote.specs.Boards.{fresh_board}
use Rattle.vote.specs.Rule.{rule}
use Rattle.vote.specs.Turns.{said_in}
use Rattle.vote.specs.declared.statement.Statement.{Statement}
use Rattle.vote.specs.declared.rule.Move.{Move}
use Rattle.vote.specs.declared.board.Board.{Board}
use Rattle.bench.specs.declared.bench.Bench.{Bench}

abbrev pub is_sound : Bench → ℕ → Bool
is_sound c k = in_set c.sound k

-- board k and its signer; where there is no board k, fresh ones
unfoldable pub board_at : Limits → Bench → ℕ → Board
board_at L c k = nth c.boards k (fresh_board L)

unfoldable pub signer_at : Limits → Bench → ℕ → Signer
signer_at L c k = nth c.signers k (fresh_signer L.identifiers)

-- what the rule of a turn has board k do where it is voting, and what it then says
abbrev pub move_at : Limits → Bench → ℕ → Move
move_at L c k = rule L c.n k (board_at L c k).position (heard L (board_at L c k).delivered)

abbrev pub said_at : Limits → Bench → ℕ → Option Statement
said_at L c k = said_in L k (board_at L c k).position.round.0 (move_at L c k)

-- the store of what board k has delivered, and that of all that was signed
abbrev pub heard_by : Limits → Bench → ℕ → Store
heard_by L c k = heard L (board_at L c k).delivered

unfoldable pub signed_by : Limits → Bench → Store
signed_by L c s i = entry_at (signer_at L c s).log i

-- whether board k has delivered what s said under i, and the boards that have
unfoldable pub holds : Limits → Bench → ℕ → ℕ → ℕ → Bool
holds L c s i k = not (heard_by L c k s i == 0)

unfoldable pub holders : Limits → Bench → ℕ → ℕ → ℕ
holders L c s i = set_of L.boards (holds L c s i)
