-- Document 01, "Events": what an accepted event does, and an event as a whole.
use Rattle.std.specs.Prelude.{ℕ, if◌then◌else◌, Option, None, Some, ◌==◌}
use Rattle.signer.specs.FromOne.{set_nth}
use Rattle.signer.specs.Signer.{sign}
use Rattle.delivery.specs.Limits.{Limits}
use Rattle.delivery.specs.Owed.{after_signing, after_delivery}
use Rattle.delivery.specs.declared.owed.Owed.{Owed}
use Rattle.vote.specs.Boards.{propose, deliver_to, suspect, trust}
use Rattle.vote.specs.Turns.{turn}
use Rattle.vote.specs.Announcements.{announce}
use Rattle.vote.specs.declared.board.Board.{Board}
use Rattle.vote.specs.declared.statement.Statement.{Statement}
use Rattle.bench.specs.Events.{proposing, turning, delivering, announcing, suspecting, trusting}
use Rattle.bench.specs.Benches.{board_at, signer_at, holders}
use Rattle.bench.specs.Answers.{is_accepted}
use Rattle.bench.specs.Table.{check_of}
use Rattle.bench.specs.declared.bench.Bench.{Bench}
use Rattle.bench.specs.declared.event.Event.{Event}
use Rattle.bench.specs.declared.effect.Outcome.{Outcome}

-- the bench with another board k, with board k's signer asked for a signature, and with other copies owed
unfoldable pub with_board_at : Bench → ℕ → Board → Bench
with_board_at c k b = record c { boards = set_nth c.boards k b }

unfoldable pub with_signature : Limits → Bench → ℕ → ℕ → ℕ → Bench
with_signature L c k i v =
    record c { signers = set_nth c.signers k (sign L.identifiers (signer_at L c k) i v).signer }

unfoldable pub with_owed : Bench → Owed → Bench
with_owed c o = record c { owed = o }

-- sound board k says something in its turn: its signer signs that, and copies become owed
unfoldable pub after_saying : Limits → Bench → ℕ → Option Statement → Bench
after_saying L c k None = c
after_saying L c k (Some s) =
    with_owed
    (with_signature L c k s.id.0 s.value)
    (after_signing L c.owed k s.id.0 c.sound (holders L c k s.id.0))

-- it takes its turn
unfoldable pub after_turn : Limits → Bench → ℕ → Bench
after_turn L c k =
    let t = turn L c.n k (board_at L c k) in
    with_board_at (after_saying L c k t.signed) k t.board

-- it delivers a statement, and echoes it
unfoldable pub after_hearing : Limits → Bench → ℕ → Statement → Bench
after_hearing L c k s =
    with_board_at
    (with_owed c (after_delivery L c.owed k s.speaker s.id.0 c.sound (holders L c s.speaker s.id.0)))
    k
    (deliver_to L (board_at L c k) s)

-- the statement that a delivery brings
abbrev pub brought : Event → Statement
brought e = record { speaker = e.b; id = record { 0 = e.id }; value = e.value }

-- what an accepted event does, by its kind; the last is the signature of a faulty board
unfoldable pub effect_of : Limits → Bench → Event → Bench
effect_of L c e =
    let board = board_at L c e.a in
    if e.kind == proposing then with_board_at c e.a (propose board e.value)
    else if e.kind == turning then after_turn L c e.a
    else if e.kind == delivering then after_hearing L c e.a (brought e)
    else if e.kind == announcing then with_board_at c e.a (announce L c.n board e.id e.value)
    else if e.kind == suspecting then with_board_at c e.a (suspect board e.b)
    else if e.kind == trusting then with_board_at c e.a (trust board e.b)
    else with_signature L c e.a e.id e.value

-- One event: the answer that the table gives, and the bench afterwards. A refused event leaves it as it was.
unfoldable pub step_of : Limits → Bench → Event → Outcome
step_of L c e =
    record {
      bench = if is_accepted (check_of L c e) then effect_of L c e else c;
      answer = check_of L c e;
    }
